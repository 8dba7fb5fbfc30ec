-- Reads behind the bytes of a buffer, as `fill` goes over them: none of those behind the first n is a newline yet. Assumes nothing.
use mathlib.Core.Path.{◌≡◌, refl, ap, sym, ◌∙◌}
use mathlib.Core.Bool.{Bool}
use mathlib.Core.List.{List, ◌++◌}
use Prim.Native.Nat.{ℕ, ◌+◌, ◌-◌, ◌≤◌, ◌<◌}
use native.Mathlib.Nat.{add-zero}
use native.Mathlib.Omega.{arith}
use borrow.Rule.Slice.PartMut.{mid_of, put_mid, same_len_mid, mid_len, take_put}
use lib.ListN.{length, take, drop, length-drop, take-append-drop}
use lib.Seq.{length-take-le, take-take, drop-append-le, drop-length}
use Rattle.text.proofs.WordsLead.{lead_append}
use Rattle.text.specs.Words.{lead}
use Rattle.text.specs.Lines.{ended_at, no_line, in_line, newline_in, line_at, stopped_at, Passed, Over, Behind, Brought, Whole, Last, TooLong}
use Rattle.text.specs.declared.lines.Source.{Source}
use Rattle.text.specs.declared.lines.Source.TheVariants.{Holding}
use Rattle.text.specs.declared.lines.Reached.TheVariants.{Long}
use Rattle.text.specs.declared.lines.Got.{Got}

-- no newline up to `end`: the first up to `to` is the first from there on
newline_behind : (s : List ℕ) (n end to : ℕ) → n ≤ end → end ≤ to → to ≤ length s → newline_in s n end ≡ end → newline_in s n to ≡ newline_in s end to
unfolding newline_in
newline_behind s n end to h g k e =
    let front = drop n (take end s) in
    let back = drop end (take to s) in
    let l : length (take end s) ≡ end = length-take-le end s (omega arith) in
    let m : length front ≡ end - n = length-drop n (take end s) ∙ ap (λ (j : ℕ). j - n) l in
    let w : drop n (take to s) ≡ front ++ back =
    ap (drop n) (sym (take-append-drop end (take to s)) ∙ ap (λ (t : List ℕ). t ++ back) (take-take end to s g))
    ∙ drop-append-le n (take end s) back (omega arith) in
    let q = lead_append in_line front back (omega arith) in
    ap (λ (t : List ℕ). n + lead in_line t) w ∙ omega arith

-- it is told by the bytes up to `end`
newline_same : (s t : List ℕ) (n end : ℕ) → take end s ≡ take end t → newline_in s n end ≡ newline_in t n end
unfolding newline_in
newline_same s t n end e = ap (λ (u : List ℕ). n + lead in_line (drop n u)) e

newline_empty : (s : List ℕ) (n : ℕ) → n ≤ length s → newline_in s n n ≡ n
unfolding newline_in
newline_empty s n h =
    let l : length (take n s) ≡ n = length-take-le n s h in
    ap (λ (u : List ℕ). n + lead in_line u) (ap (λ (k : ℕ). drop k (take n s)) (sym l) ∙ drop-length (take n s)) ∙ add-zero n

-- ---- `end` bytes are in the buffer

pub record Reading (n : ℕ) (old buf : List ℕ) (end : ℕ) : Type 0 where
  pub long : length buf ≡ length old
  pub order : n ≤ end
  pub within : end ≤ length buf
  pub kept : take n buf ≡ take n old
  pub none : newline_in buf n end ≡ end

pub reading_first : (n : ℕ) (old : List ℕ) → n ≤ length old → Reading n old old n
reading_first n old h = record { long = refl; order = omega arith; within = h; kept = refl; none = newline_empty old n h }

-- a read brings bytes behind them
pub reading_read : {n end : ℕ} {old buf : List ℕ} (k : ℕ) (ys : List ℕ) → Reading n old buf end → length ys ≡ length (mid_of end k buf)
    → Reading n old (put_mid end k buf ys) end
reading_read {n} {end} {old} {buf} k ys r h =
    let t : take end (put_mid end k buf ys) ≡ take end buf = take_put end k buf ys r.within in
    let l : length (put_mid end k buf ys) ≡ length buf = same_len_mid end k buf ys h in
    let o = r.order in
    record {
      long = l ∙ r.long;
      order = o;
      within = let w = r.within in omega arith;
      kept = sym (take-take n end (put_mid end k buf ys) o) ∙ ap (take n) t ∙ take-take n end buf o ∙ r.kept;
      none = newline_same (put_mid end k buf ys) buf n end t ∙ r.none;
    }

-- so many of them as there is room for
pub read_within : (buf ys : List ℕ) (end : ℕ) {k : ℕ} → end ≤ length buf → length ys ≡ length (mid_of end (length buf - end) buf) → k ≤ length ys
    → end + k ≤ length (put_mid end (length buf - end) buf ys)
read_within buf ys end h e g =
    let l = same_len_mid end (length buf - end) buf ys e in
    let m : length (mid_of end (length buf - end) buf) ≡ length buf - end = mid_len end (length buf) buf (omega arith) in
    omega arith

module _ {n end : ℕ} {old buf : List ℕ} (r : Reading n old buf end) {to : ℕ} (w : to ≤ length buf) (o : end ≤ to) where
  behind : newline_in buf end to ≡ newline_in buf n to
  behind = sym (newline_behind buf n end to r.order o w r.none)

  -- no newline came
  pub reading_on : newline_in buf end to ≡ to → Reading n old buf to
  reading_on e = let b = behind in let q = r.order in record { long = r.long; order = omega arith; within = w; kept = r.kept; none = omega arith }

  -- one came
  pub brought_line : {at : ℕ} {g : Got} → (newline_in buf end to ≡ at) × (at < to) → g ≡ line_at buf 0 at (Holding (at + 1) to) → Brought n old buf g
  brought_line e k =
      let b = sym e.0 ∙ behind in
      let l = e.1 in
      Whole to w r.kept (omega arith) (k ∙ ap (λ (i : ℕ). line_at buf 0 i (Holding (i + 1) to)) b)

-- no more comes
pub brought_last : {n end : ℕ} {old buf : List ℕ} {g : Got} (fine : Bool) → Reading n old buf end → g ≡ stopped_at end fine → Brought n old buf g
brought_last {end = end} fine r e = Last end fine r.within r.kept r.none e

-- ---- the rest of a line that was too long, as `pass` goes over it

-- the input ended in it, as the source x says
pub pass_ended : {new : List ℕ} {x : Source} {g : Got} → g ≡ no_line Long x → x ≡ ended_at → Passed new g
pass_ended f e = Over (f ∙ ap (no_line Long) e)

-- a newline ended it
pub pass_behind : {new : List ℕ} {g : Got} {at n : ℕ} → n ≤ length new → (newline_in new 0 n ≡ at) × (at < n)
    → g ≡ no_line Long (Holding (at + 1) n) → Passed new g
pass_behind {n = n} h e f =
    let l = e.1 in
    let q = sym e.0 in
    Behind n h (omega arith) (f ∙ ap (λ (i : ℕ). no_line Long (Holding (i + 1) n)) q)

pub brought_long : {n : ℕ} {old new : List ℕ} {g : Got} → Passed new g → Brought n old new g
brought_long p = TooLong p
