-- A text laid into a buffer, as far as there is room. Assumes nothing.
use mathlib.Core.Path.{◌≡◌, refl, ap, sym, ◌∙◌}
use mathlib.Core.Logic.{⊎_elim}
use mathlib.Core.List.{List, [], ◌∷◌, ◌++◌}
use Prim.Native.Nat.{ℕ, suc, ◌+◌, ◌-◌, ◌≤◌, ◌<◌, min}
use native.Mathlib.Omega.{arith}
use borrow.Author.Tests.{le-leb, lt-leb}
use lib.ListN.{length, take, drop, take-append-drop, length-append}
use lib.Seq.{sets, set_out, length-sets, length-take-le, take_all}
use Rattle.frame.specs.Choose.{gather}
use Rattle.frame.proofs.Bools.{below_or_not}
use Rattle.frame.proofs.Lists.{gather_none}
use Rattle.frame.proofs.Puts.{sets_append}
use Rattle.print.specs.Puts.{within, Puts}

-- ---- places

within_here : (end n : ℕ) → n ≤ end → within end n ≡ n
unfolding within
within_here end n h = rw (le-leb n end h) refl

within_past : (end n : ℕ) → end ≤ n → within end n ≡ end
unfolding within
within_past end n h =
    ⊎_elim (λ l. rw (lt-leb n end l) refl) (λ l. let e : n ≡ end = omega arith in within_here end n l ∙ e) (below_or_not end n)

within_end : (end n : ℕ) → within end n ≤ end
within_end end n = ⊎_elim (λ l. rw (within_past end n (omega arith)) (omega arith)) (λ l. rw (within_here end n l) l) (below_or_not end n)

within_add : (end a b : ℕ) → within end (within end a + b) ≡ within end (a + b)
within_add end a b =
    ⊎_elim
    (λ l. rw (within_past end a (omega arith), within_past end (end + b) (omega arith), within_past end (a + b) (omega arith)) refl)
    (λ l. rw (within_here end a l) refl)
    (below_or_not end a)

-- ---- stores past the end change nothing

sets_past : (xs old : List ℕ) (at : ℕ) → length old ≤ at → sets old at xs ≡ old
sets_past [] old at h = refl
sets_past (x ∷ xs) old at h = ap (λ (l : List ℕ). sets l (suc at) xs) (set_out old at x h) ∙ sets_past xs old (suc at) (omega arith)

sets_within : (xs old : List ℕ) (at : ℕ) → sets old (within (length old) at) xs ≡ sets old at xs
sets_within xs old at =
    ⊎_elim
    (λ l.
    ap (λ (n : ℕ). sets old n xs) (within_past (length old) at (omega arith))
    ∙ sets_past xs old (length old) (omega arith)
    ∙ sym (sets_past xs old at (omega arith)))
    (λ l. ap (λ (n : ℕ). sets old n xs) (within_here (length old) at l))
    (below_or_not (length old) at)

-- as many as there is room for are all
sets_room : (s old : List ℕ) (at k : ℕ) → at + k ≡ length old → k ≤ length s → sets old at (take k s) ≡ sets old at s
sets_room s old at k e h =
    let front = sets old at (take k s) in
    let l : length (take k s) ≡ k = length-take-le k s h in
    let m : length front ≡ length old = length-sets old at (take k s) in
    sym
    (ap (sets old at) (sym (take-append-drop k s))
    ∙ sets_append (take k s) (drop k s) old at
    ∙ sets_past (drop k s) front (at + length (take k s)) (omega arith))

-- ---- the two ways out of `put_text`

module _ (s old : List ℕ) (at : ℕ) where
  pub puts_past : length old ≤ at → Puts s at old old (length old)
  puts_past h = record { laid = sym (sets_past s old at h); behind = sym (within_past (length old) (at + length s) (omega arith)) }

  pub puts_some : {new : List ℕ} {r : ℕ} (k : ℕ) → at ≤ length old → k ≡ min (length s) (length old - at)
      → (r ≡ at + k) × (new ≡ sets old at (take k s)) → Puts s at old new r
  puts_some k h e f =
      ⊎_elim
      (λ l.
      let c : at + k ≡ length old = omega arith in
      record {
        laid = f.1 ∙ sets_room s old at k c (omega arith);
        behind = f.0 ∙ c ∙ sym (within_past (length old) (at + length s) (omega arith));
      })
      (λ l.
      let c : k ≡ length s = omega arith in
      record {
        laid = f.1 ∙ ap (sets old at) (take_all k s (omega arith));
        behind = f.0 ∙ ap (λ (n : ℕ). at + n) c ∙ sym (within_here (length old) (at + length s) (omega arith));
      })
      (below_or_not (length old - at) (length s))

-- ---- what a put leaves

module _ {s : List ℕ} {at : ℕ} {old new : List ℕ} {r : ℕ} (p : Puts s at old new r) where
  pub puts_length : length new ≡ length old
  puts_length = ap length p.laid ∙ length-sets old at s

  -- and where the place behind it is not the end, there was room
  pub puts_fits : r < length old → at + length s < length old
  puts_fits h =
      ⊎_elim
      (λ l. l)
      (λ l. let e = p.behind ∙ within_past (length old) (at + length s) l in absurd (omega arith))
      (below_or_not (at + length s) (length old))

  pub puts_then : {t : List ℕ} {fin : List ℕ} {q : ℕ} → Puts t r new fin q → Puts (s ++ t) at old fin q
  puts_then {t} {fin} {q} g =
      let m = puts_length in
      record {
        laid =
            g.laid
            ∙ ap (λ (n : ℕ). sets new n t) (p.behind ∙ ap (λ (n : ℕ). within n (at + length s)) (sym m))
            ∙ sets_within t new (at + length s)
            ∙ ap (λ (l : List ℕ). sets l (at + length s) t) p.laid
            ∙ sym (sets_append s t old at);
        behind =
            let e : at + length s + length t ≡ at + length (s ++ t) = rw length-append (omega arith) in
            g.behind
            ∙ ap (λ (n : ℕ). within n (r + length t)) m
            ∙ ap (λ (n : ℕ). within (length old) (n + length t)) p.behind
            ∙ within_add (length old) (at + length s) (length t)
            ∙ ap (within (length old)) e;
      }

-- of f 0, f 1, .. the first none laid: what lays nothing lays these
pub gathered_none : (f : ℕ → List ℕ) {at : ℕ} {old new : List ℕ} {r : ℕ} → Puts [] at old new r → Puts (gather 0 f) at old new r
gathered_none f p = rw (gather_none f) p
