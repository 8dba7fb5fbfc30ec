-- Texts laid into a line, one behind the other, are one text laid. Assumes nothing.
use mathlib.Core.Path.{◌≡◌, refl, ap, ap₂, sym, ◌∙◌}
use mathlib.Core.Logic.{⊎_elim}
use mathlib.Core.Bool.{false}
use mathlib.Core.List.{List, [], ◌∷◌, ◌++◌, append_assoc}
use Prim.Native.Nat.{ℕ, zero, suc, min, ◌+◌, ◌-◌, ◌≤◌, ◌<◌}
use native.Mathlib.Nat.{sub-zero}
use native.Mathlib.Numerals.{add-one}
use native.Mathlib.Omega.{arith}
use base.Fml.{GName}
use borrow.Author.Rules.{rules}
use borrow.Author.Tests.{eqb-false}
use lib.ListN.{length, set, take, drop, length-append, length-drop, drop_of_length-le}
use lib.Seq.{sets, sets-eq, set_out, take-set-lt, drop-set-lt, take_all, take_at, drop_at, drop-drop, length-take-le}
use Rattle.frame.proofs.Lists.{gather_none, gather_more}
use Rattle.frame.proofs.Bools.{below_or_not}
use Rattle.print.specs.Puts.{spaces}
use Rattle.print.specs.Line.{Lent, lent, laid, full}

-- ---- what `put` does to its buffer

-- of a text as much as there is room for, or all of it
part_taken : (s : List ℕ) (k m : ℕ) → k ≡ min (length s) m → take k s ≡ take m s
part_taken s k m e =
    ⊎_elim
    (λ l. let z : k ≡ m = omega arith in ap (λ (j : ℕ). take j s) z)
    (λ l. take_all k s (omega arith) ∙ sym (take_all m s l))
    (below_or_not m (length s))

-- what is left behind it
part_left : (s bytes : List ℕ) (at k : ℕ) → at ≤ length bytes → k ≡ min (length s) (length bytes - at)
    → drop (at + k) bytes ≡ drop (length s) (drop at bytes)
part_left s bytes at k h e =
    ⊎_elim
    (λ l.
    drop_of_length-le bytes {i = at + k} (omega arith)
    ∙ sym (drop_of_length-le bytes {i = at + length s} (omega arith))
    ∙ sym (drop-drop (length s) at bytes))
    (λ l. let z : at + k ≡ at + length s = omega arith in ap (λ (j : ℕ). drop j bytes) z ∙ sym (drop-drop (length s) at bytes))
    (below_or_not (length bytes - at) (length s))

pub laid_put : (s bytes : List ℕ) (loan : GName) {new : List ℕ} {at k r : ℕ} {old : Lent} → at ≤ length bytes → lent bytes at loan ≡ old
    → k ≡ min (length s) (length bytes - at) → (r ≡ at + k) × (new ≡ sets bytes at (take k s)) → lent new r loan ≡ laid old s
unfolding laid
laid_put s bytes loan {new} {at} {k} {r} h v m p =
    let t = take k s in
    let c : length t ≡ k = length-take-le k s (omega arith) in
    let l : length (take at bytes) ≡ at = length-take-le at bytes h in
    let a = length-append (take at bytes) t in
    let f : length (take at bytes ++ t) ≡ r = omega arith in
    let b : length (drop at bytes) ≡ length bytes - at = length-drop at bytes in
    let d : at + length t ≡ at + k = omega arith in
    let w : new ≡ take at bytes ++ t ++ drop (at + k) bytes =
    p.1
    ∙ sets-eq t bytes at (omega arith)
    ∙ ap (λ (i : ℕ). take at bytes ++ t ++ drop i bytes) d in
    let front : take r new ≡ take at bytes ++ take (length (drop at bytes)) s =
    ap (take r) w
    ∙ take_at (take at bytes ++ t) (drop (at + k) bytes) r f
    ∙ ap (λ (x : List ℕ). take at bytes ++ x) (rw b (part_taken s k (length bytes - at) m)) in
    let back : drop r new ≡ drop (length s) (drop at bytes) =
    ap (drop r) w ∙ drop_at (take at bytes ++ t) (drop (at + k) bytes) r f ∙ part_left s bytes at k h m in
    ap₂ (λ (x y : List ℕ). record { text = x; behind = y; loan = loan }) front back ∙ ap (λ (o : Lent). laid o s) v

-- ---- what `set` does: a byte of the text, or none

pub set_here : (bytes : List ℕ) (loan : GName) (i b : ℕ) {at : ℕ} {old : Lent} → lent bytes at loan ≡ old → i < at
    → lent (set bytes i b) at loan ≡ record old { text = set old.text i b }
set_here bytes loan i b {at} v h =
    ap₂ (λ (x y : List ℕ). record { text = x; behind = y; loan = loan }) (take-set-lt at bytes i b h) (drop-set-lt at bytes i b h)
    ∙ ap (λ (o : Lent). record o { text = set o.text i b }) v

pub set_past : (bytes : List ℕ) (loan : GName) (i b : ℕ) {at : ℕ} {old : Lent} → at ≤ length bytes → lent bytes at loan ≡ old → at ≤ i
    → old ≡ record old { text = set old.text i b }
set_past bytes loan i b {at} {old} h v l =
    let n : length old.text ≡ at = ap (λ (o : Lent). length o.text) (sym v) ∙ length-take-le at bytes h in
    ap (λ (x : List ℕ). record old { text = x }) (sym (set_out old.text i b (omega arith)))

-- ---- texts one behind the other, and no text

take_both : (k : ℕ) (s t : List ℕ) → take k (s ++ t) ≡ take k s ++ take (k - length s) t
take_both zero [] t = refl
take_both (suc k) [] t = ap (λ (i : ℕ). take i t) (sym (sub-zero (suc k)))
take_both zero (x ∷ s) t = let e : 0 ≡ 0 - suc (length s) = omega arith in ap (λ (i : ℕ). take i t) e
take_both (suc k) (x ∷ s) t =
    let e : k - length s ≡ suc k - suc (length s) = omega arith in
    ap (λ (l : List ℕ). x ∷ l) (take_both k s t ∙ ap (λ (i : ℕ). take k s ++ take i t) e)

pub laid_both : (line : Lent) (s t : List ℕ) → laid (laid line s) t ≡ laid line (s ++ t)
unfolding laid
laid_both line s t =
    let m = length line.behind in
    let front : line.text ++ take m s ++ take (length (drop (length s) line.behind)) t ≡ line.text ++ take m (s ++ t) =
    append_assoc line.text (take m s) (take (length (drop (length s) line.behind)) t)
    ∙ ap (λ (i : ℕ). line.text ++ (take m s ++ take i t)) (length-drop (length s) line.behind)
    ∙ ap (λ (x : List ℕ). line.text ++ x) (sym (take_both m s t)) in
    let back : drop (length t) (drop (length s) line.behind) ≡ drop (length (s ++ t)) line.behind =
    drop-drop (length t) (length s) line.behind ∙ ap (λ (i : ℕ). drop i line.behind) (sym (length-append s t)) in
    ap₂ (λ (x y : List ℕ). record line { text = x; behind = y }) front back

pub laid_none : (line : Lent) → laid line [] ≡ line
unfolding laid
laid_none line = ap (λ (x : List ℕ). record line { text = x }) none
  where
    none : line.text ++ take (length line.behind) [] ≡ line.text
    none = search rules

-- what closes a function that lays texts one behind the other, by tests or with none
pub ruleset lines = (laid_both, laid_none)

-- ---- spaces, one more

pub spaces_more : (n : ℕ) → spaces (n + 1) ≡ spaces n ++ (32 ∷ [])
spaces_more n = rw add-one (later n)
  where
    later : (n : ℕ) → spaces (suc n) ≡ spaces n ++ (32 ∷ [])
    later zero = refl
    later (suc n) = ap (λ (s : List ℕ). 32 ∷ s) (later n)

-- what closes a loop that lays f 0, f 1, .. besides
pub ruleset gathered = (laid_both, laid_none, gather_none, gather_more)

-- ---- what a line holds of which nothing was laid before

pub laid_new : (line : Lent) (s : List ℕ) → line.text ≡ [] → (laid line s).text ≡ take (length line.behind) s
unfolding laid
laid_new line s e = ap (λ (x : List ℕ). x ++ take (length line.behind) s) e

pub laid_whole : (line : Lent) (s : List ℕ) → line.text ≡ [] → length s ≤ length line.behind → (laid line s).text ≡ s
laid_whole line s e h = laid_new line s e ∙ take_all (length line.behind) s h

-- where the line is not full, all of the text is there
pub laid_fits : (line : Lent) (s : List ℕ) → full (laid line s) ≡ false → (laid line s).text ≡ line.text ++ s
unfolding laid
laid_fits line s h =
    let k = length line.behind in
    let d = length-drop (length s) line.behind in
    ap
    (λ (x : List ℕ). line.text ++ x)
    (⊎_elim
    (λ l. let z : length (drop (length s) line.behind) ≡ 0 = omega arith in absurd (eqb-false _ 0 h z))
    (λ l. take_all k s l)
    (below_or_not k (length s)))

-- ---- a text that asks how wide the one before it is: what was laid of it tells, since where it does not, nothing has room any more

pub no_room : (line : Lent) (s t : List ℕ) → length line.behind ≡ 0 → laid line s ≡ laid line t
unfolding laid
no_room line s t e =
    let nothing : (x : List ℕ) → drop (length x) line.behind ≡ line.behind =
    λ x. drop_of_length-le line.behind {i = length x} (omega arith) ∙ sym (drop_of_length-le line.behind {i = 0} (omega arith)) in
    ap₂ (λ (x y : List ℕ). record line { text = line.text ++ x; behind = y }) (ap (λ (i : ℕ). take i s) e ∙ sym (ap (λ (i : ℕ). take i t) e)) (nothing s ∙ sym (nothing t))

pub laid_width : (line : Lent) (s : List ℕ) (f : ℕ → List ℕ) → laid (laid line s) (f (length (laid line s).text - length line.text)) ≡ laid line (s ++ f (length s))
unfolding laid
laid_width line s f =
    let k = length line.behind in
    let l = length-append line.text (take k s) in
    let w = length (line.text ++ take k s) - length line.text in
    ⊎_elim
    (λ h.
    let d = length-drop (length s) line.behind in
    no_room (laid line s) (f w) (f (length s)) (omega arith) ∙ laid_both line s (f (length s)))
    (λ h.
    let c : length (take k s) ≡ length s = ap length (take_all k s h) in
    let e : w ≡ length s = omega arith in
    ap (λ (i : ℕ). laid (laid line s) (f i)) e ∙ laid_both line s (f (length s)))
    (below_or_not k (length s))

-- ---- by search, where a function's texts are too long for the set above

pub laid_then : (line : Lent) (s t : List ℕ) {mid fin : Lent} → mid ≡ laid line s → fin ≡ laid mid t → fin ≡ laid line (s ++ t)
laid_then line s t e f = f ∙ ap (λ (l : Lent). laid l t) e ∙ laid_both line s t

pub ruleset long_lines = (rules, laid_then)
