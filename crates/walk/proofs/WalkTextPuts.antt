-- What the program prints, part by part, and how long it is. Assumes nothing.
use Rattle.std.specs.Prelude.{if◌then◌else◌}
use mathlib.Core.Path.{◌≡◌, refl, ap, sym, ◌∙◌}
use mathlib.Core.Bool.{Bool, true, false}
use mathlib.Core.List.{List, [], ◌∷◌, ◌++◌, append_assoc}
use Prim.Native.Nat.{ℕ, zero, suc, ◌+◌, ◌-◌, ◌*◌, ◌^◌, ◌≤◌, ◌<◌}
use native.Mathlib.Numerals.{add-one}
use native.Mathlib.Omega.{arith}
use lib.Dec.{eqb}
use lib.ListN.{length, drop, take, length-append, length-drop}
use lib.Seq.{drop-drop, length-take-le}
use Rattle.frame.specs.Number.{part}
use Rattle.print.specs.Ascii.{ascii}
use Rattle.print.specs.Decimal.{number_line}
use Rattle.print.specs.Hex.{uid_text}
use Rattle.print.proofs.DecimalDigits.{decimal_short}
use Rattle.print.proofs.HexPairs.{length_uid}
use Rattle.inventory.specs.declared.walk.Walked.{Walked}
use Rattle.walk.specs.WalkText.{uid_lines, walk_text}

-- one UID more
pub uids_more : (n : ℕ) (list : List ℕ) → uid_lines (n + 1) list ≡ uid_lines n list ++ (uid_text (part (8 * n) 8 list) ++ (10 ∷ []))
uids_more n list = rw add-one (later n list)
  where
    later : (n : ℕ) (list : List ℕ) → uid_lines (suc n) list ≡ uid_lines n list ++ (uid_text (part (8 * n) 8 list) ++ (10 ∷ []))
    later zero list = refl
    later (suc n) list =
        let head = uid_text (take 8 list) in
        let k : 8 + 8 * n ≡ 8 * suc n = omega arith in
        let e : drop (8 * n) (drop 8 list) ≡ drop (8 * suc n) list = drop-drop (8 * n) 8 list ∙ ap (λ (j : ℕ). drop j list) k in
        ap (λ (t : List ℕ). head ++ (10 ∷ t)) (later n (drop 8 list) ∙ ap (λ (t : List ℕ). uid_lines n (drop 8 list) ++ (uid_text (take 8 t) ++ (10 ∷ []))) e)
        ∙ sym (append_assoc head (10 ∷ uid_lines n (drop 8 list)) (uid_text (part (8 * suc n) 8 list) ++ (10 ∷ [])))

-- ---- lengths

length_lines : (n : ℕ) (list : List ℕ) → 8 * n ≤ length list → length (uid_lines n list) ≡ 17 * n
length_lines zero list h = refl
length_lines (suc n) list h =
    let l : length (take 8 list) ≡ 8 = length-take-le 8 list (omega arith) in
    let d : length (drop 8 list) ≡ length list - 8 = length-drop 8 list in
    let i = length_lines n (drop 8 list) (omega arith) in
    let u = length_uid (take 8 list) in
    rw length-append (omega arith)

length_line : (s : List ℕ) (n : ℕ) → n < 2 ^ 64 → length (number_line s n) ≤ length s + 21
unfolding number_line
length_line s n h = let d = decimal_short n h in rw (length-append, length-append) (omega arith)

pub walk_short : (w : Walked) (list : List ℕ) → w.number < 256 → w.rounds < 2 ^ 64 → 8 * w.labels ≤ length list
    → length (walk_text w list) ≤ 29 + 17 * w.labels
unfolding walk_text
walk_short w list a b h = by (eqb w.number 0)
  where
    by : (t : Bool) → length (if t then number_line (ascii "rounds ") w.rounds ++ uid_lines w.labels list else number_line (ascii "refused ") w.number)
        ≤ 29 + 17 * w.labels
    by true =
        let l = length_lines w.labels list h in
        let m = length_line (ascii "rounds ") w.rounds b in
        rw length-append (omega arith)
    by false = let m = length_line (ascii "refused ") w.number (omega arith) in omega arith
