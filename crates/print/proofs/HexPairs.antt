-- Bytes in hex, one more, and those of a UID. Assumes nothing.
use mathlib.Core.Path.{◌≡◌, refl, ap, ◌∙◌}
use mathlib.Core.List.{List, [], ◌∷◌, ◌++◌, map, reverse, reverse-append}
use Prim.Native.Nat.{ℕ, ◌+◌, ◌*◌, ◌/◌, ◌%◌, ◌<◌}
use native.Mathlib.Numerals.{add-one}
use native.Mathlib.Omega.{arith}
use denote.Bor.{Bor}
use lib.ListN.{length, get_or, take, length-reverse}
use lib.Seq.{take-suc}
use Rattle.std.proofs.lemmas.List.{map-append}
use Rattle.print.specs.Hex.{digit_of, pairs_text, uid_text}

-- the last of the first k bytes of a UID comes first
pub uid_is_part : (u : List ℕ) (k i : ℕ) → k ≡ i + 1 → i < length u → uid_text (take k u) ≡ pairs_text (get_or u i 0 ∷ []) ++ uid_text (take i u)
unfolding uid_text
uid_is_part u k i e h =
    ap (λ (j : ℕ). pairs_text (reverse (take j u))) (e ∙ add-one i)
    ∙ ap (λ (t : List ℕ). pairs_text (reverse t)) (take-suc u i 0 h)
    ∙ ap pairs_text (reverse-append (take i u) (get_or u i 0 ∷ []))

length_pairs : (bs : List ℕ) → length (pairs_text bs) ≡ 2 * length bs
length_pairs [] = refl
length_pairs (b ∷ bs) = let h = length_pairs bs in omega arith

pub length_uid : (u : List ℕ) → length (uid_text u) ≡ 2 * length u
unfolding uid_text
length_uid u = let h = length_pairs (reverse u) in let l = length-reverse u in omega arith

pairs_append : (s t : List ℕ) → pairs_text (s ++ t) ≡ pairs_text s ++ pairs_text t
pairs_append [] t = refl
pairs_append (b ∷ s) t = ap (λ (x : List ℕ). digit_of (b / 16) ∷ digit_of (b % 16) ∷ x) (pairs_append s t)

-- one byte more
pub pairs_more : (bs : List (Bor ℕ)) (b : Bor ℕ) → pairs_text (map (λ (x : Bor ℕ). x.now) (bs ++ (b ∷ [])))
    ≡ pairs_text (map (λ (x : Bor ℕ). x.now) bs) ++ pairs_text (b.now ∷ [])
pairs_more bs b = rw (map-append (λ (x : Bor ℕ). x.now) bs (b ∷ [])) (pairs_append (map (λ (x : Bor ℕ). x.now) bs) (b.now ∷ []))
