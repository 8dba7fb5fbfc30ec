-- The marked examples (k) and (l): every such walk is counted from the UIDs, by demand 3. Assumes nothing.
use mathlib.Core.Path.{◌≡◌, refl, ap, sym, ◌∙◌}
use mathlib.Core.Bool.{Bool, true, ◌&&◌}
use mathlib.Core.List.{List, [], ◌∷◌, ◌++◌}
use Prim.Native.Nat.{ℕ, zero, suc, ◌+◌, ◌-◌, ◌*◌, ◌%◌, ◌^◌, ◌≤◌}
use native.Mathlib.Omega.{arith}
use borrow.Author.Tests.{eq-eqb, ltb-true}
use lib.Dec.{eqb, ltb, leb}
use lib.ListN.{length, replicate}
use lib.Pow.{mod-mod-pow}
use Rattle.frame.specs.Choose.{gather}
use Rattle.frame.specs.Judge.{fine, first_of, byte_verdict}
use Rattle.frame.specs.Number.{Bytes}
use Rattle.frame.proofs.Bools.{and_both}
use Rattle.label_body.specs.Locks.{lock_room, locks_verdict}
use Rattle.label_body.specs.Body.{load_of, head_rules, slot_rules, over, mask_verdict, label_rules}
use Rattle.label_body.specs.Slots.{takes_part}
use Rattle.label.specs.Step.{passes, ready, heeds}
use Rattle.request.specs.declared.label.Family.{Family}
use Rattle.request.specs.declared.label.Family.TheVariants.{Any}
use Rattle.rack.specs.File.{start_of, kind_of, head_verdict, length_fits, entry_verdict, body_rules, moved, body_verdict, end_verdict, verdict_of}
use Rattle.inventory.specs.Endings.{count, keep_if, keep, different, ending, sum_to, shared}
use Rattle.inventory.specs.Walk.{uid_at, uids_to, uids, walk_of}
use Rattle.inventory.specs.Numbers.{repeated}
use Rattle.inventory.proofs.EndingsSums.{sum_ext}
use Rattle.inventory.proofs.NumbersRepeated.{repeated_none}
use Rattle.inventory.proofs.Promise.{demand_3}
use Rattle.demands.specs.Marked.{Says, Walkable, K, L}

abbrev by_endings : List ℕ → ℕ
by_endings us = 1 + sum_to 15 (λ i. length (shared (4 * suc i) us))

-- two UIDs that end alike share one ending of each length
one_shared : (m u v : ℕ) → ending m u ≡ ending m v → length (shared m (u ∷ v ∷ [])) ≡ 1
one_shared m u v e = rw e (ap (λ (ys : List ℕ). length (keep many ys)) values ∙ ap (λ (n : ℕ). length (keep_if (leb 2 n) x [])) twice)
  where
    x : ℕ
    x = ending m v

    many : ℕ → Bool
    many d = leb 2 (count d (x ∷ x ∷ []))

    same : eqb x x ≡ true
    same = eq-eqb x x refl

    values : different (x ∷ x ∷ []) ≡ x ∷ []
    values = rw same refl

    twice : count x (x ∷ x ∷ []) ≡ 2
    twice = rw same refl

top_four : (u v : ℕ) → ending 60 u ≡ ending 60 v → by_endings (u ∷ v ∷ []) ≡ 16
top_four u v e = ap (λ (n : ℕ). 1 + n) (sum_ext 15 _ (λ i. 1) (λ i h. one_shared (4 * suc i) u v (shorter (4 * suc i) (omega arith))))
  where
    shorter : (m : ℕ) → m ≤ 60 → ending m u ≡ ending m v
    shorter m h =
        let z : (60 - m) + m ≡ 60 = omega arith in
        sym (mod-mod-pow u (60 - m) m) ∙ ap (λ (n : ℕ). u % 2 ^ n % 2 ^ m) z ∙ ap (λ (n : ℕ). n % 2 ^ m) e
        ∙ sym (ap (λ (n : ℕ). v % 2 ^ n % 2 ^ m) z) ∙ mod-mod-pow v (60 - m) m

counted : (r : List ℕ) (family : Family) (list : List ℕ) → Walkable r list → (walk_of r family list).report.rounds ≡ by_endings (uids family r)
counted r family list w = (demand_3 r w.bytes family list w.well_formed w.room w.single).1.counts

pub two_hold : Says K
unfolding Says
two_hold r family list w u v e t = counted r family list w ∙ ap by_endings e ∙ top_four u v t

pub none_hold : Says L
unfolding Says
none_hold r family list w e = counted r family list w ∙ ap by_endings e

-- there are such racks: of two labels, each with one block of one byte, and of no tag
abbrev label : ℕ → List ℕ
label top = 0x11 ∷ 0 ∷ 0 ∷ 0 ∷ 0 ∷ 0 ∷ 0 ∷ top ∷ 0 ∷ 0 ∷ 0 ∷ 0 ∷ 0 ∷ 0 ∷ 1 ∷ 255 ∷ replicate 18 0

abbrev entry : ℕ → List ℕ
entry at = 1 ∷ 0 ∷ 34 ∷ 0 ∷ at ∷ 0 ∷ 0 ∷ 0 ∷ []

abbrev rack_k : List ℕ
rack_k = (1 ∷ 2 ∷ []) ++ entry 18 ++ entry 52 ++ label 0xE0 ++ label 0xD0

uids_k : uids Any rack_k ≡ 0xE000000000000011 ∷ 0xD000000000000011 ∷ []
unfolding uids_to uid_at takes_part heeds ready load_of passes kind_of gather start_of
uids_k = refl

well_k : verdict_of rack_k ≡ fine
unfolding verdict_of head_verdict entry_verdict kind_of length_fits body_verdict body_rules moved end_verdict label_rules head_rules lock_room locks_verdict
    slot_rules mask_verdict over byte_verdict first_of start_of
well_k = refl

alone_k : (v : ℕ) → count v (uids Any rack_k) ≤ 1
unfolding repeated
alone_k = repeated_none (uids Any rack_k) (ap repeated uids_k)

abbrev rack_l : List ℕ
rack_l = 1 ∷ 0 ∷ []

uids_l : uids Any rack_l ≡ []
unfolding uids_to gather
uids_l = refl

well_l : verdict_of rack_l ≡ fine
unfolding verdict_of head_verdict end_verdict first_of start_of
well_l = refl

abbrev small : List ℕ → Bool
small [] = true
small (b ∷ s) = ltb b 256 && small s

bytes_of : (s : List ℕ) → small s ≡ true → Bytes s
bytes_of [] e i = omega arith
bytes_of (b ∷ s) e zero = ltb-true b 256 (and_both (ltb b 256) (small s) e).0
bytes_of (b ∷ s) e (suc i) = bytes_of s (and_both (ltb b 256) (small s) e).1 i

pub such_k : Walkable rack_k (replicate 16 0) × (uids Any rack_k ≡ 0xE000000000000011 ∷ 0xD000000000000011 ∷ [])
such_k = (record { bytes = bytes_of rack_k refl; well_formed = well_k; room = omega arith; single = alone_k }, uids_k)

pub such_l : Walkable rack_l [] × (uids Any rack_l ≡ [])
such_l = (record { bytes = bytes_of rack_l refl; well_formed = well_l; room = omega arith; single = λ v. rw uids_l (omega arith) }, uids_l)
