-- What is printed of a rack, in the words of demand 3: `refused` and the lowest number that applies; or `rounds` and their number, counted from the
-- UIDs, and a line for each label in state 1 or 3 that the family lets answer and for no other. Assumes nothing.
use mathlib.Core.Path.{◌≡◌, refl, ap, ap₂, ◌∙◌}
use mathlib.Core.List.{List, [], ◌∷◌, ◌++◌, reverse, append_assoc}
use Prim.Native.Nat.{ℕ, suc, ◌+◌, ◌*◌, ◌/◌}
use native.Mathlib.Omega.{arith}
use borrow.Author.Tests.{ne_eqb}
use lib.ListN.{length, drop, replicate}
use lib.Seq.{sets, take_at, drop_at}
use Rattle.frame.specs.Number.{bytes_of, Bytes}
use Rattle.frame.proofs.Numbers.{bytes_small, length_bytes}
use Rattle.frame.proofs.Puts.{sets_front}
use Rattle.request.specs.declared.label.Family.{Family}
use Rattle.inventory.specs.Endings.{count, sum_to, shared}
use Rattle.inventory.specs.Walk.{trip, zeros, blank, refusal_of, walk_of, uids, Result}
use Rattle.inventory.specs.Promise.{flat}
use Rattle.inventory.proofs.NumbersRepeated.{twins_none}
use Rattle.inventory.proofs.Promise.{accepted, done, own, walk_carried, walk_refused}
use Rattle.inventory.proofs.PromiseFlat.{flat_length}
use Rattle.inventory.proofs.WalkUids.{uids_few}
use Rattle.inventory.proofs.WalkEvents.{Fine}
use Rattle.print.specs.Ascii.{ascii}
use Rattle.print.specs.Decimal.{number_line}
use Rattle.print.specs.Hex.{uid_text}
use Rattle.text.specs.Runs.{hex_of}
use Rattle.std.specs.Prelude.{Ok}
use Rattle.text.proofs.RunsBack.{uid_read}
use Rattle.walk.specs.WalkText.{uid_lines, walk_text, printed}

-- UIDs as numbers, a line each
abbrev pub lines_of : List ℕ → List ℕ
lines_of [] = []
lines_of (u ∷ us) = uid_text (bytes_of 8 u) ++ (10 ∷ lines_of us)

pub record RackTold (family : Family) (rack text : List ℕ) : Type 0 where
  -- the UIDs: each as often as a label has it that is in state 1 or 3 and that the family lets answer, and no other
  pub listed : List ℕ
  pub lists : (v : ℕ) → count v listed ≡ count v (uids family rack)
  pub says : text ≡ number_line (ascii "rounds ") (1 + sum_to 15 (λ i. length (shared (4 * suc i) (uids family rack)))) ++ lines_of listed

lines_flat : (us rest : List ℕ) → uid_lines (length us) (flat us ++ rest) ≡ lines_of us
unfolding flat
lines_flat [] rest = refl
lines_flat (u ∷ us) rest =
    let l = length_bytes 8 u in
    let a : (bytes_of 8 u ++ flat us) ++ rest ≡ bytes_of 8 u ++ (flat us ++ rest) = append_assoc (bytes_of 8 u) (flat us) rest in
    ap (uid_lines (suc (length us))) a
    ∙ ap₂ (λ (x y : List ℕ). uid_text x ++ (10 ∷ uid_lines (length us) y)) (take_at (bytes_of 8 u) (flat us ++ rest) 8 l)
    (drop_at (bytes_of 8 u) (flat us ++ rest) 8 l)
    ∙ ap (λ (t : List ℕ). uid_text (bytes_of 8 u) ++ (10 ∷ t)) (lines_flat us rest)

abbrev no_list : List ℕ
no_list = replicate 512 0

of_result : (family : Family) (rack : List ℕ) {x : Result} → walk_of rack family no_list ≡ x → printed family rack ≡ walk_text x.report x.list
unfolding printed
of_result family rack e = ap (λ (x : Result). walk_text x.report x.list) e

pub printed_refused : (family : Family) (rack : List ℕ) → (refusal_of rack 512 ≡ 0 → ⊥)
    → printed family rack ≡ number_line (ascii "refused ") (refusal_of rack 512)
unfolding walk_text
printed_refused family rack h = of_result family rack (walk_refused rack family no_list h) ∙ rw (ne_eqb (refusal_of rack 512) 0 h) refl

pub printed_told : (family : Family) (rack : List ℕ) → Bytes rack → refusal_of rack 512 ≡ 0 → RackTold family rack (printed family rack)
unfolding walk_text
printed_told family rack small z =
    let a = accepted rack 512 z in
    let fine : Fine rack = record { rack = a.fine; bytes = small } in
    let t = trip (zeros rack) blank rack family in
    let p = done rack fine (own rack) family (twins_none rack fine a.single) in
    let f = flat_length p.listed in
    let k = uids_few family rack in
    let s = p.size in
    let q = ap length p.bytes in
    let n : length t.found / 8 ≡ length p.listed = omega arith in
    let m : sets no_list 0 t.found ≡ flat p.listed ++ drop (length (flat p.listed)) no_list =
    ap (sets no_list 0) p.bytes ∙ sets_front (flat p.listed) no_list (omega arith) in
    record {
      listed = p.listed;
      lists = p.lists;
      says =
          of_result family rack (walk_carried rack family no_list z)
          ∙ ap₂ (λ (c : ℕ) (l : List ℕ). number_line (ascii "rounds ") c ++ l) p.counts
          (ap₂ uid_lines n m ∙ lines_flat p.listed (drop (length (flat p.listed)) no_list));
    }

-- a line's text is read back as the UID, from its high byte on
pub line_read : (u : ℕ) → hex_of 8 (uid_text (bytes_of 8 u)) ≡ record { bytes = reverse (bytes_of 8 u); run = Ok 8 }
line_read u = let l = length_bytes 8 u in uid_read 8 (bytes_of 8 u) (bytes_small 8 u) (omega arith)
