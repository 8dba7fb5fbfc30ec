-- What is printed of a rack: the walk's own statement, and room for every label that it lists. Assumes nothing.
use mathlib.Core.Path.{◌≡◌, ap, ap₂, ◌∙◌}
use mathlib.Core.Logic.{⊎_elim}
use mathlib.Core.List.{List, []}
use Prim.Native.Nat.{ℕ, ◌+◌, ◌*◌, ◌^◌, ◌≤◌, ◌<◌}
use native.Mathlib.Omega.{arith}
use borrow.Author.Tests.{le-leb}
use lib.ListN.{length, replicate}
use lib.Seq.{sets}
use Rattle.frame.proofs.Bools.{same_or_not}
use Rattle.request.specs.declared.label.Family.{Family}
use Rattle.inventory.specs.declared.walk.Walked.{Walked}
use Rattle.inventory.specs.Walk.{refusal_of, walk_of}
use Rattle.inventory.specs.Promise.{Promise}
use Rattle.inventory.proofs.Promise.{accepted, walk_carried, walk_refused}
use Rattle.inventory.proofs.WalkUids.{uids_few}
use Rattle.print.specs.Line.{Lent, laid}
use Rattle.print.specs.Puts.{within, Puts}
use Rattle.print.proofs.Lines.{laid_whole}
use Rattle.print.proofs.Puts.{puts_length}
use Rattle.walk.specs.WalkText.{walk_text, printed}
use Rattle.walk.proofs.WalkTextPuts.{walk_short}

pub few_labels : {family : Family} {r r₁ list list₁ : List ℕ} (w : Walked) → w ≡ (walk_of r family list).report
    → (w.number ≡ 0 → Promise family r r₁ list list₁ w)
    → 8 * w.labels ≤ length list
few_labels {family} {r} {r₁} {list} {list₁} w e f =
    ⊎_elim
    (λ (z : refusal_of r (length list) ≡ 0).
    let p = f (ap (λ (x : Walked). x.number) (e ∙ ap (λ x. x.report) (walk_carried r family list z))) in
    let a = accepted r (length list) z in
    let k = uids_few family r in
    omega arith)
    (λ z. let n : w.labels ≡ 0 = ap (λ (x : Walked). x.labels) (e ∙ ap (λ x. x.report) (walk_refused r family list z)) in omega arith)
    (same_or_not (refusal_of r (length list)) 0)

-- the text of the walk's report and list is what is printed of the rack, and there is room for all of it
pub printed_laid : (family : Family) (rack : List ℕ) (line : Lent) {w : Walked} {list : List ℕ} {line₁ : Lent}
    → w ≡ (walk_of rack family (replicate 512 0)).report → list ≡ (walk_of rack family (replicate 512 0)).list → line₁ ≡ laid line (walk_text w list)
    → line₁ ≡ laid line (printed family rack)
unfolding printed
printed_laid family rack line e f p = p ∙ ap (laid line) (ap₂ walk_text e f)

pub printed_all : (family : Family) (rack : List ℕ) (line : Lent) {w : Walked} {list : List ℕ} {line₁ : Lent}
    → w ≡ (walk_of rack family (replicate 512 0)).report → list ≡ (walk_of rack family (replicate 512 0)).list → w.number < 256 → w.rounds < 2 ^ 64
    → 8 * w.labels ≤ 512 → length list ≡ 512 → line.text ≡ [] → 1117 ≤ length line.behind → line₁ ≡ laid line (walk_text w list)
    → line₁.text ≡ printed family rack
unfolding printed
printed_all family rack line {w} {list} e f a b l m v o p =
    let s = walk_short w list a b (omega arith) in
    ap (λ (x : Lent). x.text) p ∙ laid_whole line (walk_text w list) v (omega arith) ∙ ap₂ walk_text e f

-- and laid into a buffer with room for as many bytes, it stands at the front, and the place behind it is its length
pub printed_part : (family : Family) (rack out : List ℕ) {w : Walked} {list : List ℕ} {n : ℕ} {fin : List ℕ} → w ≡ (walk_of rack family (replicate 512 0)).report
    → list ≡ (walk_of rack family (replicate 512 0)).list → w.number < 256 → w.rounds < 2 ^ 64 → 8 * w.labels ≤ 512 → length list ≡ 512 → 1117 ≤ length out
    → Puts (walk_text w list) 0 out fin n
    → (n ≡ length (printed family rack)) × ((fin ≡ sets out 0 (printed family rack)) × (n ≤ length fin))
unfolding printed within
printed_part family rack out {w} {list} {n} {fin} e f a b l m o p =
    let t : walk_text w list ≡ walk_text (walk_of rack family (replicate 512 0)).report (walk_of rack family (replicate 512 0)).list = ap₂ walk_text e f in
    let s = walk_short w list a b (omega arith) in
    let z : n ≡ length (walk_text w list) = p.behind ∙ rw (le-leb (0 + length (walk_text w list)) (length out) (omega arith)) (omega arith) in
    let y = puts_length p in
    (z ∙ ap length t, (p.laid ∙ ap (sets out 0) t, omega arith))
