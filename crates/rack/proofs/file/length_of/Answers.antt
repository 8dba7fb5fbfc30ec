-- Two bytes are a number below 256 ^ 2.
-- Assumes nothing.
use mathlib.Core.Path.{◌≡◌, ◌∙◌}
use Prim.Native.Nat.{◌+◌, ◌≤◌}
use native.Mathlib.Omega.{arith}
use lib.ListN.{length}
use Rattle.frame.specs.Number.{part, Bytes}
use Rattle.frame.proofs.Numbers.{num_lt, bytes_part}
use Rattle.frame.proofs.Stores.{length_part}
use Rattle.rack.specs.File.{entry_at, length_at}
use Rattle.rack.proofs.file.length_of.Goals as goal

pub returns : goal.returns
returns c =
    let r = c.args.rack.now in
    let at = entry_at c.args.i + 2 in
    let n : length (part at 2 r) ≤ 2 = omega (arith, length_part at 2 r (omega (arith, c.requires.1))) in
    let bs : Bytes r = λ i. (c.type_inv.rack i).fits in
    let e : c.number_at.result ≡ length_at r c.args.i = c.number_at.ensures ∙ rw c.entry_of.ensures in
    (e, omega (arith, e, num_lt 2 (part at 2 r) (bytes_part at 2 r bs) n))
