-- A number's bytes, put at the front of an array and taken from it again. Assumes nothing.
use mathlib.Core.Path.{◌≡◌, ap, ◌∙◌}
use mathlib.Core.List.{List}
use Prim.Native.Nat.{ℕ, ◌+◌, ◌≤◌}
use native.Mathlib.Omega.{arith}
use lib.ListN.{length, take}
use lib.Seq.{sets}
use Rattle.frame.specs.Number.{bytes_of}
use Rattle.frame.proofs.Numbers.{length_bytes}
use Rattle.frame.proofs.Stores.{part_on}

pub number_front : {r : ℕ} {now : List ℕ} (k v : ℕ) (old : List ℕ) → k ≤ length old → (r ≡ 0 + k) × (now ≡ sets old 0 (bytes_of k v))
    → take r now ≡ bytes_of k v
number_front {r} {now} k v old h f =
    let l = length_bytes k v in
    let e : r ≡ length (bytes_of k v) = omega arith in
    ap (λ (n : ℕ). take n now) e ∙ ap (take (length (bytes_of k v))) f.1 ∙ part_on old (bytes_of k v) 0 (omega arith)
