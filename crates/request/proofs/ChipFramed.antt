-- What is framed for a chip is what a chip reads: a frame of one byte, of two, of six, by its length, code and bytes.
-- Assumes nothing.
use mathlib.Core.Path.{◌≡◌, ap}
use mathlib.Core.Bool.{true}
use mathlib.Core.List.{List, [], ◌∷◌}
use Prim.Native.Nat.{ℕ}
use native.Mathlib.Omega.{arith}
use lib.ListN.{length}
use lib.Seq.{take_at}
use Rattle.frame.specs.Number.{num, bytes_of}
use Rattle.frame.specs.CheckSum.{crc_of, framed_with, framed}
use Rattle.frame.proofs.CheckSumFrames.{length_framed, right_all}
use Rattle.request.specs.Chip.{short, pair, long, decode}

pub short_back : (x : ℕ) → decode (framed (x ∷ [])) ≡ short x
unfolding decode framed_with
short_back x = rw (right_all (x ∷ []))

pub pair_back : (x y : ℕ) → decode (framed (x ∷ y ∷ [])) ≡ pair x y
unfolding decode framed_with
pair_back x y = rw (right_all (x ∷ y ∷ []))

pub long_back : (x y : ℕ) (d : List ℕ) → length d ≡ 4 → decode (framed (x ∷ y ∷ d)) ≡ long x y (num d)
unfolding decode framed_with
long_back x y d h =
    let l : length (framed (x ∷ y ∷ d)) ≡ 8 = omega (arith, length_framed 0xFFFF true (x ∷ y ∷ d)) in
    rw (right_all (x ∷ y ∷ d), l) (ap (λ (s : List ℕ). long x y (num s)) (take_at d (bytes_of 2 (crc_of (x ∷ y ∷ d))) 4 h))
