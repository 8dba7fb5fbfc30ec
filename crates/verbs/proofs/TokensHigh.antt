-- A word of hex that was read to a buffer: its bytes are at the front. Assumes nothing.
use Rattle.std.proofs.Common.{◌≡◌, ℕ, ◌+◌, ◌≤◌, List, length, take, sym, ap, ◌∙◌, arith, take_all, Some, Result, Ok, Err}
use Rattle.std.specs.Result.{result_ok}
use lib.Seq.{sets}
use Rattle.frame.proofs.Stores.{part_on}
use Rattle.text.specs.Runs.{hex_of}
use Rattle.text.specs.declared.hex.HexError.{HexError}
use Rattle.text.proofs.RunsWithin.{run_within, hex_inside}
use Rattle.verbs.specs.Tokens.{low_first, high_by, high_in}

was_ok : (r : Result ℕ HexError) (n : ℕ) → Some n ≡ result_ok r → r ≡ Ok n
was_ok (Ok m) n e = cc
was_ok (Err e) n f = cc

module _ (s out : List ℕ) {r : Result ℕ HexError} {b : List ℕ}
    (e : r ≡ (hex_of (length out) s).run) (f : b ≡ sets out 0 (hex_of (length out) s).bytes) {n : ℕ} (g : Some n ≡ result_ok r) where
  pub high_inside : n ≤ length b
  high_inside = hex_inside out b s r n e f (was_ok r n g)

  front : take n b ≡ take n (hex_of (length out) s).bytes
  front =
      let x = (hex_of (length out) s).bytes in
      let l = run_within (length out) s r (Ok n) e (was_ok r n g) in
      let z : 0 + length x ≤ length out = omega arith in
      rw (f, l.0) (part_on out x 0 z ∙ sym (take_all (length x) x (omega arith)))

  pub high_read : length out ≡ 8 → {low : List ℕ} → low ≡ low_first (take n b) → Some (record { count = n; low = low }) ≡ high_in s
  unfolding high_in
  high_read k h =
      ap (λ (x : List ℕ). Some (record { count = n; low = x })) (h ∙ ap low_first front)
      ∙ ap (λ (x : Result ℕ HexError). high_by x (hex_of (length out) s).bytes) (sym (was_ok r n g) ∙ e)
      ∙ ap (λ (k : ℕ). high_by (hex_of k s).run (hex_of k s).bytes) k
