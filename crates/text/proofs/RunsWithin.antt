-- A run's numbers keep their bounds: k bytes are within the room, and a place is within the text, which ends at `end`. Assumes nothing.
use mathlib.Core.Path.{◌≡◌, ap, sym, subst, ◌∙◌}
use mathlib.Core.Bool.{Bool, false, ◌&&◌}
use mathlib.Core.List.{List, [], ◌∷◌}
use Prim.Native.Nat.{ℕ, suc, ◌+◌, ◌*◌, ◌≤◌, ◌<◌}
use native.Mathlib.Omega.{arith}
use borrow.Author.Tests.{ltb-false, leb-false}
use lib.Dec.{eqb, ltb, leb}
use lib.ListN.{length, get_or}
use lib.Seq.{sets, length-sets}
use Rattle.frame.proofs.Bools.{if_either, if_both}
use Rattle.text.specs.Hex.{value_of}
use Rattle.text.specs.Words.{is_blank}
use Rattle.text.specs.Runs.{is_gap, opening, Piece, second_digit, unread, first_digit, piece_of, HexRead, stop, onward, read_hex, hex_of}
use Rattle.std.specs.Prelude.{Option, None, Some, Result, Ok, Err}
use Rattle.text.specs.declared.hex.HexError.{HexError}
use Rattle.text.specs.declared.hex.HexError.TheVariants.{Bad, Odd, Full}

abbrev pub Within : Result ℕ HexError → ℕ → ℕ → ℕ → Type 0
Within (Ok m) k room end = (m ≡ k) × (k ≤ room)
Within (Err (Bad i)) k room end = i < end
Within (Err (Odd i)) k room end = i < end
Within (Err Full) k room end = Unit

module _ (room end : ℕ) where
  -- ---- one place, where n bytes came before it

  abbrev Piecewise : ℕ → Piece → Type 0
  Piecewise n (Ok (Some b)) = n < room
  Piecewise n (Ok None) = n ≤ room
  Piecewise n (Err e) = (k : ℕ) → Within (Err e) k room end

  module _ (n at : ℕ) (blank : Bool) (t : List ℕ) (e : at + length t ≡ end) (l : 1 ≤ length t) (h : n ≤ room) where
    unread_within : (c : ℕ) → Piecewise n (unread at blank c)
    unfolding unread
    unread_within c = if_both (Piecewise n) (eqb c 35 && blank) h (λ k. omega arith)

    second_within : (d : ℕ) → 2 ≤ length t → (v : Option ℕ) → Piecewise n (second_digit room n at d v)
    second_within d g None = λ k. omega arith
    second_within d g (Some x) = if_either (Piecewise n) (leb room n) (Err Full) (Ok (Some (d * 16 + x))) (λ q k. tt) (λ q. leb-false room n q)

    first_within : (v : Option ℕ) → Piecewise n (first_digit room n at blank t v)
    first_within None = unread_within (get_or t 0 0)
    first_within (Some d) =
        if_either (Piecewise n) (ltb (length t) 2) _ _ (λ q k. omega arith)
        (λ q. if_both (Piecewise n) (is_gap (get_or t 1 0)) (λ k. omega arith) (second_within d (ltb-false (length t) 2 q) (value_of (get_or t 1 0))))

    piece_within : Piecewise n (piece_of room n at blank t)
    unfolding piece_of
    piece_within = first_within (value_of (get_or t 0 0))

  -- ---- all of it, where k bytes are read in all

  abbrev Holds : ℕ → ℕ → HexRead → Type 0
  Holds k n x = n + length x.bytes ≡ k → Within x.run k room end

  onward_within : (p : Piece) (rest : HexRead) (n k : ℕ) → Piecewise n p → (n < room → Holds k (suc n) rest) → Holds k n (onward n p rest)
  onward_within (Ok (Some b)) rest n k h f e = f h (omega arith)
  onward_within (Ok None) rest n k h f e = (omega arith, omega arith)
  onward_within (Err r) rest n k h f e = h k

  read_within : (n at : ℕ) (blank : Bool) (t : List ℕ) (k : ℕ) → n ≤ room → at + length t ≡ end → Holds k n (read_hex room n at blank t)
  read_within n at blank [] k h e = λ f. (omega arith, omega arith)
  read_within n at blank (c ∷ []) k h e =
      let p = piece_of room n at blank (c ∷ []) in
      if_both (Holds k n) (is_gap c) (λ q. (omega arith, omega arith))
      (onward_within p (stop (Ok (suc n))) n k (piece_within n at blank (c ∷ []) e (omega arith) h) (λ g q. (omega arith, omega arith)))
  read_within n at blank (c ∷ d ∷ t) k h e =
      let p = piece_of room n at blank (c ∷ d ∷ t) in
      let more = read_hex room (suc n) (at + 2) false t in
      if_both (Holds k n) (is_gap c) (read_within n (suc at) (is_blank c) (d ∷ t) k h (omega arith))
      (if_both (Holds k n) (opening (c ∷ d ∷ t)) (read_within n (at + 2) false t k h (omega arith))
      (onward_within p more n k (piece_within n at blank (c ∷ d ∷ t) e (omega arith) h) (λ g. read_within (suc n) (at + 2) false t k g (omega arith))))

-- ---- for callers: of a whole text, by how its run ended

hex_within : (room : ℕ) (s : List ℕ) → Within (hex_of room s).run (length (hex_of room s).bytes) room (length s)
unfolding hex_of
hex_within room s = read_within room (length s) 0 0 false s _ (omega arith) (omega arith) (omega arith)

pub run_within : (room : ℕ) (s : List ℕ) (r x : Result ℕ HexError) → r ≡ (hex_of room s).run → r ≡ x → Within x (length (hex_of room s).bytes) room (length s)
run_within room s r x e q =
    subst (λ (y : Result ℕ HexError). Within y (length (hex_of room s).bytes) room (length s)) (sym e ∙ q) (hex_within room s)

-- the bytes of a run are within the buffer that it was read to
pub hex_inside : (out out₁ s : List ℕ) (r : Result ℕ HexError) (n : ℕ) → r ≡ (hex_of (length out) s).run → out₁ ≡ sets out 0 (hex_of (length out) s).bytes → r ≡ Ok n
    → n ≤ length out₁
hex_inside out out₁ s r n e f q =
    let l = ap length f ∙ length-sets out 0 (hex_of (length out) s).bytes in
    let h = run_within (length out) s r (Ok n) e q in
    omega arith
