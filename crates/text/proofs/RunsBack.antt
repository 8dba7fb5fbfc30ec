-- Bytes in hex are read back. Assumes nothing.
use mathlib.Core.Path.{◌≡◌, refl, ap, sym, ◌∙◌}
use mathlib.Core.Bool.{Bool, true, false}
use mathlib.Core.List.{List, [], ◌∷◌, reverse, reverse-cons}
use Prim.Native.Nat.{ℕ, suc, ◌+◌, ◌*◌, ◌/◌, ◌%◌, ◌≤◌, ◌<◌}
use native.Mathlib.Nat.{add-zero, zero-add}
use native.Mathlib.Omega.{arith}
use borrow.Author.Tests.{le-ltb, lt-leb}
use lib.Dec.{ltb}
use lib.ListN.{length, length-reverse}
use Rattle.frame.specs.Number.{Bytes}
use Rattle.frame.proofs.Numbers.{bytes_append}
use Rattle.frame.proofs.Stores.{bytes_cons}
use Rattle.text.proofs.HexDigits.{value_digit, digit_solid, digit_opens_none}
use Rattle.text.proofs.RunsPlaces.{read_gap, read_piece}
use Rattle.print.specs.Hex.{digit_of, hex_text, pairs_text, uid_text}
use Rattle.text.specs.Words.{is_blank}
use Rattle.text.specs.Runs.{is_gap, Piece, second_digit, first_digit, piece_of, stop, onward, read_hex, hex_of}
use Rattle.std.specs.Prelude.{Some, Ok}

-- a byte's two digits, and what stands behind them
module _ (b : ℕ) (h : b < 256) (more : List ℕ) where
  abbrev digits : List ℕ
  digits = digit_of (b / 16) ∷ digit_of (b % 16) ∷ more

  piece_text : (room n at : ℕ) (blank : Bool) → n < room → piece_of room n at blank digits ≡ Ok (Some b)
  unfolding piece_of
  piece_text room n at blank l =
      let x : b / 16 < 16 = omega arith in
      let y : b % 16 < 16 = omega arith in
      let z : b / 16 * 16 + b % 16 ≡ b = omega arith in
      let k : ltb (length digits) 2 ≡ false = le-ltb (suc (suc (length more))) 2 (omega arith) in
      ap (first_digit room n at blank digits) (value_digit (b / 16) x)
      ∙ rw (k, digit_solid (b % 16)) (ap (second_digit room n at (b / 16)) (value_digit (b % 16) y) ∙ rw (lt-leb room n l) (ap (λ (x : ℕ). Ok (Some x)) z))

  -- they are one piece, behind a blank too
  read_pair : (room n at : ℕ) (blank : Bool) → n < room → read_hex room n at blank digits ≡ onward n (Ok (Some b)) (read_hex room (suc n) (at + 2) false more)
  read_pair room n at blank l =
      read_piece room n at blank (digit_of (b / 16)) (digit_solid (b / 16)) (digit_of (b % 16) ∷ more)
      (digit_opens_none (digit_of (b / 16)) (b % 16) more)
      ∙ ap (λ (p : Piece). onward n p (read_hex room (suc n) (at + 2) false more)) (piece_text room n at blank l)

  read_byte : (room n at : ℕ) (blank : Bool) → n < room
      → read_hex room n at blank (32 ∷ digits) ≡ onward n (Ok (Some b)) (read_hex room (suc n) (suc at + 2) false more)
  unfolding is_gap is_blank
  read_byte room n at blank l = read_gap room n at blank 32 digits refl ∙ read_pair room n (suc at) true l

-- all of them, n bytes before them: a space before each, or nothing between them
module _ (room : ℕ) where
  abbrev Back : (List ℕ → List ℕ) → List ℕ → Type 0
  Back text bs = (n at : ℕ) (blank : Bool) → n + length bs ≤ room → read_hex room n at blank (text bs) ≡ record { bytes = bs; run = Ok (n + length bs) }

  none_back : (n : ℕ) → stop (Ok n) ≡ record { bytes = []; run = Ok (n + 0) }
  none_back n = ap (λ (k : ℕ). stop (Ok k)) (sym (add-zero n))

  more_back : (b n at : ℕ) (bs t : List ℕ) → read_hex room (suc n) at false t ≡ record { bytes = bs; run = Ok (suc n + length bs) }
      → onward n (Ok (Some b)) (read_hex room (suc n) at false t) ≡ record { bytes = b ∷ bs; run = Ok (n + suc (length bs)) }
  more_back b n at bs t e =
      let k : suc n + length bs ≡ n + suc (length bs) = omega arith in
      ap (onward n (Ok (Some b))) e ∙ ap (λ (k : ℕ). record { bytes = b ∷ bs; run = Ok k }) k

  read_text : (bs : List ℕ) → Bytes bs → Back hex_text bs
  read_text [] f n at blank h = none_back n
  read_text (b ∷ bs) f n at blank h =
      read_byte b (f 0) (hex_text bs) room n at blank (omega arith)
      ∙ more_back b n (suc at + 2) bs (hex_text bs) (read_text bs (λ i. f (suc i)) (suc n) (suc at + 2) false (omega arith))

  read_pairs : (bs : List ℕ) → Bytes bs → Back pairs_text bs
  read_pairs [] f n at blank h = none_back n
  read_pairs (b ∷ bs) f n at blank h =
      read_pair b (f 0) (pairs_text bs) room n at blank (omega arith)
      ∙ more_back b n (at + 2) bs (pairs_text bs) (read_pairs bs (λ i. f (suc i)) (suc n) (at + 2) false (omega arith))

  back : (text : List ℕ → List ℕ) (bs : List ℕ) → Back text bs → length bs ≤ room → hex_of room (text bs) ≡ record { bytes = bs; run = Ok (length bs) }
  unfolding hex_of
  back text bs f h = f 0 0 false (omega arith) ∙ ap (λ (k : ℕ). record { bytes = bs; run = Ok k }) (zero-add (length bs))

bytes_reverse : (u : List ℕ) → Bytes u → Bytes (reverse u)
bytes_reverse [] f = f
bytes_reverse (b ∷ u) f =
    rw (reverse-cons b u) (bytes_append (reverse u) (b ∷ []) (bytes_reverse u (λ i. f (suc i))) (bytes_cons b [] (f 0) (λ i. omega arith)))

pub text_read : (room : ℕ) (bs : List ℕ) → Bytes bs → length bs ≤ room → hex_of room (hex_text bs) ≡ record { bytes = bs; run = Ok (length bs) }
text_read room bs f h = back room hex_text bs (read_text room bs f) h

pub pairs_read : (room : ℕ) (bs : List ℕ) → Bytes bs → length bs ≤ room → hex_of room (pairs_text bs) ≡ record { bytes = bs; run = Ok (length bs) }
pairs_read room bs f h = back room pairs_text bs (read_pairs room bs f) h

-- a UID's text, read back, is the UID from its high byte on
pub uid_read : (room : ℕ) (u : List ℕ) → Bytes u → length u ≤ room → hex_of room (uid_text u) ≡ record { bytes = reverse u; run = Ok (length u) }
unfolding uid_text
uid_read room u f h =
    let l = length-reverse u in
    pairs_read room (reverse u) (bytes_reverse u f) (omega arith) ∙ ap (λ (k : ℕ). record { bytes = reverse u; run = Ok k }) l
