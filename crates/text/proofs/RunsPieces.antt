-- What stands at one place of a run: the ways out of `piece_at`, and what a byte tells. Assumes nothing.
use Rattle.std.specs.Prelude.{if◌then◌else◌, Option, None, Some, Ok, Err}
use mathlib.Core.Path.{◌≡◌, refl, ap, sym, ◌∙◌}
use mathlib.Core.Bool.{Bool, true, false, ◌&&◌}
use mathlib.Core.List.{List}
use Prim.Native.Nat.{ℕ, ◌+◌, ◌-◌, ◌*◌, ◌≤◌, ◌<◌}
use borrow.Author.Tests.{eq-eqb, ne_eqb, lt-ltb, le-ltb, ltb-false, leb-false}
use lib.Dec.{eqb, ltb, leb}
use lib.ListN.{length, get_or, drop, length-drop}
use lib.Seq.{get_or-drop}
use Rattle.frame.proofs.Bools.{off_and}
use Rattle.frame.proofs.Lists.{drop_head}
use Rattle.text.specs.Hex.{value_of, blank_before}
use Rattle.text.specs.Words.{is_blank}
use Rattle.text.specs.Runs.{is_gap, second_digit, unread, first_digit, piece_of}
use Rattle.text.specs.RunsPlaces.{piece_at}
use Rattle.text.specs.declared.hex.HexError.TheVariants.{Bad, Odd, Full}

-- ---- a place behind another
pub behind : (s : List ℕ) (at n : ℕ) → (at ≡ 0 → ⊥) → (t : Bool) → is_blank (get_or s (at - 1) 0) ≡ t → blank_before s at ≡ t
unfolding blank_before
behind s at n z t e = rw (ne_eqb at 0 z, e) refl

-- ---- the ways out of `piece_at`: v is the value of the byte at the place
module _ (s : List ℕ) (at n room : ℕ) (v : Option ℕ) (e : v ≡ value_of (get_or s at 0)) where
  by : (x : Option ℕ) → v ≡ x → piece_at s at n room ≡ first_digit room n at (blank_before s at) (drop at s) x
  unfolding piece_of
  by x k = ap (first_digit room n at (blank_before s at) (drop at s)) (ap value_of (drop_head at s) ∙ sym e ∙ k)

  none : v ≡ None → piece_at s at n room ≡ unread at (blank_before s at) (get_or s at 0)
  none k = by None k ∙ ap (unread at (blank_before s at)) (drop_head at s)

  pub piece_none : v ≡ None → (c : ℕ) → c ≡ get_or s at 0 → c ≡ 35 → (t : Bool) → t ≡ blank_before s at → t ≡ true → Ok None ≡ piece_at s at n room
  unfolding unread
  piece_none k c q h t f g = sym (none k ∙ rw (eq-eqb (get_or s at 0) 35 (sym q ∙ h), sym f ∙ g) refl)

  pub piece_other : v ≡ None → (c : ℕ) → c ≡ get_or s at 0 → (c ≡ 35 → ⊥) → Err (Bad at) ≡ piece_at s at n room
  unfolding unread
  piece_other k c q h = sym (none k ∙ rw (ne_eqb (get_or s at 0) 35 (λ p. h (q ∙ p))) refl)

  pub piece_tight : v ≡ None → (t : Bool) → t ≡ blank_before s at → t ≡ false → Err (Bad at) ≡ piece_at s at n room
  unfolding unread
  piece_tight k t f g = sym (none k ∙ rw (off_and (eqb (get_or s at 0) 35) (blank_before s at) (λ p. sym f ∙ g)) refl)

  module _ (h : ℕ) (k : v ≡ Some h) where
    pub piece_alone : length s - at < 2 → Err (Odd at) ≡ piece_at s at n room
    piece_alone l = sym (by (Some h) k ∙ rw (lt-ltb (length (drop at s)) 2 (rw (length-drop at s) l)) refl)

    module _ (l : 2 ≤ length s - at) where
      two : ltb (length (drop at s)) 2 ≡ false
      two = le-ltb (length (drop at s)) 2 (rw (length-drop at s) l)

      pub piece_gap : is_gap (get_or s (at + 1) 0) ≡ true → Err (Odd at) ≡ piece_at s at n room
      piece_gap b = sym (by (Some h) k ∙ rw (two, ap is_gap (get_or-drop at s 1 0) ∙ b) refl)

      -- w is the value of the byte behind it, which is no gap
      pub piece_second : is_gap (get_or s (at + 1) 0) ≡ false → (w : Option ℕ) → w ≡ value_of (get_or s (at + 1) 0) → (x : Option ℕ) → w ≡ x
          → piece_at s at n room ≡ second_digit room n at h x
      piece_second b w f x o =
          by (Some h) k
          ∙ rw (two, ap is_gap (get_or-drop at s 1 0) ∙ b) (ap (second_digit room n at h) (ap value_of (get_or-drop at s 1 0) ∙ sym f ∙ o))

-- ---- what a byte tells: both its digits are there, there is room for it, and its second digit is no gap

room_byte : (room n at h : ℕ) (v : Option ℕ) (b : ℕ) → second_digit room n at h v ≡ Ok (Some b) → n < room
room_byte room n at h None b e = cc
room_byte room n at h (Some l) b e = by (leb room n) refl e
  where
    by : (t : Bool) → leb room n ≡ t → (if t then Err Full else Ok (Some (h * 16 + l))) ≡ Ok (Some b) → n < room
    by true q e = cc
    by false q e = leb-false room n q

pub record Whole (room n : ℕ) (t : List ℕ) : Type 0 where
  pub there : 2 ≤ length t
  pub fits : n < room
  pub tight : is_gap (get_or t 1 0) ≡ false

pub byte_whole : (room n at : ℕ) (blank : Bool) (t : List ℕ) (b : ℕ) → piece_of room n at blank t ≡ Ok (Some b) → Whole room n t
unfolding piece_of unread
byte_whole room n at blank t b = by (value_of (get_or t 0 0))
  where
    on : (h : ℕ) (long out : Bool) → ltb (length t) 2 ≡ long → is_gap (get_or t 1 0) ≡ out
        → (if long then Err (Odd at) else if out then Err (Odd at) else second_digit room n at h (value_of (get_or t 1 0))) ≡ Ok (Some b) → Whole room n t
    on h true out p q e = cc
    on h false true p q e = cc
    on h false false p q e = record { there = ltb-false (length t) 2 p; fits = room_byte room n at h (value_of (get_or t 1 0)) b e; tight = q }

    none : (end : Bool) → (if end then Ok None else Err (Bad at)) ≡ Ok (Some b) → Whole room n t
    none true e = cc
    none false e = cc

    by : (v : Option ℕ) → first_digit room n at blank t v ≡ Ok (Some b) → Whole room n t
    by None e = none (eqb (get_or t 0 0) 35 && blank) e
    by (Some h) e = on h (ltb (length t) 2) (is_gap (get_or t 1 0)) refl refl e
