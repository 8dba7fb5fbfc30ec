-- What a chip frame of bytes asks has its numbers in their ranges: by the tests of the definitions.
-- Assumes nothing.
use mathlib.Core.Path.{◌≡◌, refl}
use mathlib.Core.Bool.{Bool, true, false, not, ◌&&◌, ◌||◌}
use mathlib.Core.List.{List}
use Prim.Native.Nat.{ℕ, ◌/◌, ◌%◌, ◌^◌, ◌≤◌, ◌<◌}
use native.Mathlib.Omega.{arith}
use lib.Dec.{eqb}
use lib.ListN.{length, get_or}
use borrow.Author.Tests.{eqb-false}
use Rattle.frame.specs.Number.{num, part, Bytes}
use Rattle.frame.specs.CheckSum.{right}
use Rattle.frame.proofs.Numbers.{word_lt}
use Rattle.frame.proofs.Bools.{and_both, or_off, if_either, if_both}
use Rattle.request.specs.declared.chip.Order.{Order}
use Rattle.request.specs.declared.chip.Order.TheVariants as o
use Rattle.request.specs.Chip.{listed, short, pair, long, decode, heard}

-- the orders that frames of bytes ask for: their numbers keep their ranges
pub data Sound : Order → Type 0 where
  ignored : Sound o.Ignored
  off : Sound o.Off
  on : Sound o.On
  initiate : Sound o.Initiate
  pcall : Sound o.Pcall
  marker : (s : ℕ) → 1 ≤ s → s < 16 → Sound (o.Marker s)
  select : (id : ℕ) → id < 256 → Sound (o.Select id)
  completion : Sound o.Completion
  reset : Sound o.Reset
  read : (a : ℕ) → listed a ≡ true → Sound (o.Read a)
  uid : Sound o.Uid
  write : (a w : ℕ) → listed a ≡ true → w < 2 ^ 32 → Sound (o.Write a w)

short_sound : (c : ℕ) → c < 256 → Sound (short c)
unfolding short
short_sound c h =
    if_either Sound (eqb c 0x0B) _ _ (λ e. uid)
    (λ e. if_either Sound (eqb c 0x0C) _ _ (λ e. reset)
    (λ e. if_either Sound (eqb c 0x0F) _ _ (λ e. completion)
    (λ e. if_either Sound (not (eqb (c % 16) 6) || eqb (c / 16) 0) _ _ (λ e. ignored)
    (λ f. let z : c / 16 ≡ 0 → ⊥ = eqb-false (c / 16) 0 (or_off (not (eqb (c % 16) 6)) (eqb (c / 16) 0) f).1 in
    marker (c / 16) (omega arith) (omega arith)))))

pair_sound : (c p : ℕ) → p < 256 → Sound (pair c p)
unfolding pair
pair_sound c p h =
    if_either Sound (eqb c 0x06) _ _
    (λ e. if_either Sound (eqb p 0) _ _ (λ e. initiate) (λ e. if_either Sound (eqb p 4) _ _ (λ e. pcall) (λ e. ignored)))
    (λ e. if_either Sound (eqb c 0x0E) _ _ (λ e. select p h)
    (λ e. if_either Sound (eqb c 0x08 && listed p) _ _ (λ e. read p (and_both (eqb c 0x08) (listed p) e).1) (λ e. ignored)))

long_sound : (c a v : ℕ) → v < 2 ^ 32 → Sound (long c a v)
unfolding long
long_sound c a v h =
    if_either Sound (eqb c 0x09 && listed a) _ _ (λ e. write a v (and_both (eqb c 0x09) (listed a) e).1 h) (λ e. ignored)

pub decode_sound : (f : List ℕ) → Bytes f → Sound (decode f)
unfolding decode
decode_sound f h =
    if_either Sound (not (right f)) _ _ (λ e. ignored)
    (λ e. if_either Sound (eqb (length f) 3) _ _ (λ e. short_sound (get_or f 0 0) (h 0))
    (λ e. if_either Sound (eqb (length f) 4) _ _ (λ e. pair_sound (get_or f 0 0) (get_or f 1 0) (h 1))
    (λ e. if_either Sound (eqb (length f) 8) _ _ (λ e. long_sound (get_or f 0 0) (get_or f 1 0) (num (part 2 4 f)) (word_lt 2 f h)) (λ e. ignored))))

pub heard_sound : (number : ℕ) (f : List ℕ) → Bytes f → Sound (heard number f)
unfolding heard
heard_sound number f h =
    if_either Sound (eqb number 1) _ _ (λ g. off)
    (λ g. if_either Sound (eqb number 2) _ _ (λ g. on)
    (λ g. if_either Sound (eqb number 5) _ _ (λ g. decode_sound f h) (λ g. ignored)))

-- ---- a frame asks neither for field off nor for field on

abbrev pub field : Order → Bool
field o.Ignored = false
field o.Off = true
field o.On = true
field o.Initiate = false
field o.Pcall = false
field (o.Marker s) = false
field (o.Select id) = false
field o.Completion = false
field o.Reset = false
field (o.Read a) = false
field o.Uid = false
field (o.Write a w) = false

abbrev Framed : Order → Type 0
Framed x = field x ≡ false

pub decode_framed : (f : List ℕ) → field (decode f) ≡ false
unfolding decode short pair long
decode_framed f =
    let c = get_or f 0 0 in
    let p = get_or f 1 0 in
    if_both Framed (not (right f)) refl
    (if_both Framed (eqb (length f) 3)
    (if_both Framed (eqb c 0x0B) refl
    (if_both Framed (eqb c 0x0C) refl
    (if_both Framed (eqb c 0x0F) refl (if_both Framed (not (eqb (c % 16) 6) || eqb (c / 16) 0) refl refl))))
    (if_both Framed (eqb (length f) 4)
    (if_both Framed (eqb c 0x06) (if_both Framed (eqb p 0) refl (if_both Framed (eqb p 4) refl refl))
    (if_both Framed (eqb c 0x0E) refl (if_both Framed (eqb c 0x08 && listed p) refl refl)))
    (if_both Framed (eqb (length f) 8) (if_both Framed (eqb c 0x09 && listed p) refl refl) refl)))
