-- A body under a step, which is a store of three bytes (state, Chip_ID, reload) and of at most one block: a run of stores leaves what it does not reach,
-- and the blocks, the UID and the three bytes stand apart.
-- Assumes nothing.
use mathlib.Core.Path.{◌≡◌, refl, sym, ap, subst}
use mathlib.Core.Logic.{◌⊎◌, inl, inr}
use mathlib.Core.Bool.{false}
use mathlib.Core.List.{List, [], ◌∷◌}
use Prim.Native.Nat.{ℕ, ◌+◌, ◌*◌, ◌≤◌, ◌<◌}
use native.Mathlib.Omega.{arith}
use lib.ListN.{length, get_or}
use lib.Seq.{sets, length-sets, set-get_or}
use borrow.Author.Tests.{lt-ltb, le-ltb}
use Rattle.frame.specs.Number.{num, bytes_of, part}
use Rattle.frame.proofs.Numbers.{length_bytes}
use Rattle.frame.proofs.Stores.{sets_off, sets_on, part_off}
use Rattle.request.specs.declared.chip.Order.{Order}
use Rattle.request.specs.declared.chip.Order.TheVariants as o
use Rattle.chip.specs.declared.step.Chip.{Chip}
use Rattle.std.specs.Prelude.{Option, None, Some}
use Rattle.chip.specs.declared.step.Put.{Put}
use Rattle.chip.specs.declared.step.Stepped.{Stepped}
use Rattle.chip.specs.Write.{locked, written}
use Rattle.chip.proofs.StepWays.{Next, Steps, quiet, wrote, steps}
use Rattle.chip_body.specs.Body.{load_of, store_of, place_of, block_of, named, worked, stepped, next_chip}
use Rattle.chip_body.proofs.BodyShapes.{place_fits}

-- ---- where blocks stand

pub place_low : (n : ℕ) → n < 16 → place_of n ≡ 4 * n
unfolding place_of
place_low n h = rw (lt-ltb n 16 h)

pub place_high : (n : ℕ) → 16 ≤ n → place_of n ≡ 64
unfolding place_of
place_high n h = rw (le-ltb n 16 h)

-- ---- a chip stored

module _ (b : List ℕ) (c : Chip) where
  pub store_length : length (store_of b c) ≡ length b
  unfolding store_of
  store_length = length-sets b 76 (c.state ∷ c.id ∷ c.reload ∷ [])

  pub store_off : (i : ℕ) → (i < 76) ⊎ (79 ≤ i) → get_or (store_of b c) i 0 ≡ get_or b i 0
  unfolding store_of
  store_off i h = sets_off b (c.state ∷ c.id ∷ c.reload ∷ []) 76 i h

  pub store_part : (at k : ℕ) → at + k ≤ 76 → part at k (store_of b c) ≡ part at k b
  unfolding store_of
  store_part at k h = part_off b (c.state ∷ c.id ∷ c.reload ∷ []) 76 at k (inl h)

  pub store_state : 79 ≤ length b → get_or (store_of b c) 76 0 ≡ c.state
  unfolding store_of
  store_state l = sets_on b (c.state ∷ c.id ∷ c.reload ∷ []) 76 0 (omega arith) l

  pub store_id : 79 ≤ length b → get_or (store_of b c) 77 0 ≡ c.id
  unfolding store_of
  store_id l = sets_on b (c.state ∷ c.id ∷ c.reload ∷ []) 76 1 (omega arith) l

  pub store_reload : 79 ≤ length b → get_or (store_of b c) 78 0 ≡ c.reload
  unfolding store_of
  store_reload l = sets_on b (c.state ∷ c.id ∷ c.reload ∷ []) 76 2 (omega arith) l

-- the chip that is there
pub store_load : (b : List ℕ) → store_of b (load_of b) ≡ b
unfolding store_of load_of
store_load b = rw (set-get_or b 76 0, set-get_or b 77 0, set-get_or b 78 0)

-- ---- a block written

pub work_length : (x : Option Put) (b : List ℕ) → length (worked x b) ≡ length b
unfolding worked
work_length None b = refl
work_length (Some p) b = length-sets b (place_of p.block) (bytes_of 4 p.value)

-- nothing from the UID on
pub work_off : (x : Option Put) (b : List ℕ) (i : ℕ) → 68 ≤ i → get_or (worked x b) i 0 ≡ get_or b i 0
unfolding worked
work_off None b i h = refl
work_off (Some p) b i h =
    sets_off b (bytes_of 4 p.value) (place_of p.block) i (inr (omega (arith, place_fits p.block, length_bytes 4 p.value)))

-- ---- a step of a body: to show P of the next body, show it where a chip is stored, and where a block is written besides
module _ (P : List ℕ → Type 0) (order : Order) (d : ℕ) (b : List ℕ) where
  pub next_by : ((c : Chip) → Next d (load_of b) c → P (store_of b c))
      → ((n v : ℕ) (c : Chip)
      → order ≡ o.Write n v
      → locked (num (part 64 4 b)) n ≡ false
      → Next d (load_of b) c
      → P (sets (store_of b c) (place_of n) (bytes_of 4 (written n (block_of n b) v (get_or b 78 0)))))
      → P (next_chip order d b)
  unfolding next_chip stepped worked load_of named
  next_by f g = go (stepped order d b) (steps order d (named order b) (num (part 64 4 b)) (load_of b))
    where
      go : (x : Stepped) → Steps order d (named order b) (num (part 64 4 b)) (load_of b) x → P (worked x.work (store_of b x.next))
      go x (quiet next answer h) = f next h
      go x (wrote n v next q z l h) =
          let e : block_of n b ≡ named order b = sym (ap (λ (y : Order). named y b) q) in
          subst (λ (old : ℕ). P (sets (store_of b next) (place_of n) (bytes_of 4 (written n old v (get_or b 78 0))))) e (g n v next q l h)
