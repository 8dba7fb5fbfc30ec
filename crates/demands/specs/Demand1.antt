-- Demand 1: "A refusal comes exactly when the table of refusals says so; it carries its number and zeros, and rack, answer and list stay untouched."
-- The table is `refusal_of` of each call. Assumes nothing.
use Rattle.std.specs.Prelude.{◌≡◌, List, ℕ, length}
use Rattle.request.specs.declared.label.Family.{Family}
use Rattle.event.specs.Event as event
use Rattle.inventory.specs.Walk as walk
use Rattle.reader.specs.declared.command.Command.{Command}
use Rattle.reader.specs.Request as request

-- the number told is the table's; where it is not 0, the reply is the refusal
pub record AsTheTable {A : Type 0} (told table : ℕ) (reply refusal : A) : Type 0 where
  pub number : told ≡ table
  pub refuses : (table ≡ 0 → ⊥) → reply ≡ refusal

-- for every input, junk or not: `event` and `walk` refused leave number, zeros, and rack and buffer as they came; so does the request writer
pub record Demand1 : Type 0 where
  pub events : (r : List ℕ) (number : ℕ) (f ds out : List ℕ)
      → let n = event.refusal_of r number (length ds) (length out) in
      AsTheTable (event.event_of r number f ds out).report.number n (event.event_of r number f ds out) (event.refused n r out)
  pub walks : (r : List ℕ) (family : Family) (list : List ℕ)
      → let n = walk.refusal_of r (length list) in
      AsTheTable (walk.walk_of r family list).report.number n (walk.walk_of r family list) (walk.refused n r list)
  pub requests : (c : Command) (uid d out : List ℕ)
      → let n = request.refusal_of c (length d) (length out) in
      AsTheTable (request.written_of c uid d out).number n (request.written_of c uid d out) (record { number = n; length = 0 })
  pub buffers : (c : Command) (uid d out : List ℕ) → (request.refusal_of c (length d) (length out) ≡ 0 → ⊥) → request.out_of c uid d out ≡ out
