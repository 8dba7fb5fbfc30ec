-- Why a call is refused: the numbers of the paper's table. Assumes nothing.
use Rattle.std.specs.Prelude.{ℕ}
use Rattle.frame.specs.declared.refusal.Refusal.{Refusal}
pub use Rattle.frame.specs.declared.refusal.Refusal.TheVariants.{Rack, Draws, Room, Event, List, Twins, Fields, Frame, Meaning}

abbrev pub refusal_number : Refusal → ℕ
refusal_number Rack = 1
refusal_number Draws = 2
refusal_number Room = 3
refusal_number Event = 4
refusal_number List = 5
refusal_number Twins = 6
refusal_number Fields = 7
refusal_number Frame = 8
refusal_number Meaning = 9
