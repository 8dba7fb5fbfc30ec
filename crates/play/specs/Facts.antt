-- Not for the reader of the paper: what the functions of play hand each other. Assumes nothing.
use Rattle.std.specs.Prelude.{◌≡◌, ℕ, true, List, []}
use Rattle.request.specs.declared.label.Request.{Request}
use Rattle.trace.specs.Calm.{calm_call, one_call, Only}
use Rattle.trace.specs.Changes.{changes_text}

-- between these racks: behind a calm label frame nothing is told, and behind one for one UID of its owner alone
pub record Unchanged (number : ℕ) (request : Request) (old new : List ℕ) : Type 0 where
  pub calm : number ≡ 3 → calm_call request.call ≡ true → changes_text old new ≡ []
  pub only : number ≡ 3 → Only (one_call request.call) request.uid old new
