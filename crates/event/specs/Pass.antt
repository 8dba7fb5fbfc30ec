-- Not for the reader of the paper: what the pass over the first i tags has heard, how many answered and, of an answer that is alone, from whom.
-- Assumes nothing.
use Rattle.std.specs.Prelude.{◌≡◌, List, [], ◌∷◌, ℕ, ◌<◌, length, get_or, Option, MatchOption}
use Rattle.frame.specs.Choose.{gather}
use Rattle.rack.specs.declared.tag.Said.{Said}
use Rattle.rack.specs.File.{kind_at, body_at}
use Rattle.rack.specs.Tag.{Event, said_by, frame_of}
use Rattle.event.specs.declared.call.Spoken.{Spoken}
use Rattle.event.specs.Event.{answer}

pub record AloneBy (r : List ℕ) (event : Event) (ds : List ℕ) (i who : ℕ) (said : Said) : Type 0 where
  pub below : who < i
  pub says : said ≡ said_by (kind_at r who) event (get_or ds who 0) (body_at r who)
  pub one : gather i (answer r event ds) ≡ frame_of said (body_at r who) ∷ []

pub record PassOf (r : List ℕ) (event : Event) (ds : List ℕ) (i answered : ℕ) (heard : Option Spoken) : Type 0 where
  pub count : answered ≡ length (gather i (answer r event ds))
  pub alone : MatchOption heard (answered ≡ 1 → ⊥) (λ by. (answered ≡ 1) × AloneBy r event ds i by.who by.said)
