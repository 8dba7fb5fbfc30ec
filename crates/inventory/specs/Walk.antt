-- Document 01, "Walk": the events sent to the rack in turn, and what the walk makes of their replies. Assumes nothing.
use Rattle.std.specs.Prelude.{is_ok, Bool, true, false, not, List, [], ◌∷◌, ◌++◌, ℕ, zero, suc, ◌+◌, ◌-◌, ◌*◌, ◌/◌, eqb, ltb, leb, length, get_or, replicate, if◌then◌else◌}
use Rattle.std.proofs.lemmas.List.Edits.{sets}
use Rattle.frame.specs.Choose.{gather}
use Rattle.frame.specs.Number.{bytes_of, part}
use Rattle.frame.specs.CheckSum.{framed}
use Rattle.frame.specs.Ending.{longer, bytes_for}
use Rattle.label_body.specs.Slots.{uid_of, takes_part, clear}
use Rattle.request.specs.declared.label.Family.{Family}
use Rattle.request.specs.declared.label.Family.TheVariants.{Any, Only}
use Rattle.rack.specs.declared.tag.Kind.{Kind}
use Rattle.rack.specs.declared.tag.Kind.TheVariants.{Label, Chip, Other}
use Rattle.rack.specs.File.{count_of, kind_at, body_at, rebuilt, verdict_of}
use Rattle.event.specs.Event.{Outcome, least, event_of}
use Rattle.inventory.specs.declared.walk.Walked.{Walked}
use Rattle.inventory.specs.Endings.{shared}

-- ---- a round is one sixteen-slot Inventory and sixteen ends of frame

-- its frame: flags (bit 1, Inventory, AFI), command 01, AFI, mask length, mask in as few bytes as hold it
unfoldable pub request : Family → ℕ → ℕ → List ℕ
request Any bits mask = framed (6 ∷ 1 ∷ bits ∷ bytes_of (bytes_for bits) mask)
request (Only afi) bits mask = framed (22 ∷ 1 ∷ afi ∷ bits ∷ bytes_of (bytes_for bits) mask)

-- how many answered in a slot, and the UID of one that was alone: bytes 2 to 9 of its answer
abbrev pub hits : Outcome → ℕ
hits o = o.report.answered

abbrev pub alone : Outcome → List ℕ
alone o = if eqb (hits o) 1 then part 2 8 o.out else []

pub record Hearing : Type 0 where
  pub rack : List ℕ
  pub found : List ℕ
  pub hits : List ℕ

-- what each event of a walk is lent, a draw for each tag and an answer buffer; an event is told by the bits of its mask, the mask and the slot
abbrev pub PerEvent : Type 0
PerEvent = ℕ → ℕ → ℕ → List ℕ

module _ (draws out : PerEvent) where
  -- what came back in slot s: the Inventory asks slot 0, each end of frame the next; labels use no draw
  unfoldable pub slot_outcome : List ℕ → Family → ℕ → ℕ → ℕ → Outcome
  slot_outcome r family bits mask zero = event_of r 3 (request family bits mask) (draws bits mask 0) (out bits mask 0)
  slot_outcome r family bits mask (suc s) = event_of (slot_outcome r family bits mask s).rack 4 [] (draws bits mask (suc s)) (out bits mask (suc s))

  -- labels heard alone are listed in slot order
  unfoldable pub round : List ℕ → Family → ℕ → ℕ → Hearing
  round r family bits mask =
      record {
        rack = (slot_outcome r family bits mask 16).rack;
        found = gather 16 (λ s. alone (slot_outcome r family bits mask s));
        hits = gather 16 (λ s. hits (slot_outcome r family bits mask s) ∷ []);
      }

-- ---- then, for each slot with a collision, in slot order, a round with its mask four bits longer, carried through before the next slot

pub record Trip : Type 0 where
  pub rack : List ℕ
  pub found : List ℕ
  pub rounds : ℕ

unfoldable pub join : Trip → Trip → Trip
join a b = record { rack = b.rack; found = a.found ++ b.found; rounds = a.rounds + b.rounds }

unfoldable pub start : Hearing → Trip
start h = record { rack = h.rack; found = h.found; rounds = 1 }

module _ (sub : List ℕ → ℕ → Trip) (heard : List ℕ) (bits mask : ℕ) where
  unfoldable pub visit : Bool → ℕ → Trip → Trip
  visit true s t = join t (sub t.rack (longer mask bits s))
  visit false s t = t

  -- the collided slots below s carried through
  unfoldable pub upto : ℕ → List ℕ → Trip
  upto zero rack = record { rack = rack; found = []; rounds = 0 }
  upto (suc s) rack = visit (ltb 1 (get_or heard s 0)) s (upto s rack)

-- rounds that a mask of so many bits may yet go down: past 60 bits there is none
unfoldable pub depth : ℕ → ℕ
depth bits = (64 - bits) / 4

module _ (draws out : PerEvent) where
  unfoldable pub explore : ℕ → List ℕ → Family → ℕ → ℕ → Trip
  explore zero rack family bits mask = record { rack = rack; found = []; rounds = 0 }
  explore (suc d) rack family bits mask =
      let h = round draws out rack family bits mask in
      join (start h) (upto (λ r longerMask. explore d r family (bits + 4) longerMask) h.hits bits mask 16 h.rack)

  -- from no mask on
  abbrev pub trip : List ℕ → Family → Trip
  trip r family = explore (depth 0) r family 0 0

-- ---- the call

-- the UIDs of the labels in state 1 or 3 that the family filter lets answer, in the order of the rack
unfoldable pub uid_at : Family → Kind → List ℕ → List ℕ
uid_at family Label b = if takes_part family b then uid_of b ∷ [] else []
uid_at family Chip b = []
uid_at family Other b = []

unfoldable pub uids_to : Family → List ℕ → ℕ → List ℕ
uids_to family r n = gather n (λ i. uid_at family (kind_at r i) (body_at r i))

abbrev pub uids : Family → List ℕ → List ℕ
uids family r = uids_to family r (count_of r)

-- two labels in state 1 or 3 have one UID: some ending of all 64 bits is shared
unfoldable pub twins : List ℕ → Bool
twins r = leb 1 (length (shared 64 (uids Any r)))

-- the lowest number that applies, for so much room in the list; 0: none
unfoldable pub refusal_of : List ℕ → ℕ → ℕ
refusal_of r room =
    if not (is_ok (verdict_of r)) then 1
    else if ltb room (8 * count_of r) then 5
    else if twins r then 6
    else 0

pub record Result : Type 0 where
  pub report : Walked
  pub rack : List ℕ
  pub list : List ℕ

abbrev pub refused : ℕ → List ℕ → List ℕ → Result
refused n r list = record { report = record { number = n; labels = 0; rounds = 0 }; rack = r; list = list }

-- the list holds 8 bytes a label, and the result says how many labels it holds
abbrev pub carried : Trip → List ℕ → Result
carried t list = record { report = record { number = 0; labels = length t.found / 8; rounds = t.rounds }; rack = t.rack; list = sets list 0 t.found }

-- the walk's own draws and buffers; any others give the same (`any_draws`)
abbrev pub zeros : List ℕ → PerEvent
zeros r bits mask s = replicate (count_of r) 0

abbrev pub blank : PerEvent
blank bits mask s = replicate least 0

unfoldable pub walk_of : List ℕ → Family → List ℕ → Result
walk_of r family list =
    if eqb (refusal_of r (length list)) 0 then carried (trip (zeros r) blank r family) list
    else refused (refusal_of r (length list)) r list

-- every label's slot, mask length and mask cleared, and nothing else changed
unfoldable pub clear_body : Kind → List ℕ → List ℕ
clear_body Label b = clear b
clear_body Chip b = b
clear_body Other b = b

unfoldable pub cleared : List ℕ → List ℕ
cleared r = rebuilt r (λ i. clear_body (kind_at r i) (body_at r i))
