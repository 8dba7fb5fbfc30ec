-- Document 01, "Events" and "Numbers a call can come back with": what an event does to a rack, and what it reports. Assumes nothing.
use Rattle.std.specs.Prelude.{◌≡◌, is_ok, not, ◌&&◌, List, [], ◌∷◌, ◌++◌, ℕ, eqb, ltb, leb, length, get_or, drop, if◌then◌else◌}
use Rattle.frame.specs.Choose.{gather}
use Rattle.rack.specs.File.{count_of, kind_at, body_at, rebuilt, verdict_of}
use Rattle.rack.specs.Tag.{Event, aired, next_body, answer_body}
use Rattle.event.specs.declared.call.Report.{Report}

-- ---- all tags; entry i uses draw i

unfoldable pub next : List ℕ → Event → List ℕ → ℕ → List ℕ
next r event ds i = next_body (kind_at r i) event (get_or ds i 0) (body_at r i)

unfoldable pub answer : List ℕ → Event → List ℕ → ℕ → List (List ℕ)
answer r event ds i = answer_body (kind_at r i) event (get_or ds i 0) (body_at r i)

-- the contents never change
unfoldable pub next_rack : List ℕ → Event → List ℕ → List ℕ
next_rack r event ds = rebuilt r (next r event ds)

unfoldable pub answers : List ℕ → Event → List ℕ → List (List ℕ)
answers r event ds = gather (count_of r) (answer r event ds)

-- ---- the call

-- with exactly one answer, its frame opens the answer buffer, bytes behind stay; with none or several the buffer stays
abbrev pub opened : List (List ℕ) → List ℕ → List ℕ
opened [] out = out
opened (f ∷ []) out = f ++ drop (length f) out
opened (f ∷ g ∷ fs) out = out

abbrev pub length_alone : List (List ℕ) → ℕ
length_alone [] = 0
length_alone (f ∷ []) = length f
length_alone (f ∷ g ∷ fs) = 0

-- what a call leaves: its report, the rack and the answer buffer
pub record Outcome : Type 0 where
  pub report : Report
  pub rack : List ℕ
  pub out : List ℕ

-- every other number in the result is then 0 and no lent byte changes
abbrev pub refused : ℕ → List ℕ → List ℕ → Outcome
refused n r out = record { report = record { number = n; answered = 0; length = 0 }; rack = r; out = out }

abbrev pub played : List ℕ → Event → List ℕ → List ℕ → Outcome
played r event ds out =
    record {
      report = record { number = 0; answered = length (answers r event ds); length = length_alone (answers r event ds) };
      rack = next_rack r event ds;
      out = opened (answers r event ds) out;
    }

-- document 02, P2: the room that every answer buffer has, that of 256 blocks of 32 bytes, each with its lock byte: 1 + 256 × 33 + 2
abbrev pub least : ℕ
least = 8451

-- the lowest number that applies, for so many draws and so much room in the answer buffer; 0: none
unfoldable pub refusal_of : List ℕ → ℕ → ℕ → ℕ → ℕ
refusal_of r number draws room =
    if not (is_ok (verdict_of r)) then 1
    else if not (eqb draws (count_of r)) then 2
    else if ltb room least then 3
    else if not (leb 1 number && leb number 5) then 4
    else 0

-- rack, event number, frame, draws, answer buffer
unfoldable pub event_of : List ℕ → ℕ → List ℕ → List ℕ → List ℕ → Outcome
event_of r number f ds out =
    if eqb (refusal_of r number (length ds) (length out)) 0 then played r (aired number f) ds out
    else refused (refusal_of r number (length ds) (length out)) r out

-- one reply alone: what the call reports, and what it leaves in the rack and in the answer buffer
pub record Replied (r : List ℕ) (number : ℕ) (f ds out : List ℕ) (report : Report) (r₁ out₁ : List ℕ) : Type 0 where
  pub reports : report ≡ (event_of r number f ds out).report
  pub leaves : r₁ ≡ (event_of r number f ds out).rack
  pub writes : out₁ ≡ (event_of r number f ds out).out
