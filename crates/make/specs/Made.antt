-- Which rack `make` makes of a text. Assumes nothing.
use Rattle.std.specs.Prelude.{◌≡◌, ℕ, ◌≤◌, false, not, List, ◌∷◌, length, take, nat_lt, if◌then◌else◌, None, Result, Ok, Err}
use Rattle.std.proofs.lemmas.List.Edits.{sets}
use Rattle.frame.specs.Number.{bytes_of}
use Rattle.frame.specs.Judge.{Verdict, fine}
use Rattle.rack.specs.File.{verdict_of}
use Rattle.verbs.specs.Data.{place_of}
use Rattle.draft.specs.declared.words.Part.TheVariants.{Edition}
use Rattle.draft.specs.declared.words.Why.TheVariants.{Bytes}
use Rattle.draft.specs.Words.{no_part}
use Rattle.make.specs.declared.lines.Maker.{Maker}
use Rattle.make.specs.declared.lines.Stop.{Stop}
use Rattle.make.specs.declared.lines.Flaw.{Flaw}
use Rattle.make.specs.declared.lines.Flaw.TheVariants.{Wrong, Refused}
use Rattle.make.specs.Lines.{lines_of, tags_in}
use Rattle.make.specs.Tags.{Step, stop, fits, entry_place, closed_maker, closed_out, take_lines}

-- a rack of so many bytes, or why there is none
abbrev pub Made : Type 0
Made = Result ℕ Flaw

-- before the first line: the first body goes behind the entries of so many tags
unfoldable pub first_of : ℕ → Maker
first_of tags = record { lines = 0; begun = false; count = 0; size = 2; end = entry_place tags; tag = None }

-- ---- behind the last line

-- the last tag, and the head: edition 1 and the number of tags
unfoldable pub laid_out : Maker → List ℕ → List ℕ → List ℕ
laid_out m b out = sets (closed_out m b out) 0 (1 ∷ bytes_of 1 m.count)

abbrev pub by_verdict : Verdict → ℕ → Made
by_verdict (Ok u) n = Ok n
by_verdict (Err offence) n = Err (Refused n offence)

-- a rack is given away where it keeps every rule of the rack file
unfoldable pub judged : List ℕ → ℕ → Made
judged out n =
    if nat_lt 65536 n then Err (Wrong (stop 0 Bytes))
    else if nat_lt (length out) n then Err (Wrong (stop 0 Bytes))
    else by_verdict (verdict_of (take n out)) n

-- what is made, and the rack's bytes, from the front of a buffer on
pub record Making : Type 0 where
  pub made : Made
  pub out : List ℕ

abbrev pub making : Made → List ℕ → Making
making made out = record { made = made; out = out }

abbrev pub finished_by : Result Unit Stop → Maker → List ℕ → List ℕ → Making
finished_by (Ok u) m b out =
    if not m.begun then making (Err (Wrong (stop (place_of m.lines 1) (no_part 0 Edition)))) out
    else making (judged (laid_out m b out) (closed_maker m b).end) (laid_out m b out)
finished_by (Err s) m b out = making (Err (Wrong s)) out

unfoldable pub finished : Maker → List ℕ → List ℕ → Making
finished m b out = finished_by (fits m b) m b out

-- ---- all of a text, with a buffer for the body of one tag and one for the rack

abbrev pub made_by : Step → List ℕ → List ℕ → Making
made_by (Ok m) b out = finished m b out
made_by (Err s) b out = making (Err (Wrong s)) out

unfoldable pub making_of : List ℕ → List ℕ → List ℕ → Making
making_of text b out =
    let lines = lines_of text in
    let t = take_lines lines (first_of (tags_in lines)) b out in
    made_by t.step t.body t.out

-- a function returned that, and left the rack's buffer so
pub record Makes (x : Making) (r : Made) (out : List ℕ) : Type 0 where
  pub tells : r ≡ x.made
  pub lays : out ≡ x.out

-- a rack of n bytes, at the front of a buffer, is well-formed
abbrev pub Fits : Made → List ℕ → Type 0
Fits (Ok n) out = (n ≤ 65536) × (verdict_of (take n out) ≡ fine)
Fits (Err flaw) out = Unit
