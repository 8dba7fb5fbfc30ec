-- Not for the reader of the paper: how the code hands a reading on. Assumes nothing.
use Rattle.std.specs.Prelude.{List, ℕ, eqb, length, get_or, Option, Some, None, Result, Ok, Err, if◌then◌else◌}
use Rattle.frame.specs.Refusal.{refusal_number}
use Rattle.frame.specs.declared.refusal.Refusal.{Refusal}
use Rattle.answer.specs.declared.reading.Meaning.TheVariants as m
use Rattle.answer.specs.declared.reading.Reading.{Reading}
use Rattle.answer.specs.Answer.{said}

-- a shape that is none which the command allows is refused by 9
abbrev pub told : Option Reading → Reading
told (Some r) = r
told None = said (m.Refused 9)

-- a refusal is told by its number
abbrev pub told_as : Result Reading Refusal → Reading
told_as (Ok r) = r
told_as (Err why) = said (m.Refused (refusal_number why))

-- no such pieces: of no bytes
abbrev pub as_piece : Option ℕ → ℕ
as_piece (Some each) = each
as_piece None = 0

-- the one byte of c
abbrev pub sole : List ℕ → Option ℕ
sole c = if eqb (length c) 1 then Some (get_or c 0 0) else None
