-- A command that a line asks: the frame that a reader sends for it. Assumes nothing.
use Rattle.std.specs.Prelude.{◌≡◌, List, ℕ, eqb, if◌then◌else◌, Result, Ok, Err}
use Rattle.frame.specs.declared.refusal.Refusal.{Refusal}
use Rattle.frame.specs.Refusal.{refusal_number}
use Rattle.reader.specs.declared.command.Command.{Command}
use Rattle.reader.specs.declared.writer.Written.{Written}
use Rattle.reader.specs.Request.{least, event_for, written_of, out_of}
use Rattle.verbs.specs.declared.commands.Asked.{Asked}
use Rattle.verbs.specs.declared.trouble.Trouble.{Trouble}
use Rattle.verbs.specs.declared.trouble.Trouble.TheVariants as t
use Rattle.verbs.specs.Commands.{line_asked}
use Rattle.verbs.specs.Data.{data_from}
use Rattle.script.specs.declared.lines.Action.{Action}
use Rattle.script.specs.declared.lines.Action.TheVariants as act

-- what is done, or what is wrong
abbrev pub Answer : Type 0
Answer = Result Action Trouble

-- what the writer comes back with: an event, no such request, or no room for one
unfoldable pub sent_action : Command → Written → Answer
sent_action c w =
    if eqb w.number 0 then Ok (act.Play (event_for c) w.length)
    else if eqb w.number 7 then Err t.NoRequest
    else Err t.Full

-- what its refusal says
abbrev pub refused : Refusal → Trouble
refused why = if eqb (refusal_number why) 7 then t.NoRequest else t.Full

-- what is asked, and the buffer then
pub record Sent : Type 0 where
  pub action : Answer
  pub bytes : List ℕ

abbrev pub left : Answer → List ℕ → Sent
left action bytes = record { action = action; bytes = bytes }

pub record Sends (x : Sent) (action : Answer) (bytes : List ℕ) : Type 0 where
  pub asks : action ≡ x.action
  pub leaves : bytes ≡ x.bytes

-- a command to a UID with data d
unfoldable pub sent : Command → List ℕ → List ℕ → List ℕ → Sent
sent c uid d bytes = left (sent_action c (written_of c uid d bytes)) (out_of c uid d bytes)

unfoldable pub sent_by : Result ℕ Trouble → Command → List ℕ → List ℕ → List ℕ → Sent
sent_by (Ok n) c uid d bytes = sent c uid d bytes
sent_by (Err trouble) c uid d bytes = left (Err trouble) bytes

-- with the bytes from its place of the line on, where there is room for them
unfoldable pub sent_from : Asked → List ℕ → ℕ → List ℕ → Sent
sent_from a line room bytes = let d = data_from room line a.at in sent_by d.read a.command a.uid d.bytes bytes

unfoldable pub asked_by : Result Asked Trouble → List ℕ → List ℕ → Sent
asked_by (Ok a) line bytes = sent_from a line least bytes
asked_by (Err trouble) line bytes = left (Err trouble) bytes

unfoldable pub command_of : List ℕ → List ℕ → Sent
command_of line bytes = asked_by (line_asked line) line bytes
