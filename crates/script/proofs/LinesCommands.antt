-- What comes of a command, by what its data and its words say. Assumes nothing.
use Rattle.std.proofs.Common.{◌≡◌, refl, ap, sym, ◌∙◌, List, ℕ, length, take, Result, Ok, Err}
use Rattle.frame.specs.declared.refusal.Refusal.{Refusal}
use Rattle.frame.specs.declared.refusal.Refusal.TheVariants as no
use Rattle.reader.specs.declared.command.Command.{Command}
use Rattle.reader.specs.Request.{least, Wrote, written_as, event_for}
use Rattle.verbs.specs.declared.trouble.Trouble.{Trouble}
use Rattle.verbs.specs.declared.trouble.Trouble.TheVariants as t
use Rattle.verbs.specs.declared.commands.Asked.{Asked}
use Rattle.verbs.specs.Commands.{line_asked}
use Rattle.verbs.specs.Data.{Said, data_from}
use Rattle.verbs.proofs.DataHeld.{data_front}
use Rattle.script.specs.declared.lines.Action.TheVariants as act
use Rattle.script.specs.Commands.{Answer, sent_action, refused, Sends, sent, sent_by, sent_from, asked_by, command_of}

-- by the writer's own statement
module _ (c : Command) (uid d out : List ℕ) {now : List ℕ} (r : Result ℕ Refusal) (h : Wrote c uid d out (written_as r) now) where
  by_report : {a : Answer} → a ≡ sent_action c (written_as r) → Sends (sent c uid d out) a now
  unfolding sent
  by_report e = record { asks = e ∙ ap (sent_action c) h.report; leaves = h.left }

  pub sends_ok : (n event : ℕ) → r ≡ Ok n → event ≡ event_for c → Sends (sent c uid d out) (Ok (act.Play event n)) now
  unfolding sent_action
  sends_ok n event e f = by_report (rw e (ap (λ (k : ℕ). Ok (act.Play k n)) f))

  refusal : (why : Refusal) → ◌≡◌ {A = Answer} (Err (refused why)) (sent_action c (written_as (Err why)))
  unfolding sent_action
  refusal no.Rack = refl
  refusal no.Draws = refl
  refusal no.Room = refl
  refusal no.Event = refl
  refusal no.List = refl
  refusal no.Twins = refl
  refusal no.Fields = refl
  refusal no.Frame = refl
  refusal no.Meaning = refl

  pub sends_err : (why : Refusal) {trouble : Trouble} → r ≡ Err why → trouble ≡ refused why → Sends (sent c uid d out) (Err trouble) now
  sends_err why e f = by_report (rw (e, f) (refusal why))

-- but for fields that no request has, there is no room
pub full : (why : Refusal) → (why ≡ no.Fields → ⊥) → t.Full ≡ refused why
full no.Rack g = refl
full no.Draws g = refl
full no.Room g = refl
full no.Event g = refl
full no.List g = refl
full no.Twins g = refl
full no.Fields g = absurd (g refl)
full no.Frame g = refl
full no.Meaning g = refl

module _ (a : Asked) (line old bytes : List ℕ) {r : Result ℕ Trouble} {new : List ℕ} (h : Said (data_from (length old) line a.at) old r new) where
  pub from_ok : (n : ℕ) {x : Answer} {b : List ℕ} → r ≡ Ok n → Sends (sent a.command a.uid (take n new) bytes) x b
      → Sends (sent_from a line (length old) bytes) x b
  unfolding sent_from sent_by
  from_ok n e g =
      let d = data_front line a.at old h n e in
      rw (sym h.tells ∙ e) (rw d at g)

  pub from_err : (trouble : Trouble) → r ≡ Err trouble → Sends (sent_from a line (length old) bytes) (Err trouble) bytes
  unfolding sent_from sent_by
  from_err trouble e = rw (sym h.tells ∙ e) (record { asks = refl; leaves = refl })

module _ (line bytes : List ℕ) {r : Result Asked Trouble} (e : r ≡ line_asked line) where
  pub command_ok : (a : Asked) {x : Answer} {b : List ℕ} → r ≡ Ok a → Sends (sent_from a line least bytes) x b → Sends (command_of line bytes) x b
  unfolding command_of asked_by
  command_ok a g h = rw (sym e ∙ g) h

  pub command_err : (trouble : Trouble) → r ≡ Err trouble → Sends (command_of line bytes) (Err trouble) bytes
  unfolding command_of asked_by
  command_err trouble g = rw (sym e ∙ g) (record { asks = refl; leaves = refl })
