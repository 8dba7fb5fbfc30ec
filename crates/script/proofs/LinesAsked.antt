-- A line of words is played as meant: the event has the frame that a reader writes for its command, which the tags take as RequestTaken of accord says.
-- Assumes nothing.
use Rattle.std.specs.Prelude.{Result, Ok, Err}
use mathlib.Core.Path.{◌≡◌, refl, ap, ◌∙◌}
use mathlib.Core.List.{List}
use Prim.Native.Nat.{ℕ}
use lib.ListN.{length, drop}
use Rattle.reader.specs.declared.command.Command.{Command}
use Rattle.reader.specs.Request.{least, refusal_of, encode, at_front, written_of, out_of, event_for}
use Rattle.text.specs.Words.{first_word}
use Rattle.text.specs.declared.words.Keyword.{Keyword}
use Rattle.text.specs.declared.words.Keyword.TheVariants as w
use Rattle.verbs.specs.declared.commands.Asked.{Asked}
use Rattle.verbs.specs.declared.trouble.Trouble.{Trouble}
use Rattle.verbs.specs.declared.trouble.Trouble.TheVariants as t
use Rattle.verbs.specs.Commands.{line_asked}
use Rattle.verbs.specs.Data.{data_from}
use Rattle.script.specs.declared.lines.Action.TheVariants as act
use Rattle.script.specs.Commands.{sent_action, Sent, left, sent, sent_by, sent_from, asked_by, command_of}
use Rattle.script.specs.Lines.{effect, effect_by, effect_of}

module _ (line draws bytes : List ℕ) (c : Command) (uid : List ℕ) (at n : ℕ) (word : (first_word line).word ≡ w.Unknown)
    (asks : line_asked line ≡ Ok (record { command = c; uid = uid; at = at })) (sends : (data_from least line at).read ≡ Ok n) where
  -- the bytes that it sends
  abbrev d : List ℕ
  d = (data_from least line at).bytes

  command : command_of line bytes ≡ sent c uid d bytes
  unfolding command_of asked_by sent_from sent_by
  command =
      ap (λ (r : Result Asked Trouble). asked_by r line bytes) asks
      ∙ ap (λ (r : Result ℕ Trouble). sent_by r c uid d bytes) sends

  by_sent : (x : Sent) → sent c uid d bytes ≡ x → effect_of line draws bytes ≡ effect x.action draws x.bytes
  unfolding effect_of
  by_sent x e =
      ap (λ (k : Keyword). effect_by k line (first_word line).rest (drop (first_word line).rest line) draws bytes) word
      ∙ ap (λ (y : Sent). effect y.action draws y.bytes) (command ∙ e)

  -- a request that the writer does not refuse ..
  written : refusal_of c (length d) (length bytes) ≡ 0
      → sent c uid d bytes ≡ left (Ok (act.Play (event_for c) (length (encode c uid d)))) (at_front (encode c uid d) bytes)
  unfolding sent written_of out_of sent_action
  written h = rw h refl

  pub command_plays : refusal_of c (length d) (length bytes) ≡ 0
      → effect_of line draws bytes ≡ effect (Ok (act.Play (event_for c) (length (encode c uid d)))) draws (at_front (encode c uid d) bytes)
  command_plays h = by_sent _ (written h)

  -- .. and one that there is not
  missing : refusal_of c (length d) (length bytes) ≡ 7 → sent c uid d bytes ≡ left (Err t.NoRequest) bytes
  unfolding sent written_of out_of sent_action
  missing h = rw h refl

  pub command_refused : refusal_of c (length d) (length bytes) ≡ 7 → effect_of line draws bytes ≡ effect (Err t.NoRequest) draws bytes
  command_refused h = by_sent _ (missing h)
