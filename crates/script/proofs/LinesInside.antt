-- For callers: the frame that a line asks to be played is within the buffer that it was read to. Assumes nothing.
use Rattle.std.specs.Prelude.{if◌then◌else◌, Result, Ok, Err}
use mathlib.Core.Path.{◌≡◌, refl, sym, subst, ◌∙◌}
use mathlib.Core.Bool.{Bool, true, false}
use mathlib.Core.List.{List}
use Prim.Native.Nat.{ℕ, ◌+◌, ◌≤◌}
use native.Mathlib.Omega.{arith}
use borrow.Author.Tests.{ltb-false}
use lib.Dec.{eqb, ltb}
use lib.ListN.{length, take, drop, length-append}
use lib.Seq.{length-sets}
use Rattle.frame.specs.Number.{bytes_of}
use Rattle.frame.specs.CheckSum.{crc_of}
use Rattle.frame.proofs.Bools.{if_either, if_both}
use Rattle.reader.specs.declared.command.Command.{Command}
use Rattle.reader.specs.Request.{least, refusal_of, encode, at_front, written_of, out_of}
use Rattle.print.specs.Ascii.{ascii}
use Rattle.text.proofs.RunsWithin.{run_within}
use Rattle.verbs.specs.declared.commands.Asked.{Asked}
use Rattle.verbs.specs.declared.trouble.Trouble.{Trouble}
use Rattle.verbs.specs.declared.trouble.What.TheVariants as what
use Rattle.verbs.specs.Commands.{line_asked}
use Rattle.verbs.specs.Data.{data_from}
use Rattle.verbs.specs.Pieces.{ended, next_is}
use Rattle.verbs.specs.Tokens.{word_from}
use Rattle.verbs.specs.Trouble.{on_ok}
use Rattle.text.specs.Words.{first_word}
use Rattle.text.specs.Runs.{hex_of}
use Rattle.text.specs.declared.words.Keyword.{Keyword}
use Rattle.text.specs.declared.words.Keyword.TheVariants as w
use Rattle.text.specs.declared.hex.HexError.{HexError}
use Rattle.text.specs.declared.hex.HexError.TheVariants.{Bad, Odd, Full}
use Rattle.script.specs.declared.lines.Action.{Action}
use Rattle.script.specs.declared.lines.Action.TheVariants as act
use Rattle.script.specs.Lines.{ended_action, run_read, read_to, frame_action, framed_action, sealed, frame_bytes, framed_bytes, drawn_action}
use Rattle.script.specs.Lines.{Effect, draws_effect, effect_by, effect_of}
use Rattle.script.specs.Commands.{Answer, sent_action, Sent, sent, sent_by, sent_from, asked_by, command_of}

-- an action asks for no more bytes than there are
abbrev Held : ℕ → Answer → Type 0
Held room (Ok act.Nothing) = Unit
Held room (Ok (act.Play number n)) = n ≤ room
Held room (Ok act.Random) = Unit
Held room (Err trouble) = Unit

-- what comes of a step is held where it is held for each value that the step may have
on_held : {A : Type 0} (room : ℕ) (r : Result A Trouble) (next : A → Answer) → ((x : A) → r ≡ Ok x → Held room (next x)) → Held room (on_ok r next)
on_held room (Ok x) next h = h x refl
on_held room (Err trouble) next h = tt

ended_held : (room : ℕ) (line : List ℕ) (at : ℕ) (action : Action) → Held room (Ok action) → Held room (ended_action line at action)
unfolding ended_action
ended_held room line at action h = on_held room (ended line at what.End) (λ _. Ok action) (λ x e. h)

long : (n : ℕ) (b : List ℕ) → length (sealed n b) ≡ length b
unfolding sealed
long n b = if_both (λ (c : List ℕ). length c ≡ length b) (ltb (length b) (n + 2)) refl (length-sets b n (bytes_of 2 (crc_of (take n b))))

sum_held : (number n : ℕ) (b : List ℕ) → Held (length (sealed n b)) (frame_action false number (length b) n)
sum_held number n b =
    let l = long n b in
    if_either (Held (length (sealed n b))) (ltb (length b) (n + 2)) _ _ (λ q. tt) (λ q. let h = ltb-false (length b) (n + 2) q in omega arith)

module _ (number rest : ℕ) (behind bytes : List ℕ) where
  same : length (read_to behind bytes) ≡ length bytes
  same = length-sets bytes 0 (hex_of (length bytes) behind).bytes

  by_run : (whole : Bool) (x : Result ℕ HexError) → (hex_of (length bytes) behind).run ≡ x
      → Held (length (frame_bytes whole x (read_to behind bytes))) (on_ok (run_read rest x) (frame_action whole number (length bytes)))
  by_run true (Ok n) e = let h = run_within (length bytes) behind _ (Ok n) refl e in let l = same in omega arith
  by_run false (Ok n) e =
      let b = read_to behind bytes in
      subst (λ (m : ℕ). Held (length (sealed n b)) (frame_action false number m n)) same (sum_held number n b)
  by_run whole (Err (Bad i)) e = tt
  by_run whole (Err (Odd i)) e = tt
  by_run whole (Err Full) e = tt

  framed_held : (whole : Bool) → Held (length (framed_bytes whole behind bytes)) (framed_action number whole rest behind (length bytes))
  unfolding framed_action framed_bytes
  framed_held whole = by_run whole (hex_of (length bytes) behind).run refl

abbrev EffectHeld : Effect → Type 0
EffectHeld e = Held (length e.bytes) e.action

draws_held : (line : List ℕ) (rest : ℕ) (draws bytes : List ℕ) → EffectHeld (draws_effect line rest draws bytes)
unfolding draws_effect drawn_action
draws_held line rest draws bytes =
    if_both EffectHeld (next_is line rest (ascii "random")) (ended_held _ line (word_from line rest).to act.Random tt)
    (on_held _ (run_read rest (hex_of (length bytes) (drop rest line)).run) (λ _. Ok act.Nothing) (λ x e. tt))

-- a command's frame is at the front of the buffer
abbrev SentHeld : Sent → Type 0
SentHeld x = Held (length x.bytes) x.action

module _ (c : Command) (uid d bytes : List ℕ) where
  refused_held : (room n : ℕ) → Held room (sent_action c (record { number = n; length = 0 }))
  unfolding sent_action
  refused_held room n = if_both (Held room) (eqb n 0) (omega arith) (if_both (Held room) (eqb n 7) tt tt)

  sent_held : SentHeld (sent c uid d bytes)
  unfolding sent written_of out_of sent_action
  sent_held = by (eqb (refusal_of c (length d) (length bytes)) 0)
    where
      by : (t : Bool)
          → Held (length (if t then at_front (encode c uid d) bytes else bytes))
          (sent_action c
          (if t then record { number = 0; length = length (encode c uid d) }
          else record { number = refusal_of c (length d) (length bytes); length = 0 }))
      by true = let l = length-append (encode c uid d) (drop (length (encode c uid d)) bytes) in omega arith
      by false = refused_held (length bytes) (refusal_of c (length d) (length bytes))

by_data : (r : Result ℕ Trouble) (c : Command) (uid d bytes : List ℕ) → SentHeld (sent_by r c uid d bytes)
unfolding sent_by
by_data (Ok n) c uid d bytes = sent_held c uid d bytes
by_data (Err trouble) c uid d bytes = tt

asked_held : (x : Result Asked Trouble) (line bytes : List ℕ) → SentHeld (asked_by x line bytes)
unfolding asked_by sent_from
asked_held (Ok a) line bytes = by_data (data_from least line a.at).read a.command a.uid (data_from least line a.at).bytes bytes
asked_held (Err trouble) line bytes = tt

command_held : (line bytes : List ℕ) → SentHeld (command_of line bytes)
unfolding command_of
command_held line bytes = asked_held (line_asked line) line bytes

effect_held : (w : Keyword) (line : List ℕ) (rest : ℕ) (behind draws bytes : List ℕ) → EffectHeld (effect_by w line rest behind draws bytes)
effect_held w.Empty line rest behind draws bytes = tt
effect_held w.Comment line rest behind draws bytes = tt
effect_held w.Off line rest behind draws bytes = ended_held (length bytes) line rest (act.Play 1 0) (omega arith)
effect_held w.On line rest behind draws bytes = ended_held (length bytes) line rest (act.Play 2 0) (omega arith)
effect_held w.Eof line rest behind draws bytes = ended_held (length bytes) line rest (act.Play 4 0) (omega arith)
effect_held w.Label line rest behind draws bytes = framed_held 3 rest behind bytes true
effect_held w.LabelSeal line rest behind draws bytes = framed_held 3 rest behind bytes false
effect_held w.Chip line rest behind draws bytes = framed_held 5 rest behind bytes true
effect_held w.ChipSeal line rest behind draws bytes = framed_held 5 rest behind bytes false
effect_held w.Draws line rest behind draws bytes = draws_held line rest draws bytes
effect_held w.Unknown line rest behind draws bytes = command_held line bytes

pub frame_inside : (line draws bytes bytes₁ : List ℕ) (r : Answer) (number n : ℕ) → r ≡ (effect_of line draws bytes).action
    → bytes₁ ≡ (effect_of line draws bytes).bytes → r ≡ Ok (act.Play number n) → n ≤ length bytes₁
unfolding effect_of
frame_inside line draws bytes bytes₁ r number n e f g =
    let x = first_word line in
    let h = effect_held x.word line x.rest (drop x.rest line) draws bytes in
    let i = subst (Held (length (effect_of line draws bytes).bytes)) (sym e ∙ g) h in
    rw f i
