-- What an event line asks: its first word, and behind it hex, blanks or a comment; or a command. Assumes nothing.
use Rattle.std.specs.Prelude.{Bool, true, false, List, [], ◌∷◌, ℕ, zero, suc, ◌+◌, ltb, length, take, drop, if◌then◌else◌, Result, Ok, Err}
use Rattle.std.proofs.lemmas.List.Edits.{sets}
use Rattle.frame.specs.Number.{bytes_of}
use Rattle.frame.specs.CheckSum.{crc_of}
use Rattle.print.specs.Ascii.{ascii}
use Rattle.text.specs.Words.{first_word}
use Rattle.text.specs.Runs.{hex_of}
use Rattle.text.specs.declared.words.Keyword.{Keyword}
use Rattle.text.specs.declared.words.Keyword.TheVariants as w
use Rattle.text.specs.declared.hex.HexError.{HexError}
use Rattle.text.specs.declared.hex.HexError.TheVariants.{Bad, Odd, Full}
use Rattle.verbs.specs.declared.trouble.Trouble.{Trouble}
use Rattle.verbs.specs.declared.trouble.Trouble.TheVariants as t
use Rattle.verbs.specs.declared.trouble.What.TheVariants as what
use Rattle.verbs.specs.Tokens.{word_from}
use Rattle.verbs.specs.Trouble.{on_ok}
use Rattle.verbs.specs.Pieces.{ended, next_is}
use Rattle.script.specs.Commands.{Answer, command_of}
use Rattle.script.specs.declared.lines.Action.{Action}
use Rattle.script.specs.declared.lines.Action.TheVariants as act

-- ---- draws

-- the first k of some bytes, 00 where they are fewer
abbrev pub padded : ℕ → List ℕ → List ℕ
padded zero b = []
padded (suc k) [] = 0 ∷ padded k []
padded (suc k) (x ∷ b) = x ∷ padded k b

-- as many as a rack says it has tags, up to those at hand
unfoldable pub draws_for : ℕ → ℕ → ℕ
draws_for n most = if ltb most n then most else n

-- ---- what a word asks. `behind` is the text behind the word, which ends at place `rest`

-- what must end at a place, with nothing behind it
unfoldable pub ended_action : List ℕ → ℕ → Action → Answer
ended_action line at action = on_ok (ended line at what.End) (λ _. Ok action)

-- how many bytes are read, or what is wrong with a run of hex; columns count from 1
abbrev pub run_read : ℕ → Result ℕ HexError → Result ℕ Trouble
run_read rest (Ok n) = Ok n
run_read rest (Err (Bad i)) = Err (t.Expected (rest + i + 1) what.Digit)
run_read rest (Err (Odd i)) = Err (t.Expected (rest + i + 1) what.Pair)
run_read rest (Err Full) = Err t.Full

-- the buffer with the bytes read at its front
abbrev pub read_to : List ℕ → List ℕ → List ℕ
read_to behind bytes = sets bytes 0 (hex_of (length bytes) behind).bytes

-- an event with a frame, which is whole, or gets its check sum where there is room for it
abbrev pub frame_action : Bool → ℕ → ℕ → ℕ → Answer
frame_action true number room n = Ok (act.Play number n)
frame_action false number room n = if ltb room (n + 2) then Err t.Full else Ok (act.Play number (n + 2))

unfoldable pub framed_action : ℕ → Bool → ℕ → List ℕ → ℕ → Answer
framed_action number whole rest behind room = on_ok (run_read rest (hex_of room behind).run) (frame_action whole number room)

-- n bytes and their check sum
unfoldable pub sealed : ℕ → List ℕ → List ℕ
sealed n b = if ltb (length b) (n + 2) then b else sets b n (bytes_of 2 (crc_of (take n b)))

abbrev pub frame_bytes : Bool → Result ℕ HexError → List ℕ → List ℕ
frame_bytes whole (Ok n) b = if whole then b else sealed n b
frame_bytes whole (Err e) b = b

unfoldable pub framed_bytes : Bool → List ℕ → List ℕ → List ℕ
framed_bytes whole behind bytes = frame_bytes whole (hex_of (length bytes) behind).run (read_to behind bytes)

-- draws for what follows
unfoldable pub drawn_action : ℕ → List ℕ → ℕ → Answer
drawn_action rest behind room = on_ok (run_read rest (hex_of room behind).run) (λ _. Ok act.Nothing)

abbrev pub draws_by : Result ℕ HexError → List ℕ → List ℕ → List ℕ
draws_by (Ok n) read draws = padded (length draws) read
draws_by (Err e) read draws = draws

unfoldable pub drawn_draws : List ℕ → ℕ → List ℕ → List ℕ
drawn_draws behind room draws = draws_by (hex_of room behind).run (hex_of room behind).bytes draws

-- ---- a line

-- what comes of it: the action that it asks, the draws from now on, and the buffer that the bytes go to
pub record Effect : Type 0 where
  pub action : Answer
  pub draws : List ℕ
  pub bytes : List ℕ

abbrev pub effect : Answer → List ℕ → List ℕ → Effect
effect action draws bytes = record { action = action; draws = draws; bytes = bytes }

abbrev pub frame_effect : ℕ → Bool → ℕ → List ℕ → List ℕ → List ℕ → Effect
frame_effect number whole rest behind draws bytes = effect (framed_action number whole rest behind (length bytes)) draws (framed_bytes whole behind bytes)

-- draws, or `random`
unfoldable pub draws_effect : List ℕ → ℕ → List ℕ → List ℕ → Effect
draws_effect line rest draws bytes =
    let behind = drop rest line in
    if next_is line rest (ascii "random") then effect (ended_action line (word_from line rest).to act.Random) draws bytes
    else effect (drawn_action rest behind (length bytes)) (drawn_draws behind (length bytes) draws) (read_to behind bytes)

-- what is no event's word is a command's
abbrev pub command_effect : List ℕ → List ℕ → List ℕ → Effect
command_effect line draws bytes = let x = command_of line bytes in effect x.action draws x.bytes

abbrev pub effect_by : Keyword → List ℕ → ℕ → List ℕ → List ℕ → List ℕ → Effect
effect_by w.Empty line rest behind draws bytes = effect (Ok act.Nothing) draws bytes
effect_by w.Comment line rest behind draws bytes = effect (Ok act.Nothing) draws bytes
effect_by w.Off line rest behind draws bytes = effect (ended_action line rest (act.Play 1 0)) draws bytes
effect_by w.On line rest behind draws bytes = effect (ended_action line rest (act.Play 2 0)) draws bytes
effect_by w.Eof line rest behind draws bytes = effect (ended_action line rest (act.Play 4 0)) draws bytes
effect_by w.Label line rest behind draws bytes = frame_effect 3 true rest behind draws bytes
effect_by w.LabelSeal line rest behind draws bytes = frame_effect 3 false rest behind draws bytes
effect_by w.Chip line rest behind draws bytes = frame_effect 5 true rest behind draws bytes
effect_by w.ChipSeal line rest behind draws bytes = frame_effect 5 false rest behind draws bytes
effect_by w.Draws line rest behind draws bytes = draws_effect line rest draws bytes
effect_by w.Unknown line rest behind draws bytes = command_effect line draws bytes

unfoldable pub effect_of : List ℕ → List ℕ → List ℕ → Effect
effect_of line draws bytes = effect_by (first_word line).word line (first_word line).rest (drop (first_word line).rest line) draws bytes
