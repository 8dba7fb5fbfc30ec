-- The ways out of what a line asks. Assumes nothing.
use Rattle.std.proofs.Common.{◌≡◌, refl, ap, sym, ◌∙◌, Bool, true, false, List, ℕ, ◌+◌, ◌%◌, ◌^◌, ◌≤◌, ◌<◌, arith, length, take, drop, length-drop, lt-ltb, le-ltb, Result, Ok, Err}
use lib.Seq.{sets, length-sets}
use Rattle.frame.specs.Number.{bytes_of}
use Rattle.frame.specs.CheckSum.{crc_of}
use Rattle.frame.proofs.Bools.{if_true, if_false}
use Rattle.frame.proofs.Stores.{part_on}
use Rattle.text.proofs.RunsWithin.{Within, run_within}
use Rattle.text.specs.Words.{first_word}
use Rattle.text.specs.Runs.{hex_of}
use Rattle.text.specs.declared.words.Keyword.{Keyword}
use Rattle.text.specs.declared.words.FirstWord.{FirstWord}
use Rattle.text.specs.declared.hex.HexError.{HexError}
use Rattle.text.specs.declared.hex.HexError.TheVariants.{Bad, Odd, Full}
use Rattle.verbs.specs.declared.trouble.Trouble.{Trouble}
use Rattle.verbs.specs.declared.trouble.Trouble.TheVariants as t
use Rattle.verbs.specs.declared.trouble.What.{What}
use Rattle.verbs.specs.Trouble.{column_of}
use Rattle.verbs.specs.Data.{place_of, hex_trouble, hex_by, Said, hexed}
use Rattle.verbs.proofs.TokensWords.{rest_is}
use Rattle.script.specs.Commands.{Answer}
use Rattle.script.specs.declared.lines.Action.TheVariants as act
use Rattle.script.specs.Lines.{padded, run_read, read_to, frame_action, framed_action, sealed, frame_bytes, framed_bytes}
use Rattle.script.specs.Lines.{drawn_action, drawn_draws, Effect, effect_by, effect_of}

-- ---- a check sum added

module _ (number n : ℕ) (b : List ℕ) where
  pub sum_full : length b < n + 2 → (Err t.Full ≡ frame_action false number (length b) n) × (b ≡ sealed n b)
  unfolding sealed
  sum_full h = let e = lt-ltb (length b) (n + 2) h in (sym (if_true _ _ _ e), sym (if_true _ _ _ e))

  pub sum_done : {m : ℕ} {c : List ℕ} → n + 2 ≤ length b → (m ≡ n + 2) × (c ≡ sets b n (bytes_of 2 (crc_of (take n b))))
      → (Ok (act.Play number m) ≡ frame_action false number (length b) n) × (c ≡ sealed n b)
  unfolding sealed
  sum_done h f =
      let e = le-ltb (length b) (n + 2) h in
      (ap (λ (k : ℕ). Ok (act.Play number k)) f.0 ∙ sym (if_false _ _ _ e), f.1 ∙ sym (if_false _ _ _ e))

-- ---- words that take bytes

-- a place in the line is one below its end, and its column wraps nowhere
at_column : (rest i n : ℕ) (w : What) → rest + i + 1 ≤ n → n < 2 ^ 64 → t.Expected (column_of (place_of rest i)) w ≡ t.Expected (rest + i + 1) w
unfolding column_of place_of
at_column rest i n w h k = let e : ((rest + i) % 2 ^ 64 + 1) % 2 ^ 64 ≡ rest + i + 1 = omega arith in ap (λ (c : ℕ). t.Expected c w) e

told_as : (rest end n k room : ℕ) (x : Result ℕ HexError) → Within x k room end → rest + end ≤ n → n < 2 ^ 64 → hex_by x rest ≡ run_read rest x
unfolding hex_trouble
told_as rest end n k room (Ok m) h g l = refl
told_as rest end n k room (Err (Bad i)) h g l = ap Err (at_column rest i n _ (omega arith) l)
told_as rest end n k room (Err (Odd i)) h g l = ap Err (at_column rest i n _ (omega arith) l)
told_as rest end n k room (Err Full) h g l = refl

was_ok : (rest : ℕ) (x : Result ℕ HexError) (n : ℕ) → Ok n ≡ run_read rest x → x ≡ Ok n
was_ok rest (Ok m) n e = cc
was_ok rest (Err (Bad i)) n e = cc
was_ok rest (Err (Odd i)) n e = cc
was_ok rest (Err Full) n e = cc

was_err : (rest : ℕ) (x : Result ℕ HexError) (trouble : Trouble) → Err trouble ≡ run_read rest x → (e : HexError) × (x ≡ Err e)
was_err rest (Ok m) trouble e = cc
was_err rest (Err x) trouble e = (x, refl)

-- the line behind the word was read to the buffer: r is what is told of it, b the buffer then
module _ (line : List ℕ) (rest : ℕ) (bytes : List ℕ) {r : Result ℕ Trouble} {b : List ℕ}
    (within : rest ≤ length line) (short : length line < 2 ^ 64) (h : Said (hexed (length bytes) line rest) bytes r b) where
  -- the definitions speak of the text behind the word
  abbrev behind : List ℕ
  behind = drop rest line

  abbrev run : Result ℕ HexError
  run = (hex_of (length bytes) behind).run

  tells : r ≡ run_read rest run
  unfolding hexed
  tells =
      let l = length-drop rest line in
      h.tells
      ∙ ap (λ (u : List ℕ). hex_by (hex_of (length bytes) u).run rest) (rest_is line rest)
      ∙ told_as rest (length behind) (length line) (length (hex_of (length bytes) behind).bytes) (length bytes) run (run_within (length bytes) behind run run refl refl) (omega arith) short

  read : b ≡ read_to behind bytes
  unfolding hexed
  read = h.leaves ∙ ap (λ (u : List ℕ). read_to u bytes) (rest_is line rest)

  good : (n : ℕ) → r ≡ Ok n → run ≡ Ok n
  good n e = was_ok rest run n (sym e ∙ tells)

  module _ (number : ℕ) (whole : Bool) where
    abbrev Framed : Answer → List ℕ → Type 0
    Framed action c = (action ≡ framed_action number whole rest behind (length bytes)) × (c ≡ framed_bytes whole behind bytes)

    pub framed_err : (trouble : Trouble) → r ≡ Err trouble → Framed (Err trouble) b
    unfolding framed_action framed_bytes
    framed_err trouble e =
        let x = was_err rest run trouble (sym e ∙ tells) in
        (rw (sym tells ∙ e) refl, rw x.1 read)

    framed_ok : (n : ℕ) {action : Answer} {c : List ℕ} → r ≡ Ok n → action ≡ frame_action whole number (length bytes) n → c ≡ frame_bytes whole (Ok n) b
        → Framed action c
    unfolding framed_action framed_bytes
    framed_ok n e f g = (rw (sym tells ∙ e) f, rw (good n e) (g ∙ ap (frame_bytes whole (Ok n)) read))

    pub framed_whole : (n : ℕ) → r ≡ Ok n → whole ≡ true → Framed (Ok (act.Play number n)) b
    framed_whole n e o = framed_ok n e (rw o refl) (rw o refl)

    pub framed_summed : (n : ℕ) {action : Answer} {c : List ℕ} → r ≡ Ok n → whole ≡ false
        → action ≡ frame_action false number (length b) n → c ≡ sealed n b → Framed action c
    framed_summed n e o f g =
        let l = ap length read ∙ length-sets bytes 0 (hex_of (length bytes) behind).bytes in
        framed_ok n e (rw o (f ∙ ap (λ (m : ℕ). frame_action false number m n) l)) (rw o g)

  module _ (draws : List ℕ) where
    abbrev Drawn : Answer → List ℕ → Type 0
    Drawn action d = (action ≡ drawn_action rest behind (length bytes)) × ((d ≡ drawn_draws behind (length bytes) draws) × (b ≡ read_to behind bytes))

    pub drawn_err : (trouble : Trouble) → r ≡ Err trouble → Drawn (Err trouble) draws
    unfolding drawn_action drawn_draws
    drawn_err trouble e =
        let x = was_err rest run trouble (sym e ∙ tells) in
        (rw (sym tells ∙ e) refl, (rw x.1 refl, read))

    -- the first n bytes of the buffer are those read
    front : (n : ℕ) → r ≡ Ok n → take n b ≡ (hex_of (length bytes) behind).bytes
    front n e =
        let x = (hex_of (length bytes) behind).bytes in
        let w = run_within (length bytes) behind run (Ok n) refl (good n e) in
        let z : 0 + length x ≤ length bytes = omega arith in
        rw (read, w.0) (part_on bytes x 0 z)

    pub drawn_set : (n : ℕ) {d : List ℕ} → r ≡ Ok n → d ≡ padded (length draws) (take n b) → Drawn (Ok act.Nothing) d
    unfolding drawn_action drawn_draws
    drawn_set n e f = (rw (sym tells ∙ e) refl, (rw (good n e) (f ∙ ap (padded (length draws)) (front n e)), read))

-- ---- a line, by its first word x, which is w

abbrev pub effect_at : List ℕ → List ℕ → List ℕ → FirstWord → Keyword → Effect
effect_at line draws bytes x w = effect_by w line x.rest (drop x.rest line) draws bytes

module _ (line draws bytes : List ℕ) {x : FirstWord} (e : x ≡ first_word line) (w : Keyword) (h : x.word ≡ w) where
  by : effect_at line draws bytes x w ≡ effect_of line draws bytes
  unfolding effect_of
  by = ap (effect_at line draws bytes x) (sym h) ∙ ap (λ (y : FirstWord). effect_at line draws bytes y y.word) e

  pub line_asks : {action : Answer} {d b : List ℕ} → action ≡ (effect_at line draws bytes x w).action → d ≡ (effect_at line draws bytes x w).draws
      → b ≡ (effect_at line draws bytes x w).bytes
      → (action ≡ (effect_of line draws bytes).action) × ((d ≡ (effect_of line draws bytes).draws) × (b ≡ (effect_of line draws bytes).bytes))
  line_asks f g k = (
    f ∙ ap (λ (y : Effect). y.action) by,
    (g ∙ ap (λ (y : Effect). y.draws) by, k ∙ ap (λ (y : Effect). y.bytes) by),
  )
