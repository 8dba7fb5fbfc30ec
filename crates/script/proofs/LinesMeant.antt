-- A frame written behind its word is played as meant: the event has that frame, or it and its check sum. Assumes nothing.
use Rattle.std.specs.Prelude.{Ok}
use mathlib.Core.Path.{◌≡◌, refl, ap, sym, ◌∙◌}
use mathlib.Core.Bool.{Bool, true, false}
use mathlib.Core.List.{List, [], ◌∷◌, ◌++◌}
use Prim.Native.Nat.{ℕ, ◌+◌, ◌≤◌}
use native.Mathlib.Nat.{zero-add}
use native.Mathlib.Omega.{arith}
use borrow.Author.Tests.{le-ltb}
use lib.ListN.{length, take, drop}
use lib.Seq.{sets, length-sets, drop-append_seam}
use Rattle.frame.specs.Number.{Bytes, bytes_of}
use Rattle.frame.specs.CheckSum as frame
use Rattle.frame.proofs.Puts.{sets_append}
use Rattle.frame.proofs.Stores.{part_on}
use Rattle.text.specs.Words.{is_blank, solid, lead, word_of}
use Rattle.print.specs.Hex.{hex_text}
use Rattle.text.specs.Runs.{HexRead, hex_of}
use Rattle.text.specs.declared.words.FirstWord.{FirstWord}
use Rattle.text.proofs.WordsFirst.{word_read}
use Rattle.text.proofs.RunsBack.{text_read}
use Rattle.verbs.specs.Trouble.{on_ok}
use Rattle.script.specs.declared.lines.Action.TheVariants as act
use Rattle.script.specs.Lines.{run_read, frame_action, framed_action, sealed, frame_bytes, framed_bytes, effect, effect_by, effect_of}

-- the hex of a frame parts a word from it
parted : (f : List ℕ) → lead solid (hex_text f) ≡ 0
unfolding is_blank
parted [] = refl
parted (b ∷ f) = refl

module _ (f draws bytes : List ℕ) (small : Bytes f) (fits : length f ≤ length bytes) where
  read : hex_of (length bytes) (hex_text f) ≡ record { bytes = f; run = Ok (length f) }
  read = text_read (length bytes) f small fits

  by_word : (c : ℕ) (s : List ℕ) → is_blank c ≡ false → (c ≡ 35 → ⊥) → lead solid (c ∷ s) ≡ length (c ∷ s)
      → effect_of ((c ∷ s) ++ hex_text f) draws bytes ≡ effect_by (word_of (c ∷ s)) ((c ∷ s) ++ hex_text f) (length (c ∷ s)) (hex_text f) draws bytes
  unfolding effect_of
  by_word c s b h l =
      ap (λ (x : FirstWord). effect_by x.word ((c ∷ s) ++ hex_text f) x.rest (drop x.rest ((c ∷ s) ++ hex_text f)) draws bytes)
      (word_read c s (hex_text f) b h l (parted f))
      ∙ ap (λ (u : List ℕ). effect_by (word_of (c ∷ s)) ((c ∷ s) ++ hex_text f) (length (c ∷ s)) u draws bytes) (drop-append_seam (c ∷ s) (hex_text f))

  framed : (number rest : ℕ) (whole : Bool)
      → effect (framed_action number whole rest (hex_text f) (length bytes)) draws (framed_bytes whole (hex_text f) bytes)
      ≡ effect (frame_action whole number (length bytes) (length f)) draws (frame_bytes whole (Ok (length f)) (sets bytes 0 f))
  unfolding framed_action framed_bytes
  framed number rest whole =
      let does = frame_action whole number (length bytes) in
      ap (λ (x : HexRead). effect (on_ok (run_read rest x.run) does) draws (frame_bytes whole x.run (sets bytes 0 x.bytes))) read

  -- "label" and "chip"
  pub label_line : effect_of ((108 ∷ 97 ∷ 98 ∷ 101 ∷ 108 ∷ []) ++ hex_text f) draws bytes ≡ effect (Ok (act.Play 3 (length f))) draws (sets bytes 0 f)
  unfolding is_blank word_of
  label_line = by_word 108 (97 ∷ 98 ∷ 101 ∷ 108 ∷ []) refl (λ q. omega arith) refl ∙ framed 3 5 true

  pub chip_line : effect_of ((99 ∷ 104 ∷ 105 ∷ 112 ∷ []) ++ hex_text f) draws bytes ≡ effect (Ok (act.Play 5 (length f))) draws (sets bytes 0 f)
  unfolding is_blank word_of
  chip_line = by_word 99 (104 ∷ 105 ∷ 112 ∷ []) refl (λ q. omega arith) refl ∙ framed 5 4 true

  -- "label+" and "chip+": where there is room for the check sum
  module _ (room : length f + 2 ≤ length bytes) where
    summed : sealed (length f) (sets bytes 0 f) ≡ sets bytes 0 (frame.framed f)
    unfolding sealed frame.framed_with
    summed =
        let l : length (sets bytes 0 f) ≡ length bytes = length-sets bytes 0 f in
        let t : take (length f) (sets bytes 0 f) ≡ f = part_on bytes f 0 (omega arith) in
        rw (le-ltb (length (sets bytes 0 f)) (length f + 2) (omega arith), t)
        (sym (sets_append f (bytes_of 2 (frame.crc_of f)) bytes 0 ∙ ap (λ (k : ℕ). sets (sets bytes 0 f) k (bytes_of 2 (frame.crc_of f))) (zero-add (length f))))

    added : (number : ℕ) → effect (frame_action false number (length bytes) (length f)) draws (frame_bytes false (Ok (length f)) (sets bytes 0 f))
        ≡ effect (Ok (act.Play number (length f + 2))) draws (sets bytes 0 (frame.framed f))
    added number = rw (le-ltb (length bytes) (length f + 2) room) (ap (effect (Ok (act.Play number (length f + 2))) draws) summed)

    pub label_sum_line : effect_of ((108 ∷ 97 ∷ 98 ∷ 101 ∷ 108 ∷ 43 ∷ []) ++ hex_text f) draws bytes
        ≡ effect (Ok (act.Play 3 (length f + 2))) draws (sets bytes 0 (frame.framed f))
    unfolding is_blank word_of
    label_sum_line = by_word 108 (97 ∷ 98 ∷ 101 ∷ 108 ∷ 43 ∷ []) refl (λ q. omega arith) refl ∙ framed 3 6 false ∙ added 3

    pub chip_sum_line : effect_of ((99 ∷ 104 ∷ 105 ∷ 112 ∷ 43 ∷ []) ++ hex_text f) draws bytes
        ≡ effect (Ok (act.Play 5 (length f + 2))) draws (sets bytes 0 (frame.framed f))
    unfolding is_blank word_of
    chip_sum_line = by_word 99 (104 ∷ 105 ∷ 112 ∷ 43 ∷ []) refl (λ q. omega arith) refl ∙ framed 5 5 false ∙ added 5
