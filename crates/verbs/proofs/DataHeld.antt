-- For callers: the bytes read are at the front of the buffer. Assumes nothing.
use Rattle.std.proofs.Common.{◌≡◌, ℕ, ◌+◌, ◌≤◌, eqb, ltb, leb, List, [], length, get_or, take, sym, refl, ◌∙◌, arith, ltb-false, Result, Ok, Err}
use Rattle.frame.proofs.Bools.{if_either, if_both}
use Rattle.frame.proofs.Stores.{part_on}
use Rattle.text.specs.Runs.{hex_of}
use Rattle.text.specs.declared.hex.HexError.{HexError}
use Rattle.text.proofs.RunsWithin.{run_within}
use Rattle.verbs.specs.declared.trouble.Trouble.{Trouble}
use Rattle.verbs.specs.declared.trouble.What.TheVariants as w
use Rattle.verbs.specs.Tokens.{span, text_of, rest_of, find_in}
use Rattle.verbs.specs.Pieces.{ended}
use Rattle.verbs.specs.Data.{place_of, hex_by, where_fine, DataSaid, Said, said, copied, quoted_to, quoted, hexed, data_from}

-- what was got are the bytes, and there is room for them
abbrev Held : ℕ → DataSaid → Type 0
Held room x = (n : ℕ) → x.read ≡ Ok n → (n ≡ length x.bytes) × (n ≤ room)

same_Ok : (m n : ℕ) → ◌≡◌ {A = Result ℕ Trouble} (Ok m) (Ok n) → m ≡ n
same_Ok m n e = cc

wrong_held : (room : ℕ) (trouble : Trouble) → Held room (said (Err trouble) [])
wrong_held room trouble n e = cc

fine_held : (room : ℕ) (x : DataSaid) (r : Result Unit Trouble) → Held room x → Held room (where_fine r x)
fine_held room x (Ok fine) h = h
fine_held room x (Err trouble) h = wrong_held room trouble

module _ (room : ℕ) where
  copied_held : (text : List ℕ) → Held room (copied room text)
  unfolding copied
  copied_held text =
      if_either (Held room) (ltb room (length text)) _ _ (λ q. wrong_held room _)
      (λ q n e. let m = same_Ok (length text) n e in let h = ltb-false room (length text) q in (sym m, omega arith))

  module _ (line : List ℕ) where
    to_held : (from end : ℕ) → Held room (quoted_to room line from end)
    unfolding quoted_to
    to_held from end =
        if_both (Held room) (leb (length line) end) (wrong_held room _)
        (fine_held room _ (ended line (place_of end 1) w.End) (copied_held (text_of line (span from end))))

    by_run : (at : ℕ) (r : Result ℕ HexError) → r ≡ (hex_of room (rest_of line at)).run → Held room (said (hex_by r at) (hex_of room (rest_of line at)).bytes)
    by_run at (Ok m) f n e =
        let h = run_within room (rest_of line at) (Ok m) (Ok m) f refl in
        let g = same_Ok m n e in
        (sym g ∙ h.0, omega arith)
    by_run at (Err x) f n e = cc

    data_held : (at : ℕ) → Held room (data_from room line at)
    unfolding data_from quoted hexed
    data_held at =
        if_both (Held room) (eqb (get_or line at 0) 34) (to_held (place_of at 1) (find_in line (place_of at 1) 34))
        (by_run at (hex_of room (rest_of line at)).run refl)

-- of a buffer that they were read to
module _ (line : List ℕ) (at : ℕ) (old : List ℕ) {r : Result ℕ Trouble} {new : List ℕ}
    (h : Said (data_from (length old) line at) old r new) (n : ℕ) (e : r ≡ Ok n) where
  held : (n ≡ length (data_from (length old) line at).bytes) × (n ≤ length old)
  held = data_held (length old) line at n (sym h.tells ∙ e)

  pub data_front : take n new ≡ (data_from (length old) line at).bytes
  data_front =
      let x = (data_from (length old) line at).bytes in
      let k = held in
      let z : 0 + length x ≤ length old = omega arith in
      rw (h.leaves, k.0) (part_on old x 0 z)
