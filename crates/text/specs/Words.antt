-- Words of a line, parted by blanks: spaces and tabs. Assumes nothing.
use Rattle.std.specs.Char.{to_ascii_lowercase}
use Rattle.std.specs.Prelude.{Bool, true, false, not, ◌&&◌, ◌||◌, ◌≡◌, List, [], ◌∷◌, ℕ, suc, ◌+◌, ◌<◌, eqb, length, get_or, take, drop, if◌then◌else◌}
use Rattle.text.specs.declared.words.Keyword.{Keyword}
use Rattle.text.specs.declared.words.Keyword.TheVariants as w
use Rattle.text.specs.declared.words.FirstWord.{FirstWord}

unfoldable pub is_blank : ℕ → Bool
is_blank c = eqb c 32 || eqb c 9

abbrev pub solid : ℕ → Bool
solid c = not (is_blank c)

-- how many of the first bytes of a text pass a test
abbrev pub lead : (ℕ → Bool) → List ℕ → ℕ
lead p [] = 0
lead p (c ∷ s) = if p c then suc (lead p s) else 0

-- what answers is the answer of a test of bytes
abbrev pub Decides : (ℕ → Bool → Type 0) → (ℕ → Bool) → Type 0
Decides answers p = (c : ℕ) → c < 256 → (b : Bool) → answers c b → b ≡ p c

-- a capital as a small letter, anything else as it is
abbrev pub lowered : ℕ → ℕ
lowered c = to_ascii_lowercase c

-- a word is one that is given in small letters; its own may be of either case
abbrev pub same_word : List ℕ → List ℕ → Bool
same_word [] [] = true
same_word [] (b ∷ t) = false
same_word (a ∷ s) [] = false
same_word (a ∷ s) (b ∷ t) = eqb (lowered a) b && same_word s t

-- off, on, eof: words that take nothing
unfoldable pub bare_word : List ℕ → Keyword
bare_word s =
    if same_word s (111 ∷ 102 ∷ 102 ∷ []) then w.Off
    else if same_word s (111 ∷ 110 ∷ []) then w.On
    else if same_word s (101 ∷ 111 ∷ 102 ∷ []) then w.Eof
    else w.Unknown

-- label, label+, chip, chip+, draws: words that take bytes
unfoldable pub word_of : List ℕ → Keyword
word_of s =
    if same_word s (108 ∷ 97 ∷ 98 ∷ 101 ∷ 108 ∷ []) then w.Label
    else if same_word s (108 ∷ 97 ∷ 98 ∷ 101 ∷ 108 ∷ 43 ∷ []) then w.LabelSeal
    else if same_word s (99 ∷ 104 ∷ 105 ∷ 112 ∷ []) then w.Chip
    else if same_word s (99 ∷ 104 ∷ 105 ∷ 112 ∷ 43 ∷ []) then w.ChipSeal
    else if same_word s (100 ∷ 114 ∷ 97 ∷ 119 ∷ 115 ∷ []) then w.Draws
    else bare_word s

-- the word at place n of a line, which holds no blank, with what follows
unfoldable pub word_at : List ℕ → ℕ → FirstWord
word_at s n =
    if eqb n (length s) then record { word = w.Empty; rest = n }
    else if eqb (get_or s n 0) 35 then record { word = w.Comment; rest = length s }
    else record { word = word_of (take (lead solid (drop n s)) (drop n s)); rest = n + lead solid (drop n s) }

-- the first word of a line and the place behind it; a `#` opens a comment
unfoldable pub first_word : List ℕ → FirstWord
first_word s = word_at s (lead is_blank s)
