-- What is said of a number and a place, whatever they are. Assumes nothing.
use mathlib.Core.Path.{◌≡◌, refl, ap}
use mathlib.Core.Bool.{Bool, true, false}
use mathlib.Core.List.{List, ◌++◌}
use Prim.Native.Nat.{ℕ}
use Rattle.std.specs.Prelude.{eqb, if◌then◌else◌, Err}
use Rattle.frame.specs.declared.verdict.Rule.TheVariants.{Length, Head, Entry, Body, Behind}
use Rattle.rack.specs.Place.{entry_of, within_entry}
use Rattle.print.specs.Ascii.{ascii}
use Rattle.print.specs.Decimal.{decimal_text}
use Rattle.sheet.specs.Refusal.{head_words, entry_words, tag_words, held_words, rule_words, rule_of, offence_of, refusal_text}

-- 10 the file ends, 11 its first two bytes, 12 an entry, 13 a body, every other number what is behind them
abbrev pub number_words : List ℕ → ℕ → ℕ → List ℕ
number_words r number place =
    if eqb number 10 then ascii "the file ends here, in the middle of a rack"
    else if eqb number 11 then head_words place
    else if eqb number 12 then tag_words (entry_of place) ++ entry_words (within_entry place)
    else if eqb number 13 then held_words r place
    else ascii "bytes behind the last tag"

rule_numbered : (r : List ℕ) (number place : ℕ) → rule_words r (rule_of number) place ≡ number_words r number place
unfolding rule_of rule_words
rule_numbered r number place = go (eqb number 10) (eqb number 11) (eqb number 12) (eqb number 13)
  where
    go : (a b c d : Bool)
        → rule_words r (if a then Length else if b then Head else if c then Entry else if d then Body else Behind) place
        ≡ (if a then ascii "the file ends here, in the middle of a rack"
        else if b then head_words place
        else if c then tag_words (entry_of place) ++ entry_words (within_entry place)
        else if d then held_words r place
        else ascii "bytes behind the last tag")
    go true b c d = refl
    go false true c d = refl
    go false false true d = refl
    go false false false true = refl
    go false false false false = refl

pub refusal_numbered : (r : List ℕ) (number place : ℕ)
    → refusal_text r (Err (offence_of number place)) ≡ ascii "refused 1: byte " ++ (decimal_text place ++ (ascii ": " ++ number_words r number place))
unfolding refusal_text
refusal_numbered r number place =
    ap (λ (s : List ℕ). ascii "refused 1: byte " ++ (decimal_text place ++ (ascii ": " ++ s))) (rule_numbered r number place)
