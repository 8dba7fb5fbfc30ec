-- Document 01, "Walk": what the program prints. Assumes nothing.
use Rattle.std.specs.Prelude.{List, [], ◌∷◌, ◌++◌, ℕ, zero, suc, eqb, take, drop, replicate, if◌then◌else◌}
use Rattle.inventory.specs.Walk.{walk_of}
use Rattle.inventory.specs.declared.walk.Walked.{Walked}
use Rattle.request.specs.declared.label.Family.{Family}
use Rattle.print.specs.Ascii.{ascii}
use Rattle.print.specs.Decimal.{number_line}
use Rattle.print.specs.Hex.{uid_text}

-- the UIDs of the first n labels of a list, eight bytes each: high byte first, capitals, a line each
abbrev pub uid_lines : ℕ → List ℕ → List ℕ
uid_lines zero list = []
uid_lines (suc n) list = uid_text (take 8 list) ++ (10 ∷ uid_lines n (drop 8 list))

-- `rounds` and the number, then the UIDs; or `refused` and the number
unfoldable pub walk_text : Walked → List ℕ → List ℕ
walk_text w list =
    if eqb w.number 0 then number_line (ascii "rounds ") w.rounds ++ uid_lines w.labels list
    else number_line (ascii "refused ") w.number

-- the walk with a family, and its list room for 64 labels
unfoldable pub printed : Family → List ℕ → List ℕ
printed family rack = let w = walk_of rack family (replicate 512 0) in walk_text w.report w.list
