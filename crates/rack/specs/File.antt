-- Document 01, "Rack file": what is read where, and the first offence in file order (the parts and places of document 02, P5). Assumes nothing.
use Rattle.std.specs.Prelude.{Bool, true, false, not, ◌&&◌, List, ◌++◌, ℕ, zero, suc, ◌+◌, ◌*◌, eqb, ltb, leb, length, get_or, take, if◌then◌else◌, Ok, Err}
use Rattle.frame.specs.Choose.{gather}
use Rattle.frame.specs.Number.{num, part}
use Rattle.frame.specs.Judge.{Verdict, fine, bad, or_else, first_of}
use Rattle.frame.specs.declared.verdict.Rule.TheVariants.{Length, Head, Entry, Behind}
use Rattle.label_body.specs.Body.{label_rules}
use Rattle.chip_body.specs.Body.{chip_rules}
pub use Rattle.rack.specs.declared.tag.Kind.{Kind}
pub use Rattle.rack.specs.declared.tag.Kind.TheVariants.{Label, Chip, Other}

-- ---- what stands where

-- byte 0: edition; byte 1: number of tags n
abbrev pub count_of : List ℕ → ℕ
count_of r = get_or r 1 0

-- then n entries of 8 bytes: kind (1 label, 2 chip), a zero, body length (2 bytes), body offset in the file (4 bytes)
abbrev pub entry_at : ℕ → ℕ
entry_at i = 2 + 8 * i

-- what the first byte of an entry names; no tag is of another kind
unfoldable pub kind_of : ℕ → Kind
kind_of n = if eqb n 1 then Label else if eqb n 2 then Chip else Other

abbrev pub kind_at : List ℕ → ℕ → Kind
kind_at r i = kind_of (get_or r (entry_at i) 0)

abbrev pub length_at : List ℕ → ℕ → ℕ
length_at r i = num (part (entry_at i + 2) 2 r)

abbrev pub offset_at : List ℕ → ℕ → ℕ
offset_at r i = num (part (entry_at i + 4) 4 r)

-- bodies in entry order, the first right after the contents, no gap
unfoldable pub start_of : List ℕ → ℕ → ℕ
start_of r zero = entry_at (count_of r)
start_of r (suc i) = start_of r i + length_at r i

abbrev pub body_at : List ℕ → ℕ → List ℕ
body_at r i = part (start_of r i) (length_at r i) r

abbrev pub contents : List ℕ → List ℕ
contents r = take (entry_at (count_of r)) r

-- the contents of r, then these bodies
unfoldable pub rebuilt : List ℕ → (ℕ → List ℕ) → List ℕ
rebuilt r bodies = contents r ++ gather (count_of r) bodies

-- ---- the first offence: the first two bytes, each entry, each body, the end

-- edition 1, at most 64 tags
unfoldable pub head_verdict : List ℕ → Verdict
head_verdict r =
    if ltb (length r) 2 then bad Length (length r)
    else if not (eqb (get_or r 0 0) 1) then bad Head 0
    else if ltb 64 (count_of r) then bad Head 1
    else fine

abbrev pub known : Kind → Bool
known Label = true
known Chip = true
known Other = false

-- a label's body has 34 to 8,480 bytes, a chip's 80
unfoldable pub length_fits : Kind → ℕ → Bool
length_fits Label len = leb 34 len && leb len 8480
length_fits Chip len = eqb len 80
length_fits Other len = false

-- kind, zero, length, at most 65,536 bytes, offset
unfoldable pub entry_verdict : List ℕ → ℕ → Verdict
entry_verdict r i =
    if ltb (length r) (entry_at i + 8) then bad Length (length r)
    else if not (known (kind_at r i)) then bad Entry (entry_at i)
    else if not (eqb (get_or r (entry_at i + 1) 0) 0) then bad Entry (entry_at i + 1)
    else if not (length_fits (kind_at r i) (length_at r i)) then bad Entry (entry_at i + 2)
    else if ltb 65536 (start_of r i + length_at r i) then bad Entry (entry_at i + 2)
    else if not (eqb (offset_at r i) (start_of r i)) then bad Entry (entry_at i + 4)
    else fine

-- the rules of a body, by its kind; places count from the body's start
unfoldable pub body_rules : Kind → List ℕ → Verdict
body_rules Label b = label_rules b
body_rules Chip b = chip_rules b
body_rules Other b = fine

-- the verdict on what starts at a place, as a verdict on the file
unfoldable pub moved : ℕ → Verdict → Verdict
moved at (Ok _) = fine
moved at (Err offence) = bad offence.rule (at + offence.place)

unfoldable pub body_verdict : List ℕ → ℕ → Verdict
body_verdict r i =
    if ltb (length r) (start_of r i + length_at r i) then bad Length (length r)
    else moved (start_of r i) (body_rules (kind_at r i) (body_at r i))

-- nothing after the last
unfoldable pub end_verdict : List ℕ → Verdict
end_verdict r = if ltb (start_of r (count_of r)) (length r) then bad Behind (start_of r (count_of r)) else fine

unfoldable pub verdict_of : List ℕ → Verdict
verdict_of r =
    or_else (head_verdict r)
    (or_else (first_of (count_of r) (entry_verdict r))
    (or_else (first_of (count_of r) (body_verdict r))
    (end_verdict r)))
