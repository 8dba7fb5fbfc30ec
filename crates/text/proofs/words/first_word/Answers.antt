-- Behind the blanks stands nothing, a comment or a word. Assumes nothing.
use native.Mathlib.Omega.{arith}
use Prim.Native.Nat.{◌≤◌}
use lib.ListN.{length}
use Rattle.text.specs.Words.{is_blank, solid}
use Rattle.text.proofs.WordsLead.{lead_from}
use Rattle.text.proofs.WordsFirst.{word_none, word_comment, word_there}
use Rattle.text.proofs.words.first_word.Goals as goal
use Rattle.text.proofs.words.first_word.Goals.{After-skip_blanks-from}

-- the word starts within the line
inside : (c : After-skip_blanks-from) → c.skip_blanks-from.result ≤ length c.args.line.now
inside c =
    let k = lead_from is_blank c.args.line.now 0 (omega arith) in let e = c.skip_blanks-from.ensures in omega arith

pub returns-then-from-line : goal.returns-then-from-line
returns-then-from-line c = word_none c.args.line.now _ c.skip_blanks-from.ensures c.if-from-line.true

pub bounds-line-from : goal.bounds-line-from
bounds-line-from c = let k = inside (goal.at.bounds-line-from c).After-skip_blanks-from in let h = c.if-from-line.false in omega arith

pub returns-then-line-from-eq35 : goal.returns-then-line-from-eq35
returns-then-line-from-eq35 c = word_comment c.args.line.now _ c.skip_blanks-from.ensures c.if-from-line.false c.if-line-from-eq35.true

pub slice_bounds-named-end : goal.slice_bounds-named-end
slice_bounds-named-end c =
    let l = lead_from solid c.args.line.now c.skip_blanks-from.result (inside (goal.at.slice_bounds-named-end c).After-skip_blanks-from) in
    let f = c.word_end-to.ensures in
    omega arith

pub returns : goal.returns
returns c = word_there c.args.line.now _ c.skip_blanks-from.ensures _ _ c.if-from-line.false c.if-line-from-eq35.false c.word_end-to.ensures c.named-word.ensures

pub word_end-to-requires : goal.word_end-to-requires
word_end-to-requires c =
    inside (goal.at.word_end-to-requires c).After-skip_blanks-from
