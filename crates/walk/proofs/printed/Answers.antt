-- The list has room for as many labels as the walk lists, and 1,117 bytes for a line of each. Assumes nothing.
use Rattle.std.proofs.Common.{refl, rules, arith}
use Rattle.walk.proofs.WalkTextPrinted.{few_labels, printed_laid, printed_all}
use Rattle.walk.proofs.printed.Goals as goal

pub put_walk-requires : goal.put_walk-requires
put_walk-requires c =
    let l = few_labels c.walk-walked.result c.walk-walked.ensures.report c.walk-walked.ensures.promised in
    let k = c.walk-walked.auto.list in
    omega arith

pub returns-clause-laid : goal.returns-clause-laid
returns-clause-laid c =
    let p = rw c.new-line.ensures at c.put_walk.ensures in
    printed_laid _ _ _ c.walk-walked.ensures.report c.walk-walked.ensures.written p

pub returns-clause-whole : goal.returns-clause-whole
returns-clause-whole c h =
    let l = few_labels c.walk-walked.result c.walk-walked.ensures.report c.walk-walked.ensures.promised in
    let k = c.walk-walked.auto.list in
    let p = rw c.new-line.ensures at c.put_walk.ensures in
    printed_all _ _ _ c.walk-walked.ensures.report c.walk-walked.ensures.written (search rules) (search rules) (omega arith) (omega arith) refl h p
