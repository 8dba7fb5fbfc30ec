-- Each way out is a law of LinesNext. Assumes nothing.
use Rattle.text.proofs.LinesNext.{hand_done, hand_short, hand_crossed, hand_told}
use Rattle.text.proofs.lines.at_hand.Goals as goal
use Rattle.text.proofs.lines.at_hand.Goals.{then-buf-end-via-then-buf-end, then-buf-end-via-else-buf-end+then-end-start}

pub returns-in_default : goal.returns-in_default
returns-in_default c = hand_done c.args.s c.args.buf.now c.in_default.is

pub returns-then-buf-end : goal.returns-then-buf-end
returns-then-buf-end c =
    let a = c.args in
    elim c.then-buf-end.branch [
      | then-buf-end-via-then-buf-end w ↦ hand_short a.s a.buf.now c.in-Holding.is w.if-buf-end.true
      | then-buf-end-via-else-buf-end+then-end-start w ↦ hand_crossed a.s a.buf.now c.in-Holding.is w.if-buf-end.false w.if-end-start.true
    ]

pub returns : goal.returns
returns c =
    let a = c.args in
    hand_told a.s a.buf.now c.in-Holding.is c.if-buf-end.false c.if-end-start.false _ c.newline.ensures _ c.is_some.ensures
