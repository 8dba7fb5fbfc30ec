-- Each way out is a law of LinesNext. Assumes nothing.
use Rattle.text.proofs.LinesPlaces.{newline_found, newline_none}
use Rattle.text.proofs.LinesNext.{next_done, next_short, next_crossed, next_line, next_more}
use Rattle.text.proofs.lines.next.Goals as goal
use Rattle.text.proofs.lines.next.Goals.{then-buf-end-via-then-buf-end, then-buf-end-via-else-buf-end+then-end-start}

pub returns-in_default-clause-follows : goal.returns-in_default-clause-follows
returns-in_default-clause-follows g c = next_done c.args.s c.args.buf.now c.in_default.is c.no_line.ensures

pub returns-then-buf-end-clause-follows : goal.returns-then-buf-end-clause-follows
returns-then-buf-end-clause-follows g c =
    let a = c.args in
    elim c.then-buf-end.branch [
      | then-buf-end-via-then-buf-end w ↦ next_short a.s a.buf.now c.in-Holding.is w.if-buf-end.true c.ended.ensures c.no_line-then-buf-end.ensures
      | then-buf-end-via-else-buf-end+then-end-start w ↦
          next_crossed a.s a.buf.now c.in-Holding.is w.if-buf-end.false w.if-end-start.true c.ended.ensures c.no_line-then-buf-end.ensures
    ]

pub returns-in-Some-clause-follows : goal.returns-in-Some-clause-follows
returns-in-Some-clause-follows g c =
    let a = c.args in
    let h = c.in-Holding in
    next_line a.s a.buf.now h.is c.if-buf-end.false c.if-end-start.false
    (newline_found a.buf.now h.start h.end c.if-end-start.false c.if-buf-end.false _ c.newline.ensures _ c.in-Some.is) c.line.ensures.value

pub returns-in-None-clause-follows : goal.returns-in-None-clause-follows
returns-in-None-clause-follows g c =
    let a = c.args in
    let h = c.in-Holding in
    next_more a.s a.buf.now h.is c.if-buf-end.false c.if-end-start.false
    (newline_none a.buf.now h.start h.end c.if-end-start.false c.if-buf-end.false _ c.newline.ensures c.in-None.is) c.to_front-n.ensures.value
    c.to_front-n.ensures.buf_after c.fill.ensures.brought
