-- Each way out, and each turn, is a law of LinesBrought. Assumes nothing.
use Rattle.std.proofs.Common.{length, arith, ◌+◌, ◌-◌, refl, true, false}
use Rattle.text.proofs.LinesPlaces.{newline_found, newline_none, stopped_failed, stopped_fine}
use Rattle.text.proofs.LinesBrought.{reading_first, reading_read, read_within, reading_on, brought_line, brought_last, brought_long}
use borrow.Rule.Slice.PartMut.{put_mid}
use Rattle.text.proofs.lines.fill.Goals as goal

pub loop-end-init : goal.loop-end-init
loop-end-init g c = let a = c.args in reading_first a.n a.buf.now (omega arith)

pub returns-in_default-clause-brought : goal.returns-in_default-clause-brought
returns-in_default-clause-brought g c =
    let l = c.loop-end in
    brought_last false (reading_read (length l.buf - l.end) c.read_part.new.part l.invariant c.read_part.auto.part)
    (stopped_failed l.end c.ended.ensures false refl c.no_line.ensures)

pub returns-then-more-eq0-clause-brought : goal.returns-then-more-eq0-clause-brought
returns-then-more-eq0-clause-brought g c =
    let l = c.loop-end in
    brought_last true (reading_read (length l.buf - l.end) c.read_part.new.part l.invariant c.read_part.auto.part)
    (stopped_fine l.end true refl c.last.ensures.value)

pub returns-in-Some-newline-clause-brought : goal.returns-in-Some-newline-clause-brought
returns-in-Some-newline-clause-brought g c =
    let l = c.loop-end in
    let ys = c.read_part.new.part in
    let k = length l.buf - l.end in
    let room = read_within l.buf ys l.end l.invariant.within c.read_part.auto.part c.in-Some.ensures.0 in
    brought_line (reading_read k ys l.invariant c.read_part.auto.part) room (omega arith)
    (newline_found (put_mid l.end k l.buf ys) l.end (l.end + c.in-Some.more) (omega arith) room _ c.newline.ensures _ c.in-Some-newline.is)
    c.line.ensures.value

pub loop-end-preserved : goal.loop-end-preserved
loop-end-preserved g c =
    let l = c.loop-end in
    let ys = c.read_part.new.part in
    let k = length l.buf - l.end in
    let room = read_within l.buf ys l.end l.invariant.within c.read_part.auto.part c.in-Some.ensures.0 in
    reading_on (reading_read k ys l.invariant c.read_part.auto.part) room (omega arith)
    (newline_none (put_mid l.end k l.buf ys) l.end (l.end + c.in-Some.more) (omega arith) room _ c.newline.ensures c.in_default-newline.is)

pub returns-clause-brought : goal.returns-clause-brought
returns-clause-brought g c = brought_long c.pass.ensures.passed
