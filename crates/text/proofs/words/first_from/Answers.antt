-- Each way out, and each turn, is a law of WordsLead. Assumes nothing.
use Rattle.std.proofs.Common.{◌≡◌, ap, sym, ◌∙◌, ◌+◌, not, get_or, drop, arith}
use Rattle.text.specs.Words.{lead}
use Rattle.text.proofs.WordsLead.{lead_none, lead_stop, lead_go}
use Rattle.text.proofs.words.first_from.Goals as goal

pub returns-then-stops : goal.returns-then-stops
returns-then-stops g c p d =
    let s = c.args.s.now in
    let t = d (get_or s c.loop-i.i 0) (c.type_inv.s c.loop-i.i).fits c.stops.result c.stops.ensures in
    lead_stop (λ x. not (p x)) s c.loop-i.i _ (c.loop-i.invariant p d) c.loop-i-test.true (ap not (sym t ∙ c.if-stops.true))

pub loop-i-preserved : goal.loop-i-preserved
loop-i-preserved g c p d =
    let s = c.args.s.now in
    let t = d (get_or s c.loop-i.i 0) (c.type_inv.s c.loop-i.i).fits c.stops.result c.stops.ensures in
    lead_go (λ x. not (p x)) s c.loop-i.i _ (c.loop-i.invariant p d) c.loop-i-test.true (ap not (sym t ∙ c.if-stops.false))

pub returns : goal.returns
returns g c p d =
    let s = c.args.s.now in
    let e : c.loop-i.i ≡ c.args.from + lead (λ x. not (p x)) (drop c.args.from s) =
    lead_none (λ x. not (p x)) s c.loop-i.i _ (c.loop-i.invariant p d) c.loop-i-test.false in
    omega (arith, e)
