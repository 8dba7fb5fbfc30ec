use Rattle.std.proofs.Common.{refl, arith}
use Rattle.frame.specs.CheckSum.{crc_run}
use Rattle.frame.proofs.CheckSumRegister.{run_pair, run_pairs, run_last}
use Rattle.frame.proofs.check_sum.run_wide.Goals as goal

pub loop-pair-init : goal.loop-pair-init
unfolding crc_run
loop-pair-init c = (refl, c.requires)

pub loop-pair-preserved : goal.loop-pair-preserved
loop-pair-preserved c =
    let l = c.loop-pair in
    let e = c.as_chunks.ensures in
    let r = c.two_bytes-r.ensures in
    (run_pair _ c.args.s.now l.pair-index (λ i. (c.type_inv.s i).fits) e.front l.invariant.0 r.0 (omega arith), r.1)

pub returns-in-len1 : goal.returns-in-len1
returns-in-len1 c =
    let l = c.loop-pair in
    let e = c.as_chunks.ensures in
    let o = c.one_byte.ensures in
    (run_last _ c.args.s.now l.pair-index e.back (omega arith) l.invariant.0 (omega arith) (omega arith) o.0, o.1)

pub returns-in_default : goal.returns-in_default
returns-in_default c =
    let l = c.loop-pair in
    (run_pairs _ c.args.s.now l.pair-index l.invariant.0 (omega arith) (omega arith), l.invariant.1)
