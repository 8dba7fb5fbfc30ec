-- Each way out, and each turn, is a law of RunsPlaces. Assumes nothing.
use Rattle.std.proofs.Common.{ℕ, ◌≡◌, ◌≤◌, arith, rules, ap, ◌∙◌}
use Rattle.std.specs.Prelude.{Ok, Err}
use Rattle.text.proofs.RunsPlaces.{reads_start, reads_end, passed_inside, reads_passed, reads_stop, reads_error, byte_room, reads_byte}
use Rattle.text.proofs.hex.read_bytes.Goals as goal

pub loop-at-init : goal.loop-at-init
loop-at-init c = reads_start _ _

pub overflow_add-at : goal.overflow_add-at
overflow_add-at c =
    let l = passed_inside _ _ _ _ _ c.loop-at.invariant c.loop-at-test.true _ c.passed_at-passed.ensures in
    omega arith

pub loop-at-preserved-then-passed-gt0 : goal.loop-at-preserved-then-passed-gt0
loop-at-preserved-then-passed-gt0 c = reads_passed _ _ _ _ _ c.loop-at.invariant c.loop-at-test.true _ c.passed_at-passed.ensures

none : {x : ℕ} → x ≤ 0 → x ≡ 0
none h = omega arith

pub returns-in_err-byte : goal.returns-in_err-byte
returns-in_err-byte c =
    let r =
    reads_error _ _ _ _ _ c.loop-at.invariant c.loop-at-test.true _ c.passed_at-passed.ensures (none c.if-passed-gt0.false) _ c.piece_at.ensures _
    c.in_err-byte.was in
    let e : c.from_residual.result ≡ Err c.in_err-byte.field-0.0 = search rules in
    record { value = e ∙ r.0; out_after = r.1; upper_bound = rw e tt }

pub returns-in_default : goal.returns-in_default
returns-in_default c =
    let r =
    reads_stop _ _ _ _ _ c.loop-at.invariant c.loop-at-test.true _ c.passed_at-passed.ensures (none c.if-passed-gt0.false) _ c.piece_at.ensures
    (c.in_ok-byte.was ∙ ap Ok c.in_default.is) in
    record { value = r.0; out_after = r.1; upper_bound = c.loop-at.invariant.few }

pub bounds-out-n : goal.bounds-out-n
bounds-out-n c =
    byte_room _ _ _ _ _ c.loop-at.invariant c.loop-at-test.true _ c.passed_at-passed.ensures (none c.if-passed-gt0.false) _ c.piece_at.ensures _
    (c.in_ok-byte.was ∙ ap Ok c.in-Some.is)

pub loop-at-preserved : goal.loop-at-preserved
loop-at-preserved c =
    reads_byte _ _ _ _ _ c.loop-at.invariant c.loop-at-test.true _ c.passed_at-passed.ensures (none c.if-passed-gt0.false) _ c.piece_at.ensures _
    (c.in_ok-byte.was ∙ ap Ok c.in-Some.is)

pub returns : goal.returns
returns c = let r = reads_end _ _ _ _ _ c.loop-at.invariant c.loop-at-test.false in record { value = r.0; out_after = r.1; upper_bound = c.loop-at.invariant.few }
