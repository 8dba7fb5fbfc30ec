-- Each way out is a case of `by_row`.
-- Assumes nothing.
use mathlib.Core.Path.{sym, ◌∙◌}
use Rattle.request.proofs.LabelCases.{row_nobody, row_block, row_length, row_fits, row_option}
use Rattle.request.proofs.label.row_call.Goals as goal

pub returns-then-row : goal.returns-then-row
returns-then-row c = sym (row_block _ _ _ _ c.target_fits.ensures c.if-not-target_fits.false c.byte_at-first.ensures c.if-row.true)

pub returns-then-ps-row : goal.returns-then-ps-row
returns-then-ps-row c =
    c.fault.ensures
    ∙ sym
    (row_length _ _ _ _ c.target_fits.ensures c.if-not-target_fits.false c.byte_at-first.ensures c.if-row.false c.if-ps-row.true)

pub returns-then-not-option_fits : goal.returns-then-not-option_fits
returns-then-not-option_fits c =
    c.fault-then-not-option_fits.ensures
    ∙ sym
    (row_option _ _ _ _ c.target_fits.ensures c.if-not-target_fits.false c.byte_at-first.ensures c.if-row.false c.if-ps-row.false
    c.option_fits.ensures c.if-not-option_fits.true)

pub returns : goal.returns
returns c =
    sym
    (row_fits _ _ _ _ c.target_fits.ensures c.if-not-target_fits.false c.byte_at-first.ensures c.if-row.false c.if-ps-row.false
    c.option_fits.ensures c.if-not-option_fits.false c.byte_at-second.ensures)

pub returns-then-not-target_fits : goal.returns-then-not-target_fits
returns-then-not-target_fits c =
    sym (row_nobody _ _ _ _ c.target_fits.ensures c.if-not-target_fits.true)
