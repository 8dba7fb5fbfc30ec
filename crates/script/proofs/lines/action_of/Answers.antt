-- Each word's arm is the definition's (`line_asks`). Assumes nothing.
use Prim.Native.Nat.{◌≤◌}
use Rattle.script.proofs.LinesActions.{line_asks}
use Rattle.text.proofs.WordsFirst.{word_inside}
use Rattle.text.specs.declared.words.Keyword.TheVariants as w
use lib.ListN.{length}
use mathlib.Core.Path.{refl}
use mathlib.Core.Logic.{⊎_elim}
use Rattle.script.proofs.lines.action_of.Goals as goal

pub framed-requires : goal.framed-requires
framed-requires c =
    let inside : c.first_word-first.result.rest ≤ length c.args.line.now = word_inside c.args.line.now _ c.first_word-first.ensures in
    inside

pub framed-requires-in-LabelSeal : goal.framed-requires-in-LabelSeal
framed-requires-in-LabelSeal c =
    let inside : c.first_word-first.result.rest ≤ length c.args.line.now = word_inside c.args.line.now _ c.first_word-first.ensures in
    inside

pub framed-requires-in-Chip : goal.framed-requires-in-Chip
framed-requires-in-Chip c =
    let inside : c.first_word-first.result.rest ≤ length c.args.line.now = word_inside c.args.line.now _ c.first_word-first.ensures in
    inside

pub framed-requires-in-ChipSeal : goal.framed-requires-in-ChipSeal
framed-requires-in-ChipSeal c =
    let inside : c.first_word-first.result.rest ≤ length c.args.line.now = word_inside c.args.line.now _ c.first_word-first.ensures in
    inside

pub drawn_or_random-requires : goal.drawn_or_random-requires
drawn_or_random-requires c =
    let inside : c.first_word-first.result.rest ≤ length c.args.line.now = word_inside c.args.line.now _ c.first_word-first.ensures in
    inside

pub returns-in-Empty : goal.returns-in-Empty
returns-in-Empty c =
    let a = c.args in
    let e = c.first_word-first.ensures in
    let r =
    ⊎_elim (λ h. line_asks a.line.now a.draws.now a.bytes.now e w.Empty h refl refl refl)
    (λ h. line_asks a.line.now a.draws.now a.bytes.now e w.Comment h refl refl refl)
    c.in-Empty.is in
    record { value = r.0; draws_after = r.1.0; bytes_after = r.1.1 }

pub returns-in-Off : goal.returns-in-Off
returns-in-Off c =
    let a = c.args in
    let r = line_asks a.line.now a.draws.now a.bytes.now c.first_word-first.ensures w.Off c.in-Off.is c.ended.ensures refl refl in
    record { value = r.0; draws_after = r.1.0; bytes_after = r.1.1 }

pub returns-in-On : goal.returns-in-On
returns-in-On c =
    let a = c.args in
    let r = line_asks a.line.now a.draws.now a.bytes.now c.first_word-first.ensures w.On c.in-On.is c.ended-in-On.ensures refl refl in
    record { value = r.0; draws_after = r.1.0; bytes_after = r.1.1 }

pub returns-in-Eof : goal.returns-in-Eof
returns-in-Eof c =
    let a = c.args in
    let r = line_asks a.line.now a.draws.now a.bytes.now c.first_word-first.ensures w.Eof c.in-Eof.is c.ended-in-Eof.ensures refl refl in
    record { value = r.0; draws_after = r.1.0; bytes_after = r.1.1 }

pub returns-in-Label : goal.returns-in-Label
returns-in-Label c =
    let a = c.args in
    let r = line_asks a.line.now a.draws.now a.bytes.now c.first_word-first.ensures w.Label c.in-Label.is
    c.framed.ensures.value refl c.framed.ensures.bytes_after in
    record { value = r.0; draws_after = r.1.0; bytes_after = r.1.1 }

pub returns-in-LabelSeal : goal.returns-in-LabelSeal
returns-in-LabelSeal c =
    let a = c.args in
    let r = line_asks a.line.now a.draws.now a.bytes.now c.first_word-first.ensures w.LabelSeal c.in-LabelSeal.is
    c.framed-in-LabelSeal.ensures.value refl c.framed-in-LabelSeal.ensures.bytes_after in
    record { value = r.0; draws_after = r.1.0; bytes_after = r.1.1 }

pub returns-in-Chip : goal.returns-in-Chip
returns-in-Chip c =
    let a = c.args in
    let r = line_asks a.line.now a.draws.now a.bytes.now c.first_word-first.ensures w.Chip c.in-Chip.is
    c.framed-in-Chip.ensures.value refl c.framed-in-Chip.ensures.bytes_after in
    record { value = r.0; draws_after = r.1.0; bytes_after = r.1.1 }

pub returns-in-ChipSeal : goal.returns-in-ChipSeal
returns-in-ChipSeal c =
    let a = c.args in
    let r = line_asks a.line.now a.draws.now a.bytes.now c.first_word-first.ensures w.ChipSeal c.in-ChipSeal.is
    c.framed-in-ChipSeal.ensures.value refl c.framed-in-ChipSeal.ensures.bytes_after in
    record { value = r.0; draws_after = r.1.0; bytes_after = r.1.1 }

pub returns-in-Draws : goal.returns-in-Draws
returns-in-Draws c =
    let a = c.args in
    let r = line_asks a.line.now a.draws.now a.bytes.now c.first_word-first.ensures w.Draws
    c.in-Draws.is
    c.drawn_or_random.ensures.value
    c.drawn_or_random.ensures.draws_after c.drawn_or_random.ensures.bytes_after in
    record { value = r.0; draws_after = r.1.0; bytes_after = r.1.1 }

pub returns-in-Unknown : goal.returns-in-Unknown
returns-in-Unknown c =
    let a = c.args in
    let r = line_asks a.line.now a.draws.now a.bytes.now c.first_word-first.ensures w.Unknown c.in-Unknown.is
    c.commanded.ensures.asks refl c.commanded.ensures.leaves in
    record { value = r.0; draws_after = r.1.0; bytes_after = r.1.1 }
