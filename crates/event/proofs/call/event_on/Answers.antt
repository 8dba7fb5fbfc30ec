-- Refused, or played: then by whether exactly one answered. Assumes nothing.
use Rattle.std.proofs.Common.{rules, ◌≡◌}
use Rattle.frame.specs.Number.{Bytes}
use Rattle.rack.specs.Tag.{carrying, aired}
use Rattle.event.proofs.EventOutcomes.{playable, event_is, rack_left, tellable, shows_refused, shows_silent, fits_told, shows_alone}
use Rattle.event.proofs.call.event_on.Goals as goal

pub returns-in-Err : goal.returns-in-Err
returns-in-Err c = let e = rw c.of.ensures at c.in-Err.ensures in rw c.refused.ensures (shows_refused _ _ _ _ _ c.in-Err.refusal e)

pub play-pass-requires-clause-draws_len : goal.play-pass-requires-clause-draws_len
play-pass-requires-clause-draws_len c =
    let may = playable _ _ _ _ (rw c.of.ensures at c.in_default.ensures) in
    may.drawn

pub of-requires-in-Some : goal.of-requires-in-Some
of-requires-in-Some c =
    let is = event_is _ _ _ _ c.hear-signal.ensures c.data_of.ensures in
    rack_left _ _ _ _ _ _ c.requires (search rules) (search rules) (search rules) is c.play-pass.ensures.rack_after

pub tell-requires : goal.tell-requires
tell-requires c =
    let may = playable _ _ _ _ (rw c.of.ensures at c.in_default.ensures) in
    let bytes : Bytes c.args.rack.now = search rules in
    let by = rw c.in-Some.is at c.play-pass.ensures.pass_of.alone in
    let x = c.play-pass.ensures.rack_after in
    rw c.of-in-Some.ensures
    (record {
      tellable = tellable _ _ _ c.requires _ _ _ by.1 x;
      room = fits_told _ _ _ c.requires _ _ _ by.1 x bytes may.space;
    })

pub returns-in-Some : goal.returns-in-Some
returns-in-Some c =
    let bytes : Bytes c.args.rack.now = search rules in
    let is : carrying c.hear-signal.result c.data_of.result.now ≡ aired c.args.number c.args.frame.now = event_is _ _ _ _ c.hear-signal.ensures c.data_of.ensures in
    let by = rw c.in-Some.is at c.play-pass.ensures.pass_of.alone in
    let t = rw c.of-in-Some.ensures at c.tell.ensures in
    let none = rw c.of.ensures at c.in_default.ensures in
    rw c.played.ensures (shows_alone _ _ _ _ _ none _ is _ _ c.play-pass.ensures.pass_of.count c.play-pass.ensures.rack_after bytes by.0 _ _ by.1 _ _ t.0 t.1)

pub returns-in-None : goal.returns-in-None
returns-in-None c =
    let is : carrying c.hear-signal.result c.data_of.result.now ≡ aired c.args.number c.args.frame.now = event_is _ _ _ _ c.hear-signal.ensures c.data_of.ensures in
    let alone = rw c.in-None.is at c.play-pass.ensures.pass_of.alone in
    let none = rw c.of.ensures at c.in_default.ensures in
    rw c.played-in-None.ensures (shows_silent _ _ _ _ _ none _ is _ _ c.play-pass.ensures.pass_of.count c.play-pass.ensures.rack_after alone)
