-- A rack that is not well-formed is refused; any other is played. Assumes nothing.
use Rattle.std.proofs.Common.{rules, ◌≡◌, sym, ◌∙◌}
use Rattle.frame.specs.Judge.{fine}
use Rattle.frame.specs.declared.refusal.Refusal.TheVariants.{Rack}
use Rattle.rack.proofs.FileVerdict.{rack_fine}
use Rattle.event.proofs.EventOutcomes.{gives_bad, shows_refused}
use Rattle.event.proofs.call.event.Goals as goal

pub returns-then-is_err : goal.returns-then-is_err
returns-then-is_err c = rw c.refused.ensures (shows_refused _ _ _ _ _ Rack (gives_bad _ _ _ _ (λ e. let f : c.judge.result ≡ fine = c.judge.ensures ∙ e in search rules)))

pub event_on-requires : goal.event_on-requires
event_on-requires c = let f : c.judge.result ≡ fine = search rules in rack_fine _ (sym c.judge.ensures ∙ f)
