use Rattle.std.proofs.Common.{◌≡◌, ◌∙◌}
use borrow.Author.Rules.{rules}
use Rattle.rack.proofs.PlaceHeld.{walking_start, walking_here, walking_on, walking_done, is_held}
use Rattle.rack.proofs.place.holder.Goals as goal

pub loop-i-init : goal.loop-i-init
loop-i-init c = walking_start _ _ (c.from-n.ensures ∙ c.byte_at.ensures) (search rules) c.entry_of-at.ensures

pub returns-then-place-next : goal.returns-then-place-next
returns-then-place-next c = is_held (walking_here c.loop-i.invariant c.length_at.ensures.0 (search rules) (search rules)) c.loop-i.invariant.starts c.as_held.ensures

pub loop-i-preserved : goal.loop-i-preserved
loop-i-preserved c = walking_on c.loop-i.invariant c.length_at.ensures.0 (search rules) (search rules) (search rules)

pub returns : goal.returns
returns c =
    let n : c.from-n.result ≡ c.loop-i.i = search rules in
    is_held (walking_done c.loop-i.invariant (search rules)) c.loop-i.invariant.starts (rw n at c.as_held-2.ensures)
