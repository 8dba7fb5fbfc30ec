-- Too short: nothing; else the UID and the call, as the calls ensure them.
-- Assumes nothing.
use Rattle.request.specs.Label.{addressed}
use borrow.Author.Tests.{le-ltb}
use Rattle.frame.proofs.Tests.{tests}
use Rattle.request.proofs.label.addressed_frame.Goals as goal

pub returns-then-f-lt12 : goal.returns-then-f-lt12
unfolding addressed
returns-then-f-lt12 c =
    search tests

pub returns : goal.returns
unfolding addressed
returns c =
    rw (le-ltb _ _ c.if-f-lt12.false, c.call_of-call.ensures, c.uid_at-uid.ensures)
