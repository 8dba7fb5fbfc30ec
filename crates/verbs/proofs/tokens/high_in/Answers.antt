-- The bytes read are at the front of the buffer. Assumes nothing.
use Rattle.std.proofs.Common.{replicate, refl}
use Rattle.verbs.proofs.TokensHigh.{high_read}
use Rattle.verbs.proofs.tokens.high_in.Goals as goal

pub returns : goal.returns
returns c = high_read c.args.word.now (replicate 8 0) c.read_bytes.ensures.value c.read_bytes.ensures.out_after c.in_ok-count.ensures.value refl c.low_first-low.ensures
