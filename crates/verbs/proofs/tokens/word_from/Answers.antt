-- Behind the blanks stands nothing, a comment or a word. Assumes nothing.
use Rattle.verbs.proofs.TokensWords.{word_out, word_starts, word_hash, word_there}
use Rattle.std.proofs.Common.{rules}
use Rattle.verbs.proofs.tokens.word_from.Goals as goal

pub returns-then-byte_at-eq35 : goal.returns-then-byte_at-eq35
returns-then-byte_at-eq35 c = word_hash _ _ (search rules) _ c.skip_blanks-at.ensures c.byte_at.ensures c.if-byte_at-eq35.true

pub word_end-to-requires : goal.word_end-to-requires
word_end-to-requires c = word_starts _ _ (search rules) _ c.skip_blanks-at.ensures

pub returns : goal.returns
returns c = word_there _ _ (search rules) _ c.skip_blanks-at.ensures c.byte_at.ensures c.if-byte_at-eq35.false c.word_end-to.ensures

pub returns-then-s-from : goal.returns-then-s-from
returns-then-s-from c =
    word_out _ _ (search rules)
