-- What the digits from the place reached on say leads to the same end. Assumes nothing.
use Rattle.std.proofs.Common.{◌≡◌, drop}
use Rattle.verbs.specs.Tokens.{number_on, number_in}
use Rattle.verbs.proofs.tokens.number_in.Given as goal

abbrev pub invariant-loop-c : goal.invariant-loop-c
invariant-loop-c l = number_on (drop l.c-index l.word) l.n ≡ number_in l.word
