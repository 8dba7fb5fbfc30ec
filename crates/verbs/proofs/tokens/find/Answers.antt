-- What `position` finds is where the lead ends. Assumes nothing.
use Rattle.std.proofs.Common.{◌≡◌, tests, rules, arith, sym, ◌∙◌}
use Rattle.std.proofs.lemmas.Iterator.{IsFirst-from_position, YieldsList-from_slice}
use Rattle.text.specs.Words.{lead}
use Rattle.verbs.specs.Tokens.{another}
use Rattle.verbs.proofs.TokensWords.{lead_first, find_is, find_fits}
use Rattle.verbs.proofs.tokens.find.Goals as goal

found : (c : goal.After-unwrap_or) → lead (another c.args.b) c.rest_of-rest.result.now ≡ c.unwrap_or.result
found c =
    lead_first _ _ _
    (IsFirst-from_position _ _ _ (λ x. x ≡ c.args.b) (λ x. x ≡ c.args.b → ⊥) c.position.ensures.ran (YieldsList-from_slice _ c.iter.ensures.rest) (λ x q k.
    search (rules, tests)) (λ x q k. search (rules, tests)))
    ∙ sym c.unwrap_or.ensures

pub overflow_add-result : goal.overflow_add-result
overflow_add-result c =
    let e = rw c.rest_of-rest.ensures at (found c) in
    let h = find_fits _ _ _ e in
    omega arith

pub returns : goal.returns
returns c =
    let e = rw c.rest_of-rest.ensures at (found c) in
    find_is _ _ _ e
