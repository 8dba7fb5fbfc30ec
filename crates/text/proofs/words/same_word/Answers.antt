-- Two words of one length are the same where each pair of letters is. Assumes nothing.
use Rattle.std.proofs.Common.{◌≡◌, ℕ, rules, tests, ◌∙◌, eqb}
use borrow.Author.Tests.{ne_eqb}
use Rattle.std.specs.List.{list_all, zip}
use Rattle.std.proofs.lemmas.Iterator.{YieldsList-from_slice, YieldsList-from_zip}
use Rattle.std.proofs.lemmas.Iterator.Search.{all_from_yields_List}
use Rattle.text.specs.Words.{lowered}
use Rattle.text.proofs.WordsSame.{other_length, same_zip}
use Rattle.text.proofs.words.same_word.Goals as goal

pub returns-then-a-b : goal.returns-then-a-b
returns-then-a-b c =
    let a = c.args in
    let e : c.all.result ≡ list_all (λ (p : ℕ × ℕ). eqb (lowered p.0) p.1) (zip a.a.now a.b.now) =
    all_from_yields_List (λ (p : ℕ × ℕ). eqb (lowered p.0) p.1) c.all.new.self _ c.all.result c.all.ensures.ran
    (YieldsList-from_zip (YieldsList-from_slice a.a.now (cc)) (YieldsList-from_slice a.b.now (cc))) (λ x b q k. search (rules, tests)) in
    e ∙ same_zip a.a.now a.b.now c.if-a-b.true

pub returns-else-a-b : goal.returns-else-a-b
returns-else-a-b c = let a = c.args in ne_eqb _ _ c.if-a-b.false ∙ other_length a.a.now a.b.now c.if-a-b.false
