-- What is said to be made is well-formed, and two replies are equal. Assumes nothing.
use Rattle.std.proofs.Common.{◌≡◌, ◌≤◌, ℕ, not, ltb, List, length, take, sym, refl, ◌∙◌, ltb-false, Result, Ok, Err}
use Rattle.frame.proofs.Bools.{if_either, if_both}
use Rattle.frame.specs.Judge.{Verdict}
use Rattle.rack.specs.File.{verdict_of}
use Rattle.make.specs.declared.lines.Maker.{Maker}
use Rattle.make.specs.declared.lines.Stop.{Stop}
use Rattle.make.specs.Lines.{lines_of, tags_in}
use Rattle.make.specs.Tags.{Step, Taken, fits, closed_maker, take_lines}
use Rattle.make.specs.Made.{Made, first_of, laid_out, by_verdict, judged, Making, finished_by, finished, made_by, making_of, Makes, Fits}

by_fits : (out : List ℕ) (n : ℕ) → n ≤ 65536 → (v : Verdict) → verdict_of (take n out) ≡ v → Fits (by_verdict v n) out
by_fits out n h (Ok u) e = (h, e)
by_fits out n h (Err offence) e = tt

judged_fits : (out : List ℕ) (n : ℕ) → Fits (judged out n) out
unfolding judged
judged_fits out n =
    if_either (λ (r : Made). Fits r out) (ltb 65536 n) _ _ (λ q. tt)
    (λ q. if_both (λ (r : Made). Fits r out) (ltb (length out) n) tt (by_fits out n (ltb-false 65536 n q) (verdict_of (take n out)) refl))

abbrev Fine : Making → Type 0
Fine x = Fits x.made x.out

finished_fits : (r : Result Unit Stop) (m : Maker) (b out : List ℕ) → Fine (finished_by r m b out)
finished_fits (Ok u) m b out =
    if_both Fine (not m.begun) tt (judged_fits (laid_out m b out) (closed_maker m b).end)
finished_fits (Err s) m b out = tt

by_step : (s : Step) (b out : List ℕ) → Fine (made_by s b out)
unfolding finished
by_step (Ok m) b out = finished_fits (fits m b) m b out
by_step (Err s) b out = tt

making_fits : (text b out : List ℕ) → Fine (making_of text b out)
unfolding making_of
making_fits text b out =
    let t : Taken = take_lines (lines_of text) (first_of (tags_in (lines_of text))) b out in by_step t.step t.body t.out

module _ (text b out : List ℕ) {r : Made} {new : List ℕ} (e : Makes (making_of text b out) r new) where
  -- a rack given away is well-formed
  pub made_fits : Fits r new
  made_fits = rw (e.tells, e.lays) (making_fits text b out)

  pub one_making : {q : Made} {other : List ℕ} → Makes (making_of text b out) q other → (r ≡ q) × (new ≡ other)
  one_making f = (e.tells ∙ sym f.tells, e.lays ∙ sym f.lays)
