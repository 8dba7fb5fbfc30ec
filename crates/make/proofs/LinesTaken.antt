-- A step along the lines of a text. Assumes nothing.
use Rattle.std.proofs.Common.{◌≡◌, ℕ, suc, ◌+◌, ◌-◌, ◌<◌, ◌≤◌, List, [], ◌∷◌, length, ap, ◌∙◌, arith, le-leb, if◌then◌else◌, Ok, Err}
use borrow.Author.Tests.{lt-leb}
use Rattle.verbs.specs.Tokens.{find_in}
use Rattle.verbs.specs.Data.{place_of}
use Rattle.make.specs.declared.lines.Maker.{Maker}
use Rattle.make.specs.declared.lines.Stop.{Stop}
use Rattle.make.specs.Lines.{Line, line_of, lines_from, opens_tag, tags_in}
use Rattle.make.specs.Tags.{Step, Taken, taken, Takes, take_next, take_lines}

-- a newline is not looked for before the place
pub find_on : (text : List ℕ) (at : ℕ) {to : ℕ} → to ≡ find_in text at 10 → at ≤ to
unfolding find_in
find_on text at e = omega arith

-- ---- the lines still to come, behind so many

pub lines_spent : (text : List ℕ) (at n : ℕ) → length text ≤ n → lines_from (length text - n) text at ≡ []
unfolding lines_from
lines_spent text at n h = let z : length text - n ≡ 0 = omega arith in rw z

module _ (text : List ℕ) (at n : ℕ) (h : n < length text) where
  next : length text - n ≡ suc (length text - (n + 1))
  next = omega arith

  pub lines_none : length text ≤ at → lines_from (length text - n) text at ≡ []
  unfolding lines_from
  lines_none l = ap (λ (k : ℕ). lines_from k text at) next ∙ rw (le-leb (length text) at l)

  pub lines_one : {to behind : ℕ} {line : List ℕ} → at < length text → to ≡ find_in text at 10 → line ≡ line_of text at to → behind ≡ place_of to 1
      → lines_from (length text - n) text at ≡ record { bytes = line; long = to - at } ∷ lines_from (length text - (n + 1)) text behind
  unfolding lines_from
  lines_one l e f g = ap (λ (k : ℕ). lines_from k text at) next ∙ rw (lt-leb (length text) at l, g, f, e)

-- ---- each is taken

pub takes_by : {x : Taken} {s : Step} {b out : List ℕ} → taken s b out ≡ x → Takes x s b out
takes_by e =
    record { tells = ap (λ (y : Taken). y.step) e; leaves = ap (λ (y : Taken). y.body) e; lays = ap (λ (y : Taken). y.out) e }

module _ (ls : List Line) (m : Maker) (b out : List ℕ) (x : Taken) (inv : take_lines ls m b out ≡ x) where
  pub take_none : ls ≡ [] → Takes x (Ok m) b out
  unfolding take_lines
  take_none e = takes_by (rw e at inv)

  module _ {line : List ℕ} {long : ℕ} {more : List Line} (e : ls ≡ record { bytes = line; long = long } ∷ more) {step : Step} {b' out' : List ℕ}
      (f : Takes (take_next m line long b out) step b' out') where
    pub take_one : {next : Maker} → step ≡ Ok next → take_lines more next b' out' ≡ x
    unfolding take_lines
    take_one g = rw (f.leaves, f.lays) (rw (e, ← f.tells, g) at inv)

    pub take_stop : {s : Stop} → step ≡ Err s → Takes x step b' out'
    unfolding take_lines
    take_stop g = takes_by (rw (f.leaves, f.lays, g) (rw (e, ← f.tells, g) at inv))

-- ---- those that open a tag are counted

module _ (ls : List Line) (n fin : ℕ) (inv : n + tags_in ls ≡ fin) where
  pub count_none : ls ≡ [] → n ≡ fin
  unfolding tags_in
  count_none e = let k = rw e at inv in omega arith

  pub count_one : {line : List ℕ} {long t : ℕ} {more : List Line} → ls ≡ record { bytes = line; long = long } ∷ more
      → t ≡ (if opens_tag line then 1 else 0) → n + t + tags_in more ≡ fin
  unfolding tags_in
  count_one e f = let k = rw (e, ← f) at inv in omega arith
