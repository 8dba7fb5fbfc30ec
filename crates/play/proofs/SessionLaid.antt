-- Turns become batches, and batches all that is handed over. Assumes nothing.
use Rattle.std.proofs.Common.{◌≡◌, ℕ, ◌+◌, ◌/◌, ◌%◌, ◌^◌, ◌<◌, Bool, true, false, ltb, List, [], ◌++◌, length, drop, refl, ap, ◌∙◌, arith, take_at, le-leb, if◌then◌else◌}
use Rattle.frame.specs.Number.{part}
use Rattle.frame.proofs.Puts.{sets_front}
use Rattle.print.specs.Line.{Lent, laid, cleared, full}
use Rattle.print.specs.Puts.{within, Puts}
use Rattle.print.proofs.Lines.{laid_then, laid_fits}
use Rattle.print.proofs.Puts.{puts_fits}
use Rattle.text.specs.declared.lines.Source.{Source}
use Rattle.text.specs.declared.lines.Got.{Got}
use Rattle.text.specs.Lines.{has_ended, next_of, is_found, Follows}
use Rattle.play.specs.Turns.{Turned}
use Rattle.play.specs.Session.{Stand, stand, line_of, may_wait, One, More, Batches, None, Then, Over, Stepped, Laid}

-- ---- one turn, from what the calls tell

pub stepped : {quiet : Bool} (source : Source) (n : ℕ) (buf tags draws bytes : List ℕ) (got : Got) {count : ℕ} {line buf₁ tags₁ draws₁ bytes₁ : List ℕ} {out out₁ : Lent}
    → Follows (next_of source buf) buf buf₁ got → count ≡ (n + 1) % 2 ^ 64 → line ≡ line_of count got.reached buf₁
    → Turned quiet count got.reached line tags draws bytes out tags₁ draws₁ bytes₁ out₁
    → Stepped quiet (stand source buf n tags draws bytes) (stand got.source buf₁ count tags₁ draws₁ bytes₁) out out₁
stepped source n buf tags draws bytes got f e g t₀ =
    let t = rw g at t₀ in
    record {
      said = _;
      turn = record { got = got; found = f; onward = refl; counted = e; leaves = t.leaves; says = refl };
      fine = t.fine;
      text = t.text;
    }

-- ---- a batch

pub laid_one : {quiet : Bool} {a b : Stand} {out out₁ : Lent} → Stepped quiet a b (cleared out) out₁ → Laid quiet a b out out₁
laid_one s = record { said = s.said; batch = One s.turn; fine = s.fine; text = s.text }

-- what may wait waits for a line that is at hand
at_hand : (source : Source) (buf : List ℕ) (room at : ℕ) → may_wait source buf room at ≡ true → is_found (next_of source buf) ≡ true
unfolding may_wait
at_hand source buf room at = go (has_ended source) (ltb (room / 2) at) (is_found (next_of source buf))
  where
    go : (d l f : Bool) → (if d then false else if l then false else f) ≡ true → f ≡ true
    go false false f e = e
    go false true true e = refl
    go false true false e = e
    go true l true e = refl
    go true l false e = e

-- one turn more
pub laid_more : {quiet : Bool} {a c : Stand} {out out₁ out₂ : Lent} (b : Stand) (room at : ℕ) → Laid quiet a b out out₁
    → may_wait b.source b.buf room at ≡ true → Stepped quiet b c out₁ out₂ → Laid quiet a c out out₂
laid_more {out = out} b room at l e s =
    record {
      said = l.said ++ s.said;
      batch = More l.batch (at_hand b.source b.buf room at e) s.turn;
      fine = s.fine;
      text = laid_then (cleared out) l.said s.said l.text s.text;
    }

-- ---- what is handed over

-- the text of a batch, where it does not fill the line, whatever room that has: all of it stands there
pub handed_whole : (line : Lent) (s : List ℕ) {out₁ : Lent} → line.text ≡ [] → out₁ ≡ laid line s → full out₁ ≡ false → out₁.text ≡ s
handed_whole line s e p h = ap (λ (l : Lent). l.text) p ∙ laid_fits line s (rw p at h) ∙ ap (λ (t : List ℕ). t ++ s) e

-- and of a text laid into a buffer, where the place behind it is not the buffer's end: all of it stands in front of that place
pub handed_part : {s out out₁ : List ℕ} {r : ℕ} → Puts s 0 out out₁ r → r < length out₁ → length out₁ ≡ length out → part 0 r out₁ ≡ s
unfolding within
handed_part {s} {out} {out₁} {r} p h e =
    let f = puts_fits p (omega arith) in
    let b : r ≡ length s = p.behind ∙ rw (le-leb (0 + length s) (length out) (omega arith)) (omega arith) in
    let q : out₁ ≡ s ++ drop (length s) out = p.laid ∙ sets_front s out (omega arith) in
    rw (b, q) (take_at s (drop (length s) out) (length s) refl)

-- all that was handed over from stand a on, up to here
pub record Told (quiet : Bool) (a b : Stand) : Type 0 where
  pub told : List ℕ
  pub batches : Batches quiet a b told

pub told_none : {quiet : Bool} {a : Stand} → Told quiet a a
told_none = record { told = []; batches = None }

-- what `hand_over` hands to `say` is the text of the line
pub told_then : {quiet : Bool} {a b c : Stand} {out out₁ : Lent} → Told quiet a b → Laid quiet b c out out₁ → full out₁ ≡ false → Told quiet a c
told_then {c = c} {out} {out₁} t l h =
    record {
      told = t.told ++ out₁.text;
      batches = Then {c = c} {said = out₁.text} t.batches (rw (handed_whole (cleared out) l.said refl l.text h) l.batch);
    }

pub told_over : {quiet : Bool} {a : Stand} (b : Stand) → Told quiet a b → has_ended b.source ≡ true → Over quiet a b.tags
told_over b t e = record { last = b; told = t.told; batches = t.batches; ended = e; rack = refl }
