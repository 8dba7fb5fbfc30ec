-- Demand 2 holds: the frame that was written is played, each tag takes it as the command means it, and an answer that is alone is read to its tag's meaning.
-- Idea: event and answers are laws of one body, by its kind; who answered alone is found along the bodies. Assumes nothing.
use Rattle.std.specs.Prelude.{if◌then◌else◌}
use mathlib.Core.Path.{◌≡◌, refl, ap, sym, ◌∙◌}
use mathlib.Core.Logic.{⊎_elim}
use mathlib.Core.Bool.{Bool, true, false, ◌&&◌, false≢true}
use mathlib.Core.List.{List, [], ◌∷◌, ◌++◌, append-nil}
use Prim.Native.Nat.{ℕ, zero, suc, ◌≤◌, ◌<◌}
use native.Mathlib.Omega.{arith}
use borrow.Author.Tests.{eqb-true, eq-eqb, le-ltb}
use lib.Dec.{eqb, ltb, leb}
use lib.ListN.{length, get_or, take, drop, length-append}
use lib.Seq.{take_at}
use Rattle.frame.specs.Choose.{gather}
use Rattle.frame.specs.Number.{Bytes}
use Rattle.frame.proofs.Bools.{same_or_not}
use Rattle.frame.proofs.Lists.{gather_none}
use Rattle.frame.proofs.Numbers.{bytes_part}
use Rattle.label_body.proofs.FactsFine.{rules_fine}
use Rattle.chip.specs.declared.step.Answer as chip
use Rattle.chip.specs.declared.step.Answer.TheVariants as a
use Rattle.chip_body.specs.Body.{said_chip}
use Rattle.chip_body.specs.Answer.{answer_frame}
use Rattle.reader.specs.declared.command.Command.{Command}
use Rattle.reader.specs.declared.command.Command.TheVariants.{Inventory, Label, Chip, Other}
use Rattle.reader.specs.declared.writer.Written.{Written}
use Rattle.reader.specs.Command.{valid}
use Rattle.reader.specs.Request as request
use Rattle.reader.specs.Request.{encode, written_of, out_of, event_for, label_takes, chip_takes, bytes_sent}
use Rattle.answer.specs.Answer.{reading_of}
use Rattle.accord.specs.Tags.{chip_meaning, bytes_told}
use Rattle.accord.proofs.RequestTaken as tags
use Rattle.accord.proofs.TagsLabelRead.{label_read, label_bytes}
use Rattle.accord.proofs.TagsChipRead.{chip_read}
use Rattle.rack.specs.declared.tag.Said.{Said}
use Rattle.rack.specs.declared.tag.Said.TheVariants as s
use Rattle.rack.specs.declared.tag.Kind.TheVariants as kinds
use Rattle.rack.specs.declared.tag.Kind.{Kind}
use Rattle.rack.specs.File.{count_of, kind_at, length_at, start_of, body_at, body_rules}
use Rattle.rack.specs.Facts.{RackFine, TagFine}
use Rattle.rack.specs.Tag.{Event, aired, next_body, said_by, speaks, frame_of, answer_body}
use Rattle.rack.proofs.FileVerdict.{rack_fine, fine_rack}
use Rattle.frame.proofs.Gather.{gather_ext}
use Rattle.rack.proofs.FileRebuilt.{rebuilt_ext, tag_fine}
use Rattle.rack.proofs.TagKinds.{fits_none, chip_80}
use Rattle.event.specs.Event.{next, answer, next_rack, answers, Outcome, played, least, refusal_of, event_of}
use Rattle.event.proofs.Pass.{length_zero}
use Rattle.event.proofs.EventNext.{body_next, contents_stay}
use Rattle.demands.specs.Demand2.{meaning_of, block_meant, meant, written_frame, said_at, ReadBack, Understood, Demand2}

-- ---- the frame that was written

module _ (c : Command) (uid d buffer : List ℕ) where
  abbrev refusal : ℕ
  refusal = request.refusal_of c (length d) (length buffer)

  none_refused : (written_of c uid d buffer).number ≡ 0 → refusal ≡ 0
  unfolding written_of
  none_refused = go (eqb refusal 0) refl
    where
      go : (x : Bool) → eqb refusal 0 ≡ x
          → (if◌then◌else◌ {A = Written} x (record { number = 0; length = length (encode c uid d) }) (record { number = refusal; length = 0 })).number ≡ 0
          → refusal ≡ 0
      go true e z = eqb-true refusal 0 e
      go false e z = z

  has_request : refusal ≡ 0 → valid c (length d) ≡ true
  unfolding request.refusal_of
  has_request = go (ltb (length buffer) request.least) (valid c (length d))
    where
      go : (x y : Bool) → ◌≡◌ {A = ℕ} (if x then 3 else if y then 0 else 7) 0 → y ≡ true
      go true y e = absurd (omega (arith, e))
      go false true e = refl
      go false false e = absurd (omega (arith, e))

  frame_written : refusal ≡ 0 → written_frame c uid d buffer ≡ encode c uid d
  unfolding written_of out_of
  frame_written e =
      rw (eq-eqb refusal 0 e) (take_at (encode c uid d) (drop (length (encode c uid d)) buffer) (length (encode c uid d)) refl)

-- ---- one tag takes it as meant

module _ (c : Command) (uid d : List ℕ) (v : valid c (length d) ≡ true) (t : tags.Taken c uid d) where
  abbrev frame : List ℕ
  frame = encode c uid d

  abbrev event : Event
  event = aired (event_for c) frame

  same_next : (kind : Kind) (draw : ℕ) (b : List ℕ) → next_body kind event draw b ≡ next_body kind (meant c uid d) draw b
  unfolding next_body
  same_next kinds.Label draw b = rw t.of_labels (t.next b)
  same_next kinds.Chip draw b = rw t.of_chips
  same_next kinds.Other draw b = refl

  same_said : (kind : Kind) (draw : ℕ) (b : List ℕ) → said_by kind event draw b ≡ said_by kind (meant c uid d) draw b
  unfolding said_by
  same_said kinds.Label draw b = rw t.of_labels (ap s.Label (t.said b))
  same_said kinds.Chip draw b = rw t.of_chips
  same_said kinds.Other draw b = refl

  same_rack : (r ds : List ℕ) → next_rack r event ds ≡ next_rack r (meant c uid d) ds
  unfolding next_rack next
  same_rack r ds = rebuilt_ext r _ _ (λ i h. same_next (kind_at r i) (get_or ds i 0) (body_at r i))

  same_answers : (r ds : List ℕ) → answers r event ds ≡ answers r (meant c uid d) ds
  unfolding answers answer answer_body
  same_answers r ds = gather_ext (count_of r) _ _ (λ i h. rw (same_said (kind_at r i) (get_or ds i 0) (body_at r i)))

  -- a valid command's event is one
  event_number : (leb 1 (event_for c) && leb (event_for c) 5) ≡ true
  unfolding event_for valid
  event_number = go c v
    where
      go : (c : Command) → valid c (length d) ≡ true → (leb 1 (event_for c) && leb (event_for c) 5) ≡ true
      go (Inventory to option family sixteen bits mask) v = refl
      go (Label to option task p) v = refl
      go (Chip to option task) v = refl
      go (Other kind code) v = absurd (false≢true v)

  not_refused : (r ds out : List ℕ) → RackFine r → length ds ≡ count_of r → least ≤ length out
      → refusal_of r (event_for c) (length ds) (length out) ≡ 0
  unfolding refusal_of
  not_refused r ds out ok n h = rw (fine_rack r ok, n, eq-eqb (count_of r) (count_of r) refl, le-ltb (length out) least h, event_number)

  -- what was written, played
  plays : (r ds out : List ℕ) → RackFine r → length ds ≡ count_of r → least ≤ length out
      → event_of r (event_for c) frame ds out ≡ played r (meant c uid d) ds out
  unfolding event_of
  plays r ds out ok n h = rw (not_refused r ds out ok n h, same_rack r ds, same_answers r ds)

-- ---- who answered alone

pub record Lone (r : List ℕ) (event : Event) (ds : List ℕ) (n : ℕ) : Type 0 where
  pub who : ℕ
  pub there : who < n
  pub spoke : speaks (said_at r event ds who) ≡ true
  pub alone : (i : ℕ) → i < n → speaks (said_at r event ds i) ≡ true → i ≡ who
  pub one : gather n (answer r event ds) ≡ frame_of (said_at r event ds who) (body_at r who) ∷ []

module _ (r : List ℕ) (event : Event) (ds : List ℕ) where
  abbrev heard : ℕ → List (List ℕ)
  heard n = gather n (answer r event ds)

  silent_more : (n : ℕ) → speaks (said_at r event ds n) ≡ false → heard (suc n) ≡ heard n
  unfolding gather answer answer_body
  silent_more n e = rw e (append-nil (heard n))

  spoken_more : (n : ℕ) → speaks (said_at r event ds n) ≡ true → heard (suc n) ≡ heard n ++ (frame_of (said_at r event ds n) (body_at r n) ∷ [])
  unfolding gather answer answer_body
  spoken_more n e = rw e

  -- none of them speaks where nothing is heard
  none_spoke : (n : ℕ) → length (heard n) ≡ 0 → (i : ℕ) → i < n → speaks (said_at r event ds i) ≡ true → ⊥
  none_spoke zero z i h e = absurd (omega (arith, h))
  none_spoke (suc n) z i h e = go (λ y l. none_spoke n y i l e) (speaks (said_at r event ds n)) refl
    where
      go : (length (heard n) ≡ 0 → i < n → ⊥) → (x : Bool) → speaks (said_at r event ds n) ≡ x → ⊥
      go before true q = omega (arith, z, ap length (spoken_more n q) ∙ length-append (heard n) _)
      go before false q =
          ⊎_elim
          (λ (k : i ≡ n). false≢true (sym q ∙ ap (λ (j : ℕ). speaks (said_at r event ds j)) (sym k) ∙ e))
          (λ (k : i ≡ n → ⊥). before (ap length (sym (silent_more n q)) ∙ z) (omega arith))
          (same_or_not i n)

  lone : (n : ℕ) → length (heard n) ≡ 1 → Lone r event ds n
  lone zero z = absurd (omega (arith, sym z ∙ ap length (gather_none (answer r event ds))))
  lone (suc n) z = go (lone n) (speaks (said_at r event ds n)) refl
    where
      go : (length (heard n) ≡ 1 → Lone r event ds n) → (x : Bool) → speaks (said_at r event ds n) ≡ x → Lone r event ds (suc n)
      go before true e =
          let l = ap length (spoken_more n e) ∙ length-append (heard n) _ in
          let k : length (heard n) ≡ 0 = omega (arith, z, l) in
          record {
            who = n;
            there = omega arith;
            spoke = e;
            alone = λ i h q.
                ⊎_elim (λ (k : i ≡ n). k) (λ (j : i ≡ n → ⊥). absurd (none_spoke n k i (omega arith) q)) (same_or_not i n);
            one = spoken_more n e ∙ ap (λ (l : List (List ℕ)). l ++ (frame_of (said_at r event ds n) (body_at r n) ∷ [])) (length_zero (heard n) k);
          }
      go before false e =
          let l = before (ap length (sym (silent_more n e)) ∙ z) in
          record {
            who = l.who;
            there = omega (arith, l.there);
            spoke = l.spoke;
            alone = λ i h q.
                ⊎_elim (λ (k : i ≡ n). absurd (false≢true (sym e ∙ ap (λ (j : ℕ). speaks (said_at r event ds j)) (sym k) ∙ q)))
                (λ (j : i ≡ n → ⊥). l.alone i (omega arith) q) (same_or_not i n);
            one = silent_more n e ∙ l.one;
          }

-- ---- an answer is read to its meaning

-- what a tag says is read as it means it, and its block is where the reading tells
pub record ReadAs (c : Command) (uid d : List ℕ) (x : Said) (b : List ℕ) : Type 0 where
  pub reading : reading_of c uid (length d) (frame_of x b) ≡ meaning_of x b
  pub block : bytes_told (reading_of c uid (length d) (frame_of x b)).meaning (frame_of x b) ≡ block_meant x b

-- a chip's answer tells no place
pub no_block : (x : chip.Answer) (b f : List ℕ) → bytes_told (chip_meaning x b).meaning f ≡ []
unfolding bytes_told chip_meaning
no_block a.Silent b f = refl
no_block (a.Id id) b f = refl
no_block (a.Block n) b f = refl
no_block a.Uid b f = refl

reads : (c : Command) (uid d : List ℕ) → valid c (length d) ≡ true → (kind : Kind) (draw : ℕ) (b : List ℕ) → TagFine kind b → Bytes b
    → ReadAs c uid d (said_by kind (meant c uid d) draw b) b
unfolding said_by frame_of meaning_of block_meant body_rules
reads c uid d v kinds.Label draw b ok bytes =
    let g = rules_fine b bytes ok.rules in
    record {
      reading = label_read c uid (length d) v (label_takes c uid) refl (length (bytes_sent c d)) b g;
      block = label_bytes c uid (length d) v (label_takes c uid) refl (length (bytes_sent c d)) b g;
    }
reads c uid d v kinds.Chip draw b ok bytes =
    let e = chip_read c uid d (length d) v (chip_takes c d) refl draw b (chip_80 b ok) in
    record { reading = e; block = rw e (no_block (said_chip (chip_takes c d) draw b) b (answer_frame (said_chip (chip_takes c d) draw b) b)) }
reads c uid d v kinds.Other draw b ok bytes = absurd (fits_none (length b) ok.fits)

-- ---- an event that is played, on a rack where each tag is read as it means it

module _ (c : Command) (uid d : List ℕ) (event : Event) (r ds out : List ℕ) (ok : RackFine r)
    (reads : (i : ℕ) → i < count_of r → ReadAs c uid d (said_at r event ds i) (body_at r i)) where
  abbrev outcome : Outcome
  outcome = played r event ds out

  -- the first bytes of the buffer are the frame that was alone
  front : (f : List ℕ) → answers r event ds ≡ f ∷ [] → take outcome.report.length outcome.out ≡ f
  front f e = rw e (take_at f (drop (length f) out) (length f) refl)

  back : outcome.report.answered ≡ 1 → ReadBack c uid d event r ds outcome
  unfolding answers
  back one =
      let l = lone r event ds (count_of r) one in
      let f = front (frame_of (said_at r event ds l.who) (body_at r l.who)) l.one in
      let a = reads l.who l.there in
      record {
        who = l.who;
        there = l.there;
        spoke = l.spoke;
        alone = l.alone;
        reading = rw f a.reading;
        block = rw f a.block;
      }

  pub understood : Understood c uid d event r ds outcome
  understood =
      record {
        taken = record {
          accepted = refl;
          in_place = contents_stay r event ds ok;
          does = body_next r event ds ok;
          answered = refl;
        };
        heard = back;
      }

-- ---- the demand

pub demand_2 : Demand2
demand_2 c uid d buffer r ds out q =
    let e = none_refused c uid d buffer q.written in
    let v = has_request c uid d buffer e in
    let ok = rack_fine r q.well_formed in
    rw (frame_written c uid d buffer e, plays c uid d v (tags.taken c uid d v q.uid_long) r ds out ok q.drawn q.room)
    (understood c uid d (meant c uid d) r ds out ok
    (λ i h. reads c uid d v (kind_at r i) (get_or ds i 0) (body_at r i) (tag_fine r ok i h) (bytes_part (start_of r i) (length_at r i) r q.bytes)))
