-- The rack while the tags take their steps in turn: the first i have taken theirs and the others are as they were (`passed`). What holds at the
-- head of the loop is one record, `Running`; a turn reads its entry in the rack as it is now, which says what it said at the start.
-- Assumes nothing.
use mathlib.Core.Path.{◌≡◌, refl, ap, sym, ◌∙◌}
use mathlib.Core.Bool.{true, false}
use mathlib.Core.List.{List, [], ◌∷◌, ◌++◌, append_assoc, append-nil}
use Prim.Native.Nat.{ℕ, ◌+◌, ◌-◌, ◌≤◌, ◌<◌}
use native.Mathlib.Nat.{add-sub_cancel_left}
use native.Mathlib.Omega.{arith}
use borrow.Rule.Slice.PartMut.{put_mid, same_len_mid}
use lib.ListN.{length, take, drop, get_or, length-append, take-append-drop}
use lib.Seq.{take_at, drop-drop, drop-length}
use Rattle.frame.specs.Choose.{gather}
use Rattle.frame.specs.Number.{part, splice}
use Rattle.frame.proofs.Lists.{gather_none, gather_more}
use Rattle.rack.specs.declared.tag.Kind.{Kind}
use Rattle.rack.specs.declared.tag.Said.{Said}
use Rattle.rack.specs.File.{count_of, entry_at, kind_at, length_at, start_of, body_at, contents, rebuilt}
use Rattle.rack.specs.Facts.{RackFine, TagFine}
use Rattle.rack.specs.Tag.{Event, next_body, said_by, speaks, frame_of, answer_body}
use Rattle.rack.proofs.FilePlaces.{part_at, splice_at, span_part, start_none, start_more, kind_same, length_same}
use Rattle.rack.proofs.FileRebuilt.{contents_length, body_inside, body_long, front_length, tag_fine}
use Rattle.rack.proofs.TagKinds.{body_length}
use Rattle.event.specs.Event.{next, answer, next_rack}
use Rattle.event.specs.declared.call.Spoken.{Spoken}
use Rattle.event.specs.Pass.{AloneBy, PassOf}
use Rattle.std.specs.Prelude.{Option, Some, None, MatchOption}

-- ---- the next bodies

pub next_sized : (r : List ℕ) (event : Event) (ds : List ℕ) → RackFine r → (i : ℕ) → i < count_of r → length (next r event ds i) ≡ length_at r i
unfolding next
next_sized r event ds ok i h = body_length (kind_at r i) event (get_or ds i 0) (body_at r i) ∙ body_long r ok.whole i h

-- ---- the rack after i steps

abbrev pub front : List ℕ → Event → List ℕ → ℕ → List ℕ
front r event ds i = contents r ++ gather i (next r event ds)

pub passed : List ℕ → Event → List ℕ → ℕ → List ℕ
passed r event ds i = front r event ds i ++ drop (start_of r i) r

module _ (r : List ℕ) (event : Event) (ds : List ℕ) (ok : RackFine r) where
  reaches : (i : ℕ) → i ≤ count_of r → length (front r event ds i) ≡ start_of r i
  reaches = front_length r ok.whole (next r event ds) (next_sized r event ds ok)

  pub passed_none : passed r event ds 0 ≡ r
  unfolding passed
  passed_none = rw (gather_none, append-nil, start_none) (take-append-drop (entry_at (count_of r)) r)

  -- body i is as it was
  pub passed_part : (i : ℕ) → i < count_of r → part (start_of r i) (length_at r i) (passed r event ds i) ≡ body_at r i
  unfolding passed
  passed_part i h = part_at (front r event ds i) (drop (start_of r i) r) (start_of r i) (length_at r i) (reaches i (omega arith))

  pub passed_more : (i : ℕ) → i < count_of r → splice (start_of r i) (length_at r i) (next r event ds i) (passed r event ds i) ≡ passed r event ds (i + 1)
  unfolding passed
  passed_more i h =
      splice_at (front r event ds i) (drop (start_of r i) r) (next r event ds i) (start_of r i) (length_at r i) (reaches i (omega arith))
      ∙ simp (gather_more, start_more, drop-drop, append_assoc)

  pub passed_front : (i : ℕ) → take (entry_at (count_of r)) (passed r event ds i) ≡ contents r
  unfolding passed
  passed_front i = rw append_assoc (take_at (contents r) _ (entry_at (count_of r)) (contents_length r ok.whole))

  pub passed_all : passed r event ds (count_of r) ≡ next_rack r event ds
  unfolding passed next_rack rebuilt
  passed_all = rw (ok.whole, drop-length, append-nil)

-- ---- the pass, one tag further

pub length_zero : {A : Type 0} (l : List A) → length l ≡ 0 → l ≡ []
length_zero [] h = refl
length_zero (x ∷ l) h = absurd (omega arith)

module _ (r : List ℕ) (event : Event) (ds : List ℕ) where
  pub pass_none : PassOf r event ds 0 0 None
  pass_none = record { count = ap length (sym (gather_none (answer r event ds))); alone = λ z. omega arith }

  module _ (i a : ℕ) (alone : Option Spoken) (q : Said) (h : PassOf r event ds i a alone)
      (is : q ≡ said_by (kind_at r i) event (get_or ds i 0) (body_at r i)) where
    silent : speaks q ≡ false → gather (i + 1) (answer r event ds) ≡ gather i (answer r event ds)
    unfolding answer answer_body
    silent z = rw (gather_more, ← is, z, append-nil)

    spoken : speaks q ≡ true → gather (i + 1) (answer r event ds) ≡ gather i (answer r event ds) ++ (frame_of q (body_at r i) ∷ [])
    unfolding answer answer_body
    spoken z = rw (gather_more, ← is, z)

    counted : speaks q ≡ true → a + 1 ≡ length (gather (i + 1) (answer r event ds))
    counted z = rw (spoken z, length-append) (omega (arith, h.count))

    pub pass_silent : speaks q ≡ false → PassOf r event ds (i + 1) a alone
    pass_silent z = record { count = h.count ∙ ap length (sym (silent z)); alone = still alone h.alone }
      where
        still : (o : Option Spoken) → MatchOption o (a ≡ 1 → ⊥) (λ by. (a ≡ 1) × AloneBy r event ds i by.who by.said)
            → MatchOption o (a ≡ 1 → ⊥) (λ by. (a ≡ 1) × AloneBy r event ds (i + 1) by.who by.said)
        still None n = n
        still (Some by) n = (n.0, record { below = omega (arith, n.1.below); says = n.1.says; one = silent z ∙ n.1.one })

    pub pass_first : speaks q ≡ true → a ≡ 0 → PassOf r event ds (i + 1) (a + 1) (Some (record { who = i; said = q }))
    pass_first z e =
        record {
          count = counted z;
          alone = (
            omega (arith, e),
            record {
              below = omega arith;
              says = is;
              one = spoken z ∙ rw (length_zero (gather i (answer r event ds)) (omega (arith, h.count, e)));
            },
          );
        }

    pub pass_several : speaks q ≡ true → (a ≡ 0 → ⊥) → PassOf r event ds (i + 1) (a + 1) None
    pass_several z n = record { count = counted z; alone = λ y. n (omega (arith, y)) }

-- ---- the head of the loop

pub record Running (r : List ℕ) (event : Event) (ds xs : List ℕ) (i answered : ℕ) (alone : Option Spoken) (at : ℕ) : Type 0 where
  pub upto : i ≤ count_of r
  pub most : answered ≤ i
  pub is : xs ≡ passed r event ds i
  pub same : length xs ≡ length r
  pub place : at ≡ start_of r i
  pub pass : PassOf r event ds i answered alone

pub running_none : (r : List ℕ) (event : Event) (ds : List ℕ) {n at : ℕ} → RackFine r → n ≡ count_of r → at ≡ entry_at n → Running r event ds r 0 0 None at
running_none r event ds ok c p =
    record {
      upto = omega arith;
      most = omega arith;
      is = sym (passed_none r event ds ok);
      same = refl;
      place = p ∙ rw c (sym (start_none r));
      pass = pass_none r event ds;
    }

module _ {r : List ℕ} {event : Event} {ds xs : List ℕ} {i answered : ℕ} {alone : Option Spoken} {at : ℕ} (ok : RackFine r)
    (run : Running r event ds xs i answered alone at) where
  -- ---- the end of the loop
  pub running_done : count_of r ≤ i → PassOf r event ds (count_of r) answered alone × (xs ≡ next_rack r event ds)
  running_done h =
      let z : i ≡ count_of r = omega (arith, run.upto) in
      (rw z at run.pass, run.is ∙ ap (passed r event ds) z ∙ passed_all r event ds ok)

  -- ---- a turn of it
  module _ (h : i < count_of r) where
    contents_same : take (entry_at (count_of r)) xs ≡ contents r
    contents_same = ap (take (entry_at (count_of r))) run.is ∙ passed_front r event ds ok i

    turn_kind : kind_at xs i ≡ kind_at r i
    turn_kind = kind_same r xs contents_same i h

    turn_length : length_at xs i ≡ length_at r i
    turn_length = length_same r xs contents_same i h

    pub turn_room : (i < 64) × (entry_at i + 8 ≤ length xs)
    turn_room = (omega (arith, ok.head.few, h), omega (arith, (ok.entry i h).in_file, run.same))

    -- the place behind it is no great number
    pub turn_small : {len : ℕ} → len ≡ length_at xs i → at + len ≤ 65536
    turn_small l = omega (arith, run.place, l ∙ turn_length, (ok.entry i h).small)

    module _ {kind : Kind} {len : ℕ} (k : kind ≡ kind_at xs i) (l : len ≡ length_at xs i) where
      turn_part : part at len xs ≡ body_at r i
      turn_part = rw (l ∙ turn_length, run.place, run.is) (passed_part r event ds ok i h)

      -- the place where the next body starts
      turn_end : at + len ≡ start_of r (i + 1)
      turn_end = omega (arith, run.place, l ∙ turn_length, start_more r i)

      -- what the step of this tag asks, of the part that is lent
      pub turn_asks : (at + len ≤ length xs) × TagFine kind (take ((at + len) - at) (drop at xs))
      turn_asks = (
        omega (arith, run.place, l ∙ turn_length, run.same, body_inside r ok.whole i h),
        rw (span_part at len xs, turn_part, k ∙ turn_kind) (tag_fine r ok i h),
      )

      module _ {q : Said} {body : List ℕ} (p : q ≡ said_by kind event (get_or ds i 0) (take ((at + len) - at) (drop at xs)))
          (b : body ≡ next_body kind event (get_or ds i 0) (take ((at + len) - at) (drop at xs)))
          (n : length body ≡ length (take ((at + len) - at) (drop at xs))) where
        abbrev ys : List ℕ
        ys = put_mid at ((at + len) - at) xs body

        turn_said : q ≡ said_by (kind_at r i) event (get_or ds i 0) (body_at r i)
        turn_said = p ∙ rw (span_part at len xs, turn_part, k ∙ turn_kind)

        turn_laid : ys ≡ splice at len (next_body kind event (get_or ds i 0) (part at len xs)) xs
        turn_laid = rw (b, add-sub_cancel_left at len) refl

        -- whatever was heard with this tag
        turn : {a : ℕ} {o : Option Spoken} → a ≤ i + 1 → PassOf r event ds (i + 1) a o → Running r event ds ys (i + 1) a o (at + len)
        unfolding next
        turn most pass =
            record {
              upto = omega arith;
              most = most;
              is = turn_laid ∙ rw (turn_part, k ∙ turn_kind, l ∙ turn_length, run.place, run.is) (passed_more r event ds ok i h);
              same = same_len_mid at ((at + len) - at) xs body n ∙ run.same;
              place = turn_end;
              pass = pass;
            }

        pub turn_first : speaks q ≡ true → answered ≡ 0 → Running r event ds ys (i + 1) (answered + 1) (Some (record { who = i; said = q })) (at + len)
        turn_first z e = turn (omega (arith, run.most)) (pass_first r event ds i answered alone q run.pass turn_said z e)

        pub turn_several : speaks q ≡ true → (answered ≡ 0 → ⊥) → Running r event ds ys (i + 1) (answered + 1) None (at + len)
        turn_several z e = turn (omega (arith, run.most)) (pass_several r event ds i answered alone q run.pass turn_said z e)

        pub turn_silent : speaks q ≡ false → Running r event ds ys (i + 1) answered alone (at + len)
        turn_silent z = turn (omega (arith, run.most)) (pass_silent r event ds i answered alone q run.pass turn_said z)
