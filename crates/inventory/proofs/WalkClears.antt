-- The cleared rack, as a round leaves it, and the pass over the tags that clears it. Idea: `cleared` is `rebuilt` of cleared bodies, and the rack so far
-- is contents, cleared bodies, and the rest. Assumes nothing.
use mathlib.Core.Path.{◌≡◌, refl, ap, sym, ◌∙◌}
use mathlib.Core.List.{List, ◌++◌, append_assoc, append-nil}
use Prim.Native.Nat.{ℕ, ◌+◌, ◌-◌, ◌≤◌, ◌<◌}
use native.Mathlib.Nat.{add-sub_cancel_left}
use native.Mathlib.Omega.{arith}
use borrow.Rule.Slice.PartMut.{put_mid, same_len_mid}
use lib.ListN.{length, take, drop, take-append-drop}
use lib.Seq.{take_at, drop-drop, drop-length}
use Rattle.frame.specs.Choose.{gather}
use Rattle.frame.specs.Number.{part, splice}
use Rattle.frame.proofs.Lists.{gather_none, gather_more}
use Rattle.request.specs.declared.label.Family.{Family}
use Rattle.label_body.specs.Slots.{clear}
use Rattle.rack.specs.declared.tag.Kind.{Kind}
use Rattle.rack.specs.declared.tag.Kind.TheVariants.{Label, Chip, Other}
use Rattle.rack.specs.File.{count_of, entry_at, kind_at, length_at, start_of, body_at, contents, rebuilt}
use Rattle.inventory.specs.Walk.{uid_at, uids_to, uids, clear_body, cleared}
use Rattle.frame.proofs.Gather.{gather_ext}
use Rattle.rack.proofs.FilePlaces.{part_at, splice_at, span_part, start_none, start_more, kind_same, length_same}
use Rattle.rack.proofs.FileRebuilt.{contents_length, body_inside, body_long, front_length}
use Rattle.rack.proofs.FileRebuilt.{rebuilt_bytes, rebuilt_ext, rebuilt_count, rebuilt_kind, rebuilt_body, rebuilt_again}
use Rattle.inventory.proofs.WalkBodies.{clear_size, clear_twice, clear_uid_at, clear_ok}
use Rattle.inventory.proofs.WalkEvents.{Fine, tag, tag_long, rebuilt_fine}

-- ---- the cleared rack: well-formed, with the same UIDs, and left as it is by the next round

module _ (r : List ℕ) where
  -- body i cleared
  abbrev blank : ℕ → List ℕ
  blank i = clear_body (kind_at r i) (body_at r i)

  module _ (fine : Fine r) where
    blank_sized : (i : ℕ) → i < count_of r → length (blank i) ≡ length_at r i
    blank_sized i h = clear_size (kind_at r i) (body_at r i) ∙ body_long r fine.rack.whole i h

    pub cleared_fine : Fine (cleared r)
    unfolding cleared
    cleared_fine =
        record {
          rack = rebuilt_fine r blank fine.rack (λ i h. (blank_sized i h, (clear_ok (tag r fine i h)).rules));
          bytes = rebuilt_bytes r blank fine.bytes (λ i h. (clear_ok (tag r fine i h)).small);
        }

    pub cleared_count : count_of (cleared r) ≡ count_of r
    unfolding cleared
    cleared_count = rebuilt_count r fine.rack.whole blank blank_sized

    pub cleared_uids : (family : Family) → uids family (cleared r) ≡ uids family r
    unfolding uids_to cleared
    cleared_uids family =
        let x = rebuilt r blank in
        ap (λ (n : ℕ). gather n (λ i. uid_at family (kind_at x i) (body_at x i))) (rebuilt_count r fine.rack.whole blank blank_sized)
        ∙ gather_ext (count_of r) _ _ (λ i h.
        rw (rebuilt_kind r fine.rack.whole blank blank_sized i h, rebuilt_body r fine.rack.whole blank blank_sized i h)
        (clear_uid_at family (kind_at r i) (body_at r i)))

    pub cleared_twice : cleared (cleared r) ≡ cleared r
    unfolding cleared
    cleared_twice =
        rebuilt_again r fine.rack.whole blank blank_sized _
        ∙ rebuilt_ext r _ _ (λ i h.
        rw (rebuilt_kind r fine.rack.whole blank blank_sized i h, rebuilt_body r fine.rack.whole blank blank_sized i h)
        (clear_twice (kind_at r i) (body_at r i)))

-- ---- the pass

clear_kept : (kind : Kind) (b : List ℕ) → (kind ≡ Label → ⊥) → clear_body kind b ≡ b
unfolding clear_body
clear_kept Label b z = absurd (z refl)
clear_kept Chip b z = refl
clear_kept Other b z = refl

module _ (r : List ℕ) where
  abbrev front : ℕ → List ℕ
  front i = contents r ++ gather i (blank r)

  -- the first i cleared
  pub record Clearing (xs : List ℕ) (at i : ℕ) : Type 0 where
    pub upto : i ≤ count_of r
    pub is : xs ≡ front i ++ drop (start_of r i) r
    pub same : length xs ≡ length r
    pub place : at ≡ start_of r i

  pub clearing_none : {n at : ℕ} → n ≡ count_of r → at ≡ entry_at n → Clearing r at 0
  clearing_none c p =
      record {
        upto = omega arith;
        is = sym (rw (gather_none, append-nil, start_none) (take-append-drop (entry_at (count_of r)) r));
        same = refl;
        place = p ∙ rw c (sym (start_none r));
      }

module _ {r xs : List ℕ} {at i : ℕ} (k : Clearing r xs at i) (fine : Fine r) where
  reaches : length (front r i) ≡ start_of r i
  reaches = front_length r fine.rack.whole (blank r) (blank_sized r fine) i k.upto

  contents_same : take (entry_at (count_of r)) xs ≡ contents r
  contents_same = rw (k.is, append_assoc) (take_at (contents r) _ (entry_at (count_of r)) (contents_length r fine.rack.whole))

  pub clearing_done : count_of r ≤ i → xs ≡ cleared r
  unfolding cleared rebuilt
  clearing_done h =
      let z : i ≡ count_of r = omega (arith, k.upto) in
      k.is ∙ rw (z, fine.rack.whole, drop-length, append-nil) refl

  module _ (h : i < count_of r) where
    pub clearing_room : (i < 64) × (entry_at i + 8 ≤ length xs)
    clearing_room = (omega (arith, fine.rack.head.few), omega (arith, (fine.rack.entry i h).in_file, k.same))

    real : {len : ℕ} → len ≡ length_at xs i → len ≡ length_at r i
    real l = l ∙ length_same r xs contents_same i h

    -- the place behind it is no great number
    pub clearing_small : {len : ℕ} → len ≡ length_at xs i → at + len ≤ 65536
    clearing_small l = omega (arith, k.place, real l, (fine.rack.entry i h).small)

    module _ {kind : Kind} {len : ℕ} (e : kind ≡ kind_at xs i) (l : len ≡ length_at xs i) where
      kept : kind ≡ kind_at r i
      kept = e ∙ kind_same r xs contents_same i h

      pub clearing_inside : at + len ≤ length xs
      clearing_inside = omega (arith, k.place, real l, k.same, body_inside r fine.rack.whole i h)

      clearing_part : part at len xs ≡ body_at r i
      clearing_part = rw (real l, k.place, k.is) (part_at (front r i) (drop (start_of r i) r) (start_of r i) (length_at r i) reaches)

      -- the part that is lent
      lent : take ((at + len) - at) (drop at xs) ≡ part at len xs
      lent = span_part at len xs

      pub clearing_long : 32 ≤ length (take ((at + len) - at) (drop at xs))
      clearing_long = rw (lent, clearing_part, body_long r fine.rack.whole i h) (omega (arith, tag_long r fine.rack i h))

      clearing_more : {ys : List ℕ} → ys ≡ splice at len (clear_body kind (part at len xs)) xs → length ys ≡ length xs → Clearing r ys (at + len) (i + 1)
      clearing_more {ys} b n =
          record {
            upto = omega arith;
            is = b ∙ rw (clearing_part, kept, real l, k.place, k.is)
                (splice_at (front r i) (drop (start_of r i) r) (blank r i) (start_of r i) (length_at r i) reaches
                ∙ simp (gather_more, start_more, drop-drop, append_assoc));
            same = n ∙ k.same;
            place = omega (arith, k.place, real l, start_more r i);
          }

      pub clearing_label : kind ≡ Label → {b : List ℕ} → b ≡ clear (take ((at + len) - at) (drop at xs)) → length b ≡ length (take ((at + len) - at) (drop at xs))
          → Clearing r (put_mid at ((at + len) - at) xs b) (at + len) (i + 1)
      unfolding clear_body
      clearing_label z {b} c n =
          clearing_more (rw (z, c, add-sub_cancel_left at len) refl) (same_len_mid at ((at + len) - at) xs b n)

      pub clearing_other : (kind ≡ Label → ⊥) → Clearing r xs (at + len) (i + 1)
      clearing_other z =
          clearing_more
          (sym (ap (λ (b : List ℕ). splice at len b xs) (clear_kept kind (part at len xs) z)
          ∙ ap (λ (b : List ℕ). take at xs ++ b) (take-append-drop len (drop at xs)) ∙ take-append-drop at xs))
          refl
