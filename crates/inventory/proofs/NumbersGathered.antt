-- The UIDs gathered from the rack: a tag has one UID or none. Idea: a fine rack's body lies where its entry says (`told`). Assumes nothing.
use mathlib.Core.Path.{◌≡◌, refl, ap, sym, ◌∙◌}
use mathlib.Core.Bool.{true, false}
use mathlib.Core.List.{List, [], ◌++◌, append-nil}
use Prim.Native.Nat.{ℕ, ◌+◌, ◌≤◌, ◌<◌}
use native.Mathlib.Numerals.{add-one}
use native.Mathlib.Omega.{arith}
use lib.ListN.{length, take, set, length-set}
use lib.Seq.{length-take-le, take-suc-set}
use Rattle.frame.specs.Number.{part}
use Rattle.frame.proofs.Lists.{gather_none, gather_more}
use Rattle.label_body.specs.Slots.{uid_of, takes_part}
use Rattle.request.specs.declared.label.Family.{Family}
use Rattle.rack.specs.declared.tag.Kind.{Kind}
use Rattle.rack.specs.declared.tag.Kind.TheVariants.{Label, Chip, Other}
use Rattle.rack.specs.File.{count_of, kind_at, length_at, body_at}
use Rattle.rack.specs.Facts.{RackFine, body_of}
use Rattle.rack.proofs.TagKinds.{label_long}
use Rattle.inventory.specs.Walk.{uid_at, uids_to, uids}
use Rattle.inventory.specs.Numbers.{First}
use Rattle.inventory.proofs.WalkUids.{uids_to_few}

-- those of the first i tags stand at the front of us
pub record Gathering (family : Family) (r us₀ us : List ℕ) (n i : ℕ) : Type 0 where
  pub same : length us ≡ length us₀
  pub first : First (uids_to family r i) us n

pub gathered_none : (family : Family) (r us : List ℕ) → Gathering family r us us 0 0
unfolding uids_to
gathered_none family r us = record { same = refl; first = record { inside = omega arith; are = rw gather_none refl } }

pub gathered_all : (family : Family) (r us₀ us : List ℕ) (n : ℕ) → Gathering family r us₀ us n (count_of r) → First (uids family r) us n
gathered_all family r us₀ us n k = k.first

module _ (family : Family) (r us₀ us : List ℕ) (n i : ℕ) (ok : RackFine r) (low : i < count_of r) (wide : 64 ≤ length us₀) (so_far : Gathering family r us₀ us n i) where
  number : n ≤ i
  number = omega (arith, length-take-le n us so_far.first.inside, ap length so_far.first.are, uids_to_few family r i)

  pub gathered_room : n < length us
  gathered_room = omega (arith, number, so_far.same, wide, low, ok.head.few)

  told : body_of r i ≡ body_at r i
  told = ap (λ (n : ℕ). part n (length_at r i) r) (ok.entry i low).placed

  one_more : uids_to family r (i + 1) ≡ take n us ++ uid_at family (kind_at r i) (body_of r i)
  unfolding uids_to
  one_more = rw (gather_more, so_far.first.are, told) refl

  pub gathered_some : kind_at r i ≡ Label → takes_part family (body_of r i) ≡ true → Gathering family r us₀ (set us n (uid_of (body_of r i))) (n + 1) (i + 1)
  unfolding uid_at
  gathered_some k t =
      let u : ℕ = uid_of (body_of r i) in
      record {
        same = length-set us n u ∙ so_far.same;
        first = record {
          inside = omega (arith, gathered_room, length-set us n u);
          are = ap (λ (j : ℕ). take j (set us n u)) (add-one n) ∙ take-suc-set us n u gathered_room ∙ sym (one_more ∙ rw (k, t) refl);
        };
      }

  -- a tag without a UID to take
  idle : uid_at family (kind_at r i) (body_of r i) ≡ [] → Gathering family r us₀ us n (i + 1)
  idle e =
      record {
        same = so_far.same;
        first = record { inside = so_far.first.inside; are = sym (one_more ∙ ap (λ (l : List ℕ). take n us ++ l) e ∙ append-nil (take n us)) };
      }

  pub gathered_idle : takes_part family (body_of r i) ≡ false → Gathering family r us₀ us n (i + 1)
  unfolding uid_at
  gathered_idle t = idle (go (kind_at r i))
    where
      go : (kind : Kind) → uid_at family kind (body_of r i) ≡ []
      go Label = rw t refl
      go Chip = refl
      go Other = refl

  pub gathered_other : (kind_at r i ≡ Label → ⊥) → Gathering family r us₀ us n (i + 1)
  unfolding uid_at
  gathered_other n = idle (go (kind_at r i) n)
    where
      go : (kind : Kind) → (kind ≡ Label → ⊥) → uid_at family kind (body_of r i) ≡ []
      go Label z = absurd (z refl)
      go Chip z = refl
      go Other z = refl

-- with what a label's body is: the rules of `collect`
pub ruleset gathered = (label_long, gathered_none, gathered_room, gathered_some, gathered_idle, gathered_other, gathered_all)
