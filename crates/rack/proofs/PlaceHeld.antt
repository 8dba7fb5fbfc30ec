-- The walk along the entries to the body that holds a place: what is still ahead leads to the same tag. Assumes nothing.
use mathlib.Core.Path.{◌≡◌, refl, ap, ap₂, sym, ◌∙◌}
use mathlib.Core.List.{List, [], ◌∷◌}
use Prim.Native.Nat.{ℕ, suc, ◌+◌, ◌-◌, ◌*◌, ◌≤◌, ◌<◌}
use native.Mathlib.Omega.{arith}
use borrow.Author.Tests.{lt-ltb, le-ltb}
use lib.Dec.{ltb}
use lib.ListN.{get_or, take, drop}
use lib.Seq.{get_or-drop}
use Rattle.frame.specs.Number.{num, part}
use Rattle.frame.proofs.Bools.{if_true, if_false}
use Rattle.frame.proofs.Lists.{drop_head}
use Rattle.rack.specs.File.{count_of, entry_at, kind_at, length_at, start_of}
use Rattle.rack.specs.declared.place.Held.{Held}
use Rattle.rack.specs.Place.{holder_on, holder_of, IsHeld}
use Rattle.rack.proofs.FilePlaces.{start_none, start_more}

-- ---- two bytes, of which the file may end before one

two : (l : List ℕ) → get_or l 0 0 + get_or l 1 0 * 256 ≡ num (take 2 l)
two [] = refl
two (x ∷ []) = refl
two (x ∷ y ∷ l) = omega arith

two_bytes : (r : List ℕ) (p : ℕ) → get_or r p 0 + get_or r (p + 1) 0 * 256 ≡ num (part p 2 r)
two_bytes r p = rw (← drop_head p r, ← get_or-drop p r 1 0) (two (drop p r))

pub length_read : (r : List ℕ) (i : ℕ) {e x y : ℕ} → e ≡ entry_at i → x ≡ get_or r (e + 2) 0 → y ≡ get_or r (e + 3) 0 → x + y * 256 ≡ length_at r i
length_read r i {e} h f g =
    let s : e + 3 ≡ e + 2 + 1 = omega arith in
    ap₂ (λ (x y : ℕ). x + y * 256) f (g ∙ ap (λ (k : ℕ). get_or r k 0) s)
    ∙ two_bytes r (e + 2)
    ∙ ap (λ (k : ℕ). num (part (k + 2) 2 r)) h

-- ---- the walk

pub record Walking (r : List ℕ) (place n i at : ℕ) : Type 0 where
  pub inside : i ≤ n
  pub few : n ≤ 255
  pub starts : at ≡ start_of r i
  pub small : at ≤ 2042 + 65535 * i
  pub leads : holder_on r place i (n - i) ≡ holder_of r place

pub walking_start : (r : List ℕ) (place : ℕ) {n at : ℕ} → n ≡ count_of r → n ≤ 255 → at ≡ entry_at n → Walking r place n 0 at
unfolding holder_of
walking_start r place {n} {at} e few h =
    record {
      inside = omega arith;
      few = few;
      starts = h ∙ ap entry_at e ∙ sym (start_none r);
      small = omega arith;
      leads = ap (holder_on r place 0) (let z : n - 0 ≡ n = omega arith in z ∙ e);
    }

module _ {r : List ℕ} {place n i at : ℕ} (w : Walking r place n i at) where
  pub walking_done : n ≤ i → i ≡ holder_of r place
  walking_done h = let e : n - i ≡ 0 = omega (arith, w.inside) in ap (holder_on r place i) (sym e) ∙ w.leads

  module _ {len : ℕ} (l : len ≡ length_at r i) (h : i < n) where
    next_start : at + len ≡ start_of r (i + 1)
    next_start = ap (λ (k : ℕ). at + k) l ∙ ap (λ (k : ℕ). k + length_at r i) w.starts ∙ sym (start_more r i)

    left : n - i ≡ suc (n - (i + 1))
    left = omega arith

    pub walking_here : place < at + len → i ≡ holder_of r place
    walking_here g =
        let t = lt-ltb place (start_of r (i + 1)) (rw next_start at g) in
        sym (ap (holder_on r place i) left ∙ if_true (ltb place (start_of r (i + 1))) i (holder_on r place (i + 1) (n - (i + 1))) t) ∙ w.leads

    pub walking_on : at + len ≤ place → len < 65536 → Walking r place n (i + 1) (at + len)
    walking_on g s =
        record {
          inside = omega arith;
          few = w.few;
          starts = next_start;
          small = omega (arith, w.small);
          leads =
              let t = le-ltb place (start_of r (i + 1)) (rw next_start at g) in
              sym (ap (holder_on r place i) left ∙ if_false (ltb place (start_of r (i + 1))) i (holder_on r place (i + 1) (n - (i + 1))) t) ∙ w.leads;
        }

pub is_held : {r : List ℕ} {place tag at : ℕ} {h : Held} → tag ≡ holder_of r place → at ≡ start_of r tag
    → (h.tag ≡ tag) × (h.start ≡ at) × (h.kind ≡ kind_at r tag) → IsHeld r place h
is_held {r} e s f =
    record {
      tag = f.0 ∙ e;
      start = f.1 ∙ s ∙ ap (start_of r) e;
      kind = f.2 ∙ ap (kind_at r) e;
    }
