-- The verdict on a rack file: what a fine verdict tells of each part, by the tests of that part (`rack_fine`), and back (`fine_rack`).
-- Assumes nothing.
use Rattle.std.specs.Prelude.{Ok, Err}
use mathlib.Core.Path.{◌≡◌, refl, ap, sym}
use mathlib.Core.List.{List}
use mathlib.Core.Bool.{not}
use Prim.Native.Nat.{ℕ, zero, suc, ◌+◌, ◌≤◌, ◌<◌}
use native.Mathlib.Nat.{le_antisymm}
use native.Mathlib.Omega.{arith}
use borrow.Author.Tests.{eqb-true, lt-ltb, le-ltb, ltb-false, not-false}
use lib.Dec.{eqb, ltb}
use lib.ListN.{length, get_or}
use Rattle.frame.specs.Judge.{Verdict, fine, bad, first_of}
use Rattle.frame.specs.declared.verdict.Offence.{Offence}
use Rattle.frame.specs.declared.verdict.Rule.TheVariants.{Length, Head, Entry, Behind}
use Rattle.frame.proofs.Judge.{if_fine, else_fine, first_each, first_all}
use Rattle.rack.specs.File.{count_of, entry_at, kind_at, length_at, offset_at, start_of, body_at}
use Rattle.rack.specs.File.{known, length_fits, head_verdict, entry_verdict, body_rules, moved, body_verdict, end_verdict, verdict_of}
use Rattle.rack.specs.Facts.{HeadFine, EntryFine, EntriesFine, BodyFine, RackFine}
use Rattle.rack.proofs.FilePlaces.{start_none, start_suc}

-- ---- what a fine part tells

pub head_fine : (r : List ℕ) → head_verdict r ≡ fine → HeadFine r
unfolding head_verdict
head_fine r e =
    let a = if_fine (ltb (length r) 2) Length (length r) _ e in
    let b = if_fine (not (eqb (get_or r 0 0) 1)) Head 0 _ a.1 in
    let d = if_fine (ltb 64 (count_of r)) Head 1 _ b.1 in
    record { is_fine = simp (a.0, b.0, d.0); two_bytes = ltb-false _ _ a.0; few = ltb-false _ _ d.0 }

pub entry_fine : (r : List ℕ) (i : ℕ) → entry_verdict r i ≡ fine → EntryFine r i
unfolding entry_verdict
entry_fine r i e =
    let t1 = if_fine (ltb (length r) (entry_at i + 8)) Length (length r) _ e in
    let t2 = if_fine (not (known (kind_at r i))) Entry (entry_at i) _ t1.1 in
    let t3 = if_fine (not (eqb (get_or r (entry_at i + 1) 0) 0)) Entry (entry_at i + 1) _ t2.1 in
    let t4 = if_fine (not (length_fits (kind_at r i) (length_at r i))) Entry (entry_at i + 2) _ t3.1 in
    let t5 = if_fine (ltb 65536 (start_of r i + length_at r i)) Entry (entry_at i + 2) _ t4.1 in
    let t6 = if_fine (not (eqb (offset_at r i) (start_of r i))) Entry (entry_at i + 4) _ t5.1 in
    record {
      is_fine = simp (t1.0, t2.0, t3.0, t4.0, t5.0, t6.0);
      in_file = ltb-false _ _ t1.0;
      fits = not-false _ t4.0;
      small = ltb-false _ _ t5.0;
      placed = eqb-true _ _ (not-false _ t6.0);
    }

pub moved_fine : (at : ℕ) (v : Verdict) → v ≡ fine → moved at v ≡ fine
unfolding moved
moved_fine at v h = rw h

pub moved_bad : (at : ℕ) (v : Verdict) (o : Offence) → v ≡ Err o → moved at v ≡ bad o.rule (at + o.place)
unfolding moved
moved_bad at v o h = rw h

fine_moved : (at : ℕ) (v : Verdict) → moved at v ≡ fine → v ≡ fine
unfolding moved
fine_moved at (Ok u) e = refl
fine_moved at (Err o) e = absurd (cc)

pub body_short : (r : List ℕ) (i : ℕ) → length r < start_of r i + length_at r i → body_verdict r i ≡ bad Length (length r)
unfolding body_verdict
body_short r i h = rw (lt-ltb _ _ h)

pub body_is : (r : List ℕ) (i : ℕ) → start_of r i + length_at r i ≤ length r
    → body_verdict r i ≡ moved (start_of r i) (body_rules (kind_at r i) (body_at r i))
unfolding body_verdict
body_is r i h = rw (le-ltb _ _ h)

pub body_fine : (r : List ℕ) (i : ℕ) → body_verdict r i ≡ fine → BodyFine r i
unfolding body_verdict
body_fine r i e =
    let t1 = if_fine (ltb (length r) (start_of r i + length_at r i)) Length (length r) _ e in
    let v = body_rules (kind_at r i) (body_at r i) in
    let z = fine_moved (start_of r i) v t1.1 in
    record { is_fine = simp t1.0 (moved_fine (start_of r i) v z); in_file = ltb-false _ _ t1.0; rules = z }

pub entries_fine : (r : List ℕ) → first_of (count_of r) (entry_verdict r) ≡ fine → EntriesFine r
entries_fine r e = λ i h. entry_fine r i (first_each (entry_verdict r) (count_of r) i e h)

end_fine : (r : List ℕ) → end_verdict r ≡ fine → length r ≤ start_of r (count_of r)
unfolding end_verdict
end_fine r e = ltb-false _ _ (if_fine (ltb (start_of r (count_of r)) (length r)) Behind (start_of r (count_of r)) _ e).0

pub end_good : (r : List ℕ) (end : ℕ) → end ≡ start_of r (count_of r) → length r ≤ end → fine ≡ end_verdict r
unfolding end_verdict
end_good r end e h = rw (le-ltb _ _ (rw e at h))

-- ---- the laws for callers

-- a fine verdict, and all that it tells
pub rack_fine : (r : List ℕ) → verdict_of r ≡ fine → RackFine r
unfolding verdict_of
rack_fine r e =
    let h = else_fine (head_verdict r) _ e in
    let n = else_fine (first_of (count_of r) (entry_verdict r)) _ h.1 in
    let b = else_fine (first_of (count_of r) (body_verdict r)) _ n.1 in
    let hf = head_fine r h.0 in
    let bf : (i : ℕ) → i < count_of r → BodyFine r i = λ i k. body_fine r i (first_each (body_verdict r) (count_of r) i b.0 k) in
    record {
      head = hf;
      entry = entries_fine r n.0;
      body = bf;
      whole = le_antisymm (ends (count_of r) refl hf bf) (end_fine r b.1);
    }
  where
    ends : (m : ℕ) → m ≡ count_of r → HeadFine r → ((i : ℕ) → i < count_of r → BodyFine r i) → start_of r (count_of r) ≤ length r
    ends zero q hf bf = rw (← q) (omega (arith, start_none r, hf.two_bytes))
    ends (suc m) q hf bf = rw (← q) (omega (arith, start_suc r m, (bf m (omega arith)).in_file))

-- and a rack of which all that holds has it
pub fine_rack : (r : List ℕ) → RackFine r → verdict_of r ≡ fine
unfolding verdict_of
fine_rack r ok =
    let en = first_all (entry_verdict r) (count_of r) (λ i h. (ok.entry i h).is_fine) in
    let bo = first_all (body_verdict r) (count_of r) (λ i h. (ok.body i h).is_fine) in
    rw (ok.head.is_fine, en, bo) (sym (end_good r (length r) (sym ok.whole) (omega arith)))

-- document 01, "Rack file": at most 65,536 bytes
pub most_bytes : (r : List ℕ) → verdict_of r ≡ fine → length r ≤ 65536
most_bytes r e = go (rack_fine r e) (count_of r) refl
  where
    go : RackFine r → (n : ℕ) → n ≡ count_of r → length r ≤ 65536
    go ok zero q = omega (arith, ok.whole, ap (start_of r) q, start_none r)
    go ok (suc m) q = omega (arith, ok.whole, ap (start_of r) q, start_suc r m, (ok.entry m (omega arith)).small)
