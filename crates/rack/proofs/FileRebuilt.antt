-- A rack is its contents and a function from index to body: every law of a rack as a whole is here, so that what follows speaks of bodies
-- alone. By induction on the number of bodies; where bodies keep their lengths, each stands where it stood, and a fine rack stays fine with
-- other fine bodies. Assumes nothing.
use mathlib.Core.Path.{◌≡◌, ap, sym, ◌∙◌}
use mathlib.Core.Logic.{⊎_elim}
use mathlib.Core.List.{List, ◌++◌, append_assoc, append-nil}
use Prim.Native.Nat.{ℕ, zero, suc, ◌+◌, ◌≤◌, ◌<◌}
use native.Mathlib.Nat.{eq-or-lt_of_le}
use native.Mathlib.Omega.{arith}
use lib.ListN.{length, get_or, take, length-append}
use lib.Seq.{take_at, take_all, take-add, length-take-le}
use Rattle.frame.specs.Choose.{gather}
use Rattle.frame.specs.Judge.{fine}
use Rattle.frame.specs.Number.{part, Bytes}
use Rattle.frame.proofs.Lists.{gather_none, gather_suc}
use Rattle.frame.proofs.Numbers.{bytes_take, bytes_append}
use Rattle.frame.proofs.Stores.{length_part}
use Rattle.rack.specs.File.{count_of, entry_at, kind_at, length_at, offset_at, start_of, body_at, contents, rebuilt, head_verdict, entry_verdict, body_rules}
use Rattle.rack.specs.Facts.{BodyFine, RackFine, TagFine}
use Rattle.frame.proofs.Gather.{gather_ext, gather_bytes}
use Rattle.rack.proofs.FilePlaces.{part_at, part_in, start_none, start_suc, start_low, start_mono}
use Rattle.frame.proofs.Gather.{gather_ext, gather_bytes}
use Rattle.rack.proofs.FilePlaces.{same_read, count_same, kind_same, length_same, offset_same, start_same}
use Rattle.rack.proofs.FileVerdict.{head_fine, entry_fine, body_fine, body_is, moved_fine}

-- ---- the bodies of r and their lengths
module _ (r : List ℕ) (whole : start_of r (count_of r) ≡ length r) where
  pub contents_length : length (contents r) ≡ entry_at (count_of r)
  contents_length = length-take-le _ r (omega (arith, start_low r (count_of r)))

  pub body_inside : (i : ℕ) → i < count_of r → start_of r i + length_at r i ≤ length r
  body_inside i h = omega (arith, start_mono r i (count_of r) h)

  pub body_long : (i : ℕ) → i < count_of r → length (body_at r i) ≡ length_at r i
  body_long i h = length_part (start_of r i) (length_at r i) r (body_inside i h)

  -- the first i bodies
  own : (i : ℕ) → i ≤ count_of r → contents r ++ gather i (body_at r) ≡ take (start_of r i) r
  own zero h = rw (gather_none, append-nil, start_none)
  own (suc i) h = rw (gather_suc, ← append_assoc, own i (omega arith), start_suc) (sym (take-add (start_of r i) (length_at r i) r))

  -- a rack is its contents and its bodies
  pub rebuilt_own : rebuilt r (body_at r) ≡ r
  unfolding rebuilt
  rebuilt_own = own (count_of r) (omega arith) ∙ take_all (start_of r (count_of r)) r (omega arith)

-- the bodies of a fine rack
pub tag_fine : (r : List ℕ) → RackFine r → (i : ℕ) → i < count_of r → TagFine (kind_at r i) (body_at r i)
tag_fine r ok i h = record { fits = rw (body_long r ok.whole i h) (ok.entry i h).fits; rules = (ok.body i h).rules }

pub rebuilt_ext : (r : List ℕ) (f g : ℕ → List ℕ) → ((i : ℕ) → i < count_of r → f i ≡ g i) → rebuilt r f ≡ rebuilt r g
unfolding rebuilt
rebuilt_ext r f g h = ap (λ (x : List ℕ). contents r ++ x) (gather_ext (count_of r) f g h)

by_parts : (x y : List ℕ) (f : ℕ → List ℕ) → contents x ≡ contents y → count_of x ≡ count_of y → rebuilt x f ≡ rebuilt y f
unfolding rebuilt
by_parts x y f p q = ap (λ (l : List ℕ). l ++ gather (count_of x) f) p ∙ ap (λ (n : ℕ). contents y ++ gather n f) q

-- ---- other bodies of the same lengths
module _ (r : List ℕ) (whole : start_of r (count_of r) ≡ length r) (g : ℕ → List ℕ) (sized : (i : ℕ) → i < count_of r → length (g i) ≡ length_at r i) where
  pub front_length : (i : ℕ) → i ≤ count_of r → length (contents r ++ gather i g) ≡ start_of r i
  front_length zero h =
      length-append (contents r) _ ∙ omega (arith, contents_length r whole, start_none r, ap length (gather_none g))
  front_length (suc i) h =
      let n = sized i h in
      let ih = front_length i (omega arith) in
      rw (gather_suc, ← append_assoc, length-append, start_suc) (omega arith)

  pub rebuilt_length : length (rebuilt r g) ≡ length r
  unfolding rebuilt
  rebuilt_length = front_length (count_of r) (omega arith) ∙ whole

  pub rebuilt_front : take (entry_at (count_of r)) (rebuilt r g) ≡ contents r
  unfolding rebuilt
  rebuilt_front = take_at (contents r) (gather (count_of r) g) (entry_at (count_of r)) (contents_length r whole)

  pub rebuilt_count : count_of (rebuilt r g) ≡ count_of r
  rebuilt_count = count_same r (rebuilt r g) rebuilt_front

  pub rebuilt_kind : (i : ℕ) → i < count_of r → kind_at (rebuilt r g) i ≡ kind_at r i
  rebuilt_kind = kind_same r (rebuilt r g) rebuilt_front

  pub rebuilt_length_at : (i : ℕ) → i < count_of r → length_at (rebuilt r g) i ≡ length_at r i
  rebuilt_length_at = length_same r (rebuilt r g) rebuilt_front

  pub rebuilt_offset : (i : ℕ) → i < count_of r → offset_at (rebuilt r g) i ≡ offset_at r i
  rebuilt_offset = offset_same r (rebuilt r g) rebuilt_front

  pub rebuilt_start : (i : ℕ) → i ≤ count_of r → start_of (rebuilt r g) i ≡ start_of r i
  rebuilt_start = start_same r (rebuilt r g) rebuilt_front

  pub rebuilt_contents : contents (rebuilt r g) ≡ contents r
  rebuilt_contents = rw rebuilt_count rebuilt_front

  pub rebuilt_whole : start_of (rebuilt r g) (count_of (rebuilt r g)) ≡ length (rebuilt r g)
  rebuilt_whole = ap (start_of (rebuilt r g)) rebuilt_count ∙ rebuilt_start (count_of r) (omega arith) ∙ whole ∙ sym rebuilt_length

  front_part : (n i : ℕ) → n ≤ count_of r → i < n → part (start_of r i) (length_at r i) (contents r ++ gather n g) ≡ g i
  front_part zero i m h = absurd (omega arith)
  front_part (suc n) i m h =
      let b : i ≤ n = omega arith in
      let fl = front_length n (omega arith) in
      rw (gather_suc, ← append_assoc)
      (⊎_elim
      (λ (q : i ≡ n).
      rw q
      (part_at (contents r ++ gather n g) (g n) (start_of r n) (length_at r n) fl
      ∙ take_all (length_at r n) (g n) (omega (arith, sized n m))))
      (λ (q : i < n).
      part_in (contents r ++ gather n g) (g n) (start_of r i) (length_at r i) (omega (arith, fl, start_mono r i n q))
      ∙ front_part n i (omega arith) q)
      (eq-or-lt_of_le b))

  -- body i where body i of r stood
  pub rebuilt_part : (i : ℕ) → i < count_of r → part (start_of r i) (length_at r i) (rebuilt r g) ≡ g i
  unfolding rebuilt
  rebuilt_part i h = front_part (count_of r) i (omega arith) h

  pub rebuilt_body : (i : ℕ) → i < count_of r → body_at (rebuilt r g) i ≡ g i
  rebuilt_body i h = rw (rebuilt_start i (omega arith), rebuilt_length_at i h) (rebuilt_part i h)

  -- only the last bodies count
  pub rebuilt_again : (f : ℕ → List ℕ) → rebuilt (rebuilt r g) f ≡ rebuilt r f
  rebuilt_again f = by_parts (rebuilt r g) r f rebuilt_contents rebuilt_count

-- ---- bytes stay bytes

pub rebuilt_bytes : (r : List ℕ) (g : ℕ → List ℕ) → Bytes r → ((i : ℕ) → i < count_of r → Bytes (g i)) → Bytes (rebuilt r g)
unfolding rebuilt
rebuilt_bytes r g b h = bytes_append (contents r) (gather (count_of r) g) (bytes_take (entry_at (count_of r)) r b) (gather_bytes (count_of r) g h)

-- ---- verdicts of two racks with the same contents and length
module _ (r x : List ℕ) (same : length x ≡ length r) (front : take (entry_at (count_of r)) x ≡ contents r) where
  reads : (j : ℕ) → j < entry_at (count_of r) → get_or x j 0 ≡ get_or r j 0
  reads = same_read (entry_at (count_of r)) x r front

  pub head_same : head_verdict x ≡ head_verdict r
  unfolding head_verdict
  head_same = rw (same, reads 0 (omega arith), count_same r x front)

  pub entry_same : (i : ℕ) → i < count_of r → entry_verdict x i ≡ entry_verdict r i
  unfolding entry_verdict
  entry_same i h =
      rw (
        same,
        kind_same r x front i h,
        reads (entry_at i + 1) (omega arith),
        length_same r x front i h,
        offset_same r x front i h,
        start_same r x front i (omega arith),
      )

-- ---- a fine rack with other fine bodies is fine
module _ (r : List ℕ) (g : ℕ → List ℕ) (ok : RackFine r) (sized : (i : ℕ) → i < count_of r → length (g i) ≡ length_at r i)
    (tags : (i : ℕ) → i < count_of r → TagFine (kind_at r i) (g i)) where
  inside : (i : ℕ) → i < count_of r → BodyFine (rebuilt r g) i
  inside i h =
      let x = rebuilt r g in
      let n = rebuilt_count r ok.whole g sized in
      let m : i < count_of x = omega (arith, n) in
      let z : body_rules (kind_at x i) (body_at x i) ≡ fine =
      rw (rebuilt_kind r ok.whole g sized i h, rebuilt_body r ok.whole g sized i h) (tags i h).rules in
      let e = body_is x i (body_inside x (rebuilt_whole r ok.whole g sized) i m) in
      body_fine x i (e ∙ moved_fine (start_of x i) (body_rules (kind_at x i) (body_at x i)) z)

  pub rebuilt_fine : RackFine (rebuilt r g)
  rebuilt_fine =
      let x = rebuilt r g in
      let front = rebuilt_front r ok.whole g sized in
      let same = rebuilt_length r ok.whole g sized in
      let n = rebuilt_count r ok.whole g sized in
      record {
        head = head_fine x (head_same r x same front ∙ ok.head.is_fine);
        entry = λ i h. let b : i < count_of r = omega (arith, n) in entry_fine x i (entry_same r x same front i b ∙ (ok.entry i b).is_fine);
        body = λ i h. inside i (omega (arith, n));
        whole = rebuilt_whole r ok.whole g sized;
      }
