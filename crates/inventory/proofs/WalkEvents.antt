-- An event of a walk sent to a well-formed rack is played, without its frame. Idea: no refusal applies, and the signal of an Inventory frame is the walk's own
-- but for bytes that only a write reads. Assumes nothing.
use mathlib.Core.Path.{◌≡◌, refl, ap, sym, ◌∙◌}
use mathlib.Core.Bool.{true, ◌&&◌}
use mathlib.Core.List.{List, []}
use Prim.Native.Nat.{ℕ, ◌^◌, ◌≤◌, ◌<◌}
use native.Mathlib.Omega.{arith}
use borrow.Author.Tests.{eq-eqb, le-ltb}
use lib.Dec.{leb}
use lib.ListN.{length, get_or}
use Rattle.frame.specs.Choose.{gather}
use Rattle.frame.proofs.Numbers.{bytes_part}
use Rattle.request.specs.Label as labels
use Rattle.request.specs.Label.{bare}
use Rattle.request.specs.declared.label.Family.{Family}
use Rattle.request.specs.declared.label.Family.TheVariants.{Any, Only}
use Rattle.request.specs.declared.label.Call.TheVariants.{Inventory, EndOfFrame}
use Rattle.request.specs.Chip as chips
use Rattle.frame.specs.Judge.{fine}
use Rattle.rack.specs.declared.tag.Kind.{Kind}
use Rattle.rack.specs.declared.tag.Kind.TheVariants.{Label, Chip, Other}
use Rattle.rack.specs.File.{count_of, kind_at, length_at, start_of, body_at, rebuilt, length_fits, body_rules}
use Rattle.rack.specs.Facts.{RackFine}
pub use Rattle.rack.specs.Facts.{Fine}
use Rattle.rack.specs.Tag.{Event, aired}
use Rattle.request.proofs.LabelFramed.{sixteen_back, sixteen_afi_back}
use Rattle.frame.proofs.Gather.{gather_ext}
use Rattle.rack.proofs.FileRebuilt.{rebuilt_ext}
use Rattle.rack.proofs.FileRebuilt as rebuilt
use Rattle.rack.proofs.FileVerdict.{fine_rack}
use Rattle.rack.proofs.TagKinds.{fits_label, fits_chip, fits_none}
use Rattle.event.specs.Event.{next, answer, next_rack, answers, played, least, refusal_of, event_of}
use Rattle.inventory.specs.Walk.{PerEvent, request}
use Rattle.inventory.proofs.WalkSent.{event}
use Rattle.inventory.proofs.WalkBodies.{TagOk, event_with, during_body, called, spoken, body_first, answer_first}

-- ---- its tags

fits_long : (kind : Kind) (len : ℕ) → length_fits kind len ≡ true → 34 ≤ len
fits_long Label len h = (fits_label len h).0
fits_long Chip len h = omega (arith, fits_chip len h)
fits_long Other len h = absurd (fits_none len h)

-- a body holds a label's first bytes
pub tag_long : (r : List ℕ) → RackFine r → (i : ℕ) → i < count_of r → 34 ≤ length_at r i
tag_long r ok i h = fits_long (kind_at r i) (length_at r i) (ok.entry i h).fits

pub tag : (r : List ℕ) → Fine r → (i : ℕ) → i < count_of r → TagOk (kind_at r i) (body_at r i)
tag r ok i h = record { small = bytes_part (start_of r i) (length_at r i) r ok.bytes; rules = (ok.rack.body i h).rules }

-- other bodies of the same lengths that keep their rules
pub rebuilt_fine : (r : List ℕ) (g : ℕ → List ℕ) → RackFine r
    → ((i : ℕ) → i < count_of r → (length (g i) ≡ length_at r i) × (body_rules (kind_at r i) (g i) ≡ fine)) → RackFine (rebuilt r g)
rebuilt_fine r g ok h =
    rebuilt.rebuilt_fine r g ok (λ i b. (h i b).0) (λ i b. record { fits = rw (h i b).0 (ok.entry i b).fits; rules = (h i b).1 })

-- ---- no refusal applies

-- what the events of a walk on r may be lent
pub record Lent (draws out : PerEvent) (r : List ℕ) : Type 0 where
  pub size : (m e s : ℕ) → length (draws m e s) ≡ count_of r
  pub room : (m e s : ℕ) → least ≤ length (out m e s)

-- by another rack with as many tags
pub lent_same : {draws out : PerEvent} {r x : List ℕ} → Lent draws out r → count_of x ≡ count_of r → Lent draws out x
lent_same l e = record { size = λ m n s. l.size m n s ∙ sym e; room = l.room }

module _ {draws out : PerEvent} {r : List ℕ} (lent : Lent draws out r) (ok : RackFine r) (m n s : ℕ) where
  plays : (e : ℕ) → (leb 1 e && leb e 5) ≡ true → (f : List ℕ) → event_of r e f (draws m n s) (out m n s) ≡ played r (aired e f) (draws m n s) (out m n s)
  unfolding event_of refusal_of
  plays e h f =
      rw (fine_rack r ok, lent.size m n s, eq-eqb (count_of r) (count_of r) refl, le-ltb (length (out m n s)) least (lent.room m n s), h) refl

  pub ends : event_of r 4 [] (draws m n s) (out m n s) ≡ played r (event EndOfFrame) (draws m n s) (out m n s)
  unfolding labels.heard labels.data_of chips.heard
  ends = plays 4 refl []

-- ---- an Inventory

reads : (family : Family) (m e : ℕ) → m ≤ 60 → e < 2 ^ m → labels.decode (request family m e) ≡ bare (Inventory family true m e)
unfolding request
reads Any m e short low = sixteen_back m e low short
reads (Only afi) m e short low = sixteen_afi_back m e low afi short

signal_reads : (family : Family) (m e : ℕ) → m ≤ 60 → e < 2 ^ m
    → aired 3 (request family m e) ≡ event_with (labels.data_of (request family m e)) (Inventory family true m e)
unfolding labels.heard chips.heard
signal_reads family m e short low = rw (reads family m e short low) refl

played_same : (r : List ℕ) (x y : Event) (ds out : List ℕ) → answers r x ds ≡ answers r y ds → next_rack r x ds ≡ next_rack r y ds
    → played r x ds out ≡ played r y ds out
played_same r x y ds out p q = rw (p, q) refl

module _ (r : List ℕ) (ok : Fine r) (family : Family) (m e : ℕ) where
  pub next_first : (bytes ds : List ℕ)
      → next_rack r (event_with bytes (Inventory family true m e)) ds ≡ rebuilt r (λ i. during_body family m e 0 (kind_at r i) (body_at r i))
  unfolding next_rack next
  next_first bytes ds = rebuilt_ext r _ _ (λ i h. body_first (tag r ok i h) family m e bytes (get_or ds i 0))

  pub answers_first : (bytes ds : List ℕ)
      → answers r (event_with bytes (Inventory family true m e)) ds
      ≡ gather (count_of r) (λ i. spoken (called family m e 0 (kind_at r i) (body_at r i)) (body_at r i))
  unfolding answers answer
  answers_first bytes ds = gather_ext (count_of r) _ _ (λ i h. answer_first (kind_at r i) (body_at r i) family m e bytes (get_or ds i 0))

  pub opens : {draws out : PerEvent} → Lent draws out r → m ≤ 60 → e < 2 ^ m
      → event_of r 3 (request family m e) (draws m e 0) (out m e 0) ≡ played r (event (Inventory family true m e)) (draws m e 0) (out m e 0)
  opens {draws} {out} lent short low =
      let bs = labels.data_of (request family m e) in
      let ds = draws m e 0 in
      plays lent ok.rack m e 0 3 refl (request family m e)
      ∙ ap (λ (x : Event). played r x ds (out m e 0)) (signal_reads family m e short low)
      ∙ played_same r (event_with bs (Inventory family true m e)) (event (Inventory family true m e)) ds (out m e 0)
      (answers_first bs ds ∙ sym (answers_first [] ds)) (next_first bs ds ∙ sym (next_first [] ds))
