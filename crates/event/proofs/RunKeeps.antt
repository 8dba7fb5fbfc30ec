-- What every event keeps, every run of events keeps: one induction over the run (`run_keeps`), one law of a tag's body in it (`run_body`), and the
-- floor's laws of one tag over whole runs. Assumes nothing.
use mathlib.Core.Path.{◌≡◌, refl, sym, subst, ◌∙◌}
use mathlib.Core.Logic.{◌⊎◌}
use mathlib.Core.Bool.{true}
use mathlib.Core.List.{List, [], ◌∷◌}
use Prim.Native.Nat.{ℕ, ◌≤◌, ◌<◌}
use native.Mathlib.Nat.{le_refl, le_trans}
use native.Mathlib.Omega.{arith}
use lib.ListN.{length, get_or}
use Rattle.frame.specs.Choose.{bit}
use Rattle.frame.specs.Number.{num, part, Bytes}
use Rattle.label_body.specs.Locks.{lock_on}
use Rattle.label_body.specs.Body.{next_label, blocks_of, size_of, block_at}
use Rattle.label_body.proofs.LocksLaws.{room_same}
use Rattle.label_body.proofs.FactsFine.{long_enough}
use Rattle.label_body.proofs.Floor as label
use Rattle.chip.specs.Write.{locked}
use Rattle.chip_body.specs.Body.{next_chip, block_of}
use Rattle.chip_body.proofs.Floor as chip
use Rattle.frame.specs.Judge.{fine}
use Rattle.rack.specs.declared.tag.Kind.{Kind}
use Rattle.rack.specs.declared.tag.Kind.TheVariants.{Label, Chip}
use Rattle.rack.specs.File.{count_of, kind_at, body_at, contents, verdict_of}
use Rattle.rack.specs.Facts.{Fine, TagFine}
use Rattle.rack.specs.Tag.{Event, aired, next_body}
use Rattle.rack.proofs.FileVerdict.{rack_fine, fine_rack, most_bytes}
use Rattle.rack.proofs.TagKinds.{Stepping, signal_sound, label_sized, chip_80}
use Rattle.event.specs.Event.{next_rack}
use Rattle.event.specs.Run.{Happening, after_event, ran}
use Rattle.event.proofs.EventNext.{next_count, next_kind, body_next, stepping, next_bytes, next_fine}
use Rattle.event.proofs.Floor.{left_by, contents_left}

-- ---- the induction

-- from a rack of bytes that keeps its rules an event leaves one
after_fine : (r : List ℕ) → Fine r → (e : Happening) → Fine (after_event r e)
after_fine r ok e =
    let s = signal_sound e.number e.frame e.frame_bytes in
    left_by Fine r e.number e.frame e.draws e.out ok
    (record {
      rack = next_fine r (aired e.number e.frame) e.draws ok.rack ok.bytes e.draw_bytes s;
      bytes = next_bytes r (aired e.number e.frame) e.draws ok.rack ok.bytes e.draw_bytes s;
    })

-- what every event keeps, every run keeps; and the rack stays well-formed and made of bytes
pub run_keeps : (P : List ℕ → Type 0) → ((r : List ℕ) → Fine r → (e : Happening) → P r → P (after_event r e)) → (r : List ℕ) → Fine r
    → (es : List Happening) → P r → P (ran r es) × Fine (ran r es)
unfolding ran
run_keeps P step r ok [] p = (p, ok)
run_keeps P step r ok (e ∷ es) p = run_keeps P step (after_event r e) (after_fine r ok e) es (step r ok e p)

-- ---- a locked block, as a run keeps it: where it stands, what it holds, its lock

record Held (old : List ℕ) (n : ℕ) (b : List ℕ) : Type 0 where
  count : get_or b 11 0 ≡ get_or old 11 0
  size : get_or b 12 0 ≡ get_or old 12 0
  same : part (block_at old n) (size_of old) b ≡ part (block_at old n) (size_of old) old
  lock : lock_on n b ≡ 1

long : (b : List ℕ) → TagFine Label b → 25 ≤ length b
long b f = omega (arith, long_enough b (label_sized b f))

place_same : (old b : List ℕ) (n : ℕ) → get_or b 11 0 ≡ get_or old 11 0 → get_or b 12 0 ≡ get_or old 12 0 → block_at b n ≡ block_at old n
unfolding block_at
place_same old b n p q = rw (room_same old b p, q)

held_next : (old : List ℕ) (n : ℕ) → n < blocks_of old → (event : Event) (d : ℕ) (b : List ℕ) → Stepping Label event d b → Held old n b
    → Held old n (next_label event.signal.label event.bytes b)
held_next old n m event d b s p =
    let r = event.signal.label in
    let there : n < blocks_of b = rw p.count m in
    let at : block_at b n ≡ block_at old n = place_same old b n p.count p.size in
    let z : size_of b ≡ size_of old = rw p.size in
    let q = label.locked_block_stays r event.bytes b n there p.lock in
    record {
      count = label.numbers_stay r event.bytes b 11 (omega arith) (omega arith) ∙ p.count;
      size = label.numbers_stay r event.bytes b 12 (omega arith) (omega arith) ∙ p.size;
      same = (rw (at, z) at q) ∙ p.same;
      lock = label.lock_stays r event.bytes b n there p.lock (label_sized b s.fine);
    }

module _ (r : List ℕ) (well_formed : verdict_of r ≡ fine) (bytes : Bytes r) (es : List Happening) where
  start : Fine r
  start = record { rack = rack_fine r well_formed; bytes = bytes }

  -- ---- the rack

  ran_fine : Fine (ran r es)
  ran_fine = (run_keeps (λ x. Unit) (λ x ok e p. tt) r start es tt).1

  -- it stays well-formed and made of bytes
  pub stays_fine : verdict_of (ran r es) ≡ fine
  stays_fine = fine_rack (ran r es) ran_fine.rack

  pub stays_bytes : Bytes (ran r es)
  stays_bytes = ran_fine.bytes

  -- and never grows past its room
  pub stays_small : length (ran r es) ≤ 65536
  stays_small = most_bytes (ran r es) stays_fine

  -- the contents never change
  pub contents_stay : contents (ran r es) ≡ contents r
  contents_stay =
      (run_keeps (λ x. contents x ≡ contents r)
      (λ x ok e p. contents_left x ok.rack e.number e.frame e.draws e.out ∙ p) r start es refl).0

  -- ---- tag i
  module _ (i : ℕ) (h : i < count_of r) where
    abbrev body : List ℕ
    body = body_at r i

    abbrev body_ran : List ℕ
    body_ran = body_at (ran r es) i

    -- what every step of a tag's body keeps, every run keeps
    pub run_body : (kind : Kind) → kind_at r i ≡ kind → (Q : List ℕ → Type 0)
        → ((event : Event) (d : ℕ) (b : List ℕ) → Stepping kind event d b → Q b → Q (next_body kind event d b)) → Q body → Q body_ran
    run_body kind k Q step q = (run_keeps P on r start es (refl, (k, q))).0.1.1
      where
        P : List ℕ → Type 0
        P x = (count_of x ≡ count_of r) × ((kind_at x i ≡ kind) × Q (body_at x i))

        on : (x : List ℕ) → Fine x → (e : Happening) → P x → P (after_event x e)
        on x ok e p =
            let event = aired e.number e.frame in
            let ds = e.draws in
            let there : i < count_of x = rw p.0 h in
            let s = stepping x event ds ok.rack ok.bytes e.draw_bytes (signal_sound e.number e.frame e.frame_bytes) i there in
            let t : Stepping kind event (get_or ds i 0) (body_at x i) = rw p.1.0 at s in
            let y = body_next x event ds ok.rack i there in
            let z : body_at (next_rack x event ds) i ≡ next_body kind event (get_or ds i 0) (body_at x i) = rw p.1.0 at y in
            left_by P x e.number e.frame ds e.out p (
              next_count x event ds ok.rack ∙ p.0,
              (next_kind x event ds ok.rack i there ∙ p.1.0, subst Q (sym z) (step event (get_or ds i 0) (body_at x i) t p.1.1)),
            )

    -- ---- labels
    module _ (k : kind_at r i ≡ Label) where
      by_label : (Q : List ℕ → Type 0)
          → ((event : Event) (d : ℕ) (b : List ℕ) → Stepping Label event d b → Q b → Q (next_label event.signal.label event.bytes b))
          → Q body → Q body_ran
      unfolding next_body
      by_label Q step q = run_body Label k Q step q

      pub uid_stays : part 0 8 body_ran ≡ part 0 8 body
      uid_stays = by_label (λ x. part 0 8 x ≡ part 0 8 body) (λ event d b s p. label.uid_stays event.signal.label event.bytes b ∙ p) refl

      -- block count and block length are bytes 11 and 12
      pub numbers_stay : (j : ℕ) → 11 ≤ j → j < 14 → get_or body_ran j 0 ≡ get_or body j 0
      numbers_stay j low high =
          by_label (λ x. get_or x j 0 ≡ get_or body j 0)
          (λ event d b s p. label.numbers_stay event.signal.label event.bytes b j low high ∙ p) refl

      pub locked_afi_stays : bit 0 (get_or body 10 0) ≡ 1 → (get_or body_ran 9 0 ≡ get_or body 9 0) × (bit 0 (get_or body_ran 10 0) ≡ 1)
      locked_afi_stays l =
          by_label (λ x. (get_or x 9 0 ≡ get_or body 9 0) × (bit 0 (get_or x 10 0) ≡ 1))
          (λ event d b s p.
          let q = label.locked_afi_stays event.signal.label event.bytes b (long b s.fine) p.1 in
          (q.0 ∙ p.0, q.1)) (refl, l)

      pub locked_dsfid_stays : bit 1 (get_or body 10 0) ≡ 1 → (get_or body_ran 8 0 ≡ get_or body 8 0) × (bit 1 (get_or body_ran 10 0) ≡ 1)
      locked_dsfid_stays l =
          by_label (λ x. (get_or x 8 0 ≡ get_or body 8 0) × (bit 1 (get_or x 10 0) ≡ 1))
          (λ event d b s p.
          let q = label.locked_dsfid_stays event.signal.label event.bytes b (long b s.fine) p.1 in
          (q.0 ∙ p.0, q.1)) (refl, l)

      -- a locked block never changes, and stays locked
      pub locked_block_stays : (n : ℕ) → n < blocks_of body → lock_on n body ≡ 1
          → (part (block_at body n) (size_of body) body_ran ≡ part (block_at body n) (size_of body) body) × (lock_on n body_ran ≡ 1)
      locked_block_stays n m l =
          let p = by_label (Held body n) (held_next body n m) (record { count = refl; size = refl; same = refl; lock = l }) in
          (p.same, p.lock)

    -- ---- chips
    module _ (k : kind_at r i ≡ Chip) where
      by_chip : (Q : List ℕ → Type 0)
          → ((event : Event) (d : ℕ) (b : List ℕ) → Stepping Chip event d b → Q b → Q (next_chip event.signal.chip d b)) → Q body → Q body_ran
      unfolding next_body
      by_chip Q step q = run_body Chip k Q step q

      pub chip_uid_stays : part 68 8 body_ran ≡ part 68 8 body
      chip_uid_stays =
          by_chip (λ x. part 68 8 x ≡ part 68 8 body) (λ event d b s p. chip.uid_stays event.signal.chip d b (chip_80 b s.fine) ∙ p) refl

      -- a counter never rises
      pub counter_falls : (n : ℕ) → (n ≡ 5) ⊎ (n ≡ 6) → block_of n body_ran ≤ block_of n body
      counter_falls n c =
          by_chip (λ x. block_of n x ≤ block_of n body)
          (λ event d b s p. le_trans (chip.counter_falls event.signal.chip d b n c (chip_80 b s.fine)) p) (le_refl (block_of n body))

      -- a locked block never changes, and stays locked
      pub locked_stays : (n : ℕ) → locked (num (part 64 4 body)) n ≡ true
          → (block_of n body_ran ≡ block_of n body) × (locked (num (part 64 4 body_ran)) n ≡ true)
      locked_stays n l =
          by_chip (λ x. (block_of n x ≡ block_of n body) × (locked (num (part 64 4 x)) n ≡ true))
          (λ event d b s p. (
            chip.locked_stays event.signal.chip d b n (chip_80 b s.fine) p.1 ∙ p.0,
            chip.lock_stays event.signal.chip d b n (chip_80 b s.fine) s.bytes p.1,
          )) (refl, l)
