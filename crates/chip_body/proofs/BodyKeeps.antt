-- A step keeps a body's length, its rules and that it is bytes.
-- The rules are taken as a record of facts; each of the ways to a next chip keeps them, and byte 64 never changes.
-- Assumes nothing.
use mathlib.Core.Path.{◌≡◌, refl, sym, ap, ◌∙◌}
use mathlib.Core.Logic.{◌⊎◌, inl, inr, ⊎_elim}
use mathlib.Core.Bool.{not, ◌&&◌}
use mathlib.Core.List.{List, [], ◌∷◌}
use Prim.Native.Nat.{ℕ, ◌+◌, ◌*◌, ◌/◌, ◌%◌, ◌≤◌, ◌<◌}
use native.Mathlib.Omega.{arith}
use lib.Dec.{eqb, ltb, lit<}
use lib.ListN.{length, get_or}
use lib.Seq.{sets}
use borrow.Author.Tests.{eqb-true, eqb-false, eq-eqb, ne_eqb, ltb-false, le-ltb, not-true}
use Rattle.frame.specs.Number.{num, bytes_of, part, Bytes}
use Rattle.frame.specs.declared.verdict.Rule.TheVariants.{Body}
use Rattle.frame.specs.Judge.{fine}
use Rattle.frame.proofs.Lists.{part_values, values_from}
use Rattle.frame.proofs.Numbers.{length_bytes, bytes_small}
use Rattle.frame.proofs.Judge.{if_fine}
use Rattle.frame.proofs.Bools.{and_off, off_and, or_off, off_or, if_either, below_or_not, not_other}
use Rattle.frame.proofs.Stores.{sets_off, sets_on, bytes_three, bytes_sets}
use Rattle.request.specs.declared.chip.Order.{Order}
use Rattle.chip.specs.declared.step.Chip.{Chip}
use Rattle.chip.specs.declared.step.Stepped.{Stepped}
use Rattle.chip.specs.Write.{written, lock_down}
use Rattle.chip.specs.Step.{chosen}
use Rattle.chip.proofs.StepWays.{Next, Steps, quiet, wrote, steps, same, ended, fixed, drawn, started, called, left, selected, reloading}
use Rattle.chip_body.specs.Body.{load_of, store_of, place_of, block_of, named, next_chip, stepped, chip_rules}
use Rattle.chip_body.proofs.BodyStored.{place_low, place_high, store_length, store_off, store_state, store_id, store_reload}
use Rattle.chip_body.proofs.BodyStored.{work_length, work_off, next_by}

-- ---- length

pub next_length : (order : Order) (d : ℕ) (b : List ℕ) → length (next_chip order d b) ≡ length b
unfolding next_chip
next_length order d b =
    work_length (stepped order d b).work (store_of b (stepped order d b).next) ∙ store_length b (stepped order d b).next

-- ---- bytes

-- the chip's numbers are bytes
record Small (c : Chip) : Type 0 where
  own : c.own < 256
  state : c.state < 256
  id : c.id < 256
  reload : c.reload < 256

chosen_small : (d : ℕ) (c : Chip) → d < 256 → c.id < 256 → chosen d c < 256
unfolding chosen
chosen_small d c hd h = if_either (λ (x : ℕ). x < 256) (eqb c.fixed 1) c.id d (λ e. h) (λ e. hd)

-- what a step stores are bytes
small_next : (d : ℕ) (c x : Chip) → d < 256 → Small c → Next d c x → Bytes (x.state ∷ x.id ∷ x.reload ∷ [])
small_next d c x hd h same = bytes_three _ _ _ h.state h.id h.reload
small_next d c x hd h ended = bytes_three 0 0 0 (lit< tt) (lit< tt) (lit< tt)
small_next d c x hd h (fixed e f) = bytes_three 1 _ _ (lit< tt) h.own h.reload
small_next d c x hd h (drawn e f) = bytes_three 1 _ _ (lit< tt) hd h.reload
small_next d c x hd h (started e) = bytes_three 2 _ _ (lit< tt) (chosen_small d c hd h.id) h.reload
small_next d c x hd h (called e) =
    let l : c.id < 256 = h.id in
    bytes_three _ _ _ h.state (omega arith) h.reload
small_next d c x hd h (left s e f) =
    bytes_three s _ 0 (⊎_elim (λ (p : s ≡ 2). omega arith) (λ q. ⊎_elim (λ (p : s ≡ 4). omega arith) (λ (p : s ≡ 5). omega arith) q) e) h.id (lit< tt)
small_next d c x hd h (selected e) = bytes_three 3 _ 0 (lit< tt) h.id (lit< tt)
small_next d c x hd h (reloading e) = bytes_three _ _ 1 h.state h.id (lit< tt)

pub next_bytes : (order : Order) (d : ℕ) (b : List ℕ) → Bytes b → d < 256 → Bytes (next_chip order d b)
unfolding load_of store_of
next_bytes order d b h hd =
    let k : Small (load_of b) = record { own = h 64; state = h 76; id = h 77; reload = h 78 } in
    next_by (λ (x : List ℕ). Bytes x) order d b
    (λ c n. bytes_sets b (c.state ∷ c.id ∷ c.reload ∷ []) 76 h (small_next d (load_of b) c hd k n))
    (λ m v c q l n.
    let u = bytes_of 4 (written m (block_of m b) v (get_or b 78 0)) in
    bytes_sets (store_of b c) u (place_of m) (bytes_sets b (c.state ∷ c.id ∷ c.reload ∷ []) 76 h (small_next d (load_of b) c hd k n))
    (bytes_small 4 (written m (block_of m b) v (get_or b 78 0))))

-- ---- byte 64 stays: of block 255 only the upper half is ever written

pub written_high : (n old v r : ℕ) → 16 ≤ n → written n old v r ≡ lock_down old v
unfolding written
written_high n old v r h = rw (le-ltb n 5 (omega arith), le-ltb n 7 (omega arith), le-ltb n 16 h)

lock_low : (old v : ℕ) → lock_down old v % 256 ≡ old % 256
unfolding lock_down
lock_low old v = omega arith

-- the lowest byte of a block is its first
first_byte : (b : List ℕ) → 68 ≤ length b → Bytes b → num (part 64 4 b) % 256 ≡ get_or b 64 0
first_byte b l h =
    let e : num (part 64 4 b) ≡ get_or b 64 0 + num (values_from (λ k. get_or b k 0) 65 3) * 256 = ap num (part_values 4 64 b l) in
    let s : get_or b 64 0 < 256 = h 64 in
    omega arith

-- a block written to body x; old is block 255
own_put : (n old v r : ℕ) (x : List ℕ) → 68 ≤ length x → ((16 ≤ n) → old % 256 ≡ get_or x 64 0)
    → get_or (sets x (place_of n) (bytes_of 4 (written n old v r))) 64 0 ≡ get_or x 64 0
own_put n old v r x l e = ⊎_elim low high (below_or_not n 16)
  where
    u : List ℕ
    u = bytes_of 4 (written n old v r)

    low : n < 16 → get_or (sets x (place_of n) u) 64 0 ≡ get_or x 64 0
    low h = sets_off x u (place_of n) 64 (inr (omega (arith, place_low n h, length_bytes 4 (written n old v r))))

    high : 16 ≤ n → get_or (sets x (place_of n) u) 64 0 ≡ get_or x 64 0
    high h =
        rw (place_high n h)
        (sets_on x u 64 0 (omega arith) (omega arith)
        ∙ rw (written_high n old v r h) (lock_low old v ∙ e h))

pub own_stays : (order : Order) (d : ℕ) (b : List ℕ) → length b ≡ 80 → Bytes b → get_or (next_chip order d b) 64 0 ≡ get_or b 64 0
own_stays order d b l h =
    next_by (λ (x : List ℕ). get_or x 64 0 ≡ get_or b 64 0) order d b (λ c n. store_off b c 64 (inl (lit< tt)))
    (λ m v c q k n.
    let s : get_or (store_of b c) 64 0 ≡ get_or b 64 0 = store_off b c 64 (inl (lit< tt)) in
    own_put m (block_of m b) v (get_or b 78 0) (store_of b c) (rw (store_length b c) (omega arith))
    (λ g. rw (s, place_high m g) (first_byte b (omega arith) h))
    ∙ s)

-- ---- the rules as facts

-- the chip of a body keeps its rules
record Fine (c : Chip) : Type 0 where
  state : c.state ≤ 5
  off : c.state ≡ 0 → c.id ≡ 0
  reload : c.reload ≤ 1
  reloads : c.reload ≡ 1 → c.state ≡ 3
  option : c.fixed ≤ 1
  fixes : c.fixed ≡ 1 → (c.state ≡ 0 → ⊥) → c.id ≡ c.own

pub record ChipFine (b : List ℕ) : Type 0 where
  pub state : get_or b 76 0 ≤ 5
  pub off : get_or b 76 0 ≡ 0 → get_or b 77 0 ≡ 0
  pub reload : get_or b 78 0 ≤ 1
  pub reloads : get_or b 78 0 ≡ 1 → get_or b 76 0 ≡ 3
  pub option : get_or b 79 0 ≤ 1
  pub fixes : get_or b 79 0 ≡ 1 → (get_or b 76 0 ≡ 0 → ⊥) → get_or b 77 0 ≡ get_or b 64 0

pub rules_fine : (b : List ℕ) → chip_rules b ≡ fine → ChipFine b
unfolding chip_rules
rules_fine b e =
    let p = if_fine _ Body 76 _ e in
    let q = if_fine _ Body 77 _ p.1 in
    let r = if_fine _ Body 78 _ q.1 in
    let u = if_fine _ Body 79 _ r.1 in
    let x = or_off _ _ r.0 in
    let y = or_off _ _ u.0 in
    record {
      state = ltb-false _ _ p.0;
      off = λ h. not_other _ _ (and_off _ _ q.0 (eq-eqb _ _ h));
      reload = ltb-false _ _ x.0;
      reloads = λ h. not_other _ _ (and_off _ _ x.1 (eq-eqb _ _ h));
      option = ltb-false _ _ y.0;
      fixes = λ h z. not_other _ _ (and_off _ _ (and_off _ _ y.1 (eq-eqb _ _ h)) (ap not (ne_eqb _ _ z)));
    }

pub fine_rules : (b : List ℕ) → ChipFine b → chip_rules b ≡ fine
unfolding chip_rules
fine_rules b h =
    let s = get_or b 76 0 in
    let i = get_or b 77 0 in
    let r = get_or b 78 0 in
    let f = get_or b 79 0 in
    let k = get_or b 64 0 in
    rw (
      le-ltb 5 s h.state,
      off_and (eqb s 0) (not (eqb i 0)) (λ e. ap not (eq-eqb i 0 (h.off (eqb-true s 0 e)))),
      off_or (ltb 1 r) (eqb r 1 && not (eqb s 3)) (le-ltb 1 r h.reload)
          (off_and (eqb r 1) (not (eqb s 3)) (λ e. ap not (eq-eqb s 3 (h.reloads (eqb-true r 1 e))))),
      off_or (ltb 1 f) (eqb f 1 && (not (eqb s 0) && not (eqb i k))) (le-ltb 1 f h.option)
          (off_and (eqb f 1) (not (eqb s 0) && not (eqb i k))
          (λ e. off_and (not (eqb s 0)) (not (eqb i k)) (λ g. ap not (eq-eqb i k (h.fixes (eqb-true f 1 e) (eqb-false s 0 (not-true (eqb s 0) g))))))),
    )

-- ---- a step keeps them

chosen_fixed : (d : ℕ) (c : Chip) → c.fixed ≡ 1 → chosen d c ≡ c.id
unfolding chosen
chosen_fixed d c e = rw (eq-eqb c.fixed 1 e)

gone_to : (s : ℕ) → (s ≡ 2) ⊎ ((s ≡ 4) ⊎ (s ≡ 5)) → (1 ≤ s) × (s ≤ 5)
gone_to s (inl p) = (omega arith, omega arith)
gone_to s (inr (inl p)) = (omega arith, omega arith)
gone_to s (inr (inr p)) = (omega arith, omega arith)

started_on : (x : ℕ) → (x ≡ 1) ⊎ (x ≡ 2) → x ≡ 0 → ⊥
started_on x (inl p) z = omega arith
started_on x (inr p) z = omega arith

fine_next : (d : ℕ) (c x : Chip) → Fine c → Next d c x → Fine x
fine_next d c x h same = h
fine_next d c x h ended =
    record {
      state = omega arith;
      off = λ e. refl;
      reload = omega arith;
      reloads = λ e. absurd (omega arith);
      option = h.option;
      fixes = λ e z. absurd (z refl);
    }
fine_next d c x h (fixed e f) =
    record {
      state = omega arith;
      off = λ z. absurd (omega arith);
      reload = h.reload;
      reloads = λ g. absurd (omega (arith, h.reloads g));
      option = h.option;
      fixes = λ g z. refl;
    }
fine_next d c x h (drawn e f) =
    record {
      state = omega arith;
      off = λ z. absurd (omega arith);
      reload = h.reload;
      reloads = λ g. absurd (omega (arith, h.reloads g));
      option = h.option;
      fixes = λ g z. absurd (f g);
    }
fine_next d c x h (started e) =
    record {
      state = omega arith;
      off = λ z. absurd (omega arith);
      reload = h.reload;
      reloads = λ g. absurd (⊎_elim (λ (p : c.state ≡ 1). omega (arith, h.reloads g)) (λ (p : c.state ≡ 2). omega (arith, h.reloads g)) e);
      option = h.option;
      fixes = λ g z. chosen_fixed d c g ∙ h.fixes g (started_on c.state e);
    }
fine_next d c x h (called e) =
    record {
      state = h.state;
      off = λ z. absurd (omega arith);
      reload = h.reload;
      reloads = h.reloads;
      option = h.option;
      fixes = λ g z. rw (chosen_fixed d c g) (let q : c.id / 16 * 16 + c.id % 16 ≡ c.id = omega arith in q ∙ h.fixes g z);
    }
fine_next d c x h (left s e f) =
    record {
      state = (gone_to s e).1;
      off = λ z. absurd (omega (arith, (gone_to s e).0));
      reload = omega arith;
      reloads = λ g. absurd (omega arith);
      option = h.option;
      fixes = λ g z. h.fixes g (λ y. omega arith);
    }
fine_next d c x h (selected e) =
    record {
      state = omega arith;
      off = λ z. absurd (omega arith);
      reload = omega arith;
      reloads = λ g. absurd (omega arith);
      option = h.option;
      fixes = λ g z. h.fixes g e;
    }
fine_next d c x h (reloading e) =
    record {
      state = h.state;
      off = λ z. absurd (omega arith);
      reload = omega arith;
      reloads = λ g. e;
      option = h.option;
      fixes = λ g z. h.fixes g z;
    }

made : (y : List ℕ) (x : Chip) → get_or y 64 0 ≡ x.own → get_or y 76 0 ≡ x.state → get_or y 77 0 ≡ x.id → get_or y 78 0 ≡ x.reload → get_or y 79 0 ≡ x.fixed
    → Fine x → ChipFine y
made y x o s i r f h =
    record {
      state = rw s h.state;
      off = rw (s, i) h.off;
      reload = rw r h.reload;
      reloads = rw (s, r) h.reloads;
      option = rw f h.option;
      fixes = rw (o, s, i, f) h.fixes;
    }

kept_own : (d : ℕ) (c x : Chip) → Next d c x → (x.own ≡ c.own) × (x.fixed ≡ c.fixed)
kept_own d c x same = (refl, refl)
kept_own d c x ended = (refl, refl)
kept_own d c x (fixed e f) = (refl, refl)
kept_own d c x (drawn e f) = (refl, refl)
kept_own d c x (started e) = (refl, refl)
kept_own d c x (called e) = (refl, refl)
kept_own d c x (left s e f) = (refl, refl)
kept_own d c x (selected e) = (refl, refl)
kept_own d c x (reloading e) = (refl, refl)

next_of : (order : Order) (d old s : ℕ) (c : Chip) (x : Stepped) → Steps order d old s c x → Next d c x.next
next_of order d old s c x (quiet next answer h) = h
next_of order d old s c x (wrote n v next q z l h) = h

pub next_fine : (order : Order) (d : ℕ) (b : List ℕ) → length b ≡ 80 → Bytes b → ChipFine b → ChipFine (next_chip order d b)
unfolding next_chip stepped load_of
next_fine order d b l bs h =
    let x = (stepped order d b).next in
    let w = (stepped order d b).work in
    let c = load_of b in
    let n : Next d c x = next_of order d (named order b) (num (part 64 4 b)) c (stepped order d b) (steps order d (named order b) (num (part 64 4 b)) c) in
    let k : Fine c
    = record { state = h.state; off = h.off; reload = h.reload; reloads = h.reloads; option = h.option; fixes = h.fixes } in
    let p = kept_own d c x n in
    made (next_chip order d b) x (own_stays order d b l bs ∙ sym p.0)
    (work_off w (store_of b x) 76 (omega arith) ∙ store_state b x (omega arith))
    (work_off w (store_of b x) 77 (omega arith) ∙ store_id b x (omega arith))
    (work_off w (store_of b x) 78 (omega arith) ∙ store_reload b x (omega arith))
    (work_off w (store_of b x) 79 (omega arith) ∙ store_off b x 79 (inr (omega arith)) ∙ sym p.1)
    (fine_next d c x k n)

pub next_keeps : (order : Order) (d : ℕ) (b : List ℕ) → length b ≡ 80 → Bytes b → chip_rules b ≡ fine → chip_rules (next_chip order d b) ≡ fine
next_keeps order d b l bs e =
    fine_rules (next_chip order d b) (next_fine order d b l bs (rules_fine b e))
