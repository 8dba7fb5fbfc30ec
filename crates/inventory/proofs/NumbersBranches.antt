-- The walk's own steps on UIDs: a round, and then each collided slot carried through. Idea: `RoundOver`, what is known once the round is over, and `Carried`,
-- the loop's invariant: the UIDs of the slots ahead still stand where the round put them (`us` are those that the round left, slot by slot); room and rounds
-- suffice because what has run is a prefix of the whole. Assumes nothing.
use mathlib.Core.Path.{◌≡◌, refl, ap, sym, ◌∙◌}
use mathlib.Core.Bool.{Bool, true}
use mathlib.Core.List.{List, [], ◌++◌, append-nil}
use Prim.Native.Nat.{ℕ, suc, ◌+◌, ◌≤◌, ◌<◌, ◌^◌}
use native.Mathlib.Nat.{add-zero}
use native.Mathlib.Omega.{arith}
use borrow.Author.Tests.{lt-ltb, le-ltb}
use lib.Dec.{ltb}
use lib.ListN.{length, get_or, take, drop, length-append}
use lib.Seq.{sets, length-sets, drop-drop}
use Rattle.frame.specs.Choose.{gather}
use Rattle.frame.proofs.Puts.{sets_append}
use Rattle.frame.proofs.Gather.{gather_ext}
use Rattle.inventory.specs.Endings.{sum_to}
use Rattle.inventory.specs.Walk.{depth}
use Rattle.inventory.specs.Numbers.{slot_bits, in_slot, slotted, leading, only, ifs, lone, singles, collides, list_of, rounds_of}
use Rattle.inventory.specs.Promise.{flat}
use Rattle.inventory.proofs.PromiseFlat.{flat_append, flat_none}
use Rattle.inventory.proofs.EndingsSums.{sum_ext, sum_within, sum_still}
use Rattle.inventory.proofs.WalkBridge.{ifs_none, only_none}
use Rattle.inventory.proofs.NumbersSlots.{slotted_slot, slotted_again}
use Rattle.inventory.proofs.NumbersListed.{AtSlot, reached_none, reached_end, empty_between, passed}
use Rattle.inventory.proofs.NumbersListed.{next_low, next_up, reached_next, reached_more, slot_inside}
use Rattle.inventory.proofs.NumbersListed.{slot_part, left_over, slot_size, slot_some, Writing, writing_none, writing_size, writing_pass, writing_room}
use Rattle.inventory.proofs.NumbersListed.{writing_more}

depth_step : (m : ℕ) → m ≤ 60 → depth m ≡ suc (depth (m + 4))
unfolding depth
depth_step m h = omega arith

depth_done : (m : ℕ) → 60 < m → depth m ≡ 0
unfolding depth
depth_done m h = omega arith

-- what slot s adds below a mask of this length
abbrev pub branch : ℕ → List ℕ → ℕ → List ℕ
branch m us s = ifs (collides m us s) (list_of (depth (m + 4)) (m + 4) (in_slot m us s))

abbrev pub trips : ℕ → List ℕ → ℕ → ℕ
trips m us s = only (collides m us s) (rounds_of (depth (m + 4)) (m + 4) (in_slot m us s))

list_step : (m : ℕ) (us : List ℕ) → m ≤ 60 → list_of (depth m) m us ≡ singles m us ++ gather 16 (branch m us)
unfolding list_of
list_step m us h = ap (λ (d : ℕ). list_of d m us) (depth_step m h)

rounds_step : (m : ℕ) (us : List ℕ) → m ≤ 60 → rounds_of (depth m) m us ≡ 1 + sum_to 16 (trips m us)
unfolding rounds_of
rounds_step m us h = ap (λ (d : ℕ). rounds_of d m us) (depth_step m h)

-- past 56 bits there is no round below
list_last : (m : ℕ) (us : List ℕ) → m ≤ 60 → 56 < m → list_of (depth m) m us ≡ singles m us
unfolding list_of
list_last m us h b =
    list_step m us h
    ∙ ap (λ (d : ℕ). singles m us ++ gather 16 (λ s. ifs (collides m us s) (list_of d (m + 4) (in_slot m us s)))) (depth_done (m + 4) (omega arith))
    ∙ ap (λ (l : List ℕ). singles m us ++ l) (ifs_none 16 (collides m us)) ∙ append-nil (singles m us)

rounds_last : (m : ℕ) (us : List ℕ) → m ≤ 60 → 56 < m → rounds_of (depth m) m us ≡ 1
unfolding rounds_of
rounds_last m us h b =
    rounds_step m us h
    ∙ ap (λ (d : ℕ). 1 + sum_to 16 (λ s. only (collides m us s) (rounds_of d (m + 4) (in_slot m us s)))) (depth_done (m + 4) (omega arith))
    ∙ ap (λ (n : ℕ). 1 + n) (only_none 16 (collides m us))

-- ---- once the round is over

pub record RoundOver (us list : List ℕ) (m cursor : ℕ) (list₀ : List ℕ) (at₀ : ℕ) : Type 0 where
  pub short : m ≤ 60
  pub room : cursor + length (flat (list_of (depth m) m us)) ≤ length list
  pub few : rounds_of (depth m) m us < 2 ^ 64
  pub stands : us ≡ slotted m us
  pub cursored : at₀ ≡ cursor + length (flat (singles m us))
  pub listed : list₀ ≡ sets list cursor (flat (singles m us))

-- what a branch lists, and its rounds, are those of its UIDs slot by slot
module _ (m : ℕ) (us : List ℕ) where
  alike : (s : ℕ) → s < 16 → in_slot m (slotted m us) s ≡ in_slot m us s
  alike = slotted_slot m us

  singles_slotted : singles m (slotted m us) ≡ singles m us
  unfolding singles
  singles_slotted = gather_ext 16 _ _ (λ s h. ap lone (alike s h))

  list_slotted : m ≤ 60 → list_of (depth m) m (slotted m us) ≡ list_of (depth m) m us
  list_slotted h =
      list_step m (slotted m us) h
      ∙ ap (λ (l : List ℕ). l ++ gather 16 (branch m (slotted m us))) singles_slotted
      ∙ ap (λ (l : List ℕ). singles m us ++ l)
      (gather_ext 16 (branch m (slotted m us)) (branch m us) (λ s b. ap (λ (l : List ℕ). ifs (ltb 1 (length l)) (list_of (depth (m + 4)) (m + 4) l))
      (alike s b)))
      ∙ sym (list_step m us h)

  rounds_slotted : m ≤ 60 → rounds_of (depth m) m (slotted m us) ≡ rounds_of (depth m) m us
  rounds_slotted h =
      rounds_step m (slotted m us) h
      ∙ ap (λ (n : ℕ). 1 + n)
      (sum_ext 16 (trips m (slotted m us)) (trips m us) (λ s b. ap (λ (l : List ℕ). only (ltb 1 (length l)) (rounds_of (depth (m + 4)) (m + 4) l)) (alike s b)))
      ∙ sym (rounds_step m us h)

  module _ {us₁ : List ℕ} (laid : us₁ ≡ slotted m us) where
    -- what the listing of a round asks and says, of the UIDs as they came
    pub round_asks : (cursor n : ℕ) → cursor + length (flat (singles m us)) ≤ n → (us₁ ≡ slotted m us₁) × (cursor + length (flat (singles m us₁)) ≤ n)
    round_asks cursor n r = rw laid (slotted_again m us, rw singles_slotted r)

    pub round_says : (list : List ℕ) (cursor : ℕ) {list₁ : List ℕ} {c : ℕ} → (c ≡ cursor + length (flat (singles m us₁)))
        × (list₁ ≡ sets list cursor (flat (singles m us₁)))
        → (us₁ ≡ slotted m us) × ((c ≡ cursor + length (flat (singles m us))) × (list₁ ≡ sets list cursor (flat (singles m us))))
    round_says list cursor p = let q = rw (laid, singles_slotted) at p in (laid, q)

    module _ (list : List ℕ) (cursor : ℕ)
        (asked : (cursor + length (flat (list_of (depth m) m us)) ≤ length list) × ((rounds_of (depth m) m us < 2 ^ 64) × (m ≤ 60))) where
      pub round_over : {list₀ : List ℕ} {at₀ : ℕ} → (at₀ ≡ cursor + length (flat (singles m us))) × (list₀ ≡ sets list cursor (flat (singles m us)))
          → RoundOver us₁ list m cursor list₀ at₀
      round_over told = rw laid
          (record {
            short = asked.1.1;
            room = rw (list_slotted asked.1.1) asked.0;
            few = rw (rounds_slotted asked.1.1) asked.1.0;
            stands = slotted_again m us;
            cursored = rw singles_slotted told.0;
            listed = rw singles_slotted told.1;
          })

      pub answers : {list₁ : List ℕ} {c n : ℕ}
          → (list₁ ≡ sets list cursor (flat (list_of (depth m) m us₁)))
          × ((c ≡ cursor + length (flat (list_of (depth m) m us₁))) × (n ≡ rounds_of (depth m) m us₁))
          → (list₁ ≡ sets list cursor (flat (list_of (depth m) m us))) × ((c ≡ cursor + length (flat (list_of (depth m) m us))) × (n ≡ rounds_of (depth m) m us))
      answers h = rw (laid, list_slotted asked.1.1, rounds_slotted asked.1.1) at h

pub singles_room : (m : ℕ) (us : List ℕ) (cursor n : ℕ) → m ≤ 60 → cursor + length (flat (list_of (depth m) m us)) ≤ n
    → cursor + length (flat (singles m us)) ≤ n
singles_room m us cursor n h r =
    omega (arith, r, ap length (ap flat (list_step m us h) ∙ flat_append (singles m us) _) ∙ length-append (flat (singles m us)) _)

-- the loop's invariant: the slots below one are carried through, and the others are left
pub record Carried (us : List ℕ) (m : ℕ) (list₀ : List ℕ) (at₀ rounds₀ : ℕ) (rest list : List ℕ) (at rounds : ℕ) : Type 0 where
  pub from : ℕ
  pub ahead : rest ≡ drop from us
  pub slot : ℕ
  pub reached : AtSlot m us from slot
  pub writing : Writing (branch m us) list₀ at₀ list at slot
  pub counted : rounds ≡ rounds₀ + sum_to slot (trips m us)

module _ {us list : List ℕ} {m cursor : ℕ} {list₀ : List ℕ} {at₀ : ℕ} (k : RoundOver us list m cursor list₀ at₀) where
  pub carried_none : Carried us m list₀ at₀ 1 us list₀ at₀ 1
  carried_none = record { from = 0; ahead = refl; slot = 0; reached = reached_none m us; writing = writing_none (branch m us) list₀ at₀; counted = refl }

  pub last_round : 56 < m
      → (list₀ ≡ sets list cursor (flat (list_of (depth m) m us)))
      × ((at₀ ≡ cursor + length (flat (list_of (depth m) m us))) × (1 ≡ rounds_of (depth m) m us))
  last_round h = rw (list_last m us k.short h, rounds_last m us k.short h) (k.listed, (k.cursored, refl))

  -- the whole
  whole : flat (list_of (depth m) m us) ≡ flat (singles m us) ++ flat (gather 16 (branch m us))
  whole = ap flat (list_step m us k.short) ∙ flat_append (singles m us) (gather 16 (branch m us))

  whole_size : length (flat (list_of (depth m) m us)) ≡ length (flat (singles m us)) + length (flat (gather 16 (branch m us)))
  whole_size = ap length whole ∙ length-append (flat (singles m us)) (flat (gather 16 (branch m us)))

  list_size : length list₀ ≡ length list
  list_size = ap length k.listed ∙ length-sets list cursor (flat (singles m us))

  branches_room : at₀ + length (flat (gather 16 (branch m us))) ≤ length list₀
  branches_room = omega (arith, k.room, k.cursored, whole_size, list_size)

  -- a slot without a collision adds nothing
  calm_branch : (q : ℕ) → length (in_slot m us q) ≤ 1 → branch m us q ≡ []
  calm_branch q h = ap (λ (t : Bool). ifs t (list_of (depth (m + 4)) (m + 4) (in_slot m us q))) (le-ltb 1 (length (in_slot m us q)) h)

  calm_trips : (q : ℕ) → length (in_slot m us q) ≤ 1 → trips m us q ≡ 0
  calm_trips q h = ap (λ (t : Bool). only t (rounds_of (depth (m + 4)) (m + 4) (in_slot m us q))) (le-ltb 1 (length (in_slot m us q)) h)

  module _ {rest listₛ : List ℕ} {at rounds : ℕ} (i : Carried us m list₀ at₀ 1 rest listₛ at rounds) where
    pub carried_same : length listₛ ≡ length list
    carried_same = writing_size i.writing ∙ list_size

    -- on to another slot that starts where the loop is
    empty : {t : ℕ} (r : AtSlot m us i.from t) (q : ℕ) → i.slot ≤ q → q < t → length (in_slot m us q) ≤ 1
    empty r q h b = omega (arith, ap length (empty_between i.reached r q h b))

    on_writing : {t : ℕ} → AtSlot m us i.from t → i.slot ≤ t → Writing (branch m us) list₀ at₀ listₛ at t
    on_writing r h = writing_pass i.writing (passed i.reached r h (branch m us) (λ q e. calm_branch q (omega (arith, ap length e))))

    on_counted : {t : ℕ} → AtSlot m us i.from t → i.slot ≤ t → rounds ≡ 1 + sum_to t (trips m us)
    on_counted {t} r h = omega (arith, i.counted, sum_still t i.slot (trips m us) h (λ q b c. calm_trips q (empty r q b c)))

    pub carried_done : length rest ≤ 0
        → (listₛ ≡ sets list cursor (flat (list_of (depth m) m us)))
        × ((at ≡ cursor + length (flat (list_of (depth m) m us))) × (rounds ≡ rounds_of (depth m) m us))
    carried_done h =
        let r = reached_end i.reached (omega (arith, h, left_over us i.from i.ahead)) in
        let w = on_writing r i.reached.upto in (
          w.listed ∙ rw (k.listed, k.cursored, whole) (sym (sets_append (flat (singles m us)) (flat (gather 16 (branch m us))) list cursor)),
          (omega (arith, w.cursored, k.cursored, whole_size), on_counted r i.reached.upto ∙ sym (rounds_step m us k.short)),
        )

    module _ (more : 0 < length rest) where
      abbrev t : ℕ
      t = slot_bits m (get_or us i.from 0)

      inside : i.from < length us
      inside = omega (arith, more, left_over us i.from i.ahead)

      here : AtSlot m us i.from t
      here = reached_next i.reached k.stands inside

      low : t < 16
      low = next_low i.reached k.stands inside

      up : i.slot ≤ t
      up = next_up i.reached k.stands inside

      module _ {h : ℕ} (e : h ≡ leading m (slot_bits m (get_or rest 0 0)) rest) where
        its : h ≡ length (in_slot m us t)
        its = slot_size k.stands inside here i.ahead e

        pub carried_some : 0 < h
        carried_some = omega (arith, its, slot_some k.stands inside here)

        pub carried_inside : h ≤ length rest
        carried_inside = omega (arith, slot_inside here low its, left_over us i.from i.ahead)

        module _ {group behind : List ℕ} (f : group ≡ take h rest) (b : behind ≡ drop h rest) where
          slot_is : group ≡ in_slot m us t
          slot_is = f ∙ ap (take h) i.ahead ∙ slot_part here low its k.stands

          grouped : length group ≡ length (in_slot m us t)
          grouped = ap length slot_is

          collided : 1 < length group → collides m us t ≡ true
          collided c = lt-ltb 1 (length (in_slot m us t)) (omega (arith, c, grouped))

          down : 1 < length group → branch m us t ≡ list_of (depth (m + 4)) (m + 4) group
          down c =
              ap (λ (q : Bool). ifs q (list_of (depth (m + 4)) (m + 4) (in_slot m us t))) (collided c)
              ∙ ap (list_of (depth (m + 4)) (m + 4)) (sym slot_is)

          down_rounds : 1 < length group → trips m us t ≡ rounds_of (depth (m + 4)) (m + 4) group
          down_rounds c =
              ap (λ (q : Bool). only q (rounds_of (depth (m + 4)) (m + 4) (in_slot m us t))) (collided c)
              ∙ ap (rounds_of (depth (m + 4)) (m + 4)) (sym slot_is)

          -- the rounds so far, with the slot's, are among the whole's
          pub carried_few : 1 < length group → rounds + rounds_of (depth (m + 4)) (m + 4) group < 2 ^ 64
          carried_few c = omega (arith, k.few, on_counted here up, rounds_step m us k.short, sum_within (suc t) 16 (trips m us) low, down_rounds c)

          -- what the slot's call asks
          pub carried_asks : 1 < length group → m ≤ 56 → (at + length (flat (list_of (depth (m + 4)) (m + 4) group)) ≤ length listₛ)
              × ((rounds_of (depth (m + 4)) (m + 4) group < 2 ^ 64) × (m + 4 ≤ 60))
          carried_asks c q = (rw (← down c) (writing_room (on_writing here up) low branches_room), (omega (arith, carried_few c), omega arith))

          step : {list₁ : List ℕ} {at₁ rounds₁ : ℕ}
              → list₁ ≡ sets listₛ at (flat (branch m us t)) → at₁ ≡ at + length (flat (branch m us t)) → rounds₁ ≡ rounds + trips m us t
              → Carried us m list₀ at₀ 1 behind list₁ at₁ rounds₁
          step l a r =
              record {
                from = i.from + h;
                ahead = b ∙ ap (drop h) i.ahead ∙ drop-drop h i.from us;
                slot = suc t;
                reached = reached_more here low its;
                writing = writing_more (on_writing here up) a l;
                counted = omega (arith, r, on_counted here up);
              }

          pub carried_hit : 1 < length group → {list₁ : List ℕ} {at₁ rounds₁ n₁ : ℕ}
              → (list₁ ≡ sets listₛ at (flat (list_of (depth (m + 4)) (m + 4) group)))
              × ((at₁ ≡ at + length (flat (list_of (depth (m + 4)) (m + 4) group))) × (n₁ ≡ rounds_of (depth (m + 4)) (m + 4) group))
              → rounds₁ ≡ rounds + n₁ → Carried us m list₀ at₀ 1 behind list₁ at₁ rounds₁
          carried_hit c told r =
              let e = rw (← down c, ← down_rounds c) at told in
              step e.0 e.1.0 (omega (arith, r, e.1.1))

          pub carried_miss : length group ≤ 1 → Carried us m list₀ at₀ 1 behind listₛ at rounds
          carried_miss c =
              let n : branch m us t ≡ [] = calm_branch t (omega (arith, grouped, c)) in
              let z : trips m us t ≡ 0 = calm_trips t (omega (arith, grouped, c)) in
              step (rw (n, flat_none) refl) (rw (n, flat_none) (sym (add-zero at))) (rw z (sym (add-zero rounds)))
