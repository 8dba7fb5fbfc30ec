-- What a step can leave: nine ways to a next chip, and at most one block written. Every law of steps goes by these few cases.
-- Assumes nothing.
use mathlib.Core.Path.{◌≡◌, refl}
use mathlib.Core.Logic.{◌⊎◌, inl, inr, ⊎_elim}
use mathlib.Core.Bool.{true, false, not, ◌||◌}
use Prim.Native.Nat.{ℕ, suc, ◌+◌, ◌*◌, ◌/◌, ◌%◌}
use native.Mathlib.Omega.{arith}
use lib.Dec.{eqb}
use borrow.Author.Tests.{eqb-true, eqb-false}
use Rattle.request.specs.declared.chip.Order.{Order}
use Rattle.request.specs.declared.chip.Order.TheVariants as o
use Rattle.chip.specs.declared.step.Chip.{Chip}
use Rattle.chip.specs.declared.step.Answer.{Answer}
use Rattle.chip.specs.declared.step.Answer.TheVariants as a
use Rattle.std.specs.Prelude.{Some}
use Rattle.chip.specs.declared.step.Stepped.{Stepped}
use Rattle.chip.specs.Write.{locked, written, reloads}
use Rattle.frame.proofs.Bools.{or_either, if_either, not_other}
use Rattle.chip.specs.Step.{with, put, told, silent, chosen, field_off, field_on, initiate, pcall, marker, leave, select, read, uid, write, act}

-- ---- the next chip

pub data Next (d : ℕ) (c : Chip) : Chip → Type 0 where
  same : Next d c c
  ended : Next d c (with 0 0 0 c)
  fixed : c.state ≡ 0 → c.fixed ≡ 1 → Next d c (with 1 c.own c.reload c)
  drawn : c.state ≡ 0 → (c.fixed ≡ 1 → ⊥) → Next d c (with 1 d c.reload c)
  started : (c.state ≡ 1) ⊎ (c.state ≡ 2) → Next d c (with 2 (chosen d c) c.reload c)
  called : c.state ≡ 2 → Next d c (with c.state (c.id / 16 * 16 + chosen d c % 16) c.reload c)
  left : (s : ℕ) → (s ≡ 2) ⊎ ((s ≡ 4) ⊎ (s ≡ 5)) → c.state ≡ 3 → Next d c (with s c.id 0 c)
  selected : (c.state ≡ 0 → ⊥) → Next d c (with 3 c.id 0 c)
  reloading : c.state ≡ 3 → Next d c (with c.state c.id 1 c)

-- ---- the whole step

pub data Steps (order : Order) (d old s : ℕ) (c : Chip) : Stepped → Type 0 where
  quiet : (next : Chip) (answer : Answer) → Next d c next → Steps order d old s c (told answer next)
  wrote : (n v : ℕ) (next : Chip) → order ≡ o.Write n v → c.state ≡ 3 → locked s n ≡ false → Next d c next
      → Steps order d old s c (record { next = next; answer = a.Silent; work = Some (put n (written n old v c.reload)) })

above : (x n : ℕ) → x ≡ suc n → x ≡ 0 → ⊥
above x n e z = omega arith

-- states 2, 3 and 4 are not 0
started_not : (x : ℕ) → (eqb x 2 || (eqb x 3 || eqb x 4)) ≡ true → x ≡ 0 → ⊥
started_not x e =
    ⊎_elim
    (λ (p : eqb x 2 ≡ true). above x 1 (eqb-true x 2 p))
    (λ (q : (eqb x 3 || eqb x 4) ≡ true).
    ⊎_elim (λ (p : eqb x 3 ≡ true). above x 2 (eqb-true x 3 p)) (λ (p : eqb x 4 ≡ true). above x 3 (eqb-true x 4 p)) (or_either (eqb x 3) (eqb x 4) q))
    (or_either (eqb x 2) (eqb x 3 || eqb x 4) e)

module _ (order : Order) (d old s : ℕ) (c : Chip) where
  abbrev To : Stepped → Type 0
  To x = Steps order d old s c x

  stays : (answer : Answer) → To (told answer c)
  stays answer = quiet c answer same

  off_steps : To (field_off c)
  unfolding field_off
  off_steps = quiet (with 0 0 0 c) a.Silent ended

  on_steps : To (field_on d c)
  unfolding field_on
  on_steps =
      if_either To (not (eqb c.state 0)) _ _ (λ e. stays a.Silent)
      (λ e. if_either (λ (i : ℕ). To (silent (with 1 i c.reload c))) (eqb c.fixed 1) c.own d
      (λ f. quiet _ a.Silent (fixed (not_other c.state 0 e) (eqb-true c.fixed 1 f)))
      (λ f. quiet _ a.Silent (drawn (not_other c.state 0 e) (eqb-false c.fixed 1 f))))

  initiate_steps : To (initiate d c)
  unfolding initiate
  initiate_steps =
      if_either To (eqb c.state 1 || eqb c.state 2) _ _
      (λ e. quiet _ (a.Id (chosen d c))
      (started (⊎_elim
      (λ (p : eqb c.state 1 ≡ true). inl (eqb-true c.state 1 p))
      (λ (p : eqb c.state 2 ≡ true). inr (eqb-true c.state 2 p))
      (or_either (eqb c.state 1) (eqb c.state 2) e))))
      (λ e. stays a.Silent)

  pcall_steps : To (pcall d c)
  unfolding pcall
  pcall_steps =
      if_either To (not (eqb c.state 2)) _ _ (λ e. stays a.Silent)
      (λ e. if_either To (eqb (chosen d c % 16) 0) _ _
      (λ f. quiet _ (a.Id (c.id / 16 * 16 + chosen d c % 16)) (called (not_other c.state 2 e)))
      (λ f. quiet _ a.Silent (called (not_other c.state 2 e))))

  marker_steps : (n : ℕ) → To (marker n c)
  unfolding marker
  marker_steps n =
      if_either To (not (eqb c.state 2)) _ _ (λ e. stays a.Silent)
      (λ e. if_either To (eqb (c.id % 16) n) _ _ (λ f. stays (a.Id c.id)) (λ f. stays a.Silent))

  leave_steps : (n : ℕ) → (n ≡ 2) ⊎ ((n ≡ 4) ⊎ (n ≡ 5)) → To (leave n c)
  unfolding leave
  leave_steps n h =
      if_either To (not (eqb c.state 3)) _ _ (λ e. stays a.Silent) (λ e. quiet _ a.Silent (left n h (not_other c.state 3 e)))

  select_steps : (id : ℕ) → To (select id c)
  unfolding select
  select_steps id =
      if_either To (not (eqb c.id id)) _ _ (λ e. leave_steps 4 (inr (inl refl)))
      (λ e. if_either To (eqb c.state 2 || (eqb c.state 3 || eqb c.state 4)) _ _
      (λ f. quiet _ (a.Id id) (selected (started_not c.state f)))
      (λ f. stays a.Silent))

  read_steps : (n : ℕ) → To (read n c)
  unfolding read
  read_steps n = if_either To (not (eqb c.state 3)) _ _ (λ e. stays a.Silent) (λ e. stays (a.Block n))

  uid_steps : To (uid c)
  unfolding uid
  uid_steps = if_either To (not (eqb c.state 3)) _ _ (λ e. stays a.Silent) (λ e. stays a.Uid)

  write_steps : (n v : ℕ) → order ≡ o.Write n v → To (write n v old s c)
  unfolding write
  write_steps n v q =
      if_either To (not (eqb c.state 3)) _ _ (λ e. stays a.Silent)
      (λ e. if_either To (locked s n) _ _ (λ f. stays a.Silent)
      (λ f. let z = not_other c.state 3 e in
      wrote n v _ q z f
      (if_either (λ (x : Chip). Next d c x) (reloads n old v) (with c.state c.id 1 c) c (λ g. reloading z) (λ g. same))))

pub steps : (order : Order) (d old s : ℕ) (c : Chip) → Steps order d old s c (act order d old s c)
unfolding act
steps o.Ignored d old s c = stays o.Ignored d old s c a.Silent
steps o.Off d old s c = off_steps o.Off d old s c
steps o.On d old s c = on_steps o.On d old s c
steps o.Initiate d old s c = initiate_steps o.Initiate d old s c
steps o.Pcall d old s c = pcall_steps o.Pcall d old s c
steps (o.Marker n) d old s c = marker_steps (o.Marker n) d old s c n
steps (o.Select id) d old s c = select_steps (o.Select id) d old s c id
steps o.Completion d old s c = leave_steps o.Completion d old s c 5 (inr (inr refl))
steps o.Reset d old s c = leave_steps o.Reset d old s c 2 (inl refl)
steps (o.Read n) d old s c = read_steps (o.Read n) d old s c n
steps o.Uid d old s c = uid_steps o.Uid d old s c
steps (o.Write n v) d old s c = write_steps (o.Write n v) d old s c n v refl
