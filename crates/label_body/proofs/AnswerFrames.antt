-- Answers and bodies: an answer reads the same from the body before and after the step, since one that reads the body changes nothing that it reads;
-- the blocks that are given are there; no frame is longer than the room that every answer buffer has. Assumes nothing.
use mathlib.Core.Path.{◌≡◌, refl, sym, ap, ap₂, ◌∙◌}
use mathlib.Core.Bool.{Bool, true, false}
use mathlib.Core.List.{List, [], ◌∷◌, ◌++◌}
use Prim.Native.Nat.{ℕ, ◌+◌, ◌*◌, ◌≤◌, ◌<◌}
use native.Mathlib.Nat.{mul-le-mul}
use native.Mathlib.Omega.{arith}
use lib.ListN.{length, get_or, take}
use lib.Seq.{take-add}
use Rattle.frame.specs.Choose.{gather}
use Rattle.frame.specs.Number.{part}
use Rattle.frame.specs.CheckSum.{framed}
use Rattle.frame.proofs.Lists.{part_values}
use Rattle.frame.proofs.Gather.{gather_ext, gather_length}
use Rattle.frame.proofs.CheckSumFrames.{length_framed}
use Rattle.request.specs.declared.label.Call.{Call}
use Rattle.request.specs.declared.label.Request.{Request}
use Rattle.label.specs.declared.step.Label.{Label}
use Rattle.label.specs.declared.step.Answer.{Answer}
use Rattle.label.specs.declared.step.Answer.TheVariants as a
use Rattle.label.specs.declared.step.Stepped.{Stepped}
use Rattle.label.specs.Step.{ended}
use Rattle.label_body.specs.Body.{load_of, store_of, worked, stepped, next_label, said_label, named, Sized, size_of, block_at}
use Rattle.label_body.specs.Answer.{answer_frame, block_bytes, blocks_bytes, locks_bytes}
use Rattle.label_body.specs.Facts.{AnswerFits}
use Rattle.label_body.proofs.BodyRoom.{sized_long, block_after}
use Rattle.label_body.proofs.BodyStored.{stored_length, stored_between, stored_lock, stored_uid, stored_numbers, stored_part, stored_place}
use Rattle.label_body.proofs.BodyStored.{stored_dsfid, stored_afi}
use Rattle.label_body.proofs.AnswerLaid.{found_length, info_length, lock_few, bytes_length}
use Rattle.label_body.proofs.StepWays.{Way, stays, offs, wakes, moves, starts, says, hushes, selects, readies, drops, writes, locks}
use Rattle.label_body.proofs.StepWays.{afis, dsfids, afi_locks, dsfid_locks, way, Calm}

-- ---- the frame, before and after

-- the first ten bytes are the UID and two more
ten : (s : List ℕ) → 10 ≤ length s → part 0 10 s ≡ part 0 8 s ++ (get_or s 8 0 ∷ get_or s 9 0 ∷ [])
ten s h = take-add 8 2 s ∙ ap (λ (x : List ℕ). take 8 s ++ x) (part_values 2 8 s h)

-- a block is read alike
block_stays : (b : List ℕ) (l : Label) (n : ℕ) (lock : Bool) → block_bytes n lock (store_of b l) ≡ block_bytes n lock b
unfolding block_bytes
block_stays b l n lock =
    rw (
      stored_place b l n,
      stored_between b l 12 (omega arith) (omega arith),
      stored_lock b l n,
      stored_part b l (block_at b n) (size_of b) (omega (arith, block_after b n)),
    )

frame_stays : (x : Answer) (b : List ℕ) (l : Label) → Sized b → l.dsfid ≡ get_or b 8 0 → l.afi ≡ get_or b 9 0
    → answer_frame x (store_of b l) ≡ answer_frame x b
unfolding answer_frame blocks_bytes locks_bytes
frame_stays a.Silent b l s d f = refl
frame_stays (a.Error e) b l s d f = refl
frame_stays a.Done b l s d f = refl
frame_stays a.Found b l s d f =
    let h : 25 ≤ length b = omega (arith, sized_long b s) in
    ap₂ (λ (x : ℕ) (y : List ℕ). framed (0 ∷ x ∷ y)) (stored_dsfid b l h ∙ d) (stored_uid b l)
frame_stays (a.Block n lock) b l s d f = ap (λ (x : List ℕ). framed (0 ∷ x)) (block_stays b l n lock)
frame_stays a.Info b l s d f =
    let h : 25 ≤ length b = omega (arith, sized_long b s) in
    let g : 10 ≤ length (store_of b l) = rw (stored_length b l) (omega arith) in
    let two : get_or (store_of b l) 8 0 ∷ get_or (store_of b l) 9 0 ∷ [] ≡ get_or b 8 0 ∷ get_or b 9 0 ∷ [] =
    ap₂ (λ (x y : ℕ). x ∷ y ∷ []) (stored_dsfid b l h ∙ d) (stored_afi b l h ∙ f)
    in
    ap₂ (λ (x y : List ℕ). framed (0 ∷ 0x0F ∷ (x ++ y)))
    (ten (store_of b l) g ∙ ap₂ ◌++◌ (stored_uid b l) two ∙ sym (ten b (omega arith)))
    (stored_numbers b l)
frame_stays (a.Blocks n more) b l s d f =
    ap (λ (x : List ℕ). framed (0 ∷ x)) (gather_ext (more + 1) _ _ (λ i h. block_stays b l (n + i) false))
frame_stays (a.LocksAndBlocks n more) b l s d f =
    ap (λ (x : List ℕ). framed (0 ∷ x)) (gather_ext (more + 1) _ _ (λ i h. block_stays b l (n + i) true))
frame_stays (a.Locks n more) b l s d f =
    ap (λ (x : List ℕ). framed (0 ∷ x)) (gather_ext (more + 1) _ _ (λ i h. ap (λ (k : ℕ). k ∷ []) (stored_lock b l (n + i))))

way_frame : {call : Call} {count lock : ℕ} {s : Stepped} (bytes b : List ℕ) → Sized b → Way call count lock (load_of b) s
    → answer_frame s.answer (worked s.work bytes (store_of b s.next)) ≡ answer_frame s.answer b
unfolding answer_frame worked ended load_of
way_frame bytes b z stays = refl
way_frame bytes b z offs = refl
way_frame bytes b z (wakes x) = refl
way_frame bytes b z (moves true x) = frame_stays a.Found b _ z refl refl
way_frame bytes b z (moves false x) = refl
way_frame bytes b z (starts true m e x y) = frame_stays a.Found b _ z refl refl
way_frame bytes b z (starts false m e x y) = refl
way_frame bytes b z (says x y) = frame_stays x b _ z refl refl
way_frame bytes b z hushes = refl
way_frame bytes b z selects = refl
way_frame bytes b z readies = refl
way_frame bytes b z drops = refl
way_frame bytes b z (writes n x y u v) = refl
way_frame bytes b z (locks n x y u) = refl
way_frame bytes b z (afis v x y) = refl
way_frame bytes b z (dsfids v x y) = refl
way_frame bytes b z (afi_locks x) = refl
way_frame bytes b z (dsfid_locks x) = refl

pub same_frame : (r : Request) (bytes b : List ℕ) → Sized b
    → answer_frame (said_label r (length bytes) b) (next_label r bytes b) ≡ answer_frame (said_label r (length bytes) b) b
unfolding next_label said_label stepped
same_frame r bytes b z = way_frame bytes b z (way r (length bytes) (named r.call b) (load_of b))

-- ---- the blocks that are given are there

calm_told : (x : Answer) (b : List ℕ) → Calm x (load_of b) → AnswerFits x b
unfolding Calm AnswerFits load_of
calm_told a.Silent b h = tt
calm_told (a.Error e) b h = tt
calm_told a.Done b h = tt
calm_told a.Found b h = tt
calm_told (a.Block n lock) b h = h
calm_told a.Info b h = tt
calm_told (a.Blocks n more) b h = h
calm_told (a.LocksAndBlocks n more) b h = h
calm_told (a.Locks n more) b h = h

way_told : {call : Call} {count lock : ℕ} (b : List ℕ) {s : Stepped} → Way call count lock (load_of b) s → AnswerFits s.answer b
unfolding AnswerFits
way_told b stays = tt
way_told b offs = tt
way_told b (wakes x) = tt
way_told b (moves true x) = tt
way_told b (moves false x) = tt
way_told b (starts true m e x y) = tt
way_told b (starts false m e x y) = tt
way_told b (says x y) = calm_told x b y
way_told b hushes = tt
way_told b selects = tt
way_told b readies = tt
way_told b drops = tt
way_told b (writes n x y u v) = tt
way_told b (locks n x y u) = tt
way_told b (afis v x y) = tt
way_told b (dsfids v x y) = tt
way_told b (afi_locks x) = tt
way_told b (dsfid_locks x) = tt

pub told_of : (r : Request) (count : ℕ) (b : List ℕ) → AnswerFits (said_label r count b) b
unfolding said_label stepped
told_of r count b = way_told b (way r count (named r.call b) (load_of b))

-- ---- no frame is longer than 256 blocks of 32 bytes, each with its lock: 1 + 256 × 33 + 2

-- so many pieces of one length
pieces_short : (more k : ℕ) (f : ℕ → List ℕ) → more ≤ 255 → k ≤ 33 → ((i : ℕ) → i < more + 1 → length (f i) ≡ k)
    → length (framed (0 ∷ gather (more + 1) f)) ≤ 8451
pieces_short more k f h z e =
    let l = length_framed 0xFFFF true (0 ∷ gather (more + 1) f) in
    let p : (more + 1) * k ≤ 256 * 33 = mul-le-mul {n₂ = 256} {m₂ = 33} (omega arith) z in
    omega (arith, l, gather_length k (more + 1) f e, p)

pub frame_short : (x : Answer) (b : List ℕ) → Sized b → get_or b 11 0 ≤ 255 → get_or b 12 0 ≤ 31 → AnswerFits x b → length (answer_frame x b) ≤ 8451
unfolding answer_frame blocks_bytes locks_bytes AnswerFits
frame_short a.Silent b s y z t = omega arith
frame_short (a.Error e) b s y z t = omega (arith, length_framed 0xFFFF true (1 ∷ e ∷ []))
frame_short a.Done b s y z t = omega (arith, length_framed 0xFFFF true (0 ∷ []))
frame_short a.Found b s y z t = omega (arith, found_length b (omega (arith, sized_long b s)))
frame_short (a.Block n lock) b s y z t =
    omega (arith, length_framed 0xFFFF true (0 ∷ block_bytes n lock b), bytes_length b n s t lock, lock_few lock)
frame_short a.Info b s y z t = omega (arith, info_length b (omega (arith, sized_long b s)))
frame_short (a.Blocks n more) b s y z t =
    pieces_short more (0 + size_of b) _ (omega arith) (omega arith) (λ i h. bytes_length b (n + i) s (omega arith) false)
frame_short (a.LocksAndBlocks n more) b s y z t =
    pieces_short more (1 + size_of b) _ (omega arith) (omega arith) (λ i h. bytes_length b (n + i) s (omega arith) true)
frame_short (a.Locks n more) b s y z t = pieces_short more 1 _ (omega arith) (omega arith) (λ i h. refl)
