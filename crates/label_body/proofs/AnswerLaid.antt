-- A front that is laid and a part of the body behind it are the content of the answer's frame; and how long that is.
-- Assumes nothing.
use mathlib.Core.Path.{◌≡◌, refl, ap, sym, ◌∙◌}
use mathlib.Core.Bool.{Bool, true, false}
use mathlib.Core.List.{List, [], ◌∷◌, ◌++◌}
use Prim.Native.Nat.{ℕ, ◌+◌, ◌≤◌, ◌<◌}
use native.Mathlib.Numerals.{add-one}
use native.Mathlib.Nat.{add-zero}
use native.Mathlib.Omega.{arith}
use lib.ListN.{length, get_or, set, take, length-append}
use lib.Seq.{sets, length-sets, take_all, length-take-le}
use Rattle.frame.specs.Choose.{gather}
use Rattle.frame.specs.Number.{part, bytes_of}
use Rattle.frame.specs.CheckSum.{crc_of, framed}
use Rattle.frame.proofs.Lists.{gather_none, gather_more}
use Rattle.frame.proofs.Gather.{gather_within}
use Rattle.frame.proofs.Puts.{Laid, laid_seal, sets_append}
use Rattle.frame.proofs.CheckSumFrames.{length_framed}
use Rattle.frame.proofs.Stores.{length_part}
use Rattle.label.specs.declared.step.Answer.{Answer}
use Rattle.label.specs.declared.step.Answer.TheVariants as a
use Rattle.label_body.specs.Locks.{lock_on}
use Rattle.label_body.specs.Body.{Sized, block_at, size_of, block_of}
use Rattle.label_body.specs.Answer.{block_bytes, blocks_bytes, answer_frame}
use Rattle.label_body.proofs.BodyRoom.{block_fits}

-- ---- a block as it is read: with its lock or without

abbrev pub lock_count : Bool → ℕ
lock_count true = 1
lock_count false = 0

pub lock_few : (lock : Bool) → lock_count lock ≤ 1
lock_few true = omega arith
lock_few false = omega arith

module _ (b : List ℕ) (n : ℕ) (s : Sized b) (h : n ≤ get_or b 11 0) where
  pub block_length : length (block_of n b) ≡ size_of b
  block_length = length_part (block_at b n) (size_of b) b (block_fits b n s h)

  pub bytes_length : (lock : Bool) → length (block_bytes n lock b) ≡ lock_count lock + size_of b
  unfolding block_bytes
  bytes_length true = omega (arith, block_length)
  bytes_length false = omega (arith, block_length)

-- and no more behind it
pub one_block : (n : ℕ) (lock : Bool) (b : List ℕ) → blocks_bytes n 0 lock b ≡ block_bytes n lock b
unfolding blocks_bytes
one_block n lock b = gather_more 0 (λ i. block_bytes (n + i) lock b) ∙ rw (gather_none, add-zero)

-- laid from a place on, as it is lent: x
module _ (b : List ℕ) (n at : ℕ) (lock : Bool) {x : List ℕ} (is : x ≡ block_of n b) where
  pub locked_room : {room : ℕ} → lock ≡ true → at + length (block_bytes n lock b) ≤ room → at + 1 + length x ≤ room
  unfolding block_bytes
  locked_room {room} e h = let g : at + length (lock_on n b ∷ block_of n b) ≤ room = rw e at h in rw is (omega arith)

  pub plain_room : {room : ℕ} → lock ≡ false → at + length (block_bytes n lock b) ≤ room → at + length x ≤ room
  unfolding block_bytes
  plain_room {room} e h = let g : at + length (block_of n b) ≤ room = rw e at h in rw is (omega arith)

  pub lay_locked : (out y : List ℕ) {k r : ℕ} → lock ≡ true → k ≡ lock_on n b → (r ≡ at + 1 + length x) × (y ≡ sets (set out at k) (at + 1) (take (length x) x))
      → (r ≡ at + length (block_bytes n lock b)) × (y ≡ sets out at (block_bytes n lock b))
  unfolding block_bytes
  lay_locked out y e q f = rw (e, ← is, ← q) (omega (arith, f.0), f.1 ∙ rw (take_all (length x) x (omega arith), add-one))

  pub lay_plain : (out y : List ℕ) {r : ℕ} → lock ≡ false → (r ≡ at + length x) × (y ≡ sets out at (take (length x) x))
      → (r ≡ at + length (block_bytes n lock b)) × (y ≡ sets out at (block_bytes n lock b))
  unfolding block_bytes
  lay_plain out y e f = rw (e, ← is) (f.0, f.1 ∙ rw (take_all (length x) x (omega arith)))

-- ---- pieces, one behind the other, behind the first byte

-- i of them are laid
pub record Laying (f : ℕ → List ℕ) (count : ℕ) (start out : List ℕ) (at i : ℕ) : Type 0 where
  pub upto : i ≤ count
  pub long : at ≡ 1 + length (gather i f)
  pub is : out ≡ sets start 1 (gather i f)

pub laying_none : (f : ℕ → List ℕ) (count : ℕ) (start : List ℕ) → Laying f count start start 1 0
laying_none f count start = record { upto = omega arith; long = rw gather_none refl; is = rw gather_none refl }

module _ {f : ℕ → List ℕ} {count at i : ℕ} {start out : List ℕ} (run : Laying f count start out at i) where
  pub laying_same : length out ≡ length start
  laying_same = ap length run.is ∙ length-sets start 1 (gather i f)

  -- the frame's room is that of each piece, too
  pub laying_room : {room : ℕ} → i < count → length (framed (0 ∷ gather count f)) ≤ room → at + length (f i) + 2 ≤ room
  laying_room h r =
      let g = gather_within (i + 1) count f (omega arith) in
      let m = ap length (gather_more i f) ∙ length-append (gather i f) (f i) in
      omega (arith, run.long, length_framed 0xFFFF true (0 ∷ gather count f), r, g, m)

  -- what is laid leaves room for the check sum
  pub laying_least : {room : ℕ} → length (framed (0 ∷ gather count f)) ≤ room → at + 2 ≤ room
  laying_least r = omega (arith, run.long, length_framed 0xFFFF true (0 ∷ gather count f), r, gather_within i count f run.upto)

  pub laying_more : {r : ℕ} {y : List ℕ} → i < count → (r ≡ at + length (f i)) × (y ≡ sets out at (f i)) → Laying f count start y r (i + 1)
  laying_more h e =
      record {
        upto = omega arith;
        long = rw (gather_more i f, length-append) (omega (arith, e.0, run.long));
        is = e.1 ∙ rw (gather_more i f, run.is, run.long) (sym (sets_append (gather i f) (f i) start 1));
      }

-- 00 before them, and all sealed where none is left
pub laying_done : {f : ℕ → List ℕ} {count at i r : ℕ} (old : List ℕ) {out y : List ℕ} → Laying f count (set old 0 0) out at i → count ≤ i
    → length (framed (0 ∷ gather count f)) ≤ length old → (r ≡ at + 2) × (y ≡ sets out at (bytes_of 2 (crc_of (take at out))))
    → (r ≡ length (framed (0 ∷ gather count f))) × (y ≡ sets old 0 (framed (0 ∷ gather count f)))
laying_done {f} {count} {at} {i} old {out} run h room e =
    let z : i ≡ count = omega (arith, run.upto) in
    let l : Laid (0 ∷ gather count f) at old out = record { long = rw z at run.long ∙ omega arith; is = rw z at run.is } in
    let s = laid_seal 0xFFFF true l (omega (arith, length_framed 0xFFFF true (0 ∷ gather count f))) e in
    (s.long, s.is)

-- 00 alone has its room
pub frame_some : (f : ℕ → List ℕ) (count : ℕ) {room : ℕ} → length (framed (0 ∷ gather count f)) ≤ room → 1 ≤ room
frame_some f count r = omega (arith, length_framed 0xFFFF true (0 ∷ gather count f), r)

-- ---- lengths

pub found_length : (b : List ℕ) → 8 ≤ length b → length (answer_frame a.Found b) ≡ 12
unfolding answer_frame
found_length b h = length_framed 0xFFFF true (0 ∷ get_or b 8 0 ∷ part 0 8 b) ∙ rw (length-take-le 8 b h)

pub info_length : (b : List ℕ) → 14 ≤ length b → length (answer_frame a.Info b) ≡ 17
unfolding answer_frame
info_length b h =
    length_framed 0xFFFF true (0 ∷ 0x0F ∷ (part 0 10 b ++ part 11 3 b))
    ∙ rw (length-append (part 0 10 b) (part 11 3 b), length-take-le 10 b (omega arith), length_part 11 3 b h)

-- ---- the room that an answer's frame takes
module _ (x : Answer) (b : List ℕ) (n : ℕ) (room : length (answer_frame x b) ≤ n) where
  pub error_room : (e : ℕ) → x ≡ a.Error e → 4 ≤ n
  unfolding answer_frame
  error_room e q =
      let h : length (framed (1 ∷ e ∷ [])) ≤ n = rw q at room in
      omega (arith, length_framed 0xFFFF true (1 ∷ e ∷ []))

  pub done_room : x ≡ a.Done → 3 ≤ n
  unfolding answer_frame
  done_room q =
      let h : length (framed (0 ∷ [])) ≤ n = rw q at room in
      omega (arith, length_framed 0xFFFF true (0 ∷ []))

  pub found_room : x ≡ a.Found → 32 ≤ length b → 12 ≤ n
  found_room q l =
      let h : length (answer_frame a.Found b) ≤ n = rw q at room in
      omega (arith, found_length b (omega arith))

  pub info_room : x ≡ a.Info → 32 ≤ length b → 17 ≤ n
  info_room q l =
      let h : length (answer_frame a.Info b) ≤ n = rw q at room in
      omega (arith, info_length b (omega arith))
