-- The laws of frames. A list of two bytes or more is its content and two bytes behind it; with these apart the test is one of numbers,
-- and the register's laws give the rest: a frame is right, only a frame is, and the residue tells it.
-- Assumes nothing.
use mathlib.Core.Path.{◌≡◌, sym, ap, ap₂, ◌∙◌}
use mathlib.Core.Bool.{Bool, true, false, ◌&&◌}
use mathlib.Core.List.{List, [], ◌∷◌, ◌++◌, append_assoc}
use Prim.Native.Nat.{ℕ, suc, ◌+◌, ◌-◌, ◌*◌, ◌/◌, ◌%◌, ◌^◌, ◌≤◌, ◌<◌}
use native.Mathlib.Nat.{mod-eq_of_lt}
use native.Mathlib.Omega.{arith}
use lib.Dec.{eqb, leb}
use lib.ListN.{length, get_or, take, length-append}
use lib.Seq.{take-suc, take_all, take_at, drop_at}
use borrow.Author.Tests.{eqb-true, eq-eqb, le-leb, leb-true, lt-leb}
use Rattle.frame.specs.Number.{num, bytes_of, part, Bytes}
use Rattle.frame.specs.CheckSum.{crc_run, crc_end, crc_with, framed_with, content, right_with, framed, right}
use Rattle.frame.proofs.Bools.{eqb_same, and_both}
use Rattle.frame.proofs.Numbers.{bytes_take, bytes_append, bytes_small}
use Rattle.frame.proofs.CheckSumRegister.{residue, run_append, run_lt, sum_lt, sum_inverted_lt, sum_leaves, sum_only}

-- ---- a list and its last two elements

split_two : (f : List ℕ) (k : ℕ) → suc (suc k) ≡ length f → f ≡ take k f ++ get_or f k 0 ∷ get_or f (suc k) 0 ∷ []
split_two f k e =
    sym (take_all (suc (suc k)) f (omega arith))
    ∙ take-suc f (suc k) 0 (omega arith)
    ∙ ap (λ (l : List ℕ). l ++ get_or f (suc k) 0 ∷ []) (take-suc f k 0 (omega arith))
    ∙ append_assoc (take k f) (get_or f k 0 ∷ []) (get_or f (suc k) 0 ∷ [])

pub last_two : (f : List ℕ) → 2 ≤ length f → f ≡ content f ++ get_or f (length f - 2) 0 ∷ get_or f (length f - 1) 0 ∷ []
last_two f h =
    let q : suc (length f - 2) ≡ length f - 1 = omega arith in
    split_two f (length f - 2) (omega arith)
    ∙ ap (λ (n : ℕ). content f ++ get_or f (length f - 2) 0 ∷ get_or f n 0 ∷ []) q

-- ---- for any start, inverted or not
module _ (start : ℕ) (inv : Bool) where
  -- with the two bytes apart, the test is one of numbers
  pub right_of : (s : List ℕ) (lo hi : ℕ) → right_with start inv (s ++ lo ∷ hi ∷ []) ≡ eqb (lo + hi * 256) (crc_with start inv s)
  unfolding right_with
  right_of s lo hi =
      let f = s ++ lo ∷ hi ∷ [] in
      let n : length f ≡ length s + 2 = length-append s (lo ∷ hi ∷ []) in
      let n2 : length s ≡ length f - 2 = omega arith in
      let l : leb 2 (length f) ≡ true = le-leb 2 (length f) (omega arith) in
      let v : num (lo ∷ hi ∷ []) ≡ lo + hi * 256 = omega arith in
      let x : num (part (length f - 2) 2 f) ≡ lo + hi * 256 = ap (λ (t : List ℕ). num (take 2 t)) (drop_at s (lo ∷ hi ∷ []) (length f - 2) n2) ∙ v in
      let z : content f ≡ s = take_at s (lo ∷ hi ∷ []) (length f - 2) n2 in
      ap₂ ◌&&◌ l (ap₂ eqb x (ap (crc_with start inv) z))

  pub right_short : (f : List ℕ) → length f < 2 → right_with start inv f ≡ false
  unfolding right_with
  right_short f h =
      ap (λ (t : Bool). t && eqb (num (part (length f - 2) 2 f)) (crc_with start inv (content f))) (lt-leb 2 (length f) h)

  pub right_long : (f : List ℕ) → right_with start inv f ≡ true → 2 ≤ length f
  unfolding right_with
  right_long f e =
      leb-true 2 (length f) (and_both (leb 2 (length f)) (eqb (num (part (length f - 2) 2 f)) (crc_with start inv (content f))) e).0

  -- a frame whose check sum fits two bytes is right ..
  pub framed_fits : (s : List ℕ) → crc_with start inv s < 2 ^ 16 → right_with start inv (framed_with start inv s) ≡ true
  unfolding framed_with
  framed_fits s h =
      let c = crc_with start inv s in
      right_of s (c % 256) (c / 256 % 256) ∙ eq-eqb (c % 256 + c / 256 % 256 * 256) c (omega arith)

  -- .. and what is right is the frame of its content
  pub right_framed : (f : List ℕ) → Bytes f → right_with start inv f ≡ true → f ≡ framed_with start inv (content f)
  unfolding framed_with
  right_framed f bs e =
      let lo = get_or f (length f - 2) 0 in
      let hi = get_or f (length f - 1) 0 in
      let c = crc_with start inv (content f) in
      let p = last_two f (right_long f e) in
      let q : lo + hi * 256 ≡ c = eqb-true (lo + hi * 256) c (sym (right_of (content f) lo hi) ∙ ap (right_with start inv) (sym p) ∙ e) in
      let x : lo ≡ c % 256 = omega (arith, q, bs (length f - 2)) in
      let d : c / 256 ≡ hi = omega (arith, q, bs (length f - 2)) in
      let y : hi ≡ c / 256 % 256 = sym (ap (λ (n : ℕ). n % 256) d ∙ mod-eq_of_lt (bs (length f - 1))) in
      p ∙ ap₂ (λ (i j : ℕ). content f ++ i ∷ j ∷ []) x y

  pub length_framed : (s : List ℕ) → length (framed_with start inv s) ≡ length s + 2
  unfolding framed_with
  length_framed s = length-append s (bytes_of 2 (crc_with start inv s))

  pub content_framed : (s : List ℕ) → content (framed_with start inv s) ≡ s
  unfolding framed_with
  content_framed s =
      take_at s (bytes_of 2 (crc_with start inv s)) (length (framed_with start inv s) - 2) (omega (arith, length_framed s))

  pub framed_inj : (s t : List ℕ) → framed_with start inv s ≡ framed_with start inv t → s ≡ t
  framed_inj s t e = sym (content_framed s) ∙ ap content e ∙ content_framed t

  pub bytes_framed : (s : List ℕ) → Bytes s → Bytes (framed_with start inv s)
  unfolding framed_with
  bytes_framed s h = bytes_append s (bytes_of 2 (crc_with start inv s)) h (bytes_small 2 (crc_with start inv s))

  -- ---- where the start fits the register
  module _ (hs : start < 2 ^ 16) where
    pub framed_right : (s : List ℕ) → Bytes s → right_with start inv (framed_with start inv s) ≡ true
    framed_right s h = framed_fits s (sum_lt start inv s hs h)

    -- what the code tests
    pub right_run : (f : List ℕ) → 2 ≤ length f → Bytes f → right_with start inv f ≡ eqb (crc_run start f) (residue inv)
    unfolding crc_with
    right_run f h bs =
        let b = content f in
        let lo = get_or f (length f - 2) 0 in
        let hi = get_or f (length f - 1) 0 in
        let r = crc_run start b in
        let hr : r < 2 ^ 16 = run_lt start b hs (bytes_take (length f - 2) f bs) in
        let p = last_two f h in
        let e : crc_run start f ≡ crc_run r (lo ∷ hi ∷ []) = ap (crc_run start) p ∙ run_append start b (lo ∷ hi ∷ []) in
        ap (right_with start inv) p
        ∙ right_of b lo hi
        ∙ eqb_same (lo + hi * 256) (crc_end inv r) (crc_run start f) (residue inv)
        (λ q. e ∙ sum_leaves inv r lo hi hr (bs (length f - 2)) q)
        (λ q. sum_only inv r lo hi hr (bs (length f - 2)) (bs (length f - 1)) (sym e ∙ q))

    -- a frame run through leaves the residue
    pub frame_residue : (s : List ℕ) → Bytes s → crc_run start (framed_with start inv s) ≡ residue inv
    frame_residue s bs =
        let f = framed_with start inv s in
        eqb-true (crc_run start f) (residue inv)
        (sym (right_run f (omega (arith, length_framed s)) (bytes_framed s bs)) ∙ framed_right s bs)

-- for labels and chips a frame is right whatever its content: inverted, the check sum always fits
pub right_all : (s : List ℕ) → right (framed s) ≡ true
right_all s = framed_fits 0xFFFF true s (sum_inverted_lt 0xFFFF s)
