-- A run of hex as a loop over its places reads it: what is still to be read, from the place reached on, leads to the same end.
-- Assumes nothing.
use mathlib.Core.Path.{◌≡◌, refl, ap, sym, ◌∙◌}
use mathlib.Core.Bool.{Bool, true, false}
use mathlib.Core.List.{List, [], ◌∷◌}
use Prim.Native.Nat.{ℕ, suc, ◌+◌, ◌-◌, ◌≤◌, ◌<◌}
use native.Mathlib.Nat.{add-zero}
use native.Mathlib.Omega.{arith}
use lib.ListN.{length, get_or, drop, set, length-drop, length-set, drop_of_length-le}
use lib.Seq.{sets, drop-cons, drop-drop, get_or-drop}
use Rattle.frame.proofs.Puts.{one, none}
use Rattle.frame.proofs.Bools.{if_either, if_both}
use Rattle.text.proofs.RunsPassed.{gap_none, opening_long, opening_solid, passed_none}
use Rattle.text.proofs.RunsPieces.{behind, Whole, byte_whole}
use Rattle.text.specs.Hex.{blank_before}
use Rattle.text.specs.Words.{is_blank}
use Rattle.text.specs.Runs.{is_gap, opening, Piece, piece_of, HexRead, stop, onward, read_hex, hex_of}
use Rattle.text.specs.RunsPlaces.{passed_at, piece_at}
use Rattle.std.specs.Prelude.{None, Some, Result, Ok, Err}
use Rattle.text.specs.declared.hex.HexError.{HexError}

-- ---- one byte of text

module _ (room n at : ℕ) (blank : Bool) (c : ℕ) where
  pub read_gap : (t : List ℕ) → is_gap c ≡ true → read_hex room n at blank (c ∷ t) ≡ read_hex room n (suc at) (is_blank c) t
  read_gap [] e = rw e refl
  read_gap (d ∷ t) e = rw e refl

  module _ (e : is_gap c ≡ false) where
    pub read_opening : (d : ℕ) (t : List ℕ) → opening (c ∷ d ∷ t) ≡ true → read_hex room n at blank (c ∷ d ∷ t) ≡ read_hex room n (at + 2) false t
    read_opening d t o = rw (e, o) refl

    pub read_piece : (t : List ℕ) → opening (c ∷ t) ≡ false
        → read_hex room n at blank (c ∷ t) ≡ onward n (piece_of room n at blank (c ∷ t)) (read_hex room (suc n) (at + 2) false (drop 1 t))
    read_piece [] o = rw e refl
    read_piece (d ∷ t) o = rw (e, o) refl

-- ---- the run by places
module _ (s : List ℕ) (room : ℕ) where
  -- what is read from a place on, and behind two bytes that stand there
  abbrev pub rest : ℕ → ℕ → HexRead
  rest n at = read_hex room n at (blank_before s at) (drop at s)

  abbrev after : ℕ → ℕ → HexRead
  after n at = read_hex room n (at + 2) false (drop (at + 2) s)

  all : rest 0 0 ≡ hex_of room s
  unfolding hex_of blank_before
  all = refl

  -- gaps and openings are passed over
  pass_gap : (n at : ℕ) → at < length s → is_gap (get_or s at 0) ≡ true → rest n at ≡ rest n (at + 1)
  pass_gap n at h e =
      let z : suc at ≡ at + 1 = omega arith in
      let b : is_blank (get_or s (suc at - 1) 0) ≡ is_blank (get_or s at 0) = ap (λ (k : ℕ). is_blank (get_or s k 0)) (omega arith) in
      ap (read_hex room n at (blank_before s at)) (drop-cons s at 0 h)
      ∙ read_gap room n at (blank_before s at) (get_or s at 0) (drop (suc at) s) e
      ∙ ap (λ (o : Bool). read_hex room n (suc at) o (drop (suc at) s)) (sym (behind s (suc at) n (omega arith) (is_blank (get_or s at 0)) b))
      ∙ ap (rest n) z

  -- what stands behind a byte that is no blank
  tight : (n at : ℕ) → is_blank (get_or s (at + 1) 0) ≡ false → after n at ≡ rest n (at + 2)
  tight n at e =
      let z : at + 2 - 1 ≡ at + 1 = omega arith in
      let k = behind s (at + 2) n (omega arith) false (ap (λ (j : ℕ). is_blank (get_or s j 0)) z ∙ e) in
      ap (λ (o : Bool). read_hex room n (at + 2) o (drop (at + 2) s)) (sym k)

  two : (at : ℕ) → at + 2 ≤ length s → drop at s ≡ get_or s at 0 ∷ get_or s (at + 1) 0 ∷ drop (at + 2) s
  two at h =
      let y : suc at ≡ at + 1 = omega arith in
      let z : suc (at + 1) ≡ at + 2 = omega arith in
      drop-cons s at 0 (omega arith)
      ∙ ap (λ (k : ℕ). get_or s at 0 ∷ drop k s) y
      ∙ ap (λ (u : List ℕ). get_or s at 0 ∷ u) (drop-cons s (at + 1) 0 (omega arith) ∙ ap (λ (k : ℕ). get_or s (at + 1) 0 ∷ drop k s) z)

  there : (at : ℕ) → opening (drop at s) ≡ true → at + 4 ≤ length s
  there at o = let l = opening_long (drop at s) o in let z = length-drop at s in omega arith

  pass_opening : (n at : ℕ) → is_gap (get_or s at 0) ≡ false → opening (drop at s) ≡ true → rest n at ≡ rest n (at + 2)
  pass_opening n at e o =
      let l = there at o in
      let w = two at (omega arith) in
      ap (read_hex room n at (blank_before s at)) w
      ∙ read_opening room n at (blank_before s at) (get_or s at 0) e (get_or s (at + 1) 0) (drop (at + 2) s) (ap opening (sym w) ∙ o)
      ∙ tight n at (ap is_blank (sym (get_or-drop at s 1 0)) ∙ opening_solid (drop at s) o)

  pub pass_on : (n at : ℕ) → at < length s → rest n at ≡ rest n (at + passed_at s at)
  unfolding passed_at
  pass_on n at h =
      let Same : ℕ → Type 0 = λ k. rest n at ≡ rest n (at + k) in
      if_either Same (is_gap (get_or s at 0)) _ _ (pass_gap n at h) (λ e.
      if_either Same (opening (drop at s)) _ _ (pass_opening n at e) (λ o. ap (rest n) (sym (add-zero at))))

  pub pass_inside : (at : ℕ) → at < length s → at + passed_at s at ≤ length s
  unfolding passed_at
  pass_inside at h =
      let In : ℕ → Type 0 = λ k. at + k ≤ length s in
      if_both In (is_gap (get_or s at 0)) (omega arith) (if_either In (opening (drop at s)) _ _ (λ o. let l = there at o in omega arith) (λ o. omega arith))

  -- the run ends at the text's end ..
  pub at_end : (n at : ℕ) → length s ≤ at → rest n at ≡ stop (Ok n)
  at_end n at h = rw (drop_of_length-le s {i = at} h) refl

  -- .. or at a piece p that is no byte, or goes on behind a byte
  module _ (n at : ℕ) (p : Piece) (h : at < length s) (e : passed_at s at ≡ 0) (f : p ≡ piece_at s at n room) where
    at_piece : rest n at ≡ onward n p (after (suc n) at)
    at_piece =
        let d = drop-cons s at 0 h in
        let q = passed_none s at e in
        let z : suc at + 1 ≡ at + 2 = omega arith in
        ap (read_hex room n at (blank_before s at)) d
        ∙ read_piece room n at (blank_before s at) (get_or s at 0) q.0 (drop (suc at) s) (ap opening (sym d) ∙ q.1)
        ∙ ap (λ (u : List ℕ). onward n (piece_of room n at (blank_before s at) u) (read_hex room (suc n) (at + 2) false (drop 1 (drop (suc at) s)))) (sym d)
        ∙ ap (λ (u : List ℕ). onward n (piece_at s at n room) (read_hex room (suc n) (at + 2) false u)) (drop-drop 1 (suc at) s)
        ∙ ap (λ (k : ℕ). onward n (piece_at s at n room) (read_hex room (suc n) (at + 2) false (drop k s))) z
        ∙ ap (λ (x : Piece). onward n x (after (suc n) at)) (sym f)

    pub at_stop : p ≡ Ok None → rest n at ≡ stop (Ok n)
    at_stop g = at_piece ∙ ap (λ (x : Piece). onward n x (after (suc n) at)) g

    pub at_error : (r : HexError) → p ≡ Err r → rest n at ≡ stop (Err r)
    at_error r g = at_piece ∙ ap (λ (x : Piece). onward n x (after (suc n) at)) g

    pub at_byte : (b : ℕ) → p ≡ Ok (Some b) → rest n at ≡ onward n (Ok (Some b)) (rest (n + 1) (at + 2))
    at_byte b g =
        let w = byte_whole room n at (blank_before s at) (drop at s) b (sym f ∙ g) in
        let t = gap_none (get_or s (at + 1) 0) (ap is_gap (sym (get_or-drop at s 1 0)) ∙ w.tight) in
        let i : suc n ≡ n + 1 = omega arith in
        at_piece
        ∙ ap (λ (x : Piece). onward n x (after (suc n) at)) g
        ∙ ap (λ (k : ℕ). onward n (Ok (Some b)) (after k at)) i
        ∙ ap (onward n (Ok (Some b))) (tight (n + 1) at t)

-- ---- the loop of `read_bytes`: n bytes are written

pub record Reads (s out₀ out : List ℕ) (at n : ℕ) : Type 0 where
  pub same : length out ≡ length out₀
  pub few : n ≤ length out
  pub inside : at ≤ length s
  pub bytes : sets out n (rest s (length out₀) n at).bytes ≡ sets out₀ 0 (hex_of (length out₀) s).bytes
  pub run : (rest s (length out₀) n at).run ≡ (hex_of (length out₀) s).run

pub reads_start : (s out : List ℕ) → Reads s out out 0 0
reads_start s out =
    let q = all s (length out) in
    record {
      same = refl;
      few = omega arith;
      inside = omega arith;
      bytes = ap (λ (x : HexRead). sets out 0 x.bytes) q;
      run = ap (λ (x : HexRead). x.run) q;
    }

module _ (s out₀ out : List ℕ) (at n : ℕ) (v : Reads s out₀ out at n) where
  -- where nothing more is read
  done : (r : Result ℕ HexError) → rest s (length out₀) n at ≡ stop r → (r ≡ (hex_of (length out₀) s).run) × (out ≡ sets out₀ 0 (hex_of (length out₀) s).bytes)
  done r q = (ap (λ (x : HexRead). x.run) (sym q) ∙ v.run, none out _ _ n (ap (λ (x : HexRead). x.bytes) q) v.bytes)

  pub reads_end : length s ≤ at → (Ok n ≡ (hex_of (length out₀) s).run) × (out ≡ sets out₀ 0 (hex_of (length out₀) s).bytes)
  reads_end h = done (Ok n) (at_end s (length out₀) n at h)

  module _ (h : at < length s) (k : ℕ) (w : k ≡ passed_at s at) where
    pub passed_inside : at + k ≤ length s
    passed_inside = let l = pass_inside s (length out₀) at h in omega arith

    pub reads_passed : Reads s out₀ out (at + k) n
    reads_passed =
        let q = pass_on s (length out₀) n at h ∙ ap (λ (j : ℕ). rest s (length out₀) n (at + j)) (sym w) in
        record {
          same = v.same;
          few = v.few;
          inside = passed_inside;
          bytes = ap (λ (x : HexRead). sets out n x.bytes) (sym q) ∙ v.bytes;
          run = ap (λ (x : HexRead). x.run) (sym q) ∙ v.run;
        }

    -- nothing is passed over: p stands there
    module _ (z : k ≡ 0) (p : Piece) (e : p ≡ piece_at s at n (length out)) where
      same_room : p ≡ piece_at s at n (length out₀)
      same_room = e ∙ ap (piece_at s at n) v.same

      pub reads_stop : p ≡ Ok None → (Ok n ≡ (hex_of (length out₀) s).run) × (out ≡ sets out₀ 0 (hex_of (length out₀) s).bytes)
      reads_stop g = done (Ok n) (at_stop s (length out₀) n at p h (sym w ∙ z) same_room g)

      pub reads_error : (r : HexError) → p ≡ Err r → (Err r ≡ (hex_of (length out₀) s).run) × (out ≡ sets out₀ 0 (hex_of (length out₀) s).bytes)
      reads_error r g = done (Err r) (at_error s (length out₀) n at p h (sym w ∙ z) same_room r g)

      module _ (b : ℕ) (g : p ≡ Ok (Some b)) where
        whole : Whole (length out) n (drop at s)
        whole = byte_whole (length out) n at (blank_before s at) (drop at s) b (sym e ∙ g)

        pub byte_room : n < length out
        byte_room = whole.fits

        pub byte_there : at + 2 ≤ length s
        byte_there = let l = whole.there in let y = length-drop at s in omega arith

        pub reads_byte : Reads s out₀ (set out n b) (at + 2) (n + 1)
        reads_byte =
            let q = at_byte s (length out₀) n at p h (sym w ∙ z) same_room b g in
            record {
              same = length-set out n b ∙ v.same;
              few = let l = byte_room in rw (length-set out n b) (omega arith);
              inside = byte_there;
              bytes = one out _ _ _ n (n + 1) b (ap (λ (x : HexRead). x.bytes) q) refl v.bytes;
              run = ap (λ (x : HexRead). x.run) (sym q) ∙ v.run;
            }
