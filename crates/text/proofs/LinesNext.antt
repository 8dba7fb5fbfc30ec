-- The ways out of `next` and `at_hand`: what their tests told, and what their callees answered. Assumes nothing.
use mathlib.Core.Path.{◌≡◌, refl, ap, sym, ◌∙◌}
use mathlib.Core.Bool.{Bool, true}
use mathlib.Core.List.{List}
use Prim.Native.Nat.{ℕ, ◌+◌, ◌-◌, ◌≤◌, ◌<◌}
use borrow.Author.Tests.{lt-ltb, le-ltb}
use lib.Dec.{eqb}
use native.Mathlib.Omega.{arith}
use Rattle.std.specs.Prelude.{Option, None, Some, is_some, position}
use Rattle.frame.specs.Number.{part}
use Rattle.text.proofs.LinesPlaces.{newline_found, newline_none, none_left}
use lib.ListN.{length}
use Rattle.text.specs.Lines.{ended_at, no_line, newline_in, line_at, to_front, Found, next_of, is_found, Brought, Follows}
use Rattle.text.specs.declared.lines.Source.{Source}
use Rattle.text.specs.declared.lines.Source.TheVariants.{Holding, Ended}
use Rattle.text.specs.declared.lines.Reached.TheVariants.{End}
use Rattle.text.specs.declared.lines.Got.{Got}

module _ (s : Source) (buf : List ℕ) where
  found : {g y : Got} → next_of s buf ≡ Found y → g ≡ y → Follows (next_of s buf) buf buf g
  found e f = rw e (f, refl)

  pub next_done : {start end : ℕ} {g : Got} → s ≡ Ended start end → g ≡ no_line End s → Follows (next_of s buf) buf buf g
  unfolding next_of
  next_done h f = found (rw h refl) (f ∙ ap (no_line End) h)

  module _ {start end : ℕ} (h : s ≡ Holding start end) where
    pub next_short : {x : Source} {g : Got} → length buf < end → x ≡ ended_at → g ≡ no_line End x → Follows (next_of s buf) buf buf g
    unfolding next_of
    next_short l e f = found (rw (h, lt-ltb (length buf) end l) refl) (none_left end e f)

    module _ (l : end ≤ length buf) where
      pub next_crossed : {x : Source} {g : Got} → end < start → x ≡ ended_at → g ≡ no_line End x → Follows (next_of s buf) buf buf g
      unfolding next_of
      next_crossed k e f = found (rw (h, le-ltb (length buf) end l, lt-ltb end start k) refl) (none_left end e f)

      module _ (k : start ≤ end) where
        pub next_line : {at : ℕ} {g : Got} → (newline_in buf start end ≡ at) × (at < end) → g ≡ line_at buf start at (Holding (at + 1) end)
            → Follows (next_of s buf) buf buf g
        unfolding next_of
        next_line {at} w f = found (rw (h, le-ltb (length buf) end l, le-ltb end start k, w.0, lt-ltb at end w.1) refl) f

        pub next_more : {n : ℕ} {front new : List ℕ} {g : Got} → newline_in buf start end ≡ end → n ≡ end - start
            → front ≡ to_front buf start end → Brought n front new g → Follows (next_of s buf) buf new g
        unfolding next_of
        next_more w e f b =
            let o : end ≤ end = omega arith in
            rw (h, le-ltb (length buf) end l, le-ltb end start k, w, le-ltb end end o, ← f, ← e) b

-- ---- whether a read is needed

module _ (s : Source) (buf : List ℕ) where
  pub hand_done : {start end : ℕ} → s ≡ Ended start end → true ≡ is_found (next_of s buf)
  unfolding next_of
  hand_done h = sym (rw h refl)

  module _ {start end : ℕ} (h : s ≡ Holding start end) where
    pub hand_short : length buf < end → true ≡ is_found (next_of s buf)
    unfolding next_of
    hand_short l = sym (rw (h, lt-ltb (length buf) end l) refl)

    module _ (l : end ≤ length buf) where
      pub hand_crossed : end < start → true ≡ is_found (next_of s buf)
      unfolding next_of
      hand_crossed k = sym (rw (h, le-ltb (length buf) end l, lt-ltb end start k) refl)

      module _ (k : start ≤ end) (r : Option ℕ) (e : r ≡ position (λ c. eqb c 10) (part start (end - start) buf)) where
        pub hand_told : (t : Bool) → t ≡ is_some r → t ≡ is_found (next_of s buf)
        unfolding next_of
        hand_told t f = f ∙ by r refl
          where
            by : (x : Option ℕ) → r ≡ x → is_some r ≡ is_found (next_of s buf)
            by None q =
                let w = newline_none buf start end k l r e q in
                let o : end ≤ end = omega arith in
                rw (q, h, le-ltb (length buf) end l, le-ltb end start k, w, le-ltb end end o) refl
            by (Some i) q =
                let w = newline_found buf start end k l r e i q in
                rw (q, h, le-ltb (length buf) end l, le-ltb end start k, w.0, lt-ltb (start + i) end w.1) refl
