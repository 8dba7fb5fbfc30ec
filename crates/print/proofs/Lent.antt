-- A text laid into a line is laid into the buffer that was lent, and its text ends where the line's text ends. Assumes nothing.
use mathlib.Core.Path.{◌≡◌, refl, ap, ap₂, sym, ◌∙◌}
use mathlib.Core.Logic.{⊎_elim}
use mathlib.Core.List.{List, []}
use Prim.Native.Nat.{ℕ, min, ◌+◌, ◌-◌}
use native.Mathlib.Omega.{arith}
use base.Fml.{GName}
use lib.ListN.{length, take, drop, take-append-drop, length-drop, drop_of_length-le}
use lib.Seq.{sets, take_all, take_at, drop_at, length-take-le, length-sets}
use Rattle.frame.proofs.Bools.{below_or_not}
use Rattle.print.specs.Puts.{Puts}
use Rattle.print.specs.Line.{Lent, lent, laid, buffer}
use Rattle.print.specs.declared.line.Line.{Line}
use Rattle.print.specs.Seen.{seen}
use Rattle.print.proofs.Puts.{puts_past, puts_some}
use Rattle.print.proofs.Lines.{laid_put, laid_none, no_room}

pub laid_puts : (s out : List ℕ) (at : ℕ) (loan : GName) → Puts s at out (buffer (laid (lent out at loan) s)) (length (laid (lent out at loan) s).text)
laid_puts s out at loan =
    ⊎_elim
    (λ l.
    let end = lent out (length out) loan in
    let t : take at out ≡ take (length out) out = take_all at out (omega arith) ∙ sym (take_all (length out) out (omega arith)) in
    let d : drop at out ≡ drop (length out) out =
    drop_of_length-le out {i = at} (omega arith) ∙ sym (drop_of_length-le out {i = length out} (omega arith)) in
    let e : lent out at loan ≡ end = ap₂ (λ (x y : List ℕ). record { text = x; behind = y; loan = loan }) t d in
    let b : length end.behind ≡ 0 = length-drop (length out) out ∙ omega arith in
    let f : laid (lent out at loan) s ≡ end = ap (λ (o : Lent). laid o s) e ∙ no_room end s [] b ∙ laid_none end in
    let w : buffer end ≡ out = take-append-drop (length out) out in
    let z : length end.text ≡ length out = length-take-le (length out) out (omega arith) in
    rw f (rw (w, z) (puts_past s out at (omega arith))))
    (λ l.
    let k = min (length s) (length out - at) in
    let new = sets out at (take k s) in
    let e : lent new (at + k) loan ≡ laid (lent out at loan) s = laid_put s out loan l refl refl (refl, refl) in
    let w : buffer (lent new (at + k) loan) ≡ new = take-append-drop (at + k) new in
    let n = length-sets out at (take k s) in
    let z : length (take (at + k) new) ≡ at + k = length-take-le (at + k) new (omega arith) in
    rw (← e, w, z) (puts_some s out at k l refl (refl, refl)))
    (below_or_not (length out) at)

-- and what is laid into a buffer from a place on is laid into a line over it
pub puts_laid : (s out : List ℕ) (at : ℕ) (loan : GName) {new : List ℕ} {r : ℕ} → Puts s at out new r → lent new r loan ≡ laid (lent out at loan) s
unfolding laid
puts_laid s out at loan {new} {r} p =
    let q = laid_puts s out at loan in
    let l = laid (lent out at loan) s in
    let e : new ≡ buffer l = p.laid ∙ sym q.laid in
    let f : r ≡ length l.text = p.behind ∙ sym q.behind in
    ap₂ (λ (x : List ℕ) (n : ℕ). lent x n loan) e f
    ∙ ap₂ (λ (x y : List ℕ). record { text = x; behind = y; loan = loan }) (take_at l.text l.behind (length l.text) refl)
    (drop_at l.text l.behind (length l.text) refl)

-- what a line says of its buffer, and which loan it still is

line_buffer : (line : Line) → buffer (seen line) ≡ line.bytes.now
unfolding seen
line_buffer line = take-append-drop line.at line.bytes.now

pub line_long : (line : Line) → length line.bytes.now ≡ length (buffer (seen line))
line_long line = ap length (sym (line_buffer line))

same_puts : (s out : List ℕ) (at : ℕ) {new fin : List ℕ} {q r : ℕ} → fin ≡ new → r ≡ q → Puts s at out new q → Puts s at out fin r
same_puts s out at e f p = rw (e, f) p

pub line_puts : (line : Line) (s out : List ℕ) (at : ℕ) (loan : GName) {r : ℕ} → seen line ≡ laid (lent out at loan) s
    → r ≡ length (seen line).text → Puts s at out line.bytes.now r
line_puts line s out at loan e f =
    same_puts s out at (sym (line_buffer line) ∙ ap buffer e) (f ∙ ap (λ (l : Lent). length l.text) e) (laid_puts s out at loan)

pub line_loan : (line : Line) (old : Lent) (s : List ℕ) → seen line ≡ laid old s → old.loan ≡ line.bytes.ghost_name
unfolding seen laid
line_loan line old s e = sym (ap (λ (l : Lent). l.loan) e)
