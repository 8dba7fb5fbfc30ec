-- A verdict on bytes: fine, or the first offence and its place, in the order of document 02, P5. Assumes nothing.
use Rattle.std.specs.Prelude.{List, ℕ, zero, suc, ◌+◌, ltb, get_or, if◌then◌else◌, Result, Ok, Err}
use Rattle.frame.specs.declared.verdict.Offence.{Offence}
use Rattle.frame.specs.declared.verdict.Rule.{Rule}
pub use Rattle.frame.specs.declared.verdict.Rule.TheVariants.{Length, Head, Entry, Body, Behind}

abbrev pub Verdict : Type 0
Verdict = Result (Unit {0}) Offence

-- no offence
abbrev pub fine : Verdict
fine = Ok tt

abbrev pub bad : Rule → ℕ → Verdict
bad rule place = Err (record { rule = rule; place = place })

-- the number of a rule in the paper
abbrev pub rule_number : Rule → ℕ
rule_number Length = 10
rule_number Head = 11
rule_number Entry = 12
rule_number Body = 13
rule_number Behind = 14

-- the first verdict, unless it is fine: then the second
abbrev pub or_else : Verdict → Verdict → Verdict
or_else (Ok _) w = w
or_else (Err offence) w = Err offence

-- the first offence among f 0, f 1, .., f (n - 1)
unfoldable pub first_of : ℕ → (ℕ → Verdict) → Verdict
first_of zero f = fine
first_of (suc n) f = or_else (first_of n f) (f n)

-- a body's bytes against its rules: byte at + j of a body is at most most
unfoldable pub byte_verdict : List ℕ → ℕ → ℕ → ℕ → Verdict
byte_verdict b at most j = if ltb most (get_or b (at + j) 0) then bad Body (at + j) else fine
