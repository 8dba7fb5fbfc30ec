-- Demand 1 holds: each call tests for the table's number first. Assumes nothing.
use Rattle.std.specs.Prelude.{if◌then◌else◌}
use mathlib.Core.Path.{◌≡◌, refl}
use mathlib.Core.Bool.{Bool, true, false}
use Prim.Native.Nat.{ℕ}
use borrow.Author.Tests.{eqb-true, ne_eqb}
use lib.Dec.{eqb}
use lib.ListN.{length}
use Rattle.event.specs.Event as event
use Rattle.inventory.specs.Walk as walk
use Rattle.reader.specs.declared.writer.Written.{Written}
use Rattle.reader.specs.Request as request
use Rattle.demands.specs.Demand1.{AsTheTable, Demand1}

-- a call that goes on where the table's number is 0
tested : {A : Type 0} (told : A → ℕ) (n : ℕ) (done refusal : A) → told done ≡ 0 → told refusal ≡ n
    → AsTheTable (told (if eqb n 0 then done else refusal)) n (if eqb n 0 then done else refusal) refusal
tested told n done refusal p q = record { number = go (eqb n 0) refl; refuses = λ h. rw (ne_eqb n 0 h) }
  where
    go : (x : Bool) → eqb n 0 ≡ x → told (if x then done else refusal) ≡ n
    go true e = rw (p, eqb-true n 0 e)
    go false e = q

pub demand_1 : Demand1
unfolding event.event_of walk.walk_of request.written_of request.out_of
demand_1 =
    record {
      events = λ r number f ds out. tested (λ (o : event.Outcome). o.report.number) _ _ _ refl refl;
      walks = λ r family list. tested (λ (o : walk.Result). o.report.number) _ _ _ refl refl;
      requests = λ c uid d out. tested (λ (w : Written). w.number) _ _ _ refl refl;
      buffers = λ c uid d out h. rw (ne_eqb (request.refusal_of c (length d) (length out)) 0 h);
    }
