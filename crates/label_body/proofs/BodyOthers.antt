-- What every call but a task's names, as an arm for all the others knows it: no block, so no lock. Assumes nothing.
use mathlib.Core.Path.{◌≡◌, refl}
use mathlib.Core.Bool.{Bool}
use mathlib.Core.List.{List}
use Prim.Native.Nat.{ℕ}
use Rattle.request.specs.declared.table.Task.{Task}
use Rattle.request.specs.declared.label.Target.{Target}
use Rattle.request.specs.declared.label.Params.{Params}
use Rattle.request.specs.declared.label.Call.{Call}
use Rattle.request.specs.declared.label.Call.TheVariants.{Ignored, Off, On, EndOfFrame, Nobody, Inventory, Fault, Do}
use Rattle.label_body.specs.Body.{named}

pub named_not : (x : Call) (b : List ℕ) → ((to : Target) (task : Task) (p : Params) (option : Bool) → x ≡ Do to task p option → ⊥) → 0 ≡ named x b
unfolding named
named_not Ignored b n = refl
named_not Off b n = refl
named_not On b n = refl
named_not EndOfFrame b n = refl
named_not Nobody b n = refl
named_not (Inventory family sixteen bits mask) b n = refl
named_not (Fault to code) b n = refl
named_not (Do to task p option) b n = absurd (n to task p option refl)
