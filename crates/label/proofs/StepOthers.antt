-- What a label that is not meant does with every task but Select, as an arm for all the others knows it: nothing. Assumes nothing.
use mathlib.Core.Path.{◌≡◌, refl}
use Rattle.request.specs.Table.{row_of}
use Rattle.request.specs.declared.table.Task.{Task}
use Rattle.request.specs.declared.table.Task.TheVariants as t
use Rattle.label.specs.declared.step.Label.{Label}
use Rattle.label.specs.Step.{silent, passed}

pub passed_not : (x : Task) (l : Label) → (x ≡ t.Select → ⊥) → silent l ≡ passed x l
unfolding passed row_of
passed_not t.Quiet l n = refl
passed_not t.Read l n = refl
passed_not t.Write l n = refl
passed_not t.Lock l n = refl
passed_not t.ReadMany l n = refl
passed_not t.Select l n = absurd (n refl)
passed_not t.Ready l n = refl
passed_not t.WriteAfi l n = refl
passed_not t.LockAfi l n = refl
passed_not t.WriteDsfid l n = refl
passed_not t.LockDsfid l n = refl
passed_not t.Info l n = refl
passed_not t.Status l n = refl
