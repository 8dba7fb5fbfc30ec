-- Taken as meant, of any command: what the event with its frame asks of labels and of chips, and that the bytes behind a frame's parameters do as
-- much as the bytes sent. They count for a write alone: a label's step to any other request does not look at them.
-- Assumes nothing.
use mathlib.Core.Path.{◌≡◌, refl, sym, ap, ◌∙◌}
use mathlib.Core.Bool.{Bool, true, false, false≢true}
use mathlib.Core.List.{List}
use Prim.Native.Nat.{ℕ}
use lib.ListN.{length}
use Rattle.request.specs.Table.{row_of}
use Rattle.request.specs.Label as labels
use Rattle.request.specs.Chip as chips
use Rattle.request.specs.declared.table.Task.TheVariants as t
use Rattle.request.specs.declared.label.Params.{Params}
use Rattle.request.specs.declared.label.Target.{Target}
use Rattle.request.specs.declared.label.Call.{Call}
use Rattle.request.specs.declared.label.Call.TheVariants as k
use Rattle.label_body.specs.Body as label
use Rattle.label_body.proofs.Floor.{unsent_next, unsent_said}
use Rattle.reader.specs.declared.command.Command.{Command}
use Rattle.reader.specs.declared.command.Command.TheVariants as c
use Rattle.reader.specs.Command.{valid}
use Rattle.reader.specs.Request.{encode, label_meant, event_for, label_takes, chip_takes, bytes_sent}
use Rattle.accord.proofs.RequestMeant.{label_is_meant, data_meant, inventory_meant, chip_is_meant}

-- whether a call sends bytes to be written
abbrev sends : Call → Bool
sends k.Ignored = false
sends k.Off = false
sends k.On = false
sends k.EndOfFrame = false
sends k.Nobody = false
sends (k.Inventory family sixteen bits mask) = false
sends (k.Fault to code) = false
sends (k.Do to task p option) = (row_of task).block

-- ---- taken as meant

-- what the tags take a command's frame for: the event with it asks what was meant, and its bytes do as much as those that were sent
pub record Taken (command : Command) (uid d : List ℕ) : Type 0 where
  pub of_labels : labels.heard (event_for command) (encode command uid d) ≡ label_takes command uid
  pub of_chips : chips.heard (event_for command) (encode command uid d) ≡ chip_takes command d
  pub next : (b : List ℕ)
      → label.next_label (label_takes command uid) (labels.data_of (encode command uid d)) b ≡ label.next_label (label_takes command uid) (bytes_sent command d) b
  pub said : (b : List ℕ)
      → label.said_label (label_takes command uid) (length (labels.data_of (encode command uid d))) b
      ≡ label.said_label (label_takes command uid) (length (bytes_sent command d)) b

-- from what is heard, where no bytes are sent to be written: a label then looks at none
unsent_taken : (command : Command) (uid d : List ℕ) → labels.heard (event_for command) (encode command uid d) ≡ label_takes command uid
    → chips.heard (event_for command) (encode command uid d) ≡ chip_takes command d → sends (label_takes command uid).call ≡ false → Taken command uid d
unfolding row_of
unsent_taken command uid d e f w =
    let r = label_takes command uid in
    let x = labels.data_of (encode command uid d) in
    record {
      of_labels = e;
      of_chips = f;
      next = λ b. unsent_next r b none x (bytes_sent command d);
      said = λ b. unsent_said r b none (length x) (length (bytes_sent command d));
    }
  where
    none : (to : Target) (p : Params) (option : Bool) → (label_takes command uid).call ≡ k.Do to t.Write p option → ⊥
    none to p option q = false≢true (sym w ∙ ap sends q)

-- or from bytes that are those sent
sent_taken : (command : Command) (uid d : List ℕ) → labels.heard (event_for command) (encode command uid d) ≡ label_takes command uid
    → chips.heard (event_for command) (encode command uid d) ≡ chip_takes command d → labels.data_of (encode command uid d) ≡ bytes_sent command d
    → Taken command uid d
sent_taken command uid d e f w =
    let r = label_takes command uid in
    record {
      of_labels = e;
      of_chips = f;
      next = λ b. ap (λ (x : List ℕ). label.next_label r x b) w;
      said = λ b. ap (λ (x : List ℕ). label.said_label r (length x) b) w;
    }

-- the tags take every command that has a request as it was meant
pub taken : (command : Command) (uid d : List ℕ) → valid command (length d) ≡ true → length uid ≡ 8 → Taken command uid d
unfolding labels.heard chips.heard event_for label_takes label_meant chip_takes bytes_sent valid
taken (c.Inventory to option family sixteen bits mask) uid d v h =
    unsent_taken (c.Inventory to option family sixteen bits mask) uid d (inventory_meant to option family sixteen bits mask uid d v) refl refl
taken (c.Label to option task p) uid d v h = go (row_of task).block refl
  where
    go : (x : Bool) → (row_of task).block ≡ x → Taken (c.Label to option task p) uid d
    go true e =
        sent_taken (c.Label to option task p) uid d (label_is_meant to option task p uid d v h) refl
        (data_meant to option task p uid d h e ∙ rw e)
    go false e = unsent_taken (c.Label to option task p) uid d (label_is_meant to option task p uid d v h) refl e
taken (c.Chip to option task) uid d v h = unsent_taken (c.Chip to option task) uid d refl (chip_is_meant to option task uid d v) refl
taken (c.Other kind code) uid d v h = absurd (false≢true v)
