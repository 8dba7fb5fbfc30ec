-- The words of commands. Assumes nothing.
use Rattle.std.specs.Prelude.{ℕ, List, if◌then◌else◌}
use Rattle.print.specs.Ascii.{ascii}
use Rattle.request.specs.declared.table.Task.TheVariants as task
use Rattle.reader.specs.declared.command.ChipTask.TheVariants as chip
use Rattle.text.specs.Words.{same_word}
use Rattle.verbs.specs.declared.verb.Tail.TheVariants as tail
use Rattle.verbs.specs.declared.verb.Counted.TheVariants as counted
use Rattle.verbs.specs.declared.verb.Verb.{Verb}
use Rattle.verbs.specs.declared.verb.Verb.TheVariants.{Inventory, Chip, Number, Select, Label, Block, Field, Unknown}

-- chip commands that take nothing: initiate, pcall, completion, reset, uid
unfoldable pub chip_verb : List ℕ → Verb
chip_verb s =
    if same_word s (ascii "initiate") then Chip chip.Initiate
    else if same_word s (ascii "pcall") then Chip chip.Pcall
    else if same_word s (ascii "completion") then Chip chip.Completion
    else if same_word s (ascii "reset") then Chip chip.Reset
    else if same_word s (ascii "uid") then Chip chip.Uid
    else Unknown

-- chip commands that take a number, and the fields of a label: slot, get, put, afi, dsfid
unfoldable pub piece_verb : List ℕ → Verb
piece_verb s =
    if same_word s (ascii "slot") then Number counted.Slot
    else if same_word s (ascii "get") then Number counted.Get
    else if same_word s (ascii "put") then Number counted.Put
    else if same_word s (ascii "afi") then Field task.WriteAfi task.LockAfi
    else if same_word s (ascii "dsfid") then Field task.WriteDsfid task.LockDsfid
    else chip_verb s

-- commands to labels: select, ready, quiet, info
unfoldable pub label_verb : List ℕ → Verb
label_verb s =
    if same_word s (ascii "select") then Select
    else if same_word s (ascii "ready") then Label task.Ready
    else if same_word s (ascii "quiet") then Label task.Quiet
    else if same_word s (ascii "info") then Label task.Info
    else piece_verb s

-- an Inventory, and the blocks of a label: inventory, read, write, lock, status
unfoldable pub verb_of : List ℕ → Verb
verb_of s =
    if same_word s (ascii "inventory") then Inventory
    else if same_word s (ascii "read") then Block task.Read tail.Read
    else if same_word s (ascii "write") then Block task.Write tail.Data
    else if same_word s (ascii "lock") then Block task.Lock tail.Nothing
    else if same_word s (ascii "status") then Block task.Status tail.Status
    else label_verb s
