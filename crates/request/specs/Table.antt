-- Document 01, "Labels": "The fixed lengths stand in one small table, without UID"; what else goes with a code stands beside its length; 23 and 2C are
-- document 02's, P2. Assumes nothing.
use Rattle.std.specs.Prelude.{Bool, true, false, not, ◌||◌, List, [], ◌∷◌, ℕ, eqb, Option}
use Rattle.std.specs.List.{find}
use Rattle.request.specs.declared.table.Task.{Task}
use Rattle.request.specs.declared.table.Task.TheVariants as t
use Rattle.request.specs.declared.table.Success.{Success}
use Rattle.request.specs.declared.table.Success.TheVariants.{Never, Done, Block, Info, Blocks, Locks}
use Rattle.request.specs.declared.table.Row.{Row}

abbrev row : Task → ℕ → ℕ → Bool → Bool → Bool → Success → Row
row task code len block option one success = record { task = task; code = code; len = len; block = block; option = option; one = one; success = success }

-- code, length, whether a block follows, whether Option is allowed, whether it takes one UID only, what a success says; 25 is 12 with its UID
unfoldable pub row_of : Task → Row
row_of t.Quiet = row t.Quiet 0x02 4 false false true Never
row_of t.Read = row t.Read 0x20 5 false true false Block
row_of t.Write = row t.Write 0x21 5 true false false Done
row_of t.Lock = row t.Lock 0x22 5 false false false Done
row_of t.ReadMany = row t.ReadMany 0x23 6 false true false Blocks
row_of t.Select = row t.Select 0x25 4 false false true Done
row_of t.Ready = row t.Ready 0x26 4 false false false Done
row_of t.WriteAfi = row t.WriteAfi 0x27 5 false false false Done
row_of t.LockAfi = row t.LockAfi 0x28 4 false false false Done
row_of t.WriteDsfid = row t.WriteDsfid 0x29 5 false false false Done
row_of t.LockDsfid = row t.LockDsfid 0x2A 4 false false false Done
row_of t.Info = row t.Info 0x2B 4 false false false Info
row_of t.Status = row t.Status 0x2C 6 false false false Locks

unfoldable pub table : List Row
table =
    row_of t.Quiet
    ∷ row_of t.Read
    ∷ row_of t.Write
    ∷ row_of t.Lock
    ∷ row_of t.ReadMany
    ∷ row_of t.Select
    ∷ row_of t.Ready
    ∷ row_of t.WriteAfi
    ∷ row_of t.LockAfi
    ∷ row_of t.WriteDsfid
    ∷ row_of t.LockDsfid
    ∷ row_of t.Info
    ∷ row_of t.Status
    ∷ []

-- the first row with the code c
unfoldable pub lookup : ℕ → List Row → Option Row
lookup c = find (λ r. eqb r.code c)

-- Stay quiet is always silent
abbrev pub has_answer : Success → Bool
has_answer Never = false
has_answer Done = true
has_answer Block = true
has_answer Info = true
has_answer Blocks = true
has_answer Locks = true

-- Option on any but those that may have it is wrong
abbrev pub option_fits : Row → Bool → Bool
option_fits r option = not option || r.option
