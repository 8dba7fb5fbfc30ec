-- The mark that may stand before a text in UTF-8. Assumes nothing.
use Rattle.std.specs.Prelude.{◌&&◌, List, ℕ, eqb, get_or, if◌then◌else◌}

-- its length: 0 where there is none
unfoldable pub mark_length : List ℕ → ℕ
mark_length s = if eqb (get_or s 0 0) 239 && (eqb (get_or s 1 0) 187 && eqb (get_or s 2 0) 191) then 3 else 0
