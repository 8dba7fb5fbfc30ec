-- The edition of the C face that include/sackbutflare.h declares. Assumes nothing.
use Rattle.std.specs.Prelude.{ℕ}

-- 100 times the edition, and how often something was added to it
abbrev pub version : ℕ
version = 300
