-- Document 01, "What the rack is": all multi-byte numbers go least significant byte first. Assumes nothing.
use Rattle.std.specs.Prelude.{List, [], ◌∷◌, ◌++◌, ℕ, zero, suc, ◌+◌, ◌*◌, ◌/◌, ◌%◌, ◌<◌, get_or, take, drop}

-- the number of some bytes
abbrev pub num : List ℕ → ℕ
num [] = 0
num (b ∷ bs) = b + num bs * 256

-- the k low bytes of a number
abbrev pub bytes_of : ℕ → ℕ → List ℕ
bytes_of zero n = []
bytes_of (suc k) n = n % 256 ∷ bytes_of k (n / 256)

-- the k bytes from place at on
abbrev pub part : ℕ → ℕ → List ℕ → List ℕ
part at k s = take k (drop at s)

-- s with its k bytes from place at on replaced by ys
abbrev pub splice : ℕ → ℕ → List ℕ → List ℕ → List ℕ
splice at k ys s = take at s ++ (ys ++ drop k (drop at s))

-- what the elements of a slice of bytes are
abbrev pub Bytes : List ℕ → Type 0
Bytes s = (i : ℕ) → get_or s i 0 < 256
