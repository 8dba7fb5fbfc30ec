-- Demand 3 counts endings of UIDs: the different last m bits that two or more UIDs have. UIDs are numbers. Assumes nothing.
use Rattle.std.specs.Prelude.{List, [], ◌∷◌, map, Bool, true, false, ℕ, zero, suc, ◌+◌, ◌%◌, ◌^◌, eqb, leb}

abbrev pub one : Bool → ℕ
one true = 1
one false = 0

-- how often v stands in a list
abbrev pub count : ℕ → List ℕ → ℕ
count v [] = 0
count v (x ∷ xs) = one (eqb v x) + count v xs

abbrev pub keep_if : Bool → ℕ → List ℕ → List ℕ
keep_if true x xs = x ∷ xs
keep_if false x xs = xs

-- the elements that pass a test, in order
abbrev pub keep : (ℕ → Bool) → List ℕ → List ℕ
keep p [] = []
keep p (x ∷ xs) = keep_if (p x) x (keep p xs)

-- the values of a list, each once
abbrev pub different : List ℕ → List ℕ
different [] = []
different (x ∷ xs) = keep_if (eqb 0 (count x xs)) x (different xs)

-- f 0 + f 1 + .. + f (n - 1)
abbrev pub sum_to : ℕ → (ℕ → ℕ) → ℕ
sum_to zero f = 0
sum_to (suc n) f = sum_to n f + f n

-- the last m bits of a UID
abbrev pub ending : ℕ → ℕ → ℕ
ending m u = u % 2 ^ m

-- the different endings of m bits that two or more of the UIDs have
abbrev pub shared : ℕ → List ℕ → List ℕ
shared m us = keep (λ e. leb 2 (count e (map (ending m) us))) (different (map (ending m) us))
