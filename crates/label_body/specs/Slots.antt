-- Document 01, "Labels": a label through the slots of a sixteen-slot Inventory, as a walk sees it. Assumes nothing.
use Rattle.std.specs.Prelude.{Bool, List, ◌∷◌, ℕ, if◌then◌else◌}
use Rattle.std.proofs.lemmas.List.Edits.{sets}
use Rattle.frame.specs.Number.{num, bytes_of, part}
use Rattle.request.specs.declared.label.Family.{Family}
use Rattle.label.specs.Step.{heeds}
use Rattle.label_body.specs.Body.{load_of}

-- its UID as a number
abbrev pub uid_of : List ℕ → ℕ
uid_of b = num (part 0 8 b)

-- it takes part in the Inventories of a family
unfoldable pub takes_part : Family → List ℕ → Bool
takes_part family b = heeds family (load_of b)

-- bytes 15 to 24 anew: slot, mask length, mask
unfoldable pub seek : ℕ → ℕ → ℕ → List ℕ → List ℕ
seek slot bits mask b = sets b 15 (slot ∷ bits ∷ bytes_of 8 mask)

-- no slot sequence runs
unfoldable pub clear : List ℕ → List ℕ
clear b = seek 255 0 0 b

-- the body in a slot of an Inventory with a mask of so many bits
unfoldable pub during : Family → ℕ → ℕ → ℕ → List ℕ → List ℕ
during family bits mask slot b = if takes_part family b then seek slot bits mask b else clear b
