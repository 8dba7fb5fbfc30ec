-- Not for the reader of the paper: what a caller learns where a part of the file is judged fine. Assumes nothing.
use Rattle.std.specs.Prelude.{◌≡◌, true, List, ℕ, ◌+◌, ◌≤◌, ◌<◌, length}
use Rattle.frame.specs.Judge.{fine}
use Rattle.frame.specs.Number.{part, Bytes}
use Rattle.label_body.specs.Body.{Sized}
use Rattle.label_body.specs.Facts.{AnswerFits}
use Rattle.rack.specs.File.{Kind}
use Rattle.rack.specs.declared.tag.Said.{Said}
use Rattle.rack.specs.declared.tag.Said.TheVariants as s
use Rattle.rack.specs.File.{count_of, entry_at, kind_at, length_at, offset_at, start_of, body_at, head_verdict, entry_verdict, body_verdict, body_rules, length_fits}

pub record HeadFine (r : List ℕ) : Type 0 where
  pub is_fine : head_verdict r ≡ fine
  pub two_bytes : 2 ≤ length r
  pub few : count_of r ≤ 64

pub record EntryFine (r : List ℕ) (i : ℕ) : Type 0 where
  pub is_fine : entry_verdict r i ≡ fine
  pub in_file : entry_at i + 8 ≤ length r
  pub fits : length_fits (kind_at r i) (length_at r i) ≡ true
  pub small : start_of r i + length_at r i ≤ 65536
  pub placed : offset_at r i ≡ start_of r i

abbrev pub EntriesFine : List ℕ → Type 0
EntriesFine r = (i : ℕ) → i < count_of r → EntryFine r i

pub record BodyFine (r : List ℕ) (i : ℕ) : Type 0 where
  pub is_fine : body_verdict r i ≡ fine
  pub in_file : start_of r i + length_at r i ≤ length r
  pub rules : body_rules (kind_at r i) (body_at r i) ≡ fine

pub record RackFine (r : List ℕ) : Type 0 where
  pub head : HeadFine r
  pub entry : EntriesFine r
  pub body : (i : ℕ) → i < count_of r → BodyFine r i
  pub whole : start_of r (count_of r) ≡ length r

-- and made of bytes
pub record Fine (r : List ℕ) : Type 0 where
  pub rack : RackFine r
  pub bytes : Bytes r

-- a body of its kind that keeps its rules
pub record TagFine (kind : Kind) (b : List ℕ) : Type 0 where
  pub fits : length_fits kind (length b) ≡ true
  pub rules : body_rules kind b ≡ fine

-- something that a body can say: what the answer's writer needs
unfoldable pub Sayable : Said → List ℕ → Type 0
Sayable s.Nothing b = Unit
Sayable (s.Label a) b = Sized b × AnswerFits a b
Sayable (s.Chip a) b = 80 ≤ length b

-- body i where its entry says that it lies
abbrev pub body_of : List ℕ → ℕ → List ℕ
body_of r i = part (offset_at r i) (length_at r i) r

pub record Tellable (r : List ℕ) (i : ℕ) (said : Said) : Type 0 where
  pub few : i < 64
  pub in_file : entry_at i + 8 ≤ length r
  pub inside : offset_at r i + length_at r i ≤ length r
  pub says : Sayable said (body_of r i)
