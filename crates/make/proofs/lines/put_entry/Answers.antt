-- Byte by byte. Assumes nothing.
use Rattle.make.proofs.TagsLaid.{entry_laid}
use Rattle.make.proofs.lines.put_entry.Goals as goal

pub returns : goal.returns
returns c =
    entry_laid _ _ _ _ _ (rw c.kind_byte.ensures at c.put_number.ensures.1) c.put_number-2.ensures.1 c.saturating_sub.ensures c.entry_place.ensures c.put_text.ensures.laid
