-- What the contracts cite.
pub mod AfiWord
pub mod WalkText
