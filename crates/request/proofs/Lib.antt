-- The laws of what an event asks, for the crate's own proofs and for those of the crates above.
pub mod TableLookup
pub mod TableRows
pub mod LabelCases
pub mod LabelSound
pub mod LabelFramed
pub mod ChipSound
pub mod ChipFramed
pub mod WhyNobody
