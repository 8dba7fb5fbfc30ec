-- The laws of a rack as text.
pub mod BlocksShown
pub mod LabelsMask
pub mod RefusalNumbers
