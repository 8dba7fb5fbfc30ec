-- A rack as text, and why a rack is refused, as definitions.
pub mod Words
pub mod Blocks
pub mod Labels
pub mod Chips
pub mod Tags
pub mod Refusal
