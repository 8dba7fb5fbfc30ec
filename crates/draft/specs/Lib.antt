-- What the contracts cite.
pub mod Words
pub mod Bodies
pub mod Chips
pub mod Labels
pub mod Blocks
