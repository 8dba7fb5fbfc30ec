-- The laws of words.
pub mod TokensWords
pub mod TokensHigh
pub mod DataHeld
