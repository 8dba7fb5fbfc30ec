-- The laws of what is told, and of the command that an event asks.
mod Front
pub mod BlockPlaces
pub mod LineWidth
pub mod CommandAsked
pub mod CommandRead
pub mod MeaningWays
mod Samples
