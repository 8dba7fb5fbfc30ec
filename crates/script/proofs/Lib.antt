-- The laws of what a line asks.
pub mod LinesDraws
pub mod LinesActions
pub mod LinesCommands
pub mod LinesInside
pub mod LinesMeant
pub mod LinesAsked
