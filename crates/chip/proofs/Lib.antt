-- The laws of what a chip does.
pub mod StepWays
