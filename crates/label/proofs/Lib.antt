-- The laws of what a label does.
pub mod StepFamily
pub mod StepLocks
pub mod StepOthers
