-- The laws of the event.
pub mod Pass
pub mod EventNext
pub mod EventOutcomes
pub mod EventBare
pub mod EventSlips
pub mod Floor
pub mod RunKeeps
