-- The laws of a run of pairs.
pub mod BlocksPairs
