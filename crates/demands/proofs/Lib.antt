-- The demands, proved.
pub mod Demand1
pub mod Demand2
pub mod Demand2Slots
pub mod MarkedTags
pub mod MarkedWalks
pub mod Marked
pub mod Named
