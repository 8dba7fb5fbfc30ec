-- The user's demands in their own words, and the marked examples of document 01.
pub mod Demand1
pub mod Demand2
pub mod Marked
