-- What labels, chips, the rack and the reader share, as definitions.
pub mod Choose
pub mod Number
pub mod CheckSum
pub mod Ending
pub mod Judge
pub mod Refusal
