-- The laws of the crate's definitions, for its own proofs and for those of the crates above; and laws of tests, lists and stores that they share.
pub mod Tests
pub mod Bools
pub mod Lists
pub mod Xor
pub mod Linear
pub mod Numbers
pub mod Gather
pub mod AllOf
pub mod CheckSumRegister
pub mod CheckSumFrames
pub mod CheckSumVectors
pub mod Ending
pub mod Stores
pub mod Puts
pub mod Judge
