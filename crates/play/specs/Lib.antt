-- What the contracts cite.
pub mod Facts
pub mod Session
pub mod Told
pub mod Turns
