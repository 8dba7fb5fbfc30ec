-- The inventory walk, as definitions: document 01, "Walk", and demand 3.
pub mod Endings
pub mod Walk
pub mod Promise
pub mod Numbers
pub mod Listed
