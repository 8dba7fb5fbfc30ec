-- What the numbers of the C face mean, as definitions.
pub mod Fields
pub mod Told
