-- What the contracts cite beside the definitions of the crates below.
pub mod Version
