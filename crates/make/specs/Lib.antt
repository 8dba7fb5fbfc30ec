-- What the contracts cite.
pub mod Lines
pub mod Tags
pub mod Made
pub mod Texts
