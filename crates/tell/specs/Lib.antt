-- What the contracts cite.
pub mod Names
pub mod Commands
pub mod Meanings
pub mod Lines
