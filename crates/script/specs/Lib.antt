-- What the contracts cite.
pub mod Commands
pub mod Lines
