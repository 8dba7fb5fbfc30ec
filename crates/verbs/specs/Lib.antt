-- What the contracts cite.
pub mod Commands
pub mod Data
pub mod Pieces
pub mod Tokens
pub mod Trouble
pub mod Verb
