-- Commands and the request writer, as definitions: document 01, "Reader's side".
pub mod Command
pub mod Request
pub mod Plan
