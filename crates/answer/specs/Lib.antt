-- The answer reader, as definitions: document 01, "Reader's side".
pub mod Answer
pub mod Ways
