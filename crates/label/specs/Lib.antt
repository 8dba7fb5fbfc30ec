-- A label, as definitions: document 01, "Labels" and "Events".
pub mod Step
