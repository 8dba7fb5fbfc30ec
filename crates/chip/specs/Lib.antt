-- A chip, as definitions: document 01, "Chips" and "Events".
pub mod Write
pub mod Step
