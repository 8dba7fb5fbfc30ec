-- The rack, as definitions: document 01, "Rack file", and one tag of it in "Events".
pub mod File
pub mod Facts
pub mod Tag
pub mod Place
