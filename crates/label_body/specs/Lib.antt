-- A label's body, as definitions: document 01, the label body of "Rack file" and the answers of "Labels".
pub mod Locks
pub mod Body
pub mod Answer
pub mod Facts
pub mod Slots
pub mod Field
