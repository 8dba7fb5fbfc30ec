-- A chip's body, as definitions: document 01, the chip body of "Rack file" and the answers of "Chips".
pub mod Body
pub mod Answer
pub mod Field
