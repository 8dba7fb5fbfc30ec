-- What an event asks of labels and of chips, as definitions: document 01, "Labels", "Chips" and "Events".
pub mod Table
pub mod Label
pub mod Chip
pub mod Signal
pub mod Why
