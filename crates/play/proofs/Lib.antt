-- The laws of what is said of an event, of one turn, and of all.
pub mod SessionLaid
pub mod ToldAny
pub mod ToldLeft
pub mod TurnsLeft
