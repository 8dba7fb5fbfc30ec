-- The event, as definitions: document 01, "Events" and "Numbers a call can come back with".
pub mod Event
pub mod Run
pub mod Pass
