-- What the contracts cite.
pub mod Count
pub mod Hex
pub mod Lines
pub mod Mark
pub mod Runs
pub mod RunsPlaces
pub mod Words
