-- What the contracts cite.
pub mod Question
pub mod Reason
pub mod Words
pub mod Change
pub mod Labels
pub mod Chips
pub mod Changes
pub mod Calm
pub mod Owners
