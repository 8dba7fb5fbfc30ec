-- The laws of the numbers.
pub mod FieldsUid
pub mod ToldWays
