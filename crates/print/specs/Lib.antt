-- What the contracts cite.
pub mod Ascii
pub mod Decimal
pub mod Hex
pub mod Named
pub mod Puts
pub mod Quote
pub mod Line
pub mod Seen
