-- The laws of texts that are laid, of numbers in decimal and of bytes in hex.
pub mod Puts
pub mod Lines
pub mod Lent
pub mod DecimalDigits
pub mod HexPairs
pub mod HexText
