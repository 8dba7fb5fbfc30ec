-- The laws of what the program prints, and of the word that names its family.
pub mod AfiWordBack
pub mod WalkTextPuts
pub mod WalkTextPrinted
pub mod WalkTextTold
