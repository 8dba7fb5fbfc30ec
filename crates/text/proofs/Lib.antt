-- The laws of words, of hex digits and of runs of them, of a text's mark, of numbers in decimal, and of lines.
pub mod WordsLead
pub mod WordsSame
pub mod WordsFirst
pub mod HexDigits
pub mod RunsPassed
pub mod RunsPieces
pub mod RunsPlaces
pub mod RunsWithin
pub mod RunsBack
pub mod MarkTaken
pub mod CountDigits
pub mod CountBack
pub mod LinesPlaces
pub mod LinesBrought
pub mod LinesNext
