-- The answer reader, as laws; each file's name begins with the definitions that it is about.
pub mod AnswerPieces
pub mod AnswerWays
pub mod AnswerInside
pub mod AnswerOneReply
