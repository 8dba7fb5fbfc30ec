-- The laws of the crate's definitions, for its own proofs and for those of the crates above.
pub mod BodyShapes
pub mod BodyStored
pub mod BodyKeeps
pub mod AnswerFrames
pub mod Floor
