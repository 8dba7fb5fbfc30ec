-- The laws of the crate's definitions, for its own proofs and for those of the crates above.
pub mod LocksLaws
pub mod BodyJudged
pub mod FactsFine
pub mod BodyOthers
pub mod BodyRoom
pub mod BodyStored
pub mod AnswerLaid
pub mod StepWays
pub mod StepFits
pub mod BodyWorked
pub mod BodyKeeps
pub mod AnswerFrames
pub mod Slots
pub mod Floor
