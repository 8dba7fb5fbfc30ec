-- The laws of the rack's file and of one tag.
pub mod FilePlaces
pub mod PlaceHeld
pub mod FileVerdict
pub mod FileJudged
pub mod FileRebuilt
pub mod TagKinds
