-- The laws of questions to a rack and of what is told of it.
pub mod QuestionTags
pub mod ChangeLaid
pub mod OwnersTold
pub mod CalmLabels
pub mod CalmChanges
