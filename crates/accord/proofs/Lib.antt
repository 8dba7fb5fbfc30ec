-- The reader's side and the tags in accord, as laws; each file's name begins with the definitions that it is about.
pub mod RequestMeant
pub mod RequestTaken
pub mod AnswerRead
pub mod AnswerRight
pub mod AnswerErrors
pub mod TagsLabelRead
pub mod TagsChipRead
pub mod TagsMade
pub mod TagsShapes
pub mod TagsLabelGiven
pub mod TagsChipGiven
pub mod TagsCommand
