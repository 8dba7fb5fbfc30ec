-- The laws of the lines of a text, of what they leave, and of what is made of them.
pub mod LinesTaken
pub mod LinesEnough
pub mod TagsTold
pub mod TagsLaid
pub mod MadeFits
