-- The C face, as laws.
pub mod OneReply
