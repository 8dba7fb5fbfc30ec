-- Commands and the request writer, as laws; each file's name begins with the definitions that it is about.
pub mod CommandValid
pub mod CommandWays
pub mod PlanParts
pub mod RequestWays
pub mod RequestOneReply
