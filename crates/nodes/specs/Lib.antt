pub mod Nodes
pub mod NodeAnswers
pub mod NodeWalks
pub mod Inside
