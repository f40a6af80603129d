pub mod Examples
pub mod LineLaws
pub mod PrintLaws
pub mod AnswerLaws
pub mod Determined
