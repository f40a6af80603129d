pub mod Calls
pub mod Verdicts
pub mod AreaCalls
pub mod Inside
