pub mod StepLaws
pub mod WholeLines
