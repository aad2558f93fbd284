pub mod Pools
pub mod Formers
pub mod CountTexts
pub mod Lines
pub mod Answers
pub mod Progress
pub mod Backs
mod ScenarioLines
mod PlainRuns
