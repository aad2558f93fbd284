pub mod AnswerText
pub mod QueryText
