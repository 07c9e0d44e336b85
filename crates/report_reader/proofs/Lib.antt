pub mod ReadingLaws
pub mod AnswerLaws
pub mod RunFacts
pub mod ReadBack
