pub mod Answers
pub mod Statements
