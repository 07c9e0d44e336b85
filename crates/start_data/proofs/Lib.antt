pub mod Answers
mod Cases
