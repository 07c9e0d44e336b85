pub mod BookLaws
pub mod ListedLaws
