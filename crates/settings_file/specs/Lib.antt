pub mod File
pub mod Inner
pub mod Statements
pub mod Worked
