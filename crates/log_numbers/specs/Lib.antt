pub mod Log
pub mod Sums
