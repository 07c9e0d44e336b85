pub mod Answers
pub mod OutcomeLaws
pub mod PlaceLaws
pub mod ReceiptLaws
pub mod PoolLaws
