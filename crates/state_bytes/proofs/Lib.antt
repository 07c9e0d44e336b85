pub mod PartLaws
pub mod StateLaws
pub mod Cases
