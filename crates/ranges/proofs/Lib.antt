pub mod PowerLaws
pub mod RangeLaws
