pub mod LogLaws
pub mod SumLaws
