mod FieldLaws
pub mod ReaderLaws
pub mod RoundTrip
pub mod Refused
pub mod Theorems
