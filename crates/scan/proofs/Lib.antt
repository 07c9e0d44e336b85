pub mod ScanSteps
pub mod ListSteps
