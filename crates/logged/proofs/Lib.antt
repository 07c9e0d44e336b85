pub mod HeldLaws
pub mod ReportLaws
pub mod BatchLaws
