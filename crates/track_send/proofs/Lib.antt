pub mod PackLaws
pub mod StartedLaws
pub mod StopLaws
