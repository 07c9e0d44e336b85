pub mod AreaLaws
pub mod ClearLaws
pub mod WayLaws
pub mod PackLaws
pub mod NoteLaws
pub mod BatchLaws
