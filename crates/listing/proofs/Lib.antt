mod WordLaws
mod CallLaws
mod GatherLaws
mod LineLaws
pub mod BoundLaws
