pub mod ShareLaws
pub mod QueueLaws
pub mod WalkLaws
pub mod LimitLaws
pub mod RecordLaws
