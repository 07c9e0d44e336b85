pub mod CountLaws
pub mod WriteLaws
pub mod BatchLaws
pub mod Turns
