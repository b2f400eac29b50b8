pub mod Judgings
pub mod Serving
pub mod Replaying
pub mod Same
