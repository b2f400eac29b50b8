pub mod FirstPart
pub mod Padding
pub mod Worth
