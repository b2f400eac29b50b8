pub mod Checks
pub mod Bounds
pub mod Steps
pub mod Piles
pub mod Controller
