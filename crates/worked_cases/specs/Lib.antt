pub mod Vectors
pub mod Entered
pub mod Controller
