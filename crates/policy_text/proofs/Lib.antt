pub mod Labels
pub mod Declaring
pub mod Calling
pub mod Reading
pub mod Parted
