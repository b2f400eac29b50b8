pub mod Faults
pub mod Reading
pub mod Lines
pub mod Texts
pub mod Shown
pub mod Calls
pub mod Called
pub mod Laws
