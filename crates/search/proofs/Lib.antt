pub mod Rooms
pub mod Asked
pub mod Frontier
pub mod Trails
pub mod Children
pub mod Order
pub mod Distance
pub mod Shortness
