pub mod Entries
pub mod Selected
pub mod Outlined
pub mod Collected
pub mod Kept
pub mod Worked
pub mod GoingWalks
pub mod Inside
pub mod Reached
pub mod Tables
pub mod Slots
pub mod Rests
pub mod Tracing
pub mod Properties
mod Charted
mod Nexts
mod Lines
mod Turns
mod Puts
mod Memory
mod Sought
mod Trailed
pub mod Fit
mod Verdicts
mod Crosses
mod Sets
pub mod Shared
mod Sources
