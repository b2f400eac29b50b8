pub mod Runs
pub mod Activities
pub mod Verdicts
pub mod First
pub mod Possible
pub mod Searches
pub mod Laws
