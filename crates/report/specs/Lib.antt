pub mod Written
pub mod Parts
pub mod Reporting
pub mod Output
pub mod Lent
pub mod OneReport
