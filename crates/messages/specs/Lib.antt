pub mod Reasons
pub mod Status
pub mod Sums
pub mod Telling
