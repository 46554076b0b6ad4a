pub mod Limits
pub mod Output
pub mod Run
pub mod Stations
pub mod Taken
