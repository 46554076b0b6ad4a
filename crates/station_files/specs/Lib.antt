pub mod Displays
pub mod Recorded
