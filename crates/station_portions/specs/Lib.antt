pub mod Batches
pub mod Messages
pub mod Rings
pub mod Giving
pub mod Backlog
pub mod Sending
pub mod Whole
