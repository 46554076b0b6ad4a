pub mod Example
pub mod Merge
pub mod Receiver
