pub mod Closing
pub mod KeptLaws
pub mod KeptLines
pub mod Seats
pub mod Workers
