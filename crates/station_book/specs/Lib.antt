pub mod Call
pub mod Tracks
pub mod Digests
pub mod State
pub mod Matching
pub mod JournalBook
