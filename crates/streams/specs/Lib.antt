pub mod Sink
pub mod Source
pub mod ToWrite
