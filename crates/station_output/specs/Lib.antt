pub mod Queued
pub mod Stalls
pub mod Tables
