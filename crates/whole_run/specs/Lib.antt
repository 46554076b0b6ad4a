pub mod Accounted
pub mod OneHistory
