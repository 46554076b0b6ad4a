pub mod Common
pub mod TellLemmas
