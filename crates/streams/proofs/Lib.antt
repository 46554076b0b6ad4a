pub mod Common
pub mod BufferLemmas
pub mod TakenLemmas
