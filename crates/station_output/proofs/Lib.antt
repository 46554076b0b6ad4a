pub mod Common
pub mod PrintingLemmas
mod WritingLemmas
