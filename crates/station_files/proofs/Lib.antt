pub mod RecordedLemmas
pub mod ShownLemmas
