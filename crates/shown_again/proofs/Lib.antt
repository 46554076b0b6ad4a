pub mod Common
pub mod KeptEndLemmas
pub mod LookLemmas
mod ReadBackLemmas
mod ReplayedLemmas
mod SaidLemmas
mod ShownAgainLemmas
mod StationLemmas
mod WiderLemmas
