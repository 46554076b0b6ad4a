pub mod ClosedLemmas
mod ExampleLemmas
mod MergeLemmas
pub mod SeatLemmas
pub mod StepLemmas
pub mod WalkLemmas
