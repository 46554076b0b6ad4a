-- The words that proofs of this crate cite most, passed on from one place. Declares nothing.
pub use Rattle.shown_again.specs.ShownAgain.{HasPrinted, HasRecorded, HasRoom, IsOneStation, ReplayPrints, WroteAll}
