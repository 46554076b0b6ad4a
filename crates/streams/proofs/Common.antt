-- The words that proofs of this crate and of those above it cite most, passed on from one place. Declares nothing.
pub use Rattle.streams.specs.Sink.{AppendsFront, SinkState, TakesAll, count_after}
pub use Rattle.streams.specs.Source.{IsBorder, RingName, SourceState, counted_up, one_more}
