-- The words that proofs of this crate and of those above it cite most, passed on from one place. Declares nothing.
pub use Rattle.station_portions.specs.Backlog.{ReadsOn, ended_line, unsent_bytes}
pub use Rattle.station_portions.specs.Batches.{HasNoLineFeed, IsBorder, longest_kept}
pub use Rattle.station_portions.specs.Messages.{AreLines, bytes_before, bytes_of_batch, bytes_of_messages}
pub use Rattle.station_portions.specs.Sending.{KeepsLines, SendsOn, SendsOpening, SendsPath, SentSoFar}
pub use Rattle.station_portions.specs.declared.message.Batch.{Batch}
pub use Rattle.station_portions.specs.declared.message.Message.{Message}
pub use Rattle.station_portions.specs.declared.message.Message.TheVariants.{Lines, Over}
pub use Rattle.station_portions.specs.declared.message.PathEnd.{PathEnd}
