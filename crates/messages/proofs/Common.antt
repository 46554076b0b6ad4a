-- The words that proofs of this crate and of those above it cite most, passed on from one place. Declares nothing.
pub use Rattle.messages.specs.Status.{fault_status, status_of}
pub use Rattle.messages.specs.Sums.{AddsAll, AddsAnswer, AddsEach}
pub use Rattle.messages.specs.Telling.{Tells, Told, cannot_record, fault_line, pump_lines, replay_lines, telling_line, told_of, unfinished_lines}
