-- What an output has taken.
pub use Rattle.station_output.specs.Queued.{GivesBack}
use Rattle.std.specs.Io.Buffered.{writer_contents}
use Rattle.std.specs.declared.io.buffered.BufWriter.{BufWriter}
use Rattle.std.proofs.Common.{Global, ℕ, List, Option}
use Rattle.streams.specs.Sink.{SinkState}
use Rattle.streams.specs.ToWrite.{failure_count, writer_of}
use Rattle.streams.specs.declared.to_write.ToWrite.{ToWrite}

-- the view of a sink over a writer
abbrev pub sink_of : {W : Type 0} → (W → Option (List ℕ)) → ToWrite W → SinkState
sink_of contents sink = record { taken = contents (writer_of sink); failures = failure_count sink }

-- the same over a buffered writer
abbrev pub buffered_of : {W : Type 0} → (W → Option (List ℕ)) → ToWrite (BufWriter W Global) → SinkState
buffered_of contents sink = record { taken = writer_contents contents (writer_of sink); failures = failure_count sink }
