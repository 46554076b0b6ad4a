-- What clauses read of a sink over a writer.
use Rattle.std.specs.Prelude.{ℕ}
use Rattle.streams.specs.declared.to_write.ToWrite.{ToWrite}

-- the writer that takes the bytes
abbrev pub writer_of : {W : Type 0} → ToWrite W → W
writer_of sink = sink.inner

-- the writes and flushes that failed so far, up to 2^64 - 1
abbrev pub failure_count : {W : Type 0} → ToWrite W → ℕ
failure_count sink = sink.failures
