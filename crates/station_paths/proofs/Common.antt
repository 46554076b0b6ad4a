-- The words that proofs of this crate and of those above it cite most, passed on from one place. Declares nothing.
pub use Rattle.station_paths.specs.Inputs.{AllTakeFrom, AreFed, FailsBetweenLines, GaveAll, GaveAllBut, IsFedBy, IsFinished, IsUnfinished, TakesFrom, path_of, unfinished_status, unknown}
pub use Rattle.station_paths.specs.Inputs.{HasNoLines}
