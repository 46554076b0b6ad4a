-- The words that proofs of this crate and of those above it cite most, passed on from one place. Declares nothing.
pub use Rattle.station_run.specs.Limits.{forget_at, most_between_ticks, most_reads, program_limits}
pub use Rattle.station_run.specs.Output.{GivesBack, buffered_of}
pub use Rattle.station_run.specs.Stations.{AreRead, BeginsRound, Begun, EndsEarly, EndsRound, EndsRun, Follows, GoesOn, GoesOnFrom, HandsOver, IsFirst, IsLost, IsOver, KeepsRecent, Leaves, Left, RanTo, RoundStart, RunEnd, RunPlan, Runs, RunsFrom, RunsOn, RunsStation, RunsStations, Shows, Station, Streams, begun_of, left_of, no_start, plan_of, start_of, streams_of}
pub use Rattle.station_run.specs.Run.{AreNumbered, Closing, HavePumped, HaveWorked, IsClosed, LastLook, LearnsFrom, PrintsLast, ends_run, is_open, may_go_on, may_work_on}
