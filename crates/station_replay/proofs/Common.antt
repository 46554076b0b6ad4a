-- The words that proofs of this crate and of those above it cite most, passed on from one place. Declares nothing.
pub use Rattle.station_replay.specs.Forgetting.{IsSparse, StaysSparse, call_count, calls_in, forgetting_output, forgetting_output_as, forgetting_step, forgotten_at, since_tick, unlimited_output, unlimited_step}
pub use Rattle.station_replay.specs.ForgettingReplay.{LeavesForgetting, ReplaysForgetting, TakesForgetting, accepted_once}
pub use Rattle.station_replay.specs.Replay.{Called, Leaves, ReplayState, ReplaysAs, Takes, TakesCall, is_write_stop, output, replay_answer, replay_ending, shown_as, stop_of, tally_of_replay, text_shown}
pub use Rattle.station_replay.specs.declared.replaying.ReplayFault.{ReplayFault}
pub use Rattle.station_replay.specs.declared.replaying.Stop.{Stop}
pub use Rattle.station_replay.specs.declared.replaying.Stop.TheVariants.{NoMemory, Write}
