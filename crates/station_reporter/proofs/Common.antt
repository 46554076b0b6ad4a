-- The words that proofs of this crate and of those above it cite most, passed on from one place. Declares nothing.
pub use Rattle.station_files.specs.Recorded.{AreRecordable, IfRecording, Recording, Records, TakesBy, TakesText, TellsFailure, record_status, recorded_look, seen_by}
pub use Rattle.station_reporter.specs.Reporter.{Acting, AreApart, DoesAct, IsActAt, IsLater, IsShowing, LeavesOut, MayHandOver, MayNote, NotesTick, PrintsAndRecords, Reports, ReportsByAClock, Showing, Showings, ShowsTable, Ticks, TicksAlone, after_table, after_tick, due_after, due_moments, has_come, is_shown, is_writing_due, last_writing, looks_of, not_before, recorded_by, seat_after, shown_look}
pub use Rattle.station_output.specs.Tables.{FailsWithin, MayFail, PassesOver, Printing, Prints, TakesEach, TakesNothing, TakesTexts, TakesTextsBy, TellsOutput, is_broken, look_text, text_of, texts}
pub use Rattle.station_reporter.specs.declared.duties.Duties.{Duties}
pub use Rattle.station_reporter.specs.declared.schedule.Due.{Due}
pub use Rattle.station_reporter.specs.declared.schedule.Tables.{Tables}
