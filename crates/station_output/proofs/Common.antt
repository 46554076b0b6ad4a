-- The words that proofs of this crate and of those above it cite most, passed on from one place. Declares nothing.
pub use Rattle.station_output.specs.Tables.{Fails, FailsWithin, MayFail, PassesOver, Printing, Prints, TakesEach, TakesNothing, TakesTexts, TakesTextsBy, TellsOutput, based, is_broken, look_text, put_after, text_of, texts}
