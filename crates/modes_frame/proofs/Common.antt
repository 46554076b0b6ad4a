-- The words that proofs of this crate and of those above it cite most, passed on from one place. Declares nothing.
pub use Rattle.modes_frame.specs.Frames.{IsFrame, bits_of, number_of, remainder_of}
unfoldable pub use Rattle.modes_frame.specs.Frames.{byte_bits, df_of, divide, parity_of}
pub use Rattle.modes_frame.specs.LineRules.{Carries, HasLength, IsBlank, IsDigit, IsEnclosed, IsFirstBad, IsStart, IsTrimmed, Reads, Says, Writes}
pub use Rattle.modes_frame.specs.Lines.{Pieces, cut_after, cut_ended_by, cut_of, cuts, ended_cuts, grown_cut, last_line, lengthened_cut, onto, pending, pieces}
pub use Rattle.modes_frame.specs.Reading.{body_of, counter_len, digits_of, fits_length, from_digits, is_blank, is_start, line_reading, reading_of, said_by, trimmed_line}
unfoldable pub use Rattle.modes_frame.specs.Reading.{back_trimmed, front_trimmed}
pub use Rattle.modes_frame.specs.declared.cutter.Cut.{Cut}
pub use Rattle.modes_frame.specs.declared.cutter.Cut.TheVariants.{Whole}
pub use Rattle.modes_frame.specs.declared.line.Line.{Line}
pub use Rattle.modes_frame.specs.declared.line.LineFault.{LineFault}
pub use Rattle.modes_frame.specs.declared.parity.TheConstants.{TABLE}
pub use Rattle.modes_frame.specs.declared.parity_by_place.TheConstants.{BEFORE_1, BEFORE_10, BEFORE_2, BEFORE_3, BEFORE_4, BEFORE_5, BEFORE_6, BEFORE_7, BEFORE_8, BEFORE_9}
