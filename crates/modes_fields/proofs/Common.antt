-- The words that proofs of this crate and of those above it cite most, passed on from one place. Declares nothing.
pub use Rattle.modes_fields.specs.Altitudes.{code13, eleven, gillham, gray_bits, hundreds, is_zero, linear_of}
unfoldable pub use Rattle.modes_fields.specs.Altitudes.{altitude, altitude12_of, altitude13_of, altitude_code, gray_number}
unfoldable pub use Rattle.modes_fields.specs.Bits.{code_bits, field, me_of, number}
pub use Rattle.modes_fields.specs.Characters.{all_of, before, character_codes, some_text}
unfoldable pub use Rattle.modes_fields.specs.Characters.{callsign_in_code, character_of, characters_of, without_end_spaces}
