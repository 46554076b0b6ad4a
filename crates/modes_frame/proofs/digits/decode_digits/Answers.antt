use Rattle.std.proofs.Common.{arith}
use Rattle.modes_frame.proofs.DigitLemmas.{bad_digit, never}
use Rattle.modes_frame.proofs.digits.decode_digits.Goals as goal

pub overflow_cast-result : goal.overflow_cast-result
overflow_cast-result c =
    let at = bad_digit c.args.digits.now c.args.bytes.now c.decode_to_slice.new.out c.requires.even _ c.in-Err-InvalidHexCharacter.ensures.value c.in-Err-InvalidHexCharacter.field-0-0 c.in-Err-InvalidHexCharacter.index c.in-Err-InvalidHexCharacter.field-0-is in
    omega (arith, at.0)

pub overflow_add-result : goal.overflow_add-result
overflow_add-result c =
    let at = bad_digit c.args.digits.now c.args.bytes.now c.decode_to_slice.new.out c.requires.even _ c.in-Err-InvalidHexCharacter.ensures.value c.in-Err-InvalidHexCharacter.field-0-0 c.in-Err-InvalidHexCharacter.index c.in-Err-InvalidHexCharacter.field-0-is in
    omega (arith, at.0)

pub returns-in-Err-InvalidHexCharacter : goal.returns-in-Err-InvalidHexCharacter
returns-in-Err-InvalidHexCharacter c =
    (bad_digit c.args.digits.now c.args.bytes.now c.decode_to_slice.new.out c.requires.even _ c.in-Err-InvalidHexCharacter.ensures.value c.in-Err-InvalidHexCharacter.field-0-0 c.in-Err-InvalidHexCharacter.index c.in-Err-InvalidHexCharacter.field-0-is).1

pub unreachable-requires : goal.unreachable-requires
unreachable-requires c = never c.args.digits.now c.args.bytes.now c.decode_to_slice.new.out c.requires.even _ c.in-Err-OddLength.ensures.value _ c.in-Err-OddLength.field-0-is (λ x k same. cc)

pub unreachable-requires-in-Err-InvalidStringLength : goal.unreachable-requires-in-Err-InvalidStringLength
unreachable-requires-in-Err-InvalidStringLength c = never c.args.digits.now c.args.bytes.now c.decode_to_slice.new.out c.requires.even _ c.in-Err-InvalidStringLength.ensures.value _ c.in-Err-InvalidStringLength.field-0-is (λ x k same. cc)

pub unreachable-requires-in-Err-OutOfMemory : goal.unreachable-requires-in-Err-OutOfMemory
unreachable-requires-in-Err-OutOfMemory c = never c.args.digits.now c.args.bytes.now c.decode_to_slice.new.out c.requires.even _ c.in-Err-OutOfMemory.ensures.value _ c.in-Err-OutOfMemory.field-0-is (λ x k same. cc)
