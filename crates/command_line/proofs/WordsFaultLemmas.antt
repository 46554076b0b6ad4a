-- Which fault of a command line an answer of `clap` is, or a text of `--at` that names no place.
use Rattle.std.proofs.Common.{◌≡◌, ◌≢◌, ◌⊎◌, inl, inr, true, List, [], Some, sym, ap, ◌∙◌, subst, string_bytes}
use Rattle.clap.specs.Words.{App, IsAmong, HasKind, Row, Text, fault_of, kind_of, subcommand_of, takes}
use Rattle.clap.specs.declared.error.Error.{Error}
use Rattle.clap.specs.declared.error.kind.ErrorKind.TheVariants as kind
use Rattle.command_line.specs.Command.{IsOwnFault, IsPlaceFault, IsWordsFault, misplaced, misplaced_among}
use Rattle.command_line.specs.declared.words.WordsFault.{WordsFault}
use Rattle.command_line.specs.declared.words.WordsFault.TheVariants as words_fault

-- the fault of an answer of `clap`, by its kinds for the command line as it is made: out of memory, or the answer
pub words_fault_of : (made app : App) (words : List Text) (error : Error) (fault : WordsFault) → made ≡ app
    → ((kind_of error ≡ kind.OutOfMemory) × (fault ≡ words_fault.NoMemory)) ⊎ ((kind_of error ≢ kind.OutOfMemory) × (fault ≡ words_fault.Clap error))
    → (takes made words ≡ true → kind_of error ≡ kind.OutOfMemory) → HasKind (fault_of made words) error
    → IsWordsFault app words fault × (takes app words ≡ true → IsOwnFault app words fault)
words_fault_of made app words error fault same (inl memory) passes kinds =
    subst (λ (f : WordsFault). IsWordsFault app words f × (takes app words ≡ true → IsOwnFault app words f)) (sym memory.1) (tt, λ _. tt)
words_fault_of made app words error fault same (inr other) passes (inl memory) = absurd (other.0 memory)
words_fault_of made app words error fault same (inr other) passes (inr among) =
    let are_among : IsAmong (kind_of error) (fault_of app words) = subst (λ (a : App). IsAmong (kind_of error) (fault_of a words)) same among in
    subst (λ (f : WordsFault). IsWordsFault app words f × (takes app words ≡ true → IsOwnFault app words f)) (sym other.1)
    (are_among, λ taken. absurd (other.0 (passes (ap (λ (a : App). takes a words) same ∙ taken))))

-- a fault of the place among the options is one of the command line
pub place_fault_of : (app : App) (words : List Text) (name : Text) (rows : List Row) (fault : WordsFault) → fault_of app words ≡ [] → subcommand_of app words ≡ Some (name, rows) → IsPlaceFault rows fault
    → IsWordsFault app words fault × (takes app words ≡ true → IsOwnFault app words fault)
place_fault_of app words name rows words_fault.NoMemory passes named said = (tt, λ taken. tt)
place_fault_of app words name rows (words_fault.Clap error) passes named said = absurd said
place_fault_of app words name rows words_fault.ReopensRounds passes named said = absurd said
place_fault_of app words name rows (words_fault.NotAPlace text) passes named said =
    let is : misplaced app words ≡ Some (string_bytes text) = ap misplaced_among named ∙ said in
    ((passes, is), λ taken. is)
