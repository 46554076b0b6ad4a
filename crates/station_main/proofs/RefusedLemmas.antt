-- What `clap` answers that is no job, and what of it is shown on the output.
use Rattle.std.proofs.Common.{rules, ◌≡◌, ◌⊎◌, inl, inr, Bool, true, false, List, [], Option, Some, None, ℕ, sym, ◌∙◌, subst, Global, String, string_bytes}
use Rattle.clap.specs.Words.{App, IsAmong, Text, fault_of, kind_of}
use Rattle.clap.specs.declared.error.Error.{Error}
use Rattle.command_line.specs.Command.{IsOwnFault, IsWordsFault, misplaced, reopens_rounds}
use Rattle.station_main.specs.Jobs.{HasNoMemory, IsObeyed, RefusesBoth, RefusesPlace, WritesText, is_shown}
use Rattle.messages.specs.Telling.{Alarmed, Told, not_a_place_text, reopens_rounds_text}
use Rattle.command_line.specs.declared.words.WordsFault.{WordsFault}
use Rattle.command_line.specs.declared.words.WordsFault.TheVariants as words_fault

-- what a command line leaves whose answer of `clap` is written, or for whose text there was no memory
pub refused_obeyed : (app : App) (words : List Text) (origin : ℕ) (input before : Option (List ℕ)) (after : Option (Option (List ℕ))) (alarm : Alarmed) (err_old err_new : Told) (status : ℕ) (fault : WordsFault) (error : Error)
    → fault ≡ words_fault.Clap error → IsWordsFault app words fault
    → HasNoMemory after err_old err_new status ⊎ ((text : List ℕ) × WritesText (is_shown (kind_of error)) text before after err_old err_new status)
    → IsObeyed app words origin input before after alarm err_old err_new status
refused_obeyed app words origin input before after alarm err_old err_new status fault error same said (inl none) = inl (inr (inl none))
refused_obeyed app words origin input before after alarm err_old err_new status fault error same said (inr written) =
    let among : IsAmong (kind_of error) (fault_of app words) = subst (λ (f : WordsFault). IsWordsFault app words f) same said in
    inr (record { kind = kind_of error; given = among; text = written.0; says = written.1 })

-- what a command line leaves that is refused as both `--reopen` and `--rounds` are given
pub refused_both : (app : App) (words : List Text) (before : Option (List ℕ)) (after : Option (Option (List ℕ))) (err_old err_new : Told) (status : ℕ) (fault : WordsFault)
    → fault ≡ words_fault.ReopensRounds → IsWordsFault app words fault → WritesText false reopens_rounds_text before after err_old err_new status
    → RefusesBoth app words before after err_old err_new status
refused_both app words before after err_old err_new status fault same said says =
    let given : (fault_of app words ≡ []) × (reopens_rounds app words ≡ true) = subst (λ (f : WordsFault). IsWordsFault app words f) same said in
    record { accepted = given.0; both = given.1; says = says }

-- what a command line leaves that is refused as its text of `--at` names no place
pub refused_place : (app : App) (words : List Text) (before : Option (List ℕ)) (after : Option (Option (List ℕ))) (err_old err_new : Told) (status : ℕ) (fault : WordsFault) (text : String Global)
    → fault ≡ words_fault.NotAPlace text → IsWordsFault app words fault → WritesText false (not_a_place_text (string_bytes text)) before after err_old err_new status
    → RefusesPlace app words before after err_old err_new status
refused_place app words before after err_old err_new status fault text same said says =
    let given : (fault_of app words ≡ []) × (misplaced app words ≡ Some (string_bytes text)) = subst (λ (f : WordsFault). IsWordsFault app words f) same said in
    record { accepted = given.0; text = string_bytes text; is_misplaced = given.1; says = says }

-- `clap` refuses no command line that it takes
pub not_taken : (app : App) (words : List Text) (fault : WordsFault) (error : Error) → fault ≡ words_fault.Clap error → IsOwnFault app words fault → ⊥
not_taken app words fault error same own = subst (λ (f : WordsFault). IsOwnFault app words f) same own

pub not_none : (given : Option Text) (text : Text) → given ≡ Some text → given ≡ None → ⊥
not_none given text is is_not = let bad : Some text ≡ None = sym is ∙ is_not in absurd (search rules)

pub not_both_ways : (b : Bool) → b ≡ true → b ≡ false → ⊥
not_both_ways b is is_not = let bad : true ≡ false = sym is ∙ is_not in absurd (search rules)
