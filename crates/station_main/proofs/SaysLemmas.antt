-- What the status of a command line says.
use Rattle.std.proofs.Common.{rules, ◌≡◌, ◌∙◌, ◌⊎◌, inl, inr, ℕ, ◌≤◌, zero, suc, Bool, true, false, List, [], Option, Some, None, arith, refl, sym, ap, subst}
use Rattle.clap.specs.Words.{App, IsAmong, Text, fault_of}
use Rattle.clap.specs.declared.error.kind.ErrorKind.{ErrorKind}
use Rattle.command_line.specs.Command.{NamesJob, misplaced, misplaced_among, reopens_rounds, run_gives_both}
use Rattle.command_line.specs.declared.words.Job.{Job}
use Rattle.command_line.specs.declared.words.Job.TheVariants.{Replay, Run}
use Rattle.messages.specs.Telling.{Alarmed, Told, not_a_place_text, reopens_rounds_text}
use Rattle.messages.specs.declared.faults.Fault.TheVariants as fault
use Rattle.station_run.specs.Stations.{plan_from}
use Rattle.station_main.specs.Jobs.{DoesJob, HasNoMemory, IsDone, IsObeyed, WritesText, is_shown}
use Rattle.station_main.specs.Statuses.{AreRefused, EndsJob, EndsRefused, EndsShown, MayAnswer, SaysStatus, StatusByLines, StatusOfJob}
use Rattle.station_main.proofs.RunStatusLemmas.{run-most, status-of-run}
use Rattle.station_main.proofs.StatusLemmas.{fault-by-lines, replay-told, worst-most}

-- ---- words that name a job aren't refused

none-among : (shown : Bool) (app : App) (words : List Text) → fault_of app words ≡ [] → MayAnswer shown app words → ⊥
none-among shown app words none (kind, among, is) = subst (λ (kinds : List ErrorKind). IsAmong kind kinds) none among

named-alone : (app : App) (words : List Text) (job : Job) → NamesJob app words job → (reopens_rounds app words ≡ false) × (misplaced app words ≡ None)
named-alone app words (Replay tables site) (rows, is, tables_is, place) = (ap run_gives_both is, ap misplaced_among is ∙ place.named)
named-alone app words (Run arguments) (rows, is, run) = (ap run_gives_both is ∙ run.not_both, ap misplaced_among is ∙ run.place.named)

pub named-not-refused : (app : App) (words : List Text) (job : Job) → fault_of app words ≡ [] → NamesJob app words job → AreRefused app words → ⊥
named-not-refused app words job accepted named (inl among) = none-among false app words accepted among
named-not-refused app words job accepted named (inr (same, inl both)) =
    let bad : true ≡ false = sym both ∙ (named-alone app words job named).0 in absurd (search rules)
named-not-refused app words job accepted named (inr (same, inr (text, is))) =
    let bad : Some text ≡ None = sym is ∙ (named-alone app words job named).1 in absurd (search rules)

-- ---- jobs

job-says : (job : Job) (origin : ℕ) (input before : Option (List ℕ)) (after : Option (Option (List ℕ))) (alarm : Alarmed) (err_old err_new : Told) (status : ℕ) → IsDone job origin input before after alarm err_old err_new status
    → StatusOfJob job origin alarm err_old err_new status
job-says (Replay form site) origin input before None alarm err_old err_new status memory = fault-by-lines err_old err_new status fault.NoMemory memory.told memory.status_is
job-says (Replay form site) origin input before (Some after) alarm err_old err_new status (alarm_new, ends) = replay-told ends.answer ends.has_failed err_old err_new status ends.told ends.status_is
job-says (Run arguments) origin input before after alarm err_old err_new status runs = status-of-run (plan_from arguments origin) before alarm err_old err_new after status runs

lines-most : (err_old err_new : Told) (status : ℕ) → StatusByLines err_old err_new status → status ≤ 1
lines-most err_old err_new status says = let most = worst-most says.lines in omega (arith, says.status_is, most)

job-most : (job : Job) (origin : ℕ) (before : Option (List ℕ)) (alarm : Alarmed) (err_old err_new : Told) (status : ℕ) → StatusOfJob job origin alarm err_old err_new status → status ≤ 1
job-most (Replay form site) origin before alarm err_old err_new status says = lines-most err_old err_new status says
job-most (Run arguments) origin before alarm err_old err_new status says = run-most (plan_from arguments origin) before alarm err_old err_new status says

one-of : (status : ℕ) → status ≤ 1 → (status ≡ 0) ⊎ (status ≡ 1)
one-of zero most = inl refl
one-of (suc status) most = inr (omega (arith, most))

-- ---- command lines

module _ (app : App) (words : List Text) (origin : ℕ) (before : Option (List ℕ)) (after : Option (Option (List ℕ))) (alarm : Alarmed) (err_old err_new : Told) (status : ℕ) where
  does-job : (input : Option (List ℕ)) → DoesJob app words origin input before after alarm err_old err_new status → EndsJob app words origin alarm err_old err_new status
  does-job input does =
      let says = job-says does.job origin input before after alarm err_old err_new status does.done in
      record {
        not_refused = named-not-refused app words does.job does.accepted does.named;
        job = does.job;
        named = does.named;
        says = says;
        most = one-of status (job-most does.job origin before alarm err_old err_new status says);
      }

  refuses : (text : List ℕ) → AreRefused app words → WritesText false text before after err_old err_new status → EndsRefused app words before after err_old err_new status
  refuses text refused (is, out, told) = record { status_is = is; refused = refused; out = out; text = text; told = told }

  clap-says : (shown : Bool) (text : List ℕ) → MayAnswer shown app words → WritesText shown text before after err_old err_new status → SaysStatus app words origin before after alarm err_old err_new status
  clap-says true text may (is, same, out) = inr (inl (record { status_is = is; asked = may; untold = same }))
  clap-says false text may writes = inl (refuses text (inl may) writes)

  pub obeyed-says : (input : Option (List ℕ)) → IsObeyed app words origin input before after alarm err_old err_new status → SaysStatus app words origin before after alarm err_old err_new status
  obeyed-says input (inl (inl does)) = inr (inr (inr (does-job input does)))
  obeyed-says input (inl (inr (inl memory))) = inr (inr (inl memory))
  obeyed-says input (inl (inr (inr (inl both)))) = inl (refuses reopens_rounds_text (inr (both.accepted, inl both.both)) both.says)
  obeyed-says input (inl (inr (inr (inr place)))) = inl (refuses (not_a_place_text place.text) (inr (place.accepted, inr (place.text, place.is_misplaced))) place.says)
  obeyed-says input (inr refused) = clap-says (is_shown refused.kind) refused.text (refused.kind, refused.given, refl) refused.says

  not-two : (n : ℕ) → status ≡ n → n ≤ 1 → status ≡ 2 → ⊥
  not-two n is most two = omega (arith, is, most, two)

  pub only-refused : SaysStatus app words origin before after alarm err_old err_new status → status ≡ 2 → AreRefused app words
  only-refused (inl refused) two = refused.refused
  only-refused (inr (inl shown)) two = absurd (not-two 0 shown.status_is (omega arith) two)
  only-refused (inr (inr (inl memory))) two = absurd (not-two 1 memory.only.status_is (omega arith) two)
  only-refused (inr (inr (inr job))) two = absurd (elim job.most [ inl none ↦ not-two 0 none (omega arith) two | inr one ↦ not-two 1 one (omega arith) two ])

  pub refused-says : SaysStatus app words origin before after alarm err_old err_new status → AreRefused app words
      → (status ≡ 2) ⊎ (EndsShown app words err_old err_new status ⊎ HasNoMemory after err_old err_new status)
  refused-says (inl refused) are = inl refused.status_is
  refused-says (inr (inl shown)) are = inr (inl shown)
  refused-says (inr (inr (inl memory))) are = inr (inr memory)
  refused-says (inr (inr (inr job))) are = absurd (job.not_refused are)
