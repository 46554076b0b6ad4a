use Rattle.std.proofs.Common.{◌≡◌, ℕ, List, Bor, map, arith, inl, inr, refl}
use Rattle.command_line.specs.declared.words.WordsFault.TheVariants as words_fault
use Rattle.station_main.proofs.RefusedLemmas.{not_both_ways, not_none, not_taken, refused_both, refused_obeyed, refused_place}
use Rattle.station_main.proofs.obeying.obey.Goals as goal

pub returns-in-Ok-clause-obeyed : goal.returns-in-Ok-clause-obeyed
returns-in-Ok-clause-obeyed g c =
    let said = c.in-Ok.ensures.job in
    let done = c.do_job.ensures in (
      said.0,
      said.1,
      (λ taken. ((λ one placed. done.most), inl (record { accepted = said.2.0; job = c.in-Ok.job; named = said.2.1; done = done.done }))),
      inl (inl (record { accepted = said.2.0; job = c.in-Ok.job; named = said.2.1; done = done.done })),
    )

pub returns-in-Err-NoMemory-clause-obeyed : goal.returns-in-Err-NoMemory-clause-obeyed
returns-in-Err-NoMemory-clause-obeyed g c =
    let said = c.in-Err-NoMemory.ensures.job in
    let ended = c.without_output.ensures in (
      said.0,
      said.1,
      (λ taken. ((λ one placed. omega (arith, ended.status)), inr (inl (record { out = rw ended.out refl; only = record { told = ended.told; status_is = ended.status } })))),
      inl (inr (inl (record { out = rw ended.out refl; only = record { told = ended.told; status_is = ended.status } }))),
    )

pub returns-in-Err-ReopensRounds-clause-obeyed : goal.returns-in-Err-ReopensRounds-clause-obeyed
returns-in-Err-ReopensRounds-clause-obeyed g c =
    let words = map {A = Bor (List ℕ)} {B = List ℕ} (λ w. w.now) c.args.words.now in
    let said = c.in-Err-ReopensRounds.ensures.job in
    let is : c.in-Err-ReopensRounds.field-0 ≡ words_fault.ReopensRounds = cc in
    let ended = c.refuse_both.ensures in
    let refused = refused_both said.0 words _ _ _ _ _ c.in-Err-ReopensRounds.field-0 is said.3.0 (ended.status, rw ended.out refl, ended.told) in (
      said.0,
      said.1,
      (λ taken. ((λ one placed. absurd (not_both_ways _ refused.both one)), inr (inr (inl refused)))),
      inl (inr (inr (inl refused))),
    )

pub returns-in-Err-NotAPlace-clause-obeyed : goal.returns-in-Err-NotAPlace-clause-obeyed
returns-in-Err-NotAPlace-clause-obeyed g c =
    let words = map {A = Bor (List ℕ)} {B = List ℕ} (λ w. w.now) c.args.words.now in
    let said = c.in-Err-NotAPlace.ensures.job in
    let is : c.in-Err-NotAPlace.field-0 ≡ words_fault.NotAPlace c.in-Err-NotAPlace.text = cc in
    let ended = c.refuse_place.ensures in
    let refused = refused_place said.0 words _ _ _ _ _ c.in-Err-NotAPlace.field-0 c.in-Err-NotAPlace.text is said.3.0 (ended.status, rw ended.out refl, rw is at (rw c.as_str.ensures.value at ended.told)) in (
      said.0,
      said.1,
      (λ taken. ((λ one placed. absurd (not_none _ _ refused.is_misplaced placed)), inr (inr (inr refused)))),
      inl (inr (inr (inr refused))),
    )

pub returns-clause-obeyed : goal.returns-clause-obeyed
returns-clause-obeyed g c =
    let words = map {A = Bor (List ℕ)} {B = List ℕ} (λ w. w.now) c.args.words.now in
    let said = c.in-Err-Clap.ensures.job in
    let is : c.in-Err-Clap.field-0 ≡ words_fault.Clap c.in-Err-Clap.error = cc in (
      said.0,
      said.1,
      (λ taken. absurd (not_taken said.0 words c.in-Err-Clap.field-0 c.in-Err-Clap.error is (said.3.1 taken))),
      refused_obeyed _ _ _ _ _ _ _ _ _ _ _ _ is said.3.0 (rw is at c.write_answer.ensures.says),
    )
