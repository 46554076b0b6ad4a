-- Showings of the reporter, one more at the end.
use Rattle.std.proofs.Common.{rules, ◌≡◌, ◌∙◌, ◌⊎◌, inl, inr, ℕ, ◌+◌, ◌≤◌, ◌<◌, true, false, List, [], ◌∷◌, ◌++◌, Option, Some, None, Result, Ok, Err, IfSome, refl, sym, ap, subst, append-nil, map, IfOk, IfErr, ◌||◌, Bool, cond, is_some}
use Rattle.std.specs.List.{flat_map}
use Rattle.std.specs.Io.KnownBytes.{Appends}
use Rattle.std.proofs.KnownBytes.{Appends-nil, Appends-trans}
use Rattle.std.proofs.lemmas.List.Concat.{flat_map-append}
use Rattle.station_journal.specs.declared.entry.Entry.TheVariants.{Tick}
use Rattle.station_journal.specs.declared.refusal.Refusal.{Refusal}
use Rattle.station_report.specs.declared.formats.Format.{Format}
use Rattle.station_history.proofs.Common.{Start, Known}
use Rattle.station_shared.specs.Seats.{Seated, Accepted, Refused, Looks}
use Rattle.station_record.specs.Record.{RecordedLook}
use Rattle.station_reporter.proofs.Common.{Acting, AreApart, DoesAct, IsActAt, IsShowing, IsLater, LeavesOut, MayNote, NotesTick, Reports, Showing, Showings, ShowsTable, Ticks, TicksAlone, after_table, after_tick, due_moments, has_come, is_shown, is_writing_due, last_writing, looks_of, seat_after, shown_look, IfRecording, PrintsAndRecords, Recording, Records, recorded_by, recorded_look, Due, Tables, MayFail, Printing, TakesTexts, is_broken}
use Rattle.station_output.proofs.PrintingLemmas.{takes-failure, takes-nothing, takes-refused, takes-then}
use Rattle.station_reporter.specs.declared.reporter.ReporterResult.{ReporterResult}
use Rattle.station_reporter.specs.declared.schedule.Act.{Act}
use Rattle.station_reporter.specs.declared.schedule.Act.TheVariants as act
use Rattle.station_files.proofs.RecordedLemmas.{further-records, no-more-records, no-records}
use Rattle.station_reporter.proofs.PrefixLemmas.{begins-trans}
use Rattle.station_reporter.proofs.ReportTimeLemmas.{acts-then, due-then, nothing-due, table-due, tick-due}

-- ---- showings

-- the record of the showings so far and of one more
one-more-record : (showings : List Showing) (showing : Showing) (was mid is : Option Recording) → IfRecording (Records (recorded_by showings)) was mid
    → IfRecording (Records (recorded_look (is_shown showing) showing.look)) mid is → IfRecording (Records (recorded_by (showings ++ showing ∷ []))) was is
one-more-record showings showing was mid is p q =
    let here = recorded_look (is_shown showing) showing.look in
    let parts : recorded_by showings ++ here ≡ recorded_by (showings ++ showing ∷ []) =
    ap (λ (looks : List RecordedLook). recorded_by showings ++ looks) (sym (append-nil here))
    ∙ sym (flat_map-append (λ (s : Showing). recorded_look (is_shown s) s.look) showings (showing ∷ [])) in
    subst (λ (looks : List RecordedLook). IfRecording (Records looks) was is) parts (further-records (recorded_by showings) here was mid is p q)

Showings_snoc : (station : Start) (old mid : Seated) (showings : List Showing) (showing : Showing) → Showings station old showings mid → IsShowing station mid showing
    → Showings station old (showings ++ showing ∷ []) (seat_after showing)
Showings_snoc station old mid [] showing walk is = (subst (λ s. IsShowing station s showing) walk is, refl)
Showings_snoc station old mid (r ∷ rs) showing walk is = (walk.0, Showings_snoc station (seat_after r) mid rs showing walk.1 is)

acts_snoc : (showings : List Showing) (showing : Showing) → map (λ (r : Showing). r.acting) (showings ++ showing ∷ []) ≡ map (λ (r : Showing). r.acting) showings ++ showing.acting ∷ []
acts_snoc [] showing = refl
acts_snoc (r ∷ rs) showing = ap (λ (acts : List Acting). r.acting ∷ acts) (acts_snoc rs showing)

looks_snoc : (showings : List Showing) (showing : Showing) → looks_of (showings ++ showing ∷ []) ≡ looks_of showings ++ shown_look showing ∷ []
looks_snoc [] showing = refl
looks_snoc (r ∷ rs) showing = ap (λ (ls : List (Option Seated)). shown_look r ∷ ls) (looks_snoc rs showing)

-- when what is heard was last written, after these showings
abbrev last_after : Option ℕ → List Showing → Option ℕ
last_after last [] = last
last_after last (showing ∷ showings) = last_after (last_writing last showing) showings

last_snoc : (last : Option ℕ) (showings : List Showing) (showing : Showing) → last_after last (showings ++ showing ∷ []) ≡ last_writing (last_after last showings) showing
last_snoc last [] showing = refl
last_snoc last (r ∷ rs) showing = last_snoc (last_writing last r) rs showing

apart_snoc : (last : Option ℕ) (showings : List Showing) (showing : Showing) → AreApart last showings
    → (showing.acting.has_table ≡ false → is_some showing.look ≡ true → is_writing_due (last_after last showings) showing.acting.at ≡ true) → AreApart last (showings ++ showing ∷ [])
apart_snoc last [] showing apart due = (due, tt)
apart_snoc last (r ∷ rs) showing apart due = (apart.0, apart_snoc (last_writing last r) rs showing apart.1 due)

-- a table that is printed after the showings
pub record PrintsOne (format : Format) (station : Start) (looks : List (Option Seated)) (old new : Seated) (first after : Printing) (was is : Option Recording) : Type 0 where
  pub look : Option Seated
  pub looked : (look ≡ None) × (new ≡ old) ⊎ (look ≡ Some new) × Looks station old new
  pub takes : TakesTexts format station (looks ++ look ∷ []) first after
  pub records : IfRecording (Records (recorded_look true look)) was is

pub printed_at_most : (format : Format) (station : Start) (looks : List (Option Seated)) (old new : Seated) (first before after : Printing) (was is : Option Recording)
    → TakesTexts format station looks first before → is_broken before ≡ false → PrintsAndRecords format station old new before after was is
    → PrintsOne format station looks old new first after was is
printed_at_most format station looks old new first before after was is so_far well (inl (prints, records)) = record {
  look = Some new;
  looked = inr (refl, prints.looks);
  takes = takes-then format station looks (Some new ∷ []) first before after so_far prints.takes;
  records = records;
}
printed_at_most format station looks old new first before after was is so_far well (inr (passes, unchanged)) = record {
  look = None;
  looked = inl (refl, passes.same_seat);
  takes = takes-then format station looks (None ∷ []) first before after so_far (takes-refused format station before after passes.same_output well);
  records = no-more-records was is unchanged;
}

-- one more table, which is printed or left out
pub record ShowsOne (format : Format) (station : Start) (looks : List (Option Seated)) (old new : Seated) (first after : Printing) (was is : Option Recording) : Type 0 where
  pub look : Option Seated
  pub has_room : Bool
  pub looked : (look ≡ None) × (new ≡ old) ⊎ (look ≡ Some new) × Looks station old new
  pub takes : TakesTexts format station (looks ++ cond has_room look None ∷ []) first after
  pub records : IfRecording (Records (recorded_look has_room look)) was is

pub shown_at_most : (format : Format) (station : Start) (looks : List (Option Seated)) (old new : Seated) (first before after : Printing) (was is : Option Recording)
    → TakesTexts format station looks first before → is_broken before ≡ false → ShowsTable format station old new before after was is
    → ShowsOne format station looks old new first after was is
shown_at_most format station looks old new first before after was is so_far well (inl prints) =
    let p = printed_at_most format station looks old new first before after was is so_far well prints in
    record { look = p.look; has_room = true; looked = p.looked; takes = p.takes; records = p.records }
shown_at_most format station looks old new first before after was is so_far well (inr out) = by-notes out.is_noted out.notes
  where
    takes : TakesTexts format station (looks ++ None ∷ []) first after
    takes = takes-then format station looks (None ∷ []) first before after so_far (takes-refused format station before after out.same well)

    by-notes : (is_noted : Bool) → MayNote station old new was is is_noted → ShowsOne format station looks old new first after was is
    by-notes true noted = record { look = Some new; has_room = false; looked = inr (refl, noted.looks); takes = takes; records = noted.records }
    by-notes false refused = record { look = None; has_room = false; looked = inl (refl, refused.0); takes = takes; records = no-more-records was is refused.1 }

-- ---- looks that show nothing

looks_both : (station : Start) (a b c : Seated) → Looks station a b → Looks station b c → Looks station a c
looks_both station a b c l m = record { later = begins-trans a.seen b.seen c.seen l.later m.later; legal = m.legal; accepted = m.accepted ∙ l.accepted; number = m.number ∙ l.number; had_place = l.had_place; has_place = m.has_place }

pub later_later : (station : Start) (a b c : Seated) → IsLater station a b → IsLater station b c → IsLater station a c
later_later station a b c (inl p) q = subst (λ (s : Seated). IsLater station s c) p q
later_later station a b c (inr l) (inl q) = inr (subst (λ (s : Seated). Looks station a s) (sym q) l)
later_later station a b c (inr l) (inr m) = inr (looks_both station a b c l m)

accepted_later : (station : Start) (a b c : Seated) (at : ℕ) (receipt : Known) → IsLater station a b → Accepted station b c (Tick b.number at) receipt → Accepted station a c (Tick a.number at) receipt
accepted_later station a b c at receipt (inl p) t = subst (λ (s : Seated). Accepted station s c (Tick s.number at) receipt) p t
accepted_later station a b c at receipt (inr l) t =
    let is = subst (λ (n : ℕ). Accepted station b c (Tick n at) receipt) l.number t in
    record { mid = is.mid; seen = is.seen; legal = is.legal; later = begins-trans a.seen b.seen is.mid l.later is.later; verdict = is.verdict; list = is.list; accepted = is.accepted ∙ ap (λ (n : ℕ). n + 1) l.accepted; number = is.number ∙ l.number; place = is.place ∙ (l.has_place ∙ sym l.had_place) }

pub ticks_later : (station : Start) (a b c : Seated) (at : ℕ) → IsLater station a b → Ticks station b at c → Ticks station a at c
ticks_later station a b c at later (inl t) = inl (t.0, accepted_later station a b c at t.0 later t.1)
ticks_later station a b c at (inl p) (inr t) = inr (t.0, subst (λ (s : Seated). Refused station s c (Tick s.number at) t.0) p t.1)
ticks_later station a b c at (inr l) (inr t) =
    let is = subst (λ (n : ℕ). Refused station b c (Tick n at) t.0) l.number t.1 in
    inr (t.0, record { later = begins-trans a.seen b.seen c.seen l.later is.later; legal = is.legal; verdict = is.verdict; accepted = is.accepted ∙ l.accepted; number = is.number ∙ l.number; place = is.place ∙ (l.has_place ∙ sym l.had_place) })

-- the showings so far, by the times that a clock gave after the first ones, what is due next, and when what is heard was last written
pub record ReportsTo (station : Start) (tables : Tables) (first : Due) (due : Due) (given given_now : Option (List ℕ)) (old new : Seated) (before after : Printing) (was is : Option Recording) (written : Option ℕ) : Type 0 where
  pub moments : List ℕ
  pub are_given : Appends given given_now moments
  pub reports : Reports station tables first due moments old new before after was is
  pub written_is : written ≡ last_after None reports.showings

pub no_moment : (station : Start) (tables : Tables) (first : Due) (seat : Seated) (out : Printing) (given : Option (List ℕ)) (was : Option Recording) → ReportsTo station tables first first given given seat seat out out was was None
no_moment station tables first seat out given was = record {
  moments = [];
  are_given = Appends-nil given;
  reports = record { showings = []; shown = seat; keeps = record { acts = refl; walk = refl; apart = tt }; later = inl refl; next_is = refl; takes = takes-nothing tables.format station out; records = no-records was };
  written_is = refl;
}

-- nothing is done at a time at which nothing is due
pub one_more_sleep : (station : Start) (tables : Tables) (first : Due) (due : Due) (now : ℕ) (given given_before given_now : Option (List ℕ)) (old new : Seated) (before after : Printing) (was is : Option Recording) (written : Option ℕ)
    → ReportsTo station tables first due given given_before old new before after was is written → Appends given_before given_now (now ∷ []) → now < due.table → has_come due.tick now ≡ false
    → ReportsTo station tables first due given given_now old new before after was is written
one_more_sleep station tables first due now given given_before given_now old new before after was is written so_far gives early none =
    let more = nothing-due tables.pace due now early none in
    record {
      moments = so_far.moments ++ now ∷ [];
      are_given = Appends-trans given given_before given_now _ _ so_far.are_given gives;
      reports = record {
        showings = so_far.reports.showings;
        shown = so_far.reports.shown;
        later = so_far.reports.later;
        next_is = due-then tables.pace first due due now so_far.moments [] so_far.reports.next_is more;
        keeps = record {
          acts = so_far.reports.keeps.acts ∙ sym (acts-then tables.pace first due due now so_far.moments [] so_far.reports.next_is more ∙ append-nil (due_moments tables.pace first so_far.moments));
          walk = so_far.reports.keeps.walk;
          apart = so_far.reports.keeps.apart;
        };
        takes = so_far.reports.takes;
        records = so_far.reports.records;
      };
      written_is = so_far.written_is;
    }

-- a tick alone, at a time at which only that is due, and what it shows and records
module _ (station : Start) (tables : Tables) (first : Due) (due : Due) (now : ℕ) (given given_before given_now : Option (List ℕ)) (old mid ticked new : Seated) (look : Option Seated) (start before : Printing) (from was is : Option Recording) (last next : Option ℕ) where
  one_alone : ReportsTo station tables first due given given_before old mid start before from was last → is_broken before ≡ false → Appends given_before given_now (now ∷ []) → now < due.table → has_come due.tick now ≡ true
      → (shows : (from : Seated) → IsLater station from mid → IsShowing station from (record { acting = record { at = now; has_table = false }; ticked = ticked; look = look; has_room = true }))
      → seat_after (record { acting = record { at = now; has_table = false }; ticked = ticked; look = look; has_room = true }) ≡ new
      → (is_some look ≡ true → is_writing_due last now ≡ true) → next ≡ last_writing last (record { acting = record { at = now; has_table = false }; ticked = ticked; look = look; has_room = true })
      → IfRecording (Records (recorded_look false look)) was is
      → ReportsTo station tables first (after_tick tables.pace due now) given given_now old new start before from is next
  one_alone so_far well gives early come shows end is_due next_is records =
      let more = tick-due tables.pace due now early come in
      let showings = so_far.reports.showings in
      let showing : Showing = record { acting = record { at = now; has_table = false }; ticked = ticked; look = look; has_room = true } in
      record {
        moments = so_far.moments ++ now ∷ [];
        are_given = Appends-trans given given_before given_now _ _ so_far.are_given gives;
        reports = record {
          showings = showings ++ showing ∷ [];
          shown = new;
          later = inl refl;
          next_is = due-then tables.pace first due (after_tick tables.pace due now) now so_far.moments _ so_far.reports.next_is more;
          keeps = record {
            acts = acts_snoc showings showing ∙ ap (λ (acts : List Acting). acts ++ showing.acting ∷ []) so_far.reports.keeps.acts
                ∙ sym (acts-then tables.pace first due (after_tick tables.pace due now) now so_far.moments _ so_far.reports.next_is more);
            walk = subst (Showings station old (showings ++ showing ∷ [])) end
                (Showings_snoc station old so_far.reports.shown showings showing so_far.reports.keeps.walk (shows so_far.reports.shown so_far.reports.later));
            apart = apart_snoc None showings showing so_far.reports.keeps.apart (λ _ has. subst (λ (l : Option ℕ). is_writing_due l now ≡ true) so_far.written_is (is_due has));
          };
          takes = subst (λ ls. TakesTexts tables.format station ls start before) (sym (looks_snoc showings showing))
              (takes-then tables.format station (looks_of showings) (None ∷ []) start before before so_far.reports.takes (takes-refused tables.format station before before refl well));
          records = one-more-record showings showing from was is so_far.reports.records records;
        };
        written_is = next_is ∙ ap (λ (l : Option ℕ). last_writing l showing) so_far.written_is ∙ sym (last_snoc None showings showing);
      }

pub one_more_tick : (station : Start) (tables : Tables) (first : Due) (due : Due) (now : ℕ) (given given_before given_now : Option (List ℕ)) (old mid new : Seated) (start before : Printing) (from was is : Option Recording) (last next : Option ℕ)
    → ReportsTo station tables first due given given_before old mid start before from was last → is_broken before ≡ false → Appends given_before given_now (now ∷ []) → now < due.table → has_come due.tick now ≡ true
    → TicksAlone station now mid new was is last next
    → ReportsTo station tables first (after_tick tables.pace due now) given given_now old new start before from is next
one_more_tick station tables first due now given given_before given_now old mid new start before from was is last next so_far well gives early come (inl (ticks, same, still)) =
    one_alone station tables first due now given given_before given_now old mid new new None start before from was is last next so_far well gives early come
    (λ shown later. record { ticks = ticks_later station shown mid new now later ticks; looks = tt; alone = λ _. inl refl })
    refl (λ none. absurd (search rules)) still (no-more-records was is same)
one_more_tick station tables first due now given given_before given_now old mid new start before from was is last next so_far well gives early come (inr noted) =
    one_alone station tables first due now given given_before given_now old mid noted.ticked new (Some new) start before from was is last next so_far well gives early come
    (λ shown later.
    let accepted = accepted_later station shown mid noted.ticked now noted.receipt later noted.accepted in
    record { ticks = inl (noted.receipt, accepted); looks = noted.notes.looks; alone = λ _. inr (noted.receipt, accepted) })
    refl (λ _. noted.due) noted.next_is noted.notes.records

end_of : (station : Start) (ticked new : Seated) (at : ℕ) (look : Option Seated) → (look ≡ None) × (new ≡ ticked) ⊎ (look ≡ Some new) × Looks station ticked new
    → (has_room : Bool) → seat_after (record { acting = record { at = at; has_table = true }; ticked = ticked; look = look; has_room = has_room }) ≡ new
end_of station ticked new at None (inl p) has_room = sym p.1
end_of station ticked new at None (inr p) has_room = absurd (search rules)
end_of station ticked new at (Some look) (inl p) has_room = absurd (search rules)
end_of station ticked new at (Some look) (inr p) has_room = cc

looked_is : (station : Start) (ticked new : Seated) (look : Option Seated) → (look ≡ None) × (new ≡ ticked) ⊎ (look ≡ Some new) × Looks station ticked new → IfSome look (λ l. Looks station ticked l)
looked_is station ticked new None p = tt
looked_is station ticked new (Some l) (inl p) = absurd (search rules)
looked_is station ticked new (Some l) (inr p) = let same : new ≡ l = cc in subst (λ s. Looks station ticked s) same p.1

pub ticks_of : {N : Type 0} (station : Start) (old new : Seated) (at : ℕ) (name : Known → N) (n : N) (r : Result Known Refusal)
    → IfOk r (λ (receipt : Known). (name receipt ≡ n) × Accepted station old new (Tick old.number at) receipt) → IfErr r (λ (refusal : Refusal). Refused station old new (Tick old.number at) refusal)
    → Ticks station old at new
ticks_of station old new at name n (Ok receipt) accepted refused = inl (receipt, accepted.1)
ticks_of station old new at name n (Err refusal) accepted refused = inr (refusal, refused)

pub one_more_showing : (station : Start) (tables : Tables) (first : Due) (due : Due) (now : ℕ) (given given_before given_now : Option (List ℕ)) (old mid ticked new : Seated) (start before after : Printing) (from was is : Option Recording) (last : Option ℕ)
    → ReportsTo station tables first due given given_before old mid start before from was last → is_broken before ≡ false → Appends given_before given_now (now ∷ []) → due.table ≤ now
    → Ticks station mid now ticked → ShowsTable tables.format station ticked new before after was is
    → ReportsTo station tables first (after_table tables.pace now) given given_now old new start after from is (Some now)
one_more_showing station tables first due now given given_before given_now old mid ticked new start before after from was is last so_far well gives late ticks prints =
    let more = table-due tables.pace due now late in
    let showings = so_far.reports.showings in
    let p = shown_at_most tables.format station (looks_of showings) ticked new start before after was is so_far.reports.takes well prints in
    let showing : Showing = record { acting = record { at = now; has_table = true }; ticked = ticked; look = p.look; has_room = p.has_room } in
    let shows : IsShowing station so_far.reports.shown showing = record { ticks = ticks_later station so_far.reports.shown mid _ now so_far.reports.later ticks; looks = looked_is station ticked new p.look p.looked; alone = λ (e : true ≡ false). absurd (search rules) } in
    record {
      moments = so_far.moments ++ now ∷ [];
      are_given = Appends-trans given given_before given_now _ _ so_far.are_given gives;
      reports = record {
        showings = showings ++ showing ∷ [];
        shown = new;
        later = inl refl;
        next_is = due-then tables.pace first due (after_table tables.pace now) now so_far.moments _ so_far.reports.next_is more;
        keeps = record {
          acts = acts_snoc showings showing ∙ ap (λ (acts : List Acting). acts ++ showing.acting ∷ []) so_far.reports.keeps.acts
              ∙ sym (acts-then tables.pace first due (after_table tables.pace now) now so_far.moments _ so_far.reports.next_is more);
          walk = subst (Showings station old (showings ++ showing ∷ [])) (end_of station ticked new now p.look p.looked p.has_room)
              (Showings_snoc station old so_far.reports.shown showings showing so_far.reports.keeps.walk shows);
          apart = apart_snoc None showings showing so_far.reports.keeps.apart (λ (e : true ≡ false). absurd (search rules));
        };
        takes = subst (λ ls. TakesTexts tables.format station ls start after) (sym (looks_snoc showings showing)) p.takes;
        records = one-more-record showings showing from was is so_far.reports.records p.records;
      };
      written_is = sym (last_snoc None showings showing);
    }

-- it is learned that a write failed, if one did
pub one_more_failure : (station : Start) (tables : Tables) (first : Due) (due : Due) (given given_now : Option (List ℕ)) (old new : Seated) (before mid after : Printing) (was is : Option Recording) (written : Option ℕ)
    → ReportsTo station tables first due given given_now old new before mid was is written → MayFail mid after → ReportsTo station tables first due given given_now old new before after was is written
one_more_failure station tables first due given given_now old new before mid after was is written so_far fails = record {
  moments = so_far.moments;
  are_given = so_far.are_given;
  reports = record {
    showings = so_far.reports.showings;
    shown = so_far.reports.shown;
    keeps = so_far.reports.keeps;
    later = so_far.reports.later;
    next_is = so_far.reports.next_is;
    takes = takes-failure tables.format station (looks_of so_far.reports.showings) before mid after so_far.reports.takes fails;
    records = so_far.reports.records;
  };
  written_is = so_far.written_is;
}

-- a look that shows nothing
pub one_more_look : (station : Start) (tables : Tables) (first : Due) (due : Due) (given given_now : Option (List ℕ)) (old mid new : Seated) (before after : Printing) (was is : Option Recording) (written : Option ℕ)
    → ReportsTo station tables first due given given_now old mid before after was is written → IsLater station mid new → ReportsTo station tables first due given given_now old new before after was is written
one_more_look station tables first due given given_now old mid new before after was is written so_far later = record {
  moments = so_far.moments;
  are_given = so_far.are_given;
  reports = record {
    showings = so_far.reports.showings;
    shown = so_far.reports.shown;
    keeps = so_far.reports.keeps;
    later = later_later station so_far.reports.shown mid new so_far.reports.later later;
    next_is = so_far.reports.next_is;
    takes = so_far.reports.takes;
    records = so_far.reports.records;
  };
  written_is = so_far.written_is;
}

-- whatever is due is done
pub one_more_act : {K : Type 0} (record_of : K → Option Recording) (station : Start) (tables : Tables) (first : Due) (now : ℕ) (given given_before given_now : Option (List ℕ)) (old : Seated) (start : Printing) (from : Option Recording) (done : Act) (was is : ReporterResult Seated Printing K)
    → ReportsTo station tables first was.due given given_before old was.seat start was.out from (record_of was.beside) was.written_at → is_broken was.out ≡ false → Appends given_before given_now (now ∷ []) → IsActAt tables.pace was.due now done
    → DoesAct record_of tables.format station done was is → ReportsTo station tables first is.due given given_now old is.seat start is.out from (record_of is.beside) is.written_at
one_more_act record_of station tables first now given given_before given_now old start from (act.Sleep pause) was is so_far well gives due does =
    rw does (one_more_sleep _ _ _ _ now _ _ _ _ _ _ _ _ _ _ so_far gives due.0 due.1)
one_more_act record_of station tables first now given given_before given_now old start from (act.Tick at next) was is so_far well gives due does =
    let ticks = subst (λ (t : ℕ). TicksAlone station t was.seat is.seat (record_of was.beside) (record_of is.beside) was.written_at is.written_at) due.2 does.0 in
    rw (does.1, does.2, due.3) (one_more_tick station tables first was.due now given given_before given_now old was.seat is.seat start was.out from (record_of was.beside) (record_of is.beside) was.written_at is.written_at so_far well gives due.0 due.1 ticks)
one_more_act record_of station tables first now given given_before given_now old start from (act.Print at next) was is so_far well gives due does =
    let ticks = subst (λ (t : ℕ). Ticks station was.seat t does.0) due.1 does.1 in
    rw (does.3, due.2, does.5, due.1) (one_more_showing station tables first was.due now given given_before given_now old was.seat does.0 is.seat start was.out is.out from (record_of was.beside) (record_of is.beside) was.written_at so_far well gives due.0 ticks does.2)

-- nothing that it does asks for a hand-over
pub never_asks : {K : Type 0} (record_of : K → Option Recording) (format : Format) (station : Start) (done : Act) (was is : ReporterResult Seated Printing K) → DoesAct record_of format station done was is → is.asked_at ≡ was.asked_at
never_asks {K} record_of format station (act.Sleep pause) was is does = ap (λ (r : ReporterResult Seated Printing K). r.asked_at) does
never_asks record_of format station (act.Tick at next) was is does = does.3
never_asks record_of format station (act.Print at next) was is does = does.4
