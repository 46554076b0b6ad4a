-- The laws of the book over whole journals.
use Rattle.std.proofs.Common.{◌≡◌, ℕ, ◌<◌, true, List, [], ◌∷◌, ◌++◌, length, None, refl, ap, ◌∙◌, arith, nat_lt, reverse}
use Rattle.std.proofs.lemmas.Bool.Decides.{nat_tests}
use Rattle.std.proofs.lemmas.List.{length-reverse}
use Rattle.station_journal.specs.declared.entry.Entry.{Entry}
use Rattle.station_journal.proofs.Common.{Site, table, placed_table, Log, IsLegal, table_of, placed_of, clock_of, past_of, refusal_of, most_entries, Sound}
use Rattle.station_journal.proofs.SoundLemmas.{sound_legal}
use Rattle.station_book.proofs.Common.{Call, Tick, Heard, call_of, entry_of, BookState, applied_book, book_offered, rows, placed_rows, fits, MatchesPast, Matches, Shows, book_of_past, book_after}
use Rattle.station_book.proofs.MatchingLemmas.{matches_starting, matches_applied, matches_push}
use Rattle.station_book.proofs.TableLemmas.{rows_are_table, placed_are_table}
use Rattle.station_book.proofs.VerdictLemmas.{same_tick_refusal, same_refusal, fits_from_accepts, fits_from, fits_back}

-- the entry of a call is this call again, without its seat
pub call_back : (seat : ℕ) (call : Call) → call_of (entry_of seat call) ≡ call
call_back seat (Tick at) = refl
call_back seat (Heard frame) = refl

pub shows_from_match : (n base : ℕ) (book : BookState) (entries : List Entry) → Matches n base book entries → Shows n base book entries
shows_from_match n base book entries m = record {
  table = rows_are_table n base (reverse entries) book m;
  placed = placed_are_table n base (reverse entries) book m;
  moment = m.moment;
  count = m.entries ∙ length-reverse entries;
  tick = same_tick_refusal n base (reverse entries) book m;
  entry = same_refusal n base (reverse entries) book m;
}

pub match_after_accepted : (log : Log) (book : BookState) (entry : Entry) → refusal_of log entry ≡ None → Matches log.limits.aircraft log.base book log.entries → Matches log.limits.aircraft log.base (applied_book book (call_of entry)) (log.entries ++ entry ∷ [])
match_after_accepted log book entry accepted m =
    matches_push log.limits.aircraft log.base log.entries entry book (fits_from_accepts log.limits log.base (past_of log) entry m.sound accepted) m

pub match_after_fit : (n base : ℕ) (book : BookState) (journal : List Entry) (entry : Entry) → fits n book (call_of entry) ≡ true → Matches n base book journal → Matches n base (applied_book book (call_of entry)) (journal ++ entry ∷ [])
match_after_fit n base book journal entry fit m = matches_push n base journal entry book (fits_back n base (reverse journal) book m entry fit) m

pub accepted_fits_book : (log : Log) (book : BookState) (entry : Entry) → refusal_of log entry ≡ None → Matches log.limits.aircraft log.base book log.entries → fits log.limits.aircraft book (call_of entry) ≡ true
accepted_fits_book log book entry accepted m =
    fits_from log.limits.aircraft log.base (past_of log) book m entry (fits_from_accepts log.limits log.base (past_of log) entry m.sound accepted)

-- an offered call that fits is applied
pub offer_of_fit : (n : ℕ) (book : BookState) (call : Call) → fits n book call ≡ true → book.entries < most_entries → book_offered n book call ≡ applied_book book call
offer_of_fit n book call fit few =
    let test : nat_lt book.entries most_entries ≡ true = grind (arith, nat_tests) in
    rw (fit, test) refl

pub offer_is_taken : (log : Log) (book : BookState) (entry : Entry) → refusal_of log entry ≡ None → length log.entries < most_entries → Matches log.limits.aircraft log.base book log.entries → book_offered log.limits.aircraft book (call_of entry) ≡ applied_book book (call_of entry)
offer_is_taken log book entry accepted few m =
    let count : book.entries ≡ length log.entries = m.entries ∙ length-reverse log.entries in
    offer_of_fit log.limits.aircraft book (call_of entry) (accepted_fits_book log book entry accepted m) (omega (arith, count, few))

pub match_after_offer : (log : Log) (book : BookState) (entry : Entry) → refusal_of log entry ≡ None → length log.entries < most_entries → Matches log.limits.aircraft log.base book log.entries → Matches log.limits.aircraft log.base (book_offered log.limits.aircraft book (call_of entry)) (log.entries ++ entry ∷ [])
match_after_offer log book entry accepted few m = rw (offer_is_taken log book entry accepted few m) (match_after_accepted log book entry accepted m)

-- a book that has applied the entries of a sound list matches it
pub matches_sound : (site : Site) (n base : ℕ) (past : List Entry) → Sound n base past → MatchesPast n base (book_of_past site base past) past
matches_sound site n base [] sound = matches_starting site n base
matches_sound site n base (entry ∷ past) sound = matches_applied n base past entry (book_of_past site base past) sound.0 (matches_sound site n base past sound.1)

-- a book keeps its site
pub site_applied : (book : BookState) (call : Call) → (applied_book book call).site ≡ book.site
site_applied book (Tick at) = refl
site_applied book (Heard frame) = refl

pub site_of_past : (site : Site) (base : ℕ) (past : List Entry) → (book_of_past site base past).site ≡ site
site_of_past site base [] = refl
site_of_past site base (entry ∷ past) = site_applied (book_of_past site base past) (call_of entry) ∙ site_of_past site base past

pub book_equals_search : (log : Log) → IsLegal log → (rows (book_after log.limits.site log.base log.entries) ≡ table_of log) × ((book_after log.limits.site log.base log.entries).moment ≡ clock_of log) × ((book_after log.limits.site log.base log.entries).entries ≡ length log.entries) × (placed_rows (book_after log.limits.site log.base log.entries) ≡ placed_of log)
book_equals_search log legal =
    let m = matches_sound log.limits.site log.limits.aircraft log.base (past_of log) (sound_legal log.limits log.base log.resumed (past_of log) legal) in
    let same = site_of_past log.limits.site log.base (past_of log) in
    (rows_are_table log.limits.aircraft log.base (past_of log) (book_after log.limits.site log.base log.entries) m ∙ ap (λ site. table site log.base (past_of log)) same, m.moment, m.entries ∙ length-reverse log.entries, placed_are_table log.limits.aircraft log.base (past_of log) (book_after log.limits.site log.base log.entries) m ∙ ap (λ site. placed_table site log.base (past_of log)) same)
