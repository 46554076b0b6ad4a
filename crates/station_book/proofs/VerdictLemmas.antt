-- The refusals of a matching book are those of the past, and an accepted entry fits.
use Rattle.std.proofs.Common.{◌≡◌, ℕ, true, false, List, Option, Some, None, Result, Ok, Err, refl, sym, ◌∙◌, arith, nat_le, nat_lt}
use Rattle.std.proofs.lemmas.Bool.Decides.{nat_tests}
use Rattle.modes_frame.specs.declared.claims.Claim.{Claim}
use Rattle.modes_frame.specs.declared.claims.CheckFault.{CheckFault}
use Rattle.modes_frame.specs.Claims.{claim_of}
use Rattle.station_journal.proofs.FollowLemmas.{claim_back, claim_from}
use Rattle.station_journal.proofs.SoundLemmas.{accepted_fits}
use Rattle.station_journal.specs.declared.entry.Entry.{Entry}
use Rattle.station_journal.specs.declared.entry.Entry.TheVariants.{Tick, Heard}
use Rattle.station_journal.specs.declared.limits.Limits.{Limits}
use Rattle.station_journal.specs.declared.refusal.Refusal.TheVariants.{NotLater}
use Rattle.station_journal.proofs.Common.{Frame, clock, or_older, is_one_of, is_repeated, refuse_if, claim_refusal, tick_refusal, refusal, is_full, Accepts, ClaimFits, Fits, Sound}
use Rattle.station_book.proofs.Common.{call_of, BookState, book_claim_refusal, book_tick_refusal, book_refusal, claim_fits, fits, MatchesPast}
use Rattle.station_book.proofs.TableLemmas.{kept_is_live, same_count}

or_older_none : {V : Type 0} (x : Option V) → or_older x None ≡ x
or_older_none None = refl
or_older_none (Some v) = refl

module _ (n base : ℕ) (past : List Entry) (book : BookState) (m : MatchesPast n base book past) where
  -- the book's refusal of a frame with this claim is that of a journal that isn't full
  same_claim_refusal : (frame : Frame) (claim : Result Claim CheckFault) →
      book_claim_refusal n book (is_one_of book.first_frames frame) claim ≡ claim_refusal false (is_repeated past frame) n base past claim
  same_claim_refusal frame (Err fault) = refl
  same_claim_refusal frame (Ok claim) = rw (kept_is_live n base past book m claim.address, same_count n base past book m, m.first_frames) refl

  pub same_tick_refusal : (at : ℕ) → book_tick_refusal book at ≡ tick_refusal false base past at
  same_tick_refusal at = rw m.moment (sym (or_older_none (refuse_if (nat_le at (clock base past)) (NotLater (clock base past)))))

  pub same_refusal : (entry : Entry) → book_refusal n book (call_of entry) ≡ refusal false n base past entry
  same_refusal (Tick seat at) = same_tick_refusal at
  same_refusal (Heard seat frame) = same_claim_refusal frame (claim_of frame)

  pub claim_fits_from : (claim : Result Claim CheckFault) → ClaimFits n base past claim → claim_fits n book claim ≡ true
  claim_fits_from (Err fault) fit = elim fit [ ]
  claim_fits_from (Ok claim) fit = rw (kept_is_live n base past book m claim.address, same_count n base past book m) (claim_from n base past (Ok claim) fit)

  pub claim_fits_back : (claim : Result Claim CheckFault) → claim_fits n book claim ≡ true → ClaimFits n base past claim
  claim_fits_back (Err fault) fit = cc
  claim_fits_back (Ok claim) fit = claim_back n base past (Ok claim) (rw (kept_is_live n base past book m claim.address, same_count n base past book m) at fit)

  -- an entry fits the book exactly where it fits the past
  pub fits_from : (entry : Entry) → Fits n base past entry → fits n book (call_of entry) ≡ true
  fits_from (Tick seat at) fit = rw m.moment (grind (arith, nat_tests))
  fits_from (Heard seat frame) fit = claim_fits_from (claim_of frame) fit

  pub fits_back : (entry : Entry) → fits n book (call_of entry) ≡ true → Fits n base past entry
  fits_back (Tick seat at) fit = let fit' : nat_lt (clock base past) at ≡ true = rw m.moment at fit in grind (arith, nat_tests)
  fits_back (Heard seat frame) fit = claim_fits_back (claim_of frame) fit

pub fits_from_accepts : (limits : Limits) (base : ℕ) (past : List Entry) (entry : Entry) → Sound limits.aircraft base past → Accepts limits base past entry → Fits limits.aircraft base past entry
fits_from_accepts limits base past entry sound accepts = accepted_fits (is_full limits past) limits.aircraft base past entry sound accepts

-- an entry that a matching book doesn't refuse fits it
pub fits_unless_refused : (n base : ℕ) (past : List Entry) (book : BookState) (entry : Entry) → MatchesPast n base book past → book_refusal n book (call_of entry) ≡ None → fits n book (call_of entry) ≡ true
fits_unless_refused n base past book entry m free = fits_from n base past book m entry (accepted_fits false n base past entry m.sound (sym (same_refusal n base past book m entry) ∙ free))
