-- The lines of a pump, taken one after another.
use Rattle.std.proofs.Common.{◌≡◌, ℕ, Bool, true, false, List, [], ◌∷◌, Result, Ok, Err, refl, ◌∙◌, arith, count_by, alloc_error, if◌then◌else◌}
use Rattle.std.specs.declared.alloc.AllocError.{AllocError}
use Rattle.modes_frame.specs.declared.cutter.Cut.{Cut}
use Rattle.modes_frame.specs.declared.cutter.Cut.TheVariants.{Whole, TooLong}
use Rattle.modes_frame.specs.declared.line.Line.{Line}
use Rattle.modes_frame.specs.declared.line.Line.TheVariants.{Frame}
use Rattle.modes_frame.specs.declared.line.LineFault.{LineFault}
use Rattle.modes_frame.specs.Reading.{reading_of}
use Rattle.station_journal.specs.declared.refusal.Refusal.{Refusal}
use Rattle.station_journal.specs.declared.refusal.Refusal.TheVariants.{NoMemory}
use Rattle.station_lines.proofs.Common.{pump_command, heard_line, of_line, Counts, CountsNoCall, is_tick, is_show, Taken, ending_as, stopped_as, is_reply, Wants, Pumping, Pumps, PumpsFrame, PumpsAll, pump_answer, tally_of_pump, want_of, pump_ending, Tally}
use Rattle.streams.proofs.Common.{SourceState}
use Rattle.station_lines.specs.declared.command.Command.TheVariants.{Line as Received}
use Rattle.station_lines.specs.declared.pumping.PumpFault.{PumpFault}
use Rattle.station_lines.specs.declared.pumping.PumpFault.TheVariants as Faults
use Rattle.station_lines.specs.declared.lines.Ended.{Ended}
use Rattle.station_lines.specs.declared.lines.Ended.TheVariants as Ends
use Rattle.station_lines.proofs.ParsedLemmas.{IsQuiet}
use Rattle.station_lines.proofs.TallyLemmas.{Counts-from}

-- ---- a line with a frame

module _ {F : Type 0} (gives : F → List ℕ → Result (Unit {0}) Refusal → F → Type 0) where
  one_want : (line : Cut) (frame : List ℕ) (answer : Result (Unit {0}) Refusal) (test : Bool) → is_reply answer ≡ test → pump_command line ≡ Ok (Received (Frame frame)) → answer ≡ answer → Wants (line ∷ []) (answer ∷ []) (if test then Ok tt else Err alloc_error)
  one_want line frame answer true is asks same = rw is refl
  one_want line frame answer false is asks same = record { front = []; last = line; frame = frame; replies = []; parts = refl; asks = asks; told = want answer is; others = refl }
    where
      want : (answer : Result (Unit {0}) Refusal) → is_reply answer ≡ false → answer ∷ [] ≡ Err NoMemory ∷ []
      want (Err NoMemory) e = refl
      want _ e = cc

  pub Pumps-frame : (line : Cut) (frame : List ℕ) (before after : F) (s t : Tally) (r : Result (Unit {0}) AllocError) → PumpsFrame gives before after frame s t r → pump_command line ≡ Ok (Received (Frame frame))
      → Pumps gives (record { feed = before; tally = s }) (line ∷ []) r (record { feed = after; tally = t })
  Pumps-frame line frame before after s t r fed is = record {
    answers = fed.answer ∷ [];
    feeds = rw is (after, fed.fed, refl);
    wants = rw fed.stops (one_want line frame fed.answer (is_reply fed.answer) refl is refl);
    counts = record {
      lines_more = fed.counts.lines_more;
      frames_more = rw is (omega (arith, fed.counts.frames_more));
      ticks_more = rw is (omega (arith, fed.counts.ticks_more));
      shows_more = rw is (omega (arith, fed.counts.shows_same));
      mode_ac_more = rw is (omega (arith, fed.counts.mode_ac_same));
      blank_more = rw is (omega (arith, fed.counts.blank_same));
    };
    accepted = omega (arith, fed.counts.accepted);
  }

-- ---- no ticks and no questions

of_line_tick : (r : Result Line LineFault) → is_tick (of_line r) ≡ false
of_line_tick (Ok (Frame frame)) = refl
of_line_tick _ = refl

of_line_show : (r : Result Line LineFault) → is_show (of_line r) ≡ false
of_line_show (Ok (Frame frame)) = refl
of_line_show _ = refl

pub no_tick : (line : Cut) → is_tick (pump_command line) ≡ false
unfolding heard_line
no_tick (Whole line) = of_line_tick (reading_of line)
no_tick TooLong = refl

pub no_show : (line : Cut) → is_show (pump_command line) ≡ false
unfolding heard_line
no_show (Whole line) = of_line_show (reading_of line)
no_show TooLong = refl

-- ---- a line that says nothing

pub Pumps-quiet : {F : Type 0} (gives : F → List ℕ → Result (Unit {0}) Refusal → F → Type 0) (x : F) (line : Cut) (s t : Tally) → IsQuiet (pump_command line) → CountsNoCall s t 0 0 0
    → Pumps gives (record { feed = x; tally = s }) (line ∷ []) (Ok tt) (record { feed = x; tally = t })
Pumps-quiet gives x line s t quiet counts = record {
  answers = [];
  feeds = rw quiet.no_frame refl;
  wants = refl;
  counts = record {
    lines_more = counts.lines_more;
    frames_more = rw quiet.frames (omega (arith, counts.frames_same));
    ticks_more = rw (no_tick line) (omega (arith, counts.ticks_same));
    shows_more = rw (no_show line) (omega (arith, counts.shows_more));
    mode_ac_more = rw quiet.mode_acs (omega (arith, counts.mode_ac_more));
    blank_more = rw quiet.blanks (omega (arith, counts.blank_more));
  };
  accepted = omega (arith, counts.accepted_same);
}

-- ---- the ends of a pump

none_by : (p : Cut → Bool) → ((line : Cut) → p line ≡ false) → (lines : List Cut) → count_by p lines ≡ 0
none_by p none [] = refl
none_by p none (c ∷ cs) = let here = none c in rw here (none_by p none cs)

module _ {F : Type 0} (gives : F → List ℕ → Result (Unit {0}) Refusal → F → Type 0) {x z : Pumping F} {old new : SourceState} {turns : ℕ} (empty : x.tally.lines ≡ 0) where
  -- what a pump has done once all lines were taken, by its answer
  PumpsAll-taken : (result : Result Tally PumpFault) → tally_of_pump result ≡ z.tally → Taken (Pumps gives) old new turns (pump_ending result) x z (want_of result) → PumpsAll gives x.feed z.feed old new turns result
  PumpsAll-taken result told all =
      let counts : Counts pump_command (tally_of_pump result) all.lines = rw told (Counts-from pump_command x.tally z.tally all.lines empty all.took.counts) in
      record {
        lines = all.lines;
        answers = all.took.answers;
        draws = all.draws;
        feeds = all.took.feeds;
        wants = all.took.wants;
        counts = counts;
        no_ticks = counts.ticks_are ∙ none_by (λ l. is_tick (pump_command l)) no_tick all.lines;
        no_shows = counts.shows_are ∙ none_by (λ l. is_show (pump_command l)) no_show all.lines;
        accepted = rw told (omega (arith, all.took.accepted, x.tally.by_kind, x.tally.by_answer));
      }

  -- why the lines ended
  pub PumpsAll-ended : (ended : Ended AllocError) → Taken (Pumps gives) old new turns (ending_as ended) x z (stopped_as ended) → PumpsAll gives x.feed z.feed old new turns (pump_answer ended z.tally)
  PumpsAll-ended Ends.AtEnd = PumpsAll-taken (Ok z.tally) refl
  PumpsAll-ended Ends.ReadFailed = PumpsAll-taken (Err (Faults.Read z.tally)) refl
  PumpsAll-ended Ends.TurnsOver = PumpsAll-taken (Err (Faults.TooManyTurns z.tally)) refl
  PumpsAll-ended (Ends.Stopped want) = PumpsAll-taken (Err (Faults.NoMemory z.tally)) refl
