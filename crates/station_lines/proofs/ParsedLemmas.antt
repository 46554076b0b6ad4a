-- What lines say, once they are parsed.
use Rattle.std.proofs.Common.{◌≡◌, ℕ, nat_eq, nat_lt, Bool, true, false, cond, List, [], ◌∷◌, Result, Ok, Err, length, refl, sym, ap, ◌∙◌, ◌⊎◌, inl, inr}
use Rattle.std.proofs.lemmas.Bool.Decides.{eqb_tells}
use Rattle.modes_frame.specs.declared.cutter.Cut.TheVariants.{Whole}
use Rattle.modes_frame.specs.declared.line.Line.TheVariants.{Frame, ModeAc, Blank}
use Rattle.modes_frame.specs.declared.line.LineFault.TheVariants.{TooLong}
use Rattle.modes_frame.specs.Reading.{is_start, line_reading, reading_of, trimmed_line}
use Rattle.station_lines.proofs.Common.{heard_line, replay_command, frame_in, command_by, command_of, of_line, is_frame, is_mode_ac, is_blank_line, parsed_of, read_as, Command, CommandFault}
use Rattle.station_lines.specs.declared.command.Command.TheVariants.{Tick, Show, Line as Received}
use Rattle.station_lines.specs.declared.command.CommandFault.TheVariants.{Line as Faulty}
use Rattle.station_lines.specs.declared.parsed_line.ParsedLine.{ParsedLine}
use Rattle.station_lines.specs.declared.parsed_line.ParsedLine.TheVariants as parsed

-- ---- a plain line

-- no line that begins with another byte is read
other-start : (c d : ℕ) (cs frame : List ℕ) → is_start d ≡ false → line_reading (c ∷ cs) ≡ Ok (Frame frame) → nat_eq c d ≡ false
other-start c d cs frame other h = elim (eqb_tells c d) [
  | inl same ↦
      let start : is_start c ≡ false = ap is_start same.1 ∙ other in
      let none = rw start at h in
      cc
  | inr differs ↦ differs.0
]

replay_command-by : (long : Bool) (rest frame : List ℕ) → cond long (Err TooLong) (line_reading rest) ≡ Ok (Frame frame)
    → cond long (Err (Faulty TooLong)) (command_by rest) ≡ Ok (Received (Frame frame))
replay_command-by true rest frame h = cc
replay_command-by false [] frame h = cc
replay_command-by false (c ∷ cs) frame h =
    let no_tick = other-start c 43 cs frame refl h in
    let no_question = other-start c 63 cs frame refl h in
    rw (no_tick, no_question) (ap of_line h)

pub replay_command-plain : (line frame : List ℕ) → reading_of line ≡ Ok (Frame frame) → replay_command (Whole line) ≡ Ok (Received (Frame frame))
unfolding command_of
replay_command-plain line frame h = replay_command-by (nat_lt 64 (length line)) (trimmed_line line) frame h

-- a line that says a frame to a receiver says it in a replay too
pub parsed-plain : (is_replay : Bool) (line frame : List ℕ) → reading_of line ≡ Ok (Frame frame) → parsed.Frame frame ≡ parsed_of (read_as is_replay (Whole line))
unfolding heard_line
parsed-plain true line frame h = ap parsed_of (sym (replay_command-plain line frame h))
parsed-plain false line frame h = ap (λ said_so. parsed_of (of_line said_so)) (sym h)

-- ---- what was parsed

pub parsed_frame : (r : Result Command CommandFault) (frame : List ℕ) → parsed.Frame frame ≡ parsed_of r → r ≡ Ok (Received (Frame frame))
parsed_frame (Ok (Received (Frame f))) frame e = cc
parsed_frame _ frame e = cc

pub parsed_tick : (r : Result Command CommandFault) (at : ℕ) → parsed.Tick at ≡ parsed_of r → r ≡ Ok (Tick at)
parsed_tick (Ok (Received (Frame f))) at e = cc
parsed_tick _ at e = cc

pub parsed_show : (r : Result Command CommandFault) → parsed.Show ≡ parsed_of r → r ≡ Ok Show
parsed_show (Ok Show) e = refl
parsed_show (Ok (Received (Frame f))) e = cc
parsed_show _ e = cc

-- neither a frame, nor a Mode A/C reply, nor blanks
abbrev is_other : ParsedLine → Bool
is_other (parsed.Tick at) = true
is_other parsed.Show = true
is_other parsed.Fault = true
is_other _ = false

-- a line that says nothing to a pump
pub record IsQuiet (r : Result Command CommandFault) : Type 0 where
  pub no_frame : frame_in r ≡ []
  pub frames : is_frame r ≡ false
  pub mode_acs : is_mode_ac r ≡ false
  pub blanks : is_blank_line r ≡ false

parsed_other : (r : Result Command CommandFault) → is_other (parsed_of r) ≡ true → IsQuiet r
parsed_other (Ok (Received (Frame f))) e = absurd (cc)
parsed_other (Ok (Received ModeAc)) e = absurd (cc)
parsed_other (Ok (Received Blank)) e = absurd (cc)
parsed_other _ e = record { no_frame = refl; frames = refl; mode_acs = refl; blanks = refl }

said_other : (p : ParsedLine) → ((at : ℕ) × (p ≡ parsed.Tick at)) ⊎ ((p ≡ parsed.Show) ⊎ (p ≡ parsed.Fault)) → is_other p ≡ true
said_other p (inl tick) = ap is_other tick.1
said_other p (inr (inl show)) = ap is_other show
said_other p (inr (inr fault)) = ap is_other fault

pub parsed_quiet : (p : ParsedLine) (r : Result Command CommandFault) → p ≡ parsed_of r → ((at : ℕ) × (p ≡ parsed.Tick at)) ⊎ ((p ≡ parsed.Show) ⊎ (p ≡ parsed.Fault)) → IsQuiet r
parsed_quiet p r e other = parsed_other r (ap is_other (sym e) ∙ said_other p other)
