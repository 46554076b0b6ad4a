-- The limits of the program.
use Rattle.std.specs.Prelude.{ℕ, ◌-◌, ◌^◌}
use Rattle.station_journal.specs.Log.{most_entries}
use Rattle.station_journal.specs.Past.{Site}
use Rattle.station_journal.specs.declared.limits.Limits.{Limits}

-- 16,777,216 entries in the journal, 512 aircraft live at once, and the place of the receivers, if it is given
abbrev pub program_limits : Site → Limits
program_limits site = record { entries = most_entries; aircraft = 512; site = site }

-- the most reads of one input
abbrev pub most_reads : ℕ
most_reads = 2 ^ 32 - 1

-- a replay forgets at a tick once it has 12,582,912 entries, and a station of `run` hands over
abbrev pub forget_at : ℕ
forget_at = 12582912

-- as many entries as the journal has room for beside these
abbrev pub most_between_ticks : ℕ
most_between_ticks = 4194304
