use Rattle.std.proofs.Common.{[]}
use Rattle.station_journal.proofs.UnlimitedLemmas.{with_room_left, timed_unlimited}
use Rattle.journal_laws.proofs.laws.unlimited_journals.Goals as goal

pub returns-clause-room : goal.returns-clause-room
returns-clause-room c = with_room_left

pub returns-clause-timed : goal.returns-clause-timed
returns-clause-timed c n base calls = timed_unlimited n base calls [] tt
