use Rattle.std.proofs.Common.{◌≡◌, true, false, Some, refl, ap, sym, ◌∙◌, reverse}
use Rattle.station_journal.specs.Past.{live}
use Rattle.station_journal.proofs.FoundLemmas.{find_row_in_table}
use Rattle.station_journal.proofs.plain.search.find_row.Goals as goal

pub returns-then-is_live : goal.returns-then-is_live
returns-then-is_live c =
    let past = reverse c.args.entries.now in
    let is : live c.args.base past c.args.address ≡ true = sym c.is_live.ensures ∙ c.if-is_live.true in
    rw (find_row_in_table c.args.site c.args.base past c.args.address, is) (ap Some c.row.ensures)

pub returns-else-is_live : goal.returns-else-is_live
returns-else-is_live c =
    let past = reverse c.args.entries.now in
    let dead : live c.args.base past c.args.address ≡ false = sym c.is_live.ensures ∙ c.if-is_live.false in
    rw (find_row_in_table c.args.site c.args.base past c.args.address, dead) refl
