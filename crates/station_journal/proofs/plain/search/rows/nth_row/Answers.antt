use Rattle.std.proofs.Common.{Some, refl, ap, sym, ◌∙◌, arith, reverse, IsSome, option_map, subst}
use Rattle.std.proofs.lemmas.List.{length-map}
use Rattle.std.proofs.lemmas.Option.{slice_get-get_or, slice_get-map}
use Rattle.station_journal.specs.Table.{row, live_addresses}
use Rattle.station_journal.proofs.plain.search.rows.nth_row.Goals as goal

pub unwrap-address-requires : goal.unwrap-address-requires
unwrap-address-requires c =
    let past = reverse c.args.entries.now in
    let same = length-map (live_addresses c.args.base past) (row c.args.site c.args.base past) in
    let there = slice_get-get_or (live_addresses c.args.base past) c.args.i 0 (omega (arith, same, c.requires.within)) in
    subst IsSome (sym (c.nth_live.ensures ∙ there)) refl

pub returns : goal.returns
returns c =
    let past = reverse c.args.entries.now in
    let shown = row c.args.site c.args.base past in
    slice_get-map shown (live_addresses c.args.base past) c.args.i ∙ ap (option_map shown) (sym c.nth_live.ensures ∙ c.unwrap-address.ensures) ∙ ap Some (sym c.row.ensures)
