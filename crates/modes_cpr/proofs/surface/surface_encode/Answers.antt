use Rattle.std.proofs.Common.{w64, FitsSigned, rules}
use Rattle.modes_cpr.specs.Zones.{zone_count}
use Rattle.modes_cpr.proofs.PairLemmas.{zones_at_num}
use Rattle.modes_cpr.proofs.PlaceLemmas.{in_range_at}
use Rattle.modes_cpr.proofs.SurfacePlaceLemmas.{rounded_surface_in_range, rounded_surface_is, surface_place_is}
use Rattle.modes_cpr.proofs.surface.surface_encode.Goals as goal

pub zones-requires-clause-in_range : goal.zones-requires-clause-in_range
zones-requires-clause-in_range c =
    let zone : FitsSigned w64 c.zone_of.result = search rules in
    let rounded = rounded_surface_is c.args.odd c.args.lat c.surface_angle-rounded.result c.latitude_zones-bands.result c.fine_bin_of-y.result c.zone_of.result
    c.latitude_zones-bands.ensures c.zone_of.ensures.bound zone c.zone_of.ensures.value c.fine_bin_of-y.ensures.value c.surface_angle-rounded.ensures.value in
    in_range_at c.surface_angle-rounded.result _ (search rules) rounded (rounded_surface_in_range c.args.odd c.args.lat (search rules) c.requires.lat)

pub returns-clause-value : goal.returns-clause-value
returns-clause-value c =
    let zone : FitsSigned w64 c.zone_of.result = search rules in
    let rounded = rounded_surface_is c.args.odd c.args.lat c.surface_angle-rounded.result c.latitude_zones-bands.result c.fine_bin_of-y.result c.zone_of.result
    c.latitude_zones-bands.ensures c.zone_of.ensures.bound zone c.zone_of.ensures.value c.fine_bin_of-y.ensures.value c.surface_angle-rounded.ensures.value in
    let zones = zones_at_num zone_count c.surface_angle-rounded.result (search rules) c.zones.result c.zones.ensures.value in
    surface_place_is zone_count c.args.odd c.args.lat c.args.lon c.surface_angle-rounded.result c.latitude_zones-bands.result c.zones.result c.longitude_zones.result c.fine_bin_of-y.result c.fine_bin_of-x.result
    c.latitude_zones-bands.ensures rounded zones c.longitude_zones.ensures c.fine_bin_of-y.ensures.value c.fine_bin_of-x.ensures.value
