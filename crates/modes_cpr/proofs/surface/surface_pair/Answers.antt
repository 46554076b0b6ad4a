use Rattle.std.proofs.Common.{◌≡◌, Some, w64, FitsSigned, rules, ap, sym, ◌∙◌, if◌then◌else◌}
use Rattle.std.proofs.lemmas.Bool.{eqb-true, eqb-false}
use Rattle.modes_cpr.proofs.Common.{Position, zone_count, zone_index}
use Rattle.modes_cpr.proofs.PairLemmas.{decoded_at, zones_at_num, zones_tested, even_beyond, odd_beyond, zones_differ, found, made_is}
use Rattle.modes_cpr.proofs.SurfaceCommon.{reference_angle, reference_point, decoded_near, without_turns}
use Rattle.modes_cpr.proofs.SurfacePairLemmas.{cast_near, longitude_near, surface_position_at}
use Rattle.modes_cpr.proofs.surface.surface_pair.Goals as goal
use Rattle.modes_cpr.proofs.surface.surface_pair.Goals.{then-newest_odd, else-newest_odd, then-not-is_latitude-via-then-not-is_latitude, then-not-is_latitude-via-else-not-is_latitude+then-not-is_latitude-2}

pub returns-then-not-is_latitude-clause-value : goal.returns-then-not-is_latitude-clause-value
returns-then-not-is_latitude-clause-value c =
    let index : FitsSigned w64 c.zone_index-index.result = search rules in
    let even = decoded_at (λ j. decoded_near (reference_angle c.args.reference.lat) 60 j c.args.even.lat) c.zone_index-index.result (zone_index 60 c.args.even.lat c.args.odd.lat) c.decoded_near-even_lat.result index c.zone_index-index.ensures (cast_near c.args.reference.lat _ _ _ _ (search rules) c.decoded_near-even_lat.ensures.value) in
    let odd = decoded_at (λ j. decoded_near (reference_angle c.args.reference.lat) 59 j c.args.odd.lat) c.zone_index-index.result (zone_index 60 c.args.even.lat c.args.odd.lat) c.decoded_near-odd_lat.result index c.zone_index-index.ensures (cast_near c.args.reference.lat _ _ _ _ (search rules) c.decoded_near-odd_lat.ensures.value) in
    elim c.then-not-is_latitude.branch [
      | then-not-is_latitude-via-then-not-is_latitude w ↦
          sym (surface_position_at zone_count (reference_point c.args.reference) c.args.even c.args.odd c.args.newest_odd _ _ even odd ∙ even_beyond zone_count _ c.decoded_near-even_lat.result c.decoded_near-odd_lat.result (sym c.is_latitude.ensures ∙ w.if-not-is_latitude.true))
      | then-not-is_latitude-via-else-not-is_latitude+then-not-is_latitude-2 w ↦
          sym (surface_position_at zone_count (reference_point c.args.reference) c.args.even c.args.odd c.args.newest_odd _ _ even odd ∙ odd_beyond zone_count _ c.decoded_near-even_lat.result c.decoded_near-odd_lat.result (sym w.is_latitude-else-not-is_latitude.ensures ∙ w.if-not-is_latitude-2.true))
    ]

pub returns-then-not-has_zones-clause-value : goal.returns-then-not-has_zones-clause-value
returns-then-not-has_zones-clause-value c =
    let index : FitsSigned w64 c.zone_index-index.result = search rules in
    let even = decoded_at (λ j. decoded_near (reference_angle c.args.reference.lat) 60 j c.args.even.lat) c.zone_index-index.result (zone_index 60 c.args.even.lat c.args.odd.lat) c.decoded_near-even_lat.result index c.zone_index-index.ensures (cast_near c.args.reference.lat _ _ _ _ (search rules) c.decoded_near-even_lat.ensures.value) in
    let odd = decoded_at (λ j. decoded_near (reference_angle c.args.reference.lat) 59 j c.args.odd.lat) c.zone_index-index.result (zone_index 60 c.args.even.lat c.args.odd.lat) c.decoded_near-odd_lat.result index c.zone_index-index.ensures (cast_near c.args.reference.lat _ _ _ _ (search rules) c.decoded_near-odd_lat.ensures.value) in
    let count = zones_at_num zone_count c.decoded_near-even_lat.result (search rules) c.zones-count.result c.zones-count.ensures.value in
    let tested = zones_tested zone_count c.decoded_near-odd_lat.result (search rules) c.zones-count.result c.has_zones.result c.has_zones.ensures in
    sym (surface_position_at zone_count (reference_point c.args.reference) c.args.even c.args.odd c.args.newest_odd _ _ even odd ∙ zones_differ zone_count _ _ _ (λ e. eqb-false _ _ (sym tested ∙ c.if-not-has_zones.true) (sym e ∙ sym count)))

pub returns-clause-value : goal.returns-clause-value
returns-clause-value c =
    let index : FitsSigned w64 c.zone_index-index.result = search rules in
    let even = decoded_at (λ j. decoded_near (reference_angle c.args.reference.lat) 60 j c.args.even.lat) c.zone_index-index.result (zone_index 60 c.args.even.lat c.args.odd.lat) c.decoded_near-even_lat.result index c.zone_index-index.ensures (cast_near c.args.reference.lat _ _ _ _ (search rules) c.decoded_near-even_lat.ensures.value) in
    let odd = decoded_at (λ j. decoded_near (reference_angle c.args.reference.lat) 59 j c.args.odd.lat) c.zone_index-index.result (zone_index 60 c.args.even.lat c.args.odd.lat) c.decoded_near-odd_lat.result index c.zone_index-index.ensures (cast_near c.args.reference.lat _ _ _ _ (search rules) c.decoded_near-odd_lat.ensures.value) in
    let count = zones_at_num zone_count c.decoded_near-even_lat.result (search rules) c.zones-count.result c.zones-count.ensures.value in
    let tested = zones_tested zone_count c.decoded_near-odd_lat.result (search rules) c.zones-count.result c.has_zones.result c.has_zones.ensures in
    let position = surface_position_at zone_count (reference_point c.args.reference) c.args.even c.args.odd c.args.newest_odd _ _ even odd ∙ found zone_count _ _ _ (sym c.is_latitude.ensures ∙ c.if-not-is_latitude.false) (sym c.is_latitude-else-not-is_latitude.ensures ∙ c.if-not-is_latitude-2.false) (sym count ∙ sym (eqb-true _ _ (sym tested ∙ c.if-not-has_zones.false))) in
    let index_2 : FitsSigned w64 c.zone_index-index-2.result = search rules in
    let lat : c.if-newest_odd.bin.0 ≡ (if c.args.newest_odd then c.decoded_near-odd_lat.result else c.decoded_near-even_lat.result) =
    elim c.if-newest_odd.branch [
      | then-newest_odd w ↦ rw w.if-newest_odd.true (ap (λ v. v.0) w.bin-is)
      | else-newest_odd w ↦ rw w.if-newest_odd.false (ap (λ v. v.0) w.bin-is)
    ] in
    let bin : c.if-newest_odd.bin.1 ≡ (if c.args.newest_odd then c.args.odd.lon else c.args.even.lon) =
    elim c.if-newest_odd.branch [
      | then-newest_odd w ↦ rw w.if-newest_odd.true (ap (λ v. v.1) w.bin-is)
      | else-newest_odd w ↦ rw w.if-newest_odd.false (ap (λ v. v.1) w.bin-is)
    ] in
    let is = made_is (longitude_near (reference_angle c.args.reference.lon)) zone_count c.args.even c.args.odd c.args.newest_odd c.decoded_near-even_lat.result c.decoded_near-odd_lat.result _ c.without_turns.result c.zones-count.result c.longitude_zones.result _ c.zone_index-index-2.result
    lat bin count index_2 c.zone_index-index-2.ensures c.longitude_zones.ensures (c.without_turns.ensures.value ∙ ap without_turns (cast_near c.args.reference.lon _ _ _ _ (search rules) c.decoded_near-lon.ensures.value)) in
    ap (λ (p : Position). Some p) is ∙ sym position
