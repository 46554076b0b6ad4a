use Rattle.std.proofs.Common.{◌≡◌, ◌/◌, ◌++◌, refl, ap, ◌∙◌, append_assoc, codes, w16, decimal}
use Rattle.std.proofs.lemmas.Int.{to_z-of_z}
use Rattle.station_report.specs.Motion.{speed_tenths, track}
use Rattle.station_report.specs.Json.{ground, tenths, if_known, track_member}
use Rattle.station_report.proofs.MemberLemmas.{two_members, then_text}
use Rattle.station_report.proofs.json.members.push_ground.Goals as goal

pub returns-clause-items : goal.returns-clause-items
unfolding ground
returns-clause-items c =
    let old = c.args.object.now.items in
    let knots = speed_tenths c.args.east c.args.north in
    let degrees = track c.args.east c.args.north in
    let speed : c.speed_tenths-speed.result ≡ knots = rw (to_z-of_z w16 c.args.east c.ranges.east, to_z-of_z w16 c.args.north c.ranges.north) at c.speed_tenths-speed.ensures in
    let track_is : c.track.result ≡ degrees = rw (to_z-of_z w16 c.args.east c.ranges.east, to_z-of_z w16 c.args.north c.ranges.north) at c.track.ensures in
    let whole : c.from.result ≡ knots / 10 = c.from.ensures ∙ ap (λ n. n / 10) speed in
    let first = then_text (old ++ codes ",\"gs\":") c.push_text.new.to.items c.push_tenths.new.to.items (tenths c.speed_tenths-speed.result) c.push_tenths.ensures.items c.push_text.ensures.items in
    let second = then_text (c.push_tenths.new.to.items ++ codes ",\"speed\":") c.push_text-2.new.to.items c.push_number.new.to.items (decimal c.from.result) c.push_number.ensures.items c.push_text-2.ensures.items in
    let speeds = codes ",\"gs\":" ++ tenths knots ++ codes ",\"speed\":" ++ decimal (knots / 10) in
    let two : c.push_number.new.to.items ≡ old ++ speeds =
    two_members old c.push_tenths.new.to.items c.push_number.new.to.items (codes ",\"gs\":") (tenths c.speed_tenths-speed.result) (tenths knots) (codes ",\"speed\":") (codes ",\"speed\":") (decimal c.from.result) (decimal (knots / 10))
    (ap tenths speed) refl (ap decimal whole) first second in
    then_text (old ++ speeds) c.push_number.new.to.items c.push_track.new.object.items (if_known track_member degrees)
    (c.push_track.ensures.items ∙ ap (λ d. c.push_number.new.to.items ++ if_known track_member d) track_is) two
    ∙ append_assoc old speeds (if_known track_member degrees)
