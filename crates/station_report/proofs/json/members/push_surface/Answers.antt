use Rattle.std.proofs.Common.{◌≡◌, ◌*◌, ◌/◌, ◌++◌, ap, ◌∙◌, append_assoc, codes, rules, decimal, refl}
use Rattle.std.specs.Option.{option_map}
use Rattle.station_report.specs.Text.{ground_track}
use Rattle.station_report.specs.Json.{surface, tenths, if_known, track_member}
use Rattle.station_report.proofs.MemberLemmas.{two_members, then_text}
use Rattle.station_report.proofs.json.members.push_surface.Goals as goal

pub returns-clause-items : goal.returns-clause-items
unfolding surface
returns-clause-items c =
    let old = c.args.object.now.items in
    let part : c.from.result * 10 / 8 ≡ c.args.speed * 10 / 8 = search rules in
    let whole : c.from-2.result ≡ c.args.speed / 8 = search rules in
    let first = then_text _ _ _ _ c.push_tenths.ensures.items c.push_text.ensures.items in
    let second = then_text _ _ _ _ c.push_number.ensures.items c.push_text-2.ensures.items in
    let speeds = codes ",\"gs\":" ++ tenths (c.args.speed * 10 / 8) ++ codes ",\"speed\":" ++ decimal (c.args.speed / 8) in
    let two : c.push_number.new.to.items ≡ old ++ speeds = two_members _ _ _ _ _ _ _ _ _ _ (ap tenths part) refl (ap decimal whole) first second in
    then_text (old ++ speeds) c.push_number.new.to.items c.push_track.new.object.items (if_known track_member (option_map ground_track c.args.track))
    (c.push_track.ensures.items ∙ ap (λ d. c.push_number.new.to.items ++ if_known track_member d) c.degrees.ensures) two
    ∙ append_assoc old speeds (if_known track_member (option_map ground_track c.args.track))
