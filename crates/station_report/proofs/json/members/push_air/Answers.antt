use Rattle.std.proofs.Common.{◌≡◌, ◌*◌, ◌/◌, ap, rules, decimal}
use Rattle.station_report.specs.Json.{air, tenths}
use Rattle.station_report.proofs.MemberLemmas.{two_members, then_text}
use Rattle.station_report.proofs.json.members.push_air.Goals as goal

pub returns-clause-items : goal.returns-clause-items
unfolding air
returns-clause-items c =
    let heading : c.from.result * 3600 / 1024 ≡ c.args.heading * 3600 / 1024 = search rules in
    let speed : c.from-2.result ≡ c.args.speed = search rules in
    let first = then_text _ _ _ _ c.push_tenths.ensures.items c.push_text.ensures.items in
    let second = then_text _ _ _ _ c.push_number.ensures.items c.push_text-2.ensures.items in
    two_members _ _ _ _ _ _ _ _ _ _ (ap tenths heading) c.airspeed_key.ensures.key (ap decimal speed) first second
