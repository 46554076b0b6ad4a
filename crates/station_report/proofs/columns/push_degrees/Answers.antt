use Rattle.std.proofs.Common.{◌≡◌, unsigned_abs, rules}
use Rattle.std.specs.Int.{is_negative}
use Rattle.station_report.specs.Text.{degrees_text}
use Rattle.station_report.proofs.DegreeLemmas.{whole_is, part_is}
use Rattle.station_report.proofs.columns.push_degrees.Goals as goal

pub returns-clause-items : goal.returns-clause-items
unfolding degrees_text
returns-clause-items g c =
    let d = c.args.degrees in
    let m = unsigned_abs d.num in
    let whole = whole_is m d.den c.requires.whole in
    let part = part_is m d.den c.requires.whole in
    let magnitude : c.unsigned_abs-magnitude.result ≡ m = search rules in
    let sign : c.is_negative.result ≡ is_negative d.num = search rules in
    rw (whole, part, ← sign, ← magnitude, ← c.from-den.ensures) c.push_parts.ensures.items
