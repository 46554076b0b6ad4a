use Rattle.std.proofs.Common.{rules, ◌≡◌, ◌∙◌, is_some, sym, true}
use Rattle.station_portions.specs.Giving.{given_bytes, taken_messages, ungiven_bytes}
use Rattle.station_portions.proofs.RingLemmas.{still_pair}
use Rattle.station_portions.proofs.WholeLemmas.{gave_path, over_gave}
use Rattle.station_portions.proofs.portions.Portions.gave_path.Goals as goal

pub gave_all-requires : goal.gave_all-requires
gave_all-requires g c = still_pair c.args.path.promise.reader.value.messages c.join-finished.result.messages c.args.self.now.messages c.join-finished.ensures.0 c.requires.ring

pub returns-clause-path : goal.returns-clause-path
returns-clause-path g c = λ yes.
    let now = c.gave_all.new.self in
    gave_path _ _ c.args.path.promise.reader.value.messages c.join-finished.result.messages _ c.args.self.now.end (taken_messages now) (given_bytes now)
    c.join-finished.ensures c.requires.new (sym c.gave_all.ensures.end ∙ now.ended) (c.gave_all.ensures.all yes)

pub returns-clause-goes_on : goal.returns-clause-goes_on
returns-clause-goes_on g c = λ no.
    let now = c.gave_all.new.self in
    let over : is_some now.end ≡ true = search (rules, c.is_none.ensures, c.if-is_none.false, c.gave_all.ensures.end) in
    absurd (over_gave _ _ c.args.path.promise.reader.value.messages c.join-finished.result.messages _ now.end (taken_messages now) (ungiven_bytes now)
    c.join-finished.ensures c.requires.new now.ended over now.over (c.gave_all.ensures.rest no))
