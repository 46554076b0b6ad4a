use Rattle.std.specs.Prelude.{◌≡◌, ◌∷◌, ◌++◌, All, List, Result, is_some, length, map, true}
use Rattle.std.specs.Vec.Iter.{into_iter_items}
use Rattle.station_lines.specs.declared.pumping.PumpFault.{PumpFault}
use Rattle.station_lines.specs.declared.tally.Tally.{Tally}
use Rattle.messages.specs.Sums.{AddsAll}
use Rattle.station_run.proofs.stage.ending.part.Given as goal

-- the seats, the inputs and the sums so far, and what is left
abbrev pub invariant-loop-receiver : goal.invariant-loop-receiver
invariant-loop-receiver g l = record {
  seats : l.seats.items ++ map (λ r. r.seat) (into_iter_items l.receiver-iterator.a) ≡ l.fn.reporter ∷ map (λ r. r.seat) l.fn.receivers.items;
  inputs : l.inputs.items ++ map (λ r. r.source) (into_iter_items l.receiver-iterator.a) ≡ map (λ r. r.source) l.fn.receivers.items;
  many : length (into_iter_items l.receiver-iterator.a) ≡ length (into_iter_items l.receiver-iterator.b);
  answered : All (λ r. is_some r.answer ≡ true) (into_iter_items l.receiver-iterator.a);
  sums : (rest : List (Result Tally PumpFault)) → AddsAll (into_iter_items l.receiver-iterator.b) (map (λ r. r.answer) (into_iter_items l.receiver-iterator.a)) rest
      → AddsAll l.fn.before.items (map (λ r. r.answer) l.fn.receivers.items) (l.answers.items ++ rest);
}
