use Rattle.std.proofs.Common.{◌≤◌, is_some, map, string_bytes}
use Rattle.std.specs.Vec.Iter.{into_iter_items}
use Rattle.station_portions.specs.Giving.{state_of}
use Rattle.messages.proofs.Common.{told_of}
use Rattle.station_paths.proofs.Common.{AllTakeFrom}
use Rattle.station_paths.proofs.PathEndLemmas.{EndsSoFar}
use Rattle.station_paths.proofs.path_ends.tell_ends.Given as goal

-- the sources to come take from the threads to come; the paths so far that weren't read to their ends
abbrev pub invariant-loop-input : goal.invariant-loop-input
invariant-loop-input g l = record {
  take : AllTakeFrom (map (λ t. t.handle.promise) (into_iter_items l.input-iterator.b)) (map state_of (into_iter_items l.input-iterator.a));
  most : l.status ≤ 1;
  so_far : EndsSoFar (is_some l.fn.stopped) (λ t. string_bytes t.path.now) (λ t. g.I.Read.remaining t.handle.promise.from.value) l.fn.threads.items (into_iter_items l.input-iterator.b) l.fn.inputs.items (into_iter_items l.input-iterator.a)
      l.fn.before (told_of g.E.Write.contents l.fn.err) (told_of g.E.Write.contents l.err) l.status;
}
