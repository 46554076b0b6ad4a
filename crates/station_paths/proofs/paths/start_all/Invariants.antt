use Rattle.std.specs.Prelude.{◌≡◌, ◌+◌, ◌++◌, All, List, length, map}
use Rattle.std.specs.String.{string_bytes}
use Rattle.std.specs.Vec.Iter.{into_iter_items}
use Rattle.station_portions.specs.Giving.{state_of}
use Rattle.streams.specs.Source.{SourceState}
use Rattle.station_portions.specs.declared.finished_path.WholePath.{WholePath}
use Rattle.station_paths.specs.declared.opened.Opened.{Opened}
use Rattle.station_paths.proofs.Common.{AreFed, path_of, HasNoLines}
use Rattle.station_paths.proofs.paths.start_all.Given as goal

-- an input that comes from each file so far, and an answer without lines
abbrev pub invariant-loop-file : goal.invariant-loop-file
invariant-loop-file g l = record {
  inputs : length l.inputs.items + length (into_iter_items l.file-iterator) ≡ length l.fn.files.items;
  fed : (promises : List (WholePath Opened)) (rest : List SourceState) → AreFed (map (λ f. path_of f.opened) (into_iter_items l.file-iterator)) promises rest
      → AreFed (map (λ f. path_of f.opened) l.fn.files.items) (map (λ t. t.handle.promise) l.threads.items ++ promises) (map state_of l.inputs.items ++ rest);
  named : map (λ t. string_bytes t.path.now) l.threads.items ++ map (λ f. string_bytes f.path.now) (into_iter_items l.file-iterator) ≡ map (λ f. string_bytes f.path.now) l.fn.files.items;
  answers : length l.answers.items ≡ length l.inputs.items;
  none : All HasNoLines l.answers.items;
}
