use Rattle.std.proofs.Common.{◌≡◌, length, take, map, string_bytes}
use Rattle.station_paths.specs.Inputs.{path_of}
use Rattle.station_paths.proofs.paths.open_all.Given as goal

-- the files so far, in the order of their paths
abbrev pub invariant-loop-path : goal.invariant-loop-path
invariant-loop-path g l = record {
  opened : map (λ f. path_of f.opened) l.files.items ≡ map string_bytes (take l.path-index l.paths.items);
  named : map (λ f. string_bytes f.path.now) l.files.items ≡ map string_bytes (take l.path-index l.paths.items);
  many : length l.files.items ≡ l.path-index;
}
