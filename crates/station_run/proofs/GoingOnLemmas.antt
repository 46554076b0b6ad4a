-- Whether a further station has something to do.
use Rattle.std.proofs.Common.{◌≡◌, ◌∷◌, ◌||◌, Bool, true, List, [], Option, Some, Result, ap, ap₂, map, not, refl, rules, ◌&&◌}
use Rattle.std.specs.List.{list_any}
use Rattle.std.specs.Option.{option_map_or}
use Rattle.station_portions.specs.Giving.{state_of}
use Rattle.station_portions.specs.declared.portions.Portions.{Portions}
use Rattle.station_lines.specs.declared.pumping.PumpFault.{PumpFault}
use Rattle.station_lines.specs.declared.tally.Tally.{Tally}
use Rattle.station_run.proofs.Common.{ends_run, is_open, may_go_on, may_work_on}

any-open : {W R : Type 0} (source : W → Portions R) (ws : List W) → list_any (λ w. is_open (state_of (source w))) ws ≡ list_any is_open (map state_of (map source ws))
any-open source [] = refl
any-open source (w ∷ ws) = ap (λ b. is_open (state_of (source w)) || b) (any-open source ws)

any-ended : {W : Type 0} (answer : W → Option (Result Tally PumpFault)) (ws : List W) (counted : List (Result Tally PumpFault)) → map answer ws ≡ map Some counted
    → list_any (λ w. option_map_or ends_run (answer w) true) ws ≡ list_any ends_run counted
any-ended answer [] [] same = refl
any-ended answer [] (c ∷ counted) same = absurd (search rules)
any-ended answer (w ∷ ws) [] same = absurd (search rules)
any-ended answer (w ∷ ws) (c ∷ counted) same =
    let first : answer w ≡ Some c = cc (same) in
    let rest : map answer ws ≡ map Some counted = cc (same) in
    ap₂ (λ (a b : Bool). a || b) (ap (λ o. option_map_or ends_run o true) first) (any-ended answer ws counted rest)

-- workers that have these answers
pub work-on : {W R : Type 0} (source : W → Portions R) (answer : W → Option (Result Tally PumpFault)) (ws : List W) (counted : List (Result Tally PumpFault)) → map answer ws ≡ map Some counted
    → may_work_on (λ w. state_of (source w)) answer ws ≡ may_go_on (map state_of (map source ws)) counted
work-on source answer ws counted same = ap₂ (λ (a b : Bool). not a && b) (any-ended answer ws counted same) (any-open source ws)
