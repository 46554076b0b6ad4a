-- One more seat that has seen no more than its station began with.
use Rattle.std.proofs.Common.{◌≡◌, ℕ, ◌+◌, ◌-◌, ◌<◌, ◌≤◌, Bool, true, false, cond, not, nat_lt, List, [], ◌∷◌, ◌++◌, length, refl, sym, ap, ◌∙◌, add-one, arith}
use Rattle.std.proofs.lemmas.Bool.Decides.{nat_tests}
use Rattle.station_journal.specs.declared.entry.Entry.{Entry}
use Rattle.station_journal.specs.declared.limits.Limits.{Limits}
use Rattle.station_journal.specs.Log.{Log, resumed_log}
use Rattle.station_history.proofs.Common.{Name, base_of, Start, log_of}
use Rattle.station_desk.proofs.Common.{start_at}
use Rattle.station_shared.specs.Seats.{new_seat, new_seats, newcomer, newcomers}

pub new_seats_more : (entries : List Entry) (blind n : ℕ) → new_seats entries blind n ++ new_seat entries (not (nat_lt n blind)) n ∷ [] ≡ new_seats entries blind (n + 1)
new_seats_more entries blind n = ap (new_seats entries blind) (sym (add-one n))

-- the places are given to the last seats
pub has_next : (seats places number left len : ℕ) → places ≤ seats → number < seats → left ≡ seats - number → len + (places - left) ≡ places → not (nat_lt len left) ≡ not (nat_lt number (seats - places))
has_next seats places number left len few more is given = grind (arith, nat_tests)

-- the places that are left for the seats after it
pub left_next : (seats places number left len now : ℕ) (given : Bool) → places ≤ seats → number < seats → left ≡ seats - number → len + (places - left) ≡ places → given ≡ not (nat_lt len left) → now ≡ len - cond given 1 0
    → now + (places - (seats - (number + 1))) ≡ places
left_next seats places number left len now true few more is so_far given after =
    let enough : left ≤ len = grind (arith, nat_tests) in
    omega (arith, few, more, is, so_far, after, enough)
left_next seats places number left len now false few more is so_far given after =
    let short : len < left = grind (arith, nat_tests) in
    omega (arith, few, more, is, so_far, after, short)

-- where there is one place, the last seat has it
pub one_place : (entries : List Entry) (n : ℕ) → new_seats entries n (n + 1) ≡ newcomers entries n ++ newcomer entries n ∷ []
one_place entries n =
    let last : not (nat_lt n n) ≡ true = grind (arith, nat_tests) in
    sym (new_seats_more entries n n) ∙ ap (λ (can_look : Bool). newcomers entries n ++ new_seat entries can_look n ∷ []) last

-- a start by its parts
pub same_start : (start : Start) (history : Name) (limits : Limits) (resumed : ℕ) → start.history ≡ history → start.resumed ≡ resumed → limits ≡ start.limits → start_at history (record { limits = limits; resumed = resumed }) ≡ start
same_start start history limits resumed h r l =
    ap (λ (x : Name). start_at x (record { limits = limits; resumed = resumed })) (sym h)
    ∙ ap (λ (x : Limits). start_at start.history (record { limits = x; resumed = resumed })) l
    ∙ ap (λ (k : ℕ). start_at start.history (record { limits = start.limits; resumed = k })) (sym r)

-- a journal that goes on from these entries is that of a start with their base and number
pub under_start : (start : Start) (limits : Limits) (base : ℕ) (entries : List Entry) (log : Log) → log ≡ resumed_log limits base entries → base_of start.history ≡ base → limits ≡ start.limits → start.resumed ≡ length entries → log ≡ log_of start log.entries
under_start start limits base entries log is at same many =
    let own : resumed_log limits base entries ≡ log_of start entries = rw (at, ← same, many) refl in
    is ∙ (own ∙ ap (λ (l : Log). log_of start l.entries) (sym is))
