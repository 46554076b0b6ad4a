use Rattle.std.proofs.Common.{◌+◌, ◌-◌, ◌*◌, ◌≤◌, length, get_or, sym, ◌∙◌, arith, nat_le, count_by, eq-eqb, ne_eqb}
use Rattle.std.proofs.lemmas.List.Sums.{count_by-le-length}
use Rattle.modes_cpr.proofs.RisingLemmas.{count_from_entry, count_past_entry, decides_equal}
use Rattle.modes_cpr.proofs.transitions.is_count_from.Goals as goal
use Rattle.modes_cpr.proofs.transitions.is_count_from.Goals.{else-place-gt0-via-then-place-gt0+else-table-place, else-place-gt0-via-else-place-gt0}

pub returns-then-table-place : goal.returns-then-table-place
returns-then-table-place c =
    let least = count_from_entry c.args.latitude c.args.den c.args.table.now ((length c.args.table.now + 1 - c.args.count) - 1) c.requires.rises (λ h. c.if-table-place.true) in
    sym (ne_eqb (1 + count_by (λ t. nat_le c.args.latitude (t * c.args.den)) c.args.table.now) c.args.count (λ e. omega (arith, least, e)))

pub returns-then-place-table : goal.returns-then-place-table
returns-then-place-table c =
    let most : count_by (λ t. nat_le c.args.latitude (t * c.args.den)) c.args.table.now + (length c.args.table.now + 1 - c.args.count) ≤ length c.args.table.now = elim c.else-place-gt0.branch [
      | else-place-gt0-via-then-place-gt0+else-table-place w ↦
          let past = count_past_entry c.args.latitude c.args.den c.args.table.now ((length c.args.table.now + 1 - c.args.count) - 1) c.requires.rises (omega arith) w.if-table-place.false in
          omega (arith, past)
      | else-place-gt0-via-else-place-gt0 w ↦ omega (arith, count_by-le-length (λ t. nat_le c.args.latitude (t * c.args.den)) c.args.table.now)
    ] in
    eq-eqb (length c.args.table.now + 1 - c.args.count) (length c.args.table.now) c.if-place-table.true ∙ sym (eq-eqb (1 + count_by (λ t. nat_le c.args.latitude (t * c.args.den)) c.args.table.now) c.args.count (omega (arith, most)))

pub returns-else-place-table : goal.returns-else-place-table
returns-else-place-table c =
    let most : count_by (λ t. nat_le c.args.latitude (t * c.args.den)) c.args.table.now + (length c.args.table.now + 1 - c.args.count) ≤ length c.args.table.now = elim c.else-place-gt0.branch [
      | else-place-gt0-via-then-place-gt0+else-table-place w ↦
          let past = count_past_entry c.args.latitude c.args.den c.args.table.now ((length c.args.table.now + 1 - c.args.count) - 1) c.requires.rises (omega arith) w.if-table-place.false in
          omega (arith, past)
      | else-place-gt0-via-else-place-gt0 w ↦ omega (arith, count_by-le-length (λ t. nat_le c.args.latitude (t * c.args.den)) c.args.table.now)
    ] in
    decides_equal c.args.latitude (get_or c.args.table.now (length c.args.table.now + 1 - c.args.count) 0 * c.args.den) (1 + count_by (λ t. nat_le c.args.latitude (t * c.args.den)) c.args.table.now) c.args.count
    (λ h. let least = count_from_entry c.args.latitude c.args.den c.args.table.now (length c.args.table.now + 1 - c.args.count) c.requires.rises (λ lt. h) in omega (arith, most, least))
    (λ h e. let past = count_past_entry c.args.latitude c.args.den c.args.table.now (length c.args.table.now + 1 - c.args.count) c.requires.rises (omega arith) h in omega (arith, past, e))
