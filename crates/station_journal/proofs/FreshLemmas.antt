-- Values with their times: how they age, and when two show the same from some time on.
use Rattle.std.proofs.Common.{◌≡◌, ℕ, ◌+◌, ◌-◌, ◌≤◌, Option, Some, None, refl, sym, arith}
use Rattle.std.proofs.lemmas.Bool.Decides.{nat_tests}
use Rattle.station_journal.proofs.Common.{Stamped, or_older, fresh, fresh_moment, AgreeFrom}

module _ {V : Type 0} where
  -- a value that is too old stays too old
  pub fresh_stays_none : (limit now later : ℕ) (s : Option (Stamped V)) → now ≤ later → fresh limit now s ≡ None → fresh limit later s ≡ None
  fresh_stays_none limit now later None le old = refl
  fresh_stays_none limit now later (Some s) le old = grind (arith, nat_tests)

  -- a value too old for a limit is too old for a smaller one
  pub fresh_none_below : (small limit now : ℕ) (s : Option (Stamped V)) → small ≤ limit → fresh limit now s ≡ None → fresh small now s ≡ None
  fresh_none_below small limit now None le old = refl
  fresh_none_below small limit now (Some s) le old = grind (arith, nat_tests)

  pub agree_later : (limit now later : ℕ) (kept found : Option (Stamped V)) → now ≤ later → AgreeFrom limit now kept found → AgreeFrom limit later kept found
  agree_later limit now later kept found le agree after le' = agree after (omega arith)

  -- a newer value replaces both
  pub agree_newer : (limit now : ℕ) (newer kept found : Option (Stamped V)) → AgreeFrom limit now kept found → AgreeFrom limit now (or_older newer kept) (or_older newer found)
  agree_newer limit now None kept found agree later le = agree later le
  agree_newer limit now (Some s) kept found agree later le = refl

  -- no value shows the same as one that is too old
  pub agree_none : (limit now : ℕ) (found : Option (Stamped V)) → fresh limit now found ≡ None → AgreeFrom limit now None found
  agree_none limit now found old later le = sym (fresh_stays_none limit now later found le old)

  -- a value that is shown is shown until its time and the limit
  no_later : (limit now : ℕ) (s t : Stamped V) → now - s.at ≤ limit → AgreeFrom limit now (Some s) (Some t) → s.at ≤ t.at
  no_later limit now s t shown agree = let last = agree (s.at + limit) (omega arith) in grind (arith, nat_tests)

  -- two values that show the same from now on are of the same time, if they are shown
  pub moments_agree : (limit now : ℕ) (kept found : Option (Stamped V)) → AgreeFrom limit now kept found → fresh_moment limit now kept ≡ fresh_moment limit now found
  moments_agree limit now None None agree = refl
  moments_agree limit now None (Some t) agree = let here = agree now (omega arith) in grind (arith, nat_tests)
  moments_agree limit now (Some s) None agree = let here = agree now (omega arith) in grind (arith, nat_tests)
  moments_agree limit now (Some s) (Some t) agree =
      let here = agree now (omega arith) in
      grind (arith, nat_tests, λ (shown : now - s.at ≤ limit). no_later limit now s t shown agree, λ (shown : now - t.at ≤ limit). no_later limit now t s shown (λ later le. sym (agree later le)))
