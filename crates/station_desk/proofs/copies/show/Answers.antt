use Rattle.std.proofs.Common.{ap, ◌∙◌}
use Rattle.station_desk.specs.Copies.{CopiesState}
use Rattle.station_desk.specs.Published.{sheet_of}
use Rattle.station_desk.proofs.PublishRuleLemmas.{turns_at}
use Rattle.station_desk.proofs.copies.show.Goals as goal

pub show_as-requires : goal.show_as-requires
show_as-requires g c =
    let taking = ap (λ (s : CopiesState). s.is_open) c.copies.view_is ∙ c.requires.open in
    let follows = rw (← c.copies.view_is) at c.requires.follows in
    turns_at _ (λ x. sheet_of x) _ _ c.open-open.result.0.shown.value _
    (rw (c.deref_mut.ensures.value, c.open-open.ensures.values.0) (rw taking at follows))
