-- The words that proofs of this crate and of those above it cite most, passed on from one place. Declares nothing.
pub use Rattle.station_desk.specs.Copies.{CopiesState, brought_up, further_behind, next_shown, opened, turned, with_call}
pub use Rattle.station_desk.specs.Desk.{IsShown, IsTaking, Keeps, PublishedState, origin_in}
pub use Rattle.station_desk.specs.Published.{BeginsWith, Follows, GoesOn, IsOf, IsOfSheet, IsPublished, LegalUnder, Prepared, SawPublished, Sheet, mark_of, sheet, start_at}
pub use Rattle.station_desk.specs.declared.published.Mark.{Mark}
pub use Rattle.station_desk.specs.declared.published.Origin.{Origin}
