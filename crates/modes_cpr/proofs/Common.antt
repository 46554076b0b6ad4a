-- The words that proofs of this crate and of those above it cite most, passed on from one place. Declares nothing.
pub use Rattle.modes_cpr.specs.Encoding.{place_at, rounded_latitude, sent_bin}
unfoldable pub use Rattle.modes_cpr.specs.Encoding.{bin_of, place_by, zone_of}
pub use Rattle.modes_cpr.specs.Floor.{modulo}
unfoldable pub use Rattle.modes_cpr.specs.Floor.{floor}
pub use Rattle.modes_cpr.specs.Laws.{IsDecidedByLatitude, IsLatitude, IsPairable, IsPairableRound, IsWithinHalfBin, IsWithinHalfBinRound, IsZoneCount, Moving, Near, RoundTrip, zones_at}
pub use Rattle.modes_cpr.specs.Pair.{IsWhole, angle, bins, is_latitude, latitude_zones, longitude_zones, position_of, wrapped_angle}
unfoldable pub use Rattle.modes_cpr.specs.Pair.{decoded_angle, position_by, zone_index}
unfoldable pub use Rattle.modes_cpr.specs.Zones.{transitions, zone_count}
pub use Rattle.modes_cpr.specs.declared.points.Degrees.{Degrees}
pub use Rattle.modes_cpr.specs.declared.points.Position.{Position}
