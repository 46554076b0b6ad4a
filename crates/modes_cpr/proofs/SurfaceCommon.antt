-- The words of surface places that proofs cite most, passed on from one place. Declares nothing.
pub use Rattle.modes_cpr.specs.Surface.{fine_bins, nearest_to, reference_angle, reference_point, rounded_surface_latitude, surface_angle, surface_place_at, surface_position_of}
unfoldable pub use Rattle.modes_cpr.specs.Surface.{decoded_near, fine_bin_of, quarters_to, surface_place_by, surface_position_by, without_turns}
pub use Rattle.modes_cpr.specs.SurfaceLaws.{IsLatitudeBy, IsLongitudeBy, IsNear, IsWithin44, IsWithin44Round, IsWithinHalfSurfaceBin, IsWithinHalfSurfaceBinRound, SurfaceMoving, SurfaceNear, SurfaceRoundTrip, surface_zones_at}
pub use Rattle.modes_cpr.specs.declared.points.Reference.{Reference}
