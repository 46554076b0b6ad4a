-- Known codes and frames, by computing the definitions.
use Rattle.std.proofs.Common.{◌≡◌, refl, Some, None, [], ◌∷◌, pos, negsuc, true, false, codes}
use Rattle.modes_frame.specs.Frames.{bit_of, byte_bits, df_of}
use Rattle.modes_fields.proofs.Common.{number, field, code_bits, me_of, altitude13_of, altitude12_of, altitude, altitude_code, gray_number, callsign_in_code, characters_of, character_of, without_end_spaces}
use Rattle.modes_fields.specs.Identity.{squawk_of_code}
use Rattle.modes_fields.specs.Categories.{category_in}
use Rattle.modes_fields.specs.Emergencies.{emergency_in}
use Rattle.modes_fields.specs.Velocities.{velocity_in, vertical_in, rate_source_in, ground_of, air_of}
use Rattle.modes_fields.specs.Places.{place_in}
use Rattle.modes_fields.specs.Surfaces.{movement_speed, track_in, surface_velocity_in, surface_in}
use Rattle.modes_fields.specs.Carried.{fields_of, message_fields, no_fields}
use Rattle.modes_fields.specs.declared.velocity.Velocity.TheVariants.{Ground, Air, Surface}
use Rattle.modes_fields.specs.declared.velocity.RateSource.TheVariants.{Gnss, Barometric}
use Rattle.modes_fields.specs.declared.category.CategorySet.TheVariants.{A}
use Rattle.modes_fields.specs.declared.emergency.Emergency.TheVariants.{NoEmergency}

squawk_0356 : squawk_of_code 0x116D ≡ 238
unfolding squawk_of_code code_bits bit_of number
squawk_0356 = refl

squawk_7700 : squawk_of_code 0x0AAA ≡ 4032
unfolding squawk_of_code code_bits bit_of number
squawk_7700 = refl

callsign_klm1023 : callsign_in_code 0x2CC371C32CE0 ≡ Some (codes "KLM1023")
unfolding callsign_in_code characters_of character_of without_end_spaces code_bits field number
callsign_klm1023 = refl

eight_spaces : callsign_in_code 0x820820820820 ≡ None
unfolding callsign_in_code characters_of character_of without_end_spaces code_bits field number
eight_spaces = refl

-- KLM1023
frame_with_callsign : fields_of (0x8D ∷ 0x48 ∷ 0x40 ∷ 0xD6 ∷ 0x20 ∷ 0x2C ∷ 0xC3 ∷ 0x71 ∷ 0xC3 ∷ 0x2C ∷ 0xE0 ∷ 0x57 ∷ 0x60 ∷ 0x98 ∷ [])
    ≡ record no_fields { callsign = Some (codes "KLM1023") }
unfolding fields_of message_fields df_of callsign_in_code characters_of character_of without_end_spaces category_in emergency_in velocity_in vertical_in rate_source_in ground_of air_of place_in altitude12_of altitude13_of altitude altitude_code gray_number squawk_of_code code_bits field number me_of byte_bits bit_of
frame_with_callsign = refl

-- altitude and place
frame_with_place : fields_of (0x8D ∷ 0x40 ∷ 0x62 ∷ 0x1D ∷ 0x58 ∷ 0xC3 ∷ 0x82 ∷ 0xD6 ∷ 0x90 ∷ 0xC8 ∷ 0xAC ∷ 0x28 ∷ 0x63 ∷ 0xA7 ∷ [])
    ≡ record no_fields { altitude = Some (pos 38000); place = Some (record { odd = false; lat = 93000; lon = 51372 }) }
unfolding fields_of message_fields df_of callsign_in_code characters_of character_of without_end_spaces category_in emergency_in velocity_in vertical_in rate_source_in ground_of air_of place_in altitude12_of altitude13_of altitude altitude_code gray_number squawk_of_code code_bits field number me_of byte_bits bit_of
frame_with_place = refl

-- a ground velocity
frame_with_ground_velocity : fields_of (0x8D ∷ 0x48 ∷ 0x50 ∷ 0x20 ∷ 0x99 ∷ 0x44 ∷ 0x09 ∷ 0x94 ∷ 0x08 ∷ 0x38 ∷ 0x17 ∷ 0x5B ∷ 0x28 ∷ 0x4F ∷ [])
    ≡ record no_fields { velocity = Some (Ground (negsuc 7) (negsuc 158)); vertical = Some (negsuc 831); rate_source = Some Gnss }
unfolding fields_of message_fields df_of callsign_in_code characters_of character_of without_end_spaces category_in emergency_in velocity_in vertical_in rate_source_in ground_of air_of place_in altitude12_of altitude13_of altitude altitude_code gray_number squawk_of_code code_bits field number me_of byte_bits bit_of
frame_with_ground_velocity = refl

-- an airspeed
frame_with_airspeed : fields_of (0x8D ∷ 0xA0 ∷ 0x5F ∷ 0x21 ∷ 0x9B ∷ 0x06 ∷ 0xB6 ∷ 0xAF ∷ 0x18 ∷ 0x94 ∷ 0x00 ∷ 0xCB ∷ 0xC3 ∷ 0x3F ∷ [])
    ≡ record no_fields { velocity = Some (Air 694 true 375); vertical = Some (negsuc 2303); rate_source = Some Barometric }
unfolding fields_of message_fields df_of callsign_in_code characters_of character_of without_end_spaces category_in emergency_in velocity_in vertical_in rate_source_in ground_of air_of place_in altitude12_of altitude13_of altitude altitude_code gray_number squawk_of_code code_bits field number me_of byte_bits bit_of
frame_with_airspeed = refl

-- a short frame with a squawk
frame_with_squawk : fields_of (0x2A ∷ 0x00 ∷ 0x51 ∷ 0x6D ∷ 0x49 ∷ 0x2B ∷ 0x80 ∷ [])
    ≡ record no_fields { squawk = Some 238 }
unfolding fields_of message_fields df_of callsign_in_code characters_of character_of without_end_spaces category_in emergency_in velocity_in vertical_in rate_source_in ground_of air_of place_in altitude12_of altitude13_of altitude altitude_code gray_number squawk_of_code code_bits field number me_of byte_bits bit_of
frame_with_squawk = refl

-- a surface position: 17 knots, track 33/128 of a turn, and a place
frame_on_the_ground : fields_of (0x8C ∷ 0x48 ∷ 0x41 ∷ 0x75 ∷ 0x3A ∷ 0x9A ∷ 0x15 ∷ 0x32 ∷ 0x37 ∷ 0xAE ∷ 0xF0 ∷ 0xF2 ∷ 0x75 ∷ 0xBE ∷ [])
    ≡ record no_fields { surface = Some (record { velocity = Some (Surface 136 (Some 33)); place = record { odd = true; lat = 39195; lon = 110320 } }) }
unfolding fields_of message_fields df_of callsign_in_code characters_of character_of without_end_spaces category_in emergency_in velocity_in vertical_in rate_source_in ground_of air_of surface_in surface_velocity_in movement_speed track_in place_in altitude12_of altitude13_of altitude altitude_code gray_number squawk_of_code code_bits field number me_of byte_bits bit_of
frame_on_the_ground = refl

-- an identification of a large aircraft, A3
frame_with_category : fields_of (0x8D ∷ 0x48 ∷ 0x40 ∷ 0xD6 ∷ 0x23 ∷ 0x2C ∷ 0xC3 ∷ 0x71 ∷ 0xC3 ∷ 0x2C ∷ 0xE0 ∷ 0xC6 ∷ 0x3B ∷ 0xD3 ∷ [])
    ≡ record no_fields { callsign = Some (codes "KLM1023"); category = Some (record { set = A; number = 3 }) }
unfolding fields_of message_fields df_of callsign_in_code characters_of character_of without_end_spaces category_in emergency_in velocity_in vertical_in rate_source_in ground_of air_of place_in altitude12_of altitude13_of altitude altitude_code gray_number squawk_of_code code_bits field number me_of byte_bits bit_of
frame_with_category = refl

-- the status of an aircraft without an emergency
frame_with_status : fields_of (0x8D ∷ 0xA2 ∷ 0xC1 ∷ 0xB6 ∷ 0xE1 ∷ 0x12 ∷ 0xB6 ∷ 0x00 ∷ 0x00 ∷ 0x00 ∷ 0x00 ∷ 0x76 ∷ 0x07 ∷ 0x59 ∷ [])
    ≡ record no_fields { emergency = Some NoEmergency }
unfolding fields_of message_fields df_of callsign_in_code characters_of character_of without_end_spaces category_in emergency_in velocity_in vertical_in rate_source_in ground_of air_of place_in altitude12_of altitude13_of altitude altitude_code gray_number squawk_of_code code_bits field number me_of byte_bits bit_of
frame_with_status = refl
