-- The columns of a row's line.
use Rattle.std.specs.Prelude.{◌≡◌, ℕ, ◌+◌, ◌-◌, ◌/◌, List, [], ◌∷◌, length, take, drop}
use Rattle.std.specs.Fmt.{decimal, signed_decimal}
use Rattle.station_journal.specs.declared.aircraft.Aircraft.{Aircraft}
use Rattle.station_report.specs.Text.{right, left, or_dash, address_text, callsign_text, altitude_text, squawk_text, velocity_text, latitude_text, longitude_text}

-- bytes first to last of a line, counted from 1
abbrev pub column : ℕ → ℕ → List ℕ → List ℕ
column first last line = take (last + 1 - first) (drop (first - 1) line)

-- 73 bytes and a line feed: nine columns, each with the text of its field, and a space between two
pub record IsLaidOut (now : ℕ) (row : Aircraft) (line : List ℕ) : Type 0 where
  pub size : length line ≡ 74
  pub address : column 1 6 line ≡ address_text row.address
  pub space_7 : column 7 7 line ≡ 32 ∷ []
  pub callsign : column 8 15 line ≡ left 8 (or_dash callsign_text row.callsign)
  pub space_16 : column 16 16 line ≡ 32 ∷ []
  pub altitude : column 17 22 line ≡ right 6 (altitude_text row.on_ground row.altitude)
  pub space_23 : column 23 23 line ≡ 32 ∷ []
  pub squawk : column 24 27 line ≡ right 4 (or_dash squawk_text row.squawk)
  pub space_28 : column 28 28 line ≡ 32 ∷ []
  pub velocity : column 29 40 line ≡ right 12 (or_dash velocity_text row.velocity)
  pub space_41 : column 41 41 line ≡ 32 ∷ []
  pub vertical : column 42 47 line ≡ right 6 (or_dash signed_decimal row.vertical)
  pub space_48 : column 48 48 line ≡ 32 ∷ []
  pub latitude : column 49 58 line ≡ right 10 (or_dash latitude_text row.position)
  pub space_59 : column 59 59 line ≡ 32 ∷ []
  pub longitude : column 60 69 line ≡ right 10 (or_dash longitude_text row.position)
  pub space_70 : column 70 70 line ≡ 32 ∷ []
  pub age : column 71 73 line ≡ right 3 (decimal ((now - row.heard) / 1000))
  pub line_feed : column 74 74 line ≡ 10 ∷ []
