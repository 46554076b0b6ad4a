-- What a call of a generic function asks beside its clauses: that its types fit in memory, and that no lifetime is missing.
use Rattle.std.proofs.Common.{ℕ, ◌<◌, ◌^◌, List, [], arith}
use mathlib.Core.List.{Mem, not-mem-nil}
use denote.Param.{layout, number, param}
use prog.Memory.{size}
use Rattle.station_book.specs.contracts.book.Book as book
use Rattle.station_desk.specs.contracts.published.PublishedTable as published

-- nothing is in an empty list. `search none_within` takes the sizes from what the caller was asked, as they are written
-- there; without it a search computes them anew
pub none_within : (xs : List ℕ) (a : ℕ) → Mem a [] → Mem a xs
none_within xs a m = absurd (not-mem-nil m)

-- a book of so few aircraft fits in memory
pub book_fits : (n : ℕ) → n < 2 ^ 32 → size (layout (book.the_row (param 0 (number n)))) < 2 ^ 63
book_fits n few = omega arith

-- so does a copy of it
pub copy_fits : (n : ℕ) → n < 2 ^ 32 → size (layout (published.the_row (param 0 (number n)))) < 2 ^ 63
copy_fits n few = omega arith

-- where a copy fits, its book does
pub book_in_copy : (n : ℕ) → size (layout (published.the_row (param 0 (number n)))) < 2 ^ 63 → size (layout (book.the_row (param 0 (number n)))) < 2 ^ 63
book_in_copy n fits = omega arith
