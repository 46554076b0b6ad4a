-- What a call of a method asks beside its clauses: that its type fits in memory.
use Rattle.std.proofs.Common.{ℕ, ◌<◌, ◌^◌, arith}
use denote.Param.{layout, number, param}
use prog.Memory.{size}
use Rattle.station_book.specs.contracts.book.Book as book
use Rattle.station_book.specs.contracts.table.Table as table

-- where a book fits, its table does
pub table_in_book : (n : ℕ) → size (layout (book.the_row (param 0 (number n)))) < 2 ^ 63 → size (layout (table.the_row (param 0 (number n)))) < 2 ^ 63
table_in_book n fits = omega arith
