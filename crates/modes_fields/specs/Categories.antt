-- Emitter categories: ME of type codes 1 to 4 (Doc 9871, register 08; DO-260B 2.2.3.2.5.2).
use Rattle.std.specs.Prelude.{ℕ, ◌==◌, Bool, List, Option, Some, None, if◌then◌else◌}
use Rattle.modes_fields.specs.Bits.{field, type_code}
use Rattle.modes_fields.specs.declared.category.Category.{Category}
use Rattle.modes_fields.specs.declared.category.CategorySet.{CategorySet}
use Rattle.modes_fields.specs.declared.category.CategorySet.TheVariants as set

-- the set of a type code from 1 to 4: they run from D to A
abbrev pub category_set : ℕ → CategorySet
category_set code = if code == 4 then set.A else if code == 3 then set.B else if code == 2 then set.C else set.D

-- the number in bits 6 to 8, within the set of the type code; number 0 says nothing
unfoldable pub category_in : List Bool → Option Category
category_in me = if field 6 8 me == 0 then None else Some (record { set = category_set (type_code me); number = field 6 8 me })
