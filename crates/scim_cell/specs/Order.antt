-- The comparison of parts by their ids.
use Rattle.std.specs.declared.cmp.Ordering.{Ordering}
use Rattle.std.specs.Ordering.{nat_cmp}
use Rattle.std.specs.Cmp.Lexicographic.{slice_cmp}
use Rattle.scim_cell.specs.Content.{Content}

-- compares two parts by the bytes of their ids
abbrev pub id_cmp : Content → Content → Ordering
id_cmp a b = slice_cmp nat_cmp a.id b.id
