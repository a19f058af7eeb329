-- What comparisons of parts tell.
use Rattle.std.proofs.Common.{◌≡◌, ap, Bool}
use Rattle.std.specs.Bool.{Decides}
use Rattle.std.specs.Cmp.Lexicographic.{pointwise}
use Rattle.std.proofs.lemmas.Slice.Eq.{slice_eq-Decides}
use Rattle.scim_cell.specs.Content.{Content, IsPart}
use Rattle.scim_cell.specs.Rows.{rows}
use Rattle.scim_cell.specs.Equality.{is_same_row, is_same_row-Decides}
use Rattle.scim_value.proofs.RowLemmas.{same_part}

-- parts of one kind and one id are equal just where their rows are
pub rows_decide : (c d : Content) (r : Bool) → IsPart c → IsPart d → c.kind ≡ d.kind → c.id ≡ d.id → r ≡ pointwise is_same_row (rows c) (rows d) → Decides r (c ≡ d)
rows_decide c d r p q kinds ids e =
    let same = slice_eq-Decides is_same_row-Decides (rows c) (rows d) r e in
    (λ t. same_part c d p q kinds ids (same.0 t), λ one. same.1 (ap rows one))
