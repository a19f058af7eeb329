-- Rows of cells, one cell after another.
use Rattle.std.proofs.Common.{◌≡◌, ◌∙◌, ap, subst, sym, refl, Bool, true, false, List, [], ◌∷◌, ◌++◌}
use Rattle.std.specs.Prelude.{Option, None, Some}
use Rattle.scim_cell.specs.declared.places.Place.{Place}
use Rattle.scim_cell.specs.Content.{Entry}
use Rattle.scim_cell.specs.Rows.{Row, field_of, goes_with, led, rows_of}
use Rattle.scim_value.specs.code.Grouping.{row_with, grouped, joins}
use Rattle.scim_value.proofs.RowLemmas.{rows_split}

-- the place of the last cell
abbrev pub last_place : Option Place → List Entry → Option Place
last_place p [] = p
last_place p (e ∷ es) = last_place (Some e.0) es

-- a cell led and a cell grouped don't meet
led_grouped : (b t : Bool) (e x : Entry) (r : Row) (rs : List Row) → led b e (grouped t x (r ∷ rs)) ≡ grouped t x (led b e (r ∷ rs))
led_grouped true true e x r [] = refl
led_grouped true true e x r (s ∷ rs) = refl
led_grouped true false e x r rs = refl
led_grouped false true e x r rs = refl
led_grouped false false e x r rs = refl

two : (b : Bool) (e x : Entry) → led b e (row_with x ∷ []) ≡ grouped b x (row_with e ∷ [])
two true e x = refl
two false e x = refl

grouped_rest : (e : Entry) (es : List Entry) (x : Entry) → rows_of (e ∷ (es ++ x ∷ [])) ≡ grouped (joins (last_place (Some e.0) es) x.0) x (rows_of (e ∷ es))
grouped_rest e [] x = two _ e x
grouped_rest e (f ∷ es) x =
    let rs : List Row = rows_of (f ∷ es) in
    ap (led (goes_with e.0 f.0) e) (grouped_rest f es x)
    ∙ subst (λ (qs : List Row). led (goes_with e.0 f.0) e (grouped (joins (last_place (Some f.0) es) x.0) x qs) ≡ grouped (joins (last_place (Some f.0) es) x.0) x (led (goes_with e.0 f.0) e qs))
    (sym (rows_split f es)) (led_grouped _ _ e x _ _)

-- one cell more
pub rows_grouped : (es : List Entry) (x : Entry) → rows_of (es ++ x ∷ []) ≡ grouped (joins (last_place None es) x.0) x (rows_of es)
rows_grouped [] x = refl
rows_grouped (e ∷ es) x = grouped_rest e es x

pub last_more : (p : Option Place) (es : List Entry) (x : Entry) → last_place p (es ++ x ∷ []) ≡ Some x.0
last_more p [] x = refl
last_more p (e ∷ es) x = last_more (Some e.0) es x

-- into the last row
pub grouped_last : (front : List Row) (r : Row) (x : Entry) → grouped true x (front ++ r ∷ []) ≡ front ++ record { unit = r.unit; fields = r.fields ++ field_of x ∷ [] } ∷ []
grouped_last [] r x = refl
grouped_last (a ∷ []) r x = refl
grouped_last (a ∷ b ∷ front) r x = ap (λ rs. a ∷ rs) (grouped_last (b ∷ front) r x)
