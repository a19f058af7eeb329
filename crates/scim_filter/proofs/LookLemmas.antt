-- What a look leaves of rows, told row by row.
use Rattle.std.proofs.Common.{◌≡◌, refl, sym, ◌∙◌, ap, Bool, true, false, ◌&&◌, ◌||◌, List, [], ◌∷◌, filter, inl, inr, arith}
use Rattle.std.specs.Prelude.{not}
use Rattle.std.specs.List.{list_any}
use Rattle.std.proofs.lemmas.Bool.{cases_Bool}
use denote.Enum.Bare.{sameb}
use Rattle.scim_schema.specs.declared.Attribute.{Attribute}
use Rattle.scim_schema.specs.declared.Leaf.{Leaf}
use Rattle.scim_schema.specs.Units.{is_same_leaf}
use Rattle.scim_cell.specs.declared.atoms.Atom.{Atom}
use Rattle.scim_schema.specs.declared.Unit.{Unit as AttributeUnit}
use Rattle.scim_schema.specs.contracts.Attribute.{the_type as the_attribute}
use Rattle.scim_cell.specs.declared.rows.Field.{Field}
use Rattle.scim_cell.specs.Rows.{Row, Test, attribute_rows, is_empty, has_fields, restricted_row, restricted}
use Rattle.scim_filter.specs.declared.visible_rows.Look.{Look}
use Rattle.scim_filter.specs.declared.visible_rows.Look.TheVariants.{Everything, Admitted}
use Rattle.scim_filter.specs.Truth.{some_cell, some_atom}
use Rattle.scim_filter.specs.code.Looks.{admitted, stays, looked}

any_filter : {X : Type 0} (q p : X → Bool) (xs : List X) → list_any p (filter q xs) ≡ list_any (λ x. q x && p x) xs
any_filter q p [] = refl
any_filter q p (x ∷ xs) = elim (cases_Bool (q x)) [
  | inl t ↦ rw t (ap (λ b. p x || b) (any_filter q p xs))
  | inr u ↦ rw u (any_filter q p xs)
]

-- of no field none passes
none_passes : (p : Field → Bool) (fs : List Field) → is_empty fs ≡ true → list_any p fs ≡ false
none_passes p [] e = refl
none_passes p (f ∷ fs) e = absurd cc

-- where none is admitted none passes too
pub none_admitted : (admits passes : Field → Bool) (fs : List Field) → ((f : Field) → admits f ≡ false) → list_any (λ f. admits f && passes f) fs ≡ false
none_admitted admits passes [] h = refl
none_admitted admits passes (f ∷ fs) h = rw (h f) (none_admitted admits passes fs h)

-- whether a field is left
pub has_kept : (keeps : Test) (r : Row) → list_any (λ (f : Field). keeps r f.leaf && true) r.fields ≡ has_fields (restricted_row keeps r)
has_kept keeps r = among r.fields
  where
    among : (fs : List Field) → list_any (λ (f : Field). keeps r f.leaf && true) fs ≡ not (is_empty (filter (λ (f : Field). keeps r f.leaf) fs))
    among [] = refl
    among (f ∷ fs) = grind (arith, among fs)

-- a test of a row's unit
abbrev by_unit : (AttributeUnit → Bool) → Row → Bool
by_unit own r = own r.unit

-- what is left of the rows of some units
filter_restricted : (keeps : Test) (own : AttributeUnit → Bool) (rs : List Row) → filter (by_unit own) (restricted keeps rs) ≡ restricted keeps (filter (by_unit own) rs)
filter_restricted keeps own [] = refl
filter_restricted keeps own (r ∷ rs) = grind (arith, filter_restricted keeps own rs)

-- a unit of the attribute
abbrev is_of : Attribute → AttributeUnit → Bool
is_of a u = sameb the_attribute u.attribute a

pub own_looked : {T : Type 0} (keeps : T → Test) (look : Look T) (a : Attribute) (rs : List Row) → attribute_rows a (looked keeps look rs) ≡ looked keeps look (attribute_rows a rs)
unfolding looked
own_looked keeps Everything a rs = refl
own_looked keeps (Admitted test) a rs = filter_restricted (keeps test.now) (is_of a) rs

-- what is looked at of an attribute lies in its rows alone
pub own_looked_alike : {T : Type 0} (keeps : T → Test) (look : Look T) (a : Attribute) (rs qs : List Row)
    → attribute_rows a rs ≡ attribute_rows a qs → attribute_rows a (looked keeps look rs) ≡ attribute_rows a (looked keeps look qs)
own_looked_alike keeps look a rs qs same = own_looked keeps look a rs ∙ ap (looked keeps look) same ∙ sym (own_looked keeps look a qs)

pub cells_alike : {T : Type 0} (keeps : T → Test) (look : Look T) (p : Field → Bool) (a : Attribute) (rs qs : List Row)
    → attribute_rows a rs ≡ attribute_rows a qs → some_cell p a (looked keeps look rs) ≡ some_cell p a (looked keeps look qs)
cells_alike keeps look p a rs qs same = ap (list_any (λ (r : Row). list_any p r.fields)) (own_looked_alike keeps look a rs qs same)

pub atoms_alike : {T : Type 0} (keeps : T → Test) (look : Look T) (passes : Atom → Bool) (leaf : Leaf) (rs qs : List Row)
    → attribute_rows leaf.attribute rs ≡ attribute_rows leaf.attribute qs → some_atom passes leaf (looked keeps look rs) ≡ some_atom passes leaf (looked keeps look qs)
atoms_alike keeps look passes leaf rs qs same = cells_alike keeps look (λ (f : Field). is_same_leaf f.leaf leaf && passes f.atom) leaf.attribute rs qs same

cells_of_all : (p : Field → Bool) (own : AttributeUnit → Bool) (rs : List Row)
    → list_any (λ (r : Row). own r.unit && list_any p r.fields) rs ≡ list_any (λ (r : Row). list_any p r.fields) (filter (by_unit own) rs)
cells_of_all p own [] = refl
cells_of_all p own (r ∷ rs) = grind (arith, cells_of_all p own rs)

cells_of_restricted : (keeps : Test) (p : Field → Bool) (own : AttributeUnit → Bool) (rs : List Row)
    → list_any (λ (r : Row). own r.unit && list_any (λ (f : Field). keeps r f.leaf && p f) r.fields) rs ≡ list_any (λ (r : Row). list_any p r.fields) (filter (by_unit own) (restricted keeps rs))
cells_of_restricted keeps p own [] = refl
cells_of_restricted keeps p own (r ∷ rs) =
    let kept : List Field = filter (λ (f : Field). keeps r f.leaf) r.fields in
    grind (arith, cells_of_restricted keeps p own rs, any_filter (λ (f : Field). keeps r f.leaf) p r.fields, none_passes p kept)

-- whether a field of the attribute passes that is looked at
abbrev pub passes_in : Test → (Field → Bool) → Attribute → Row → Bool
passes_in keeps p a r = is_of a r.unit && list_any (λ (f : Field). keeps r f.leaf && p f) r.fields

-- some cell passes of what is looked at
pub cells_of_looked : {T : Type 0} (keeps : T → Test) (look : Look T) (p : Field → Bool) (a : Attribute) (rs : List Row)
    → list_any (passes_in (admitted keeps look) p a) rs ≡ some_cell p a (looked keeps look rs)
unfolding admitted looked
cells_of_looked keeps Everything p a rs = cells_of_all p (is_of a) rs
cells_of_looked keeps (Admitted test) p a rs = cells_of_restricted (keeps test.now) p (is_of a) rs

values_of_all : (P : List Row → Bool) (own : AttributeUnit → Bool) (rs : List Row)
    → list_any (λ (r : Row). own r.unit && P (filter (by_unit own) (r ∷ []))) rs ≡ list_any (λ (r : Row). P (r ∷ [])) (filter (by_unit own) rs)
values_of_all P own [] = refl
values_of_all P own (r ∷ rs) = grind (arith, values_of_all P own rs)

values_of_restricted : (keeps : Test) (P : List Row → Bool) (own : AttributeUnit → Bool) (rs : List Row)
    → list_any (λ (r : Row). own r.unit && (has_fields (restricted_row keeps r) && P (restricted keeps (filter (by_unit own) (r ∷ []))))) rs ≡ list_any (λ (r : Row). P (r ∷ [])) (filter (by_unit own) (restricted keeps rs))
values_of_restricted keeps P own [] = refl
values_of_restricted keeps P own (r ∷ rs) = grind (arith, values_of_restricted keeps P own rs)

-- whether a row of the attribute is looked at and passes alone
abbrev pub passes_alone : {T : Type 0} → (T → Test) → Look T → (List Row → Bool) → Attribute → Row → Bool
passes_alone keeps look P a r = is_of a r.unit && (stays keeps look r && P (looked keeps look (attribute_rows a (r ∷ []))))

-- some row that is looked at passes alone
pub values_of_looked : {T : Type 0} (keeps : T → Test) (look : Look T) (P : List Row → Bool) (a : Attribute) (rs : List Row)
    → list_any (passes_alone keeps look P a) rs ≡ list_any (λ (r : Row). P (r ∷ [])) (attribute_rows a (looked keeps look rs))
unfolding stays looked
values_of_looked keeps Everything P a rs = values_of_all P (is_of a) rs
values_of_looked keeps (Admitted test) P a rs = values_of_restricted (keeps test.now) P (is_of a) rs
