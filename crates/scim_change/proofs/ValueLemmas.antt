-- The values of a unit in a new resource: its own of `id` and of `meta`, and else those of the draft.
use Rattle.std.proofs.Common.{◌≡◌, ◌≢◌, ℕ, refl, ◌∙◌, ap, Bool, true, false, List, [], ◌∷◌, ◌++◌}
use Rattle.std.specs.Prelude.{None, Some, All}
use Rattle.std.specs.Ordering.{is_eq}
use Rattle.std.proofs.lemmas.List.Elements.{All-head, All-tail, filter-append}
use Rattle.scim_schema.specs.declared.Attribute.{Attribute}
use Rattle.scim_schema.specs.declared.Attribute.TheVariants.{Id, Meta}
use Rattle.scim_schema.specs.declared.SubAttribute.{SubAttribute}
use Rattle.scim_schema.specs.declared.SubAttribute.TheVariants.{ResourceType, Created, LastModified, Location}
use Rattle.scim_schema.specs.declared.Unit.{Unit as AttributeUnit}
use Rattle.scim_schema.specs.Units.{whole, unit_of, leaf_at}
use Rattle.scim_cell.specs.declared.atoms.Atom.TheVariants.{Text, Moment}
use Rattle.scim_value.specs.Resource.{location}
use Rattle.scim_schema.specs.Names.{kind_name}
use Rattle.scim_cell.specs.Place.{unit_cmp}
use Rattle.scim_cell.specs.Rows.{Row, values}
use Rattle.scim_value.proofs.Facts.{unit_same}
use Rattle.scim_body.specs.Drafts.{Draft, IsDraft}
use Rattle.scim_change.specs.Create.{meta_row, id_row, meta_rows, created_rows}
use Rattle.scim_change.proofs.RowLemmas.{others, four}

-- whether a row is of a unit
abbrev pub is_own : AttributeUnit → Row → Bool
is_own u r = is_eq (unit_cmp r.unit u)

pub untrue : (b : Bool) → (b ≡ true → ⊥) → b ≡ false
untrue true n = absurd (n refl)
untrue false n = refl

-- a unit of another attribute, or another unit, is another
pub other_unit : (u v : AttributeUnit) → u ≢ v → is_eq (unit_cmp u v) ≡ false
other_unit u v n = untrue _ (λ t. n (unit_same u v t))

-- no rows of a unit, where none is of it
pub none_own : (u : AttributeUnit) (rs : List Row) → All (λ (r : Row). r.unit ≢ u) rs → values u rs ≡ []
none_own u [] h = refl
none_own u (r ∷ rs) h = rw (other_unit r.unit u (All-head (λ (s : Row). s.unit ≢ u) r rs h)) (none_own u rs (All-tail (λ (s : Row). s.unit ≢ u) r rs h))

-- the first row, where it isn't of the unit
pub skipped : (u : AttributeUnit) (r : Row) (rs : List Row) → r.unit ≢ u → values u (r ∷ rs) ≡ values u rs
skipped u r rs n = rw (other_unit r.unit u n) refl

module _ (d : Draft) (id : List ℕ) (moment : ℕ) (base : List ℕ) where
  -- of a unit that is neither `id` nor of `meta`, those of the draft
  pub values_kept : (u : AttributeUnit) → whole Id ≢ u → values u (meta_rows d.kind id moment base) ≡ [] → values u (created_rows d id moment base) ≡ values u d.rows
  values_kept u n none =
      skipped u (id_row id) (d.rows ++ meta_rows d.kind id moment base) n ∙ filter-append (is_own u) d.rows (meta_rows d.kind id moment base) ∙ ap (λ rs. values u d.rows ++ rs) none ∙ nothing_more (values u d.rows)
    where
      nothing_more : (rs : List Row) → rs ++ [] ≡ rs
      nothing_more [] = refl
      nothing_more (r ∷ rs) = ap (λ ss. r ∷ ss) (nothing_more rs)

  -- of a unit of `meta`, what the server fills in
  pub values_meta : IsDraft d → (b : SubAttribute) → values (unit_of (leaf_at Meta b)) (created_rows d id moment base) ≡ values (unit_of (leaf_at Meta b)) (meta_rows d.kind id moment base)
  values_meta is b =
      let u = unit_of (leaf_at Meta b) in
      let rows = others d is in
      skipped u (id_row id) (d.rows ++ meta_rows d.kind id moment base) (λ e. (let a : Id ≡ Meta = ap (λ (v : AttributeUnit). v.attribute) e in cc))
      ∙ filter-append (is_own u) d.rows (meta_rows d.kind id moment base)
      ∙ ap (λ rs. rs ++ values u (meta_rows d.kind id moment base)) (none_own u d.rows (λ k e l same. (rows k e l).no_meta (ap (λ (v : AttributeUnit). v.attribute) same)))

  -- `id` has the one that the server fills in
  pub values_id : IsDraft d → values (whole Id) (created_rows d id moment base) ≡ id_row id ∷ []
  values_id is =
      let rows = others d is in
      ap (λ rs. id_row id ∷ rs) (filter-append (is_own (whole Id)) d.rows (meta_rows d.kind id moment base)
      ∙ ap (λ rs. rs ++ []) (none_own (whole Id) d.rows (λ k e l. (rows k e l).no_id)))

-- no sub-attribute of `meta` is a whole attribute
no_whole_meta : (a : Attribute) (b : SubAttribute) → unit_of (leaf_at Meta b) ≢ whole a
no_whole_meta a b e = let s : Some b ≡ None = ap (λ (v : AttributeUnit). v.sub_attribute) e in cc

-- so of an attribute as a whole, `id` aside, the values are those of the draft
pub values_whole : (d : Draft) (id : List ℕ) (moment : ℕ) (base : List ℕ) (a : Attribute) → Id ≢ a → values (whole a) (created_rows d id moment base) ≡ values (whole a) d.rows
values_whole d id moment base a n =
    values_kept d id moment base (whole a) (λ e. n (ap (λ (v : AttributeUnit). v.attribute) e))
    (none_own (whole a) (meta_rows d.kind id moment base) (four (λ (r : Row). r.unit ≢ whole a)
    (meta_row ResourceType (Text (kind_name d.kind))) (meta_row Created (Moment moment)) (meta_row LastModified (Moment moment)) (meta_row Location (Text (location base d.kind id)))
    (no_whole_meta a ResourceType) (no_whole_meta a Created) (no_whole_meta a LastModified) (no_whole_meta a Location)))
