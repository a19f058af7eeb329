-- What a draft makes is a resource.
use Rattle.std.proofs.Common.{◌≡◌, ◌≢◌, ◌≤◌, ℕ, refl, sym, ◌∙◌, ap, subst, true, false, arith, inl, inr, List, [], ◌∷◌, ◌++◌, length}
use Rattle.std.specs.Prelude.{Option, None, Some, IsSome, All}
use Rattle.std.specs.List.{list_any, count_by}
use Rattle.std.proofs.lemmas.Bool.{cases_Bool}
use Rattle.std.proofs.lemmas.List.Elements.{All-nil, All-cons, All-append, All-weaker}
use denote.Enum.Bare.{sameb, same_true, true_same}
use Rattle.scim_schema.specs.declared.Kind.{Kind}
use Rattle.scim_schema.specs.declared.Kind.TheVariants.{User, Group}
use Rattle.scim_schema.specs.declared.Attribute.{Attribute}
use Rattle.scim_schema.specs.declared.Attribute.TheVariants.{Id, UserName, DisplayName, Groups, Members, Meta}
use Rattle.scim_schema.specs.declared.SubAttribute.{SubAttribute}
use Rattle.scim_schema.specs.declared.SubAttribute.TheVariants.{Value, ResourceType, Created, LastModified, Location}
use Rattle.scim_schema.specs.declared.Leaf.{Leaf}
use Rattle.scim_schema.specs.contracts.Attribute.{the_type as the_attribute}
use Rattle.scim_schema.specs.Characteristics.{attribute_characteristics, characteristics_of}
use Rattle.scim_schema.specs.Names.{kind_name}
use Rattle.scim_schema.specs.Table.{attributes}
use Rattle.scim_schema.specs.Units.{simple, leaf_at, whole, unit_of}
use Rattle.scim_schema.specs.Mutability.{is_read_only}
use Rattle.scim_text.specs.Moments.{last_moment}
use Rattle.scim_cell.specs.declared.atoms.Atom.{Atom}
use Rattle.scim_cell.specs.declared.atoms.Atom.TheVariants.{Text, Moment, Truth}
use Rattle.scim_cell.specs.declared.rows.Field.{Field}
use Rattle.scim_cell.specs.Content.{Content, HasType}
use Rattle.scim_cell.specs.Ids.{IsId, id_text}
use Rattle.scim_cell.proofs.Facts.{IsIdText-id_text}
use Rattle.scim_cell.specs.Rows.{Row, content, values, atom_in, atom_at, cell_at, is_primary, AreSound}
use Rattle.scim_value.specs.Resource.{first_at, location, IsFilled, IsNamedAs, MembersHaveValues, HasAtMostOnePrimary, HasFewValues, MayBeKept, IsResource, HasBase}
use Rattle.scim_value.proofs.Facts.{get_cell, part_content, rows_content}
use Rattle.scim_body.specs.Drafts.{Draft, MayBeGiven, IsDraft, is_empty, lacks_required}
use Rattle.scim_body.specs.declared.drafts.UseFor.TheVariants.{Creating}
use Rattle.scim_change.specs.Create.{row_of, meta_row, id_row, meta_rows, created_rows}
use Rattle.scim_change.proofs.RowLemmas.{four, created_sound}
use Rattle.scim_change.proofs.ValueLemmas.{values_meta, values_id, values_whole}
use Rattle.scim_change.proofs.NameLemmas.{IsSimple, IsGivenAtom, found_in, required_there, user_name, display_name}

-- a `userName` that a client may give is filled
pub filled : (atom : Atom) → is_empty atom ≡ false → HasType (characteristics_of User (simple UserName)).attribute_type atom → IsFilled (Some atom)
filled (Text []) e type = cc
filled (Text (c ∷ t)) e type = λ same. cc
filled (Truth b) e type = absurd type
filled (Moment m) e type = absurd type

-- ---- which fields may be kept

fixed_groups : (kind : Kind) (s : Option SubAttribute) → is_read_only kind (record { attribute = Groups; sub_attribute = s }) ≡ true
fixed_groups User None = refl
fixed_groups Group None = refl
fixed_groups User (Some b) = refl
fixed_groups Group (Some b) = refl

not_groups : (kind : Kind) (l : Leaf) → is_read_only kind l ≡ false → l.attribute ≢ Groups
not_groups kind l free e =
    let same : l ≡ record { attribute = Groups; sub_attribute = l.sub_attribute } = λ i. record { attribute = e i; sub_attribute = l.sub_attribute } in
    let fixed : is_read_only kind l ≡ true = ap (is_read_only kind) same ∙ fixed_groups kind l.sub_attribute in cc

pub kept_field : (kind : Kind) (f : Field) → MayBeGiven kind f → MayBeKept kind f
kept_field kind f given = record {
  own = not_groups kind f.leaf given.writable;
  stored = given.kept;
  short = λ n. given.short;
}

pub one_kept : (kind : Kind) (l : Leaf) (atom : Atom) → MayBeKept kind (record { leaf = l; atom = atom }) → All (MayBeKept kind) (row_of l atom).fields
one_kept kind l atom h = All-cons (MayBeKept kind) (record { leaf = l; atom = atom }) [] h (All-nil (MayBeKept kind))

id_kept : (kind : Kind) (id : List ℕ) → MayBeKept kind (record { leaf = simple Id; atom = Text (id_text id) })
id_kept User id = record { own = λ e. cc; stored = refl; short = λ n. (let long = (IsIdText-id_text id).long in omega (arith, long)) }
id_kept Group id = record { own = λ e. cc; stored = refl; short = λ n. (let long = (IsIdText-id_text id).long in omega (arith, long)) }

resource_type_kept : (kind : Kind) → MayBeKept kind (record { leaf = leaf_at Meta ResourceType; atom = Text (kind_name kind) })
resource_type_kept User = record { own = λ e. cc; stored = refl; short = λ n. omega arith }
resource_type_kept Group = record { own = λ e. cc; stored = refl; short = λ n. omega arith }

created_kept : (kind : Kind) (m : ℕ) → MayBeKept kind (record { leaf = leaf_at Meta Created; atom = Moment m })
created_kept User m = record { own = λ e. cc; stored = refl; short = λ n. tt }
created_kept Group m = record { own = λ e. cc; stored = refl; short = λ n. tt }

pub last_modified_kept : (kind : Kind) (m : ℕ) → MayBeKept kind (record { leaf = leaf_at Meta LastModified; atom = Moment m })
last_modified_kept User m = record { own = λ e. cc; stored = refl; short = λ n. tt }
last_modified_kept Group m = record { own = λ e. cc; stored = refl; short = λ n. tt }

location_kept : (kind : Kind) (t : List ℕ) → MayBeKept kind (record { leaf = leaf_at Meta Location; atom = Text t })
location_kept User t = record { own = λ e. cc; stored = refl; short = λ n. absurd (n refl) }
location_kept Group t = record { own = λ e. cc; stored = refl; short = λ n. absurd (n refl) }

module _ (d : Draft) (is : IsDraft d) (id : List ℕ) (moment : ℕ) (base : List ℕ) where
  abbrev made : List Row
  made = created_rows d id moment base

  -- ---- its fields, and its values

  all_kept : All (λ r. All (MayBeKept d.kind) r.fields) made
  all_kept =
      let P : Row → Type 0 = λ r. All (MayBeKept d.kind) r.fields in
      All-cons P (id_row id) (d.rows ++ meta_rows d.kind id moment base) (one_kept d.kind (simple Id) (Text (id_text id)) (id_kept d.kind id))
      (All-append P d.rows (meta_rows d.kind id moment base)
      (All-weaker (λ r. All (MayBeGiven d.kind) r.fields) P (λ r h. All-weaker (MayBeGiven d.kind) (MayBeKept d.kind) (kept_field d.kind) r.fields h) d.rows is.may_be_given)
      (four P (meta_row ResourceType (Text (kind_name d.kind))) (meta_row Created (Moment moment)) (meta_row LastModified (Moment moment)) (meta_row Location (Text (location base d.kind id)))
      (one_kept d.kind (leaf_at Meta ResourceType) (Text (kind_name d.kind)) (resource_type_kept d.kind))
      (one_kept d.kind (leaf_at Meta Created) (Moment moment) (created_kept d.kind moment))
      (one_kept d.kind (leaf_at Meta LastModified) (Moment moment) (last_modified_kept d.kind moment))
      (one_kept d.kind (leaf_at Meta Location) (Text (location base d.kind id)) (location_kept d.kind (location base d.kind id)))))

  with_members : MembersHaveValues made
  with_members =
      subst (λ rs. All (λ (r : Row). IsSome (atom_in (leaf_at Members Value) r.fields)) rs) (sym (values_whole d id moment base Members (λ e. cc))) is.members_have_values

  -- what holds of the values of each attribute in the draft, and of `id` alone, holds of those of each attribute
  of_each : (P : List Row → Type 0) → P (id_row id ∷ []) → All (λ a. P (values (whole a) d.rows)) (attributes d.kind) → All (λ a. P (values (whole a) made)) (attributes d.kind)
  of_each P own each =
      All-weaker (λ a. P (values (whole a) d.rows)) (λ a. P (values (whole a) made)) (λ a h. elim (cases_Bool (sameb the_attribute Id a)) [
        | inl t ↦ subst (λ b. P (values (whole b) made)) (same_true the_attribute tt Id a t) (subst P (sym (values_id d id moment base is)) own)
        | inr n ↦ subst P (sym (values_whole d id moment base a (λ e. (let s : sameb the_attribute Id a ≡ true = true_same the_attribute Id a e in cc)))) h
      ]) (attributes d.kind) each

  at_most_one_primary : HasAtMostOnePrimary d.kind made
  at_most_one_primary = of_each (λ rs. count_by is_primary rs ≤ 1) (omega arith) is.one_primary

  few : HasFewValues d.kind made
  few = of_each (λ rs. length rs ≤ 10000) (omega arith) is.few_values

  -- ---- what stands at its leaves

  module _ (there : moment ≤ last_moment) where
    abbrev whole_part : Content
    whole_part = content d.kind id made

    sound : AreSound d.kind made
    sound = created_sound d id moment base is there

    -- what stands first at a leaf, by its rows
    first : (l : Leaf) → first_at l whole_part ≡ cell_at l 0 made
    first l =
        let same = rows_content d.kind id made sound in
        get_cell whole_part (part_content d.kind id made sound) (subst (AreSound d.kind) (sym same) sound) l 0 ∙ ap (cell_at l 0) same

    of_meta : (b : SubAttribute) → first_at (leaf_at Meta b) whole_part ≡ cell_at (leaf_at Meta b) 0 (meta_rows d.kind id moment base)
    of_meta b = first (leaf_at Meta b) ∙ ap (atom_at (leaf_at Meta b) 0) (values_meta d id moment base is b)

    -- a simple attribute but `id`, by the draft
    of_draft : (a : Attribute) → Id ≢ a → unit_of (simple a) ≡ whole a → first_at (simple a) whole_part ≡ cell_at (simple a) 0 d.rows
    of_draft a n u =
        first (simple a) ∙ ap (λ v. atom_at (simple a) 0 (values v made)) u
        ∙ ap (atom_at (simple a) 0) (values_whole d id moment base a n) ∙ ap (λ v. atom_at (simple a) 0 (values v d.rows)) (sym u)

    -- the atom of an attribute that the kind requires
    required_atom : (kind : Kind) → d.kind ≡ kind → (a : Attribute) → IsSimple a → (attribute_characteristics kind a).required ≡ true → list_any (λ b. sameb the_attribute b a) (attributes kind) ≡ true
        → lacks_required d.kind d.rows ≡ false → (atom : Atom) × (cell_at (simple a) 0 d.rows ≡ Some atom) × IsGivenAtom d.kind a atom
    required_atom kind e a simple needed listed complete = found_in d is a simple (required_there kind d.rows a needed listed (subst (λ k. lacks_required k d.rows ≡ false) e complete))

    named : (kind : Kind) → d.kind ≡ kind → lacks_required d.kind d.rows ≡ false → IsNamedAs kind whole_part
    named User e complete =
        let some = required_atom User e UserName user_name refl refl complete in
        subst IsFilled (sym (of_draft UserName (λ s. cc) refl ∙ some.1)) (filled some.0 (some.2.given.filled refl) (subst (λ k. HasType (characteristics_of k (simple UserName)).attribute_type some.0) e some.2.type))
    named Group e complete =
        let some = required_atom Group e DisplayName display_name refl refl complete in
        subst IsSome (sym (of_draft DisplayName (λ s. cc) refl ∙ some.1)) refl

    pub has_base : HasBase base whole_part
    has_base = of_meta Location

    pub is_resource : IsId id → d.use_for ≡ Creating → IsResource whole_part
    is_resource own creating =
        let same = rows_content d.kind id made sound in
        let made_at : first_at (leaf_at Meta Created) whole_part ≡ Some (Moment moment) = of_meta Created in
        let modified_at : first_at (leaf_at Meta LastModified) whole_part ≡ Some (Moment moment) = of_meta LastModified in
        record {
          part = part_content d.kind id made sound;
          identified = (own, first (simple Id) ∙ ap (atom_at (simple Id) 0) (values_id d id moment base is));
          has_meta = (of_meta ResourceType, subst IsSome (sym made_at) refl, subst IsSome (sym modified_at) refl);
          located = (base, has_base);
          named = named d.kind refl (is.complete creating);
          members_have_values = subst MembersHaveValues (sym same) with_members;
          one_primary = subst (HasAtMostOnePrimary d.kind) (sym same) at_most_one_primary;
          few_values = subst (HasFewValues d.kind) (sym same) few;
          may_be_kept = subst (λ rs. All (λ r. All (MayBeKept d.kind) r.fields) rs) (sym same) all_kept;
        }
