-- What the values of a unit of a resource are, and that a resource stays one where other values that may stand are put in for them.
use Rattle.std.proofs.Common.{◌≡◌, ◌≢◌, ◌≤◌, ℕ, refl, sym, ◌∙◌, ap, subst, Bool, true, false, arith, inl, inr, List, [], ◌∷◌, length}
use Rattle.std.specs.Prelude.{Option, None, Some, IsSome, is_none, not, ◌||◌, All, Contains, if◌then◌else◌}
use Rattle.std.specs.List.{count_by, flat_map, list_any, list_all}
use Rattle.std.specs.Ordering.{is_eq}
use Rattle.std.specs.FinMap.{entries, same_entries_map}
use Rattle.std.proofs.lemmas.Bool.{cases_Bool}
use Rattle.std.proofs.lemmas.List.Elements.{All-nil, All-cons, All-head, All-tail, All-weaker, All-filter, All-contains}
use Rattle.std.proofs.lemmas.List.Sums.{AllPass-from_list_all, count_by-le-length}
use denote.Enum.Bare.{same_true}
use Rattle.scim_schema.specs.declared.Kind.{Kind}
use Rattle.scim_schema.specs.declared.Kind.TheVariants.{User, Group}
use Rattle.scim_schema.specs.declared.Attribute.{Attribute}
use Rattle.scim_schema.specs.declared.Attribute.TheVariants.{Id, UserName, DisplayName, Members, Meta}
use Rattle.scim_schema.specs.declared.SubAttribute.{SubAttribute}
use Rattle.scim_schema.specs.declared.SubAttribute.TheVariants.{Value, ResourceType, Created, LastModified, Location}
use Rattle.scim_schema.specs.declared.Leaf.{Leaf}
use Rattle.scim_schema.specs.declared.Unit.{Unit as AttributeUnit}
use Rattle.scim_schema.specs.contracts.Attribute.{the_type as the_attribute}
use Rattle.scim_schema.specs.Characteristics.{is_multi_valued}
use Rattle.scim_schema.specs.Mutability.{is_fixed}
use Rattle.scim_schema.specs.Table.{attributes, leaves_with}
use Rattle.scim_schema.specs.Units.{simple, leaf_at, whole, unit_of, is_same_unit, units}
use Rattle.scim_schema.proofs.Facts.{is_same_unit-Decides}
use Rattle.scim_text.specs.Moments.{last_moment}
use Rattle.scim_cell.specs.declared.atoms.Atom.{Atom}
use Rattle.scim_cell.specs.declared.atoms.Atom.TheVariants.{Moment}
use Rattle.scim_cell.specs.Content.{Content, IsPart}
use Rattle.scim_cell.specs.Place.{unit_cmp, sub_attributes_by_place}
use Rattle.scim_cell.specs.Rows.{Row, rows, content, values, put_values, atom_in, atom_at, cell_at, is_primary, IsValue, AreSound, AreValues}
use Rattle.scim_value.specs.Listing.{cell_with, values_cells}
use Rattle.scim_value.specs.Resource.{first_at, IsFilled, IsNamedAs, MayBeKept, IsResource, HasBase}
use Rattle.scim_value.proofs.Facts.{cells_are_listed, get_cell, part_content, put_sound, rows_content, sound_part}
use Rattle.scim_cell.specs.SameValues.{is_members, is_nameless, member_value}
use Rattle.scim_change.specs.Create.{meta_row}
use Rattle.scim_change.specs.Replace.{modified_at}
use Rattle.scim_change.proofs.Facts.{fixed_id, last_modified_kept, modified_fits, no_stamp, one_kept, other_meta, put_all, stamp, stamps, values_fit, values_put, values_stay}
use Rattle.scim_patch_steps.proofs.Stand.{NamesAs, MayStand}

-- ---- units of multi-valued attributes

-- whether a unit is one of these attributes as a whole
abbrev is_whole : List Attribute → AttributeUnit → Bool
is_whole bs u = list_any (λ a. is_same_unit (whole a) u) bs

-- the unit is of a single-valued attribute, or is an attribute of the kind as a whole
abbrev is_single_or_whole : Kind → AttributeUnit → Bool
is_single_or_whole kind u = not (is_multi_valued u.attribute) || is_whole (attributes kind) u

-- each unit of a kind is one or the other
single_or_whole : (kind : Kind) → list_all (is_single_or_whole kind) (units kind) ≡ true
unfolding units
single_or_whole User = refl
single_or_whole Group = refl

-- what holds of each of some attributes as a whole holds of a unit that is one of them
of_one : (P : AttributeUnit → Type 0) (bs : List Attribute) (u : AttributeUnit) → All (λ a. P (whole a)) bs → is_whole bs u ≡ true → P u
of_one P [] u each some = cc
of_one P (b ∷ bs) u each some = elim (cases_Bool (is_same_unit (whole b) u)) [
  | inl t ↦ subst P ((is_same_unit-Decides (whole b) u).0 t) (All-head (λ a. P (whole a)) b bs each)
  | inr n ↦ of_one P bs u (All-tail (λ a. P (whole a)) b bs each) (rw n at some)
]

-- so what holds of each attribute of a kind as a whole holds of each unit of a multi-valued one
of_many : (kind : Kind) (u : AttributeUnit) → Contains (units kind) u → (P : AttributeUnit → Type 0) → All (λ a. P (whole a)) (attributes kind) → is_multi_valued u.attribute ≡ true → P u
of_many kind u there P each many =
    let one : is_single_or_whole kind u ≡ true
    = All-contains (λ v. is_single_or_whole kind v ≡ true) (units kind) u (AllPass-from_list_all (is_single_or_whole kind) (units kind) (single_or_whole kind)) there in
    of_one P (attributes kind) u each (rw many at one)

-- ---- members with a `value`

-- a member that isn't nameless has one
named_member : (o : Option Atom) → is_none o ≡ false → IsSome o
named_member None e = cc
named_member (Some a) e = refl

-- and one that has one isn't nameless
member_named : (o : Option Atom) → IsSome o → is_none o ≡ false
member_named None e = cc
member_named (Some a) e = refl

-- ---- what a resource has of a unit may stand in it

-- the rows of a resource are sound
own_sound : (c : Content) → IsResource c → AreSound c.kind (rows c)
own_sound c own = sound_part c own.part

module _ (c : Content) (own : IsResource c) (u : AttributeUnit) (there : Contains (units c.kind) u) where
  -- its values are such as may be put in
  fit : AreValues c.kind u (values u (rows c))
  fit = values_fit c.kind u (rows c) (own_sound c own)

  -- each member has a `value`
  each_named : All (λ r. is_nameless u.attribute r ≡ false) (values u (rows c))
  each_named = elim (cases_Bool (is_members u.attribute)) [
    | inl t ↦
        let a : u.attribute ≡ Members = same_true the_attribute tt _ _ t in
        let P : AttributeUnit → Type 0 = λ v. v.attribute ≡ Members → whole Members ≡ v in
        let e : whole Members ≡ u = of_many c.kind u there P (λ k d l b. ap whole (sym b)) (ap is_multi_valued a) a in
        subst (λ (v : AttributeUnit). All (λ r. is_nameless v.attribute r ≡ false) (values v (rows c))) e
        (All-weaker (λ (r : Row). IsSome (member_value r)) (λ r. is_nameless Members r ≡ false) (λ r h. member_named (member_value r) h) (values (whole Members) (rows c)) own.members_have_values)
    | inr n ↦ λ k d l. rw n refl
  ]

  -- what the kind is named by is there
  each_name : (kind : Kind) → IsNamedAs kind c → NamesAs kind u (values u (rows c))
  each_name User was = λ e. subst IsFilled (get_cell c own.part (own_sound c own) (simple UserName) 0 ∙ ap (λ v. atom_at (simple UserName) 0 (values v (rows c))) (sym e)) was
  each_name Group was = λ e. subst IsSome (get_cell c own.part (own_sound c own) (simple DisplayName) 0 ∙ ap (λ v. atom_at (simple DisplayName) 0 (values v (rows c))) (sym e)) was

  -- so all that is asked of them holds
  stands : MayStand c.kind u (values u (rows c))
  stands = record {
    own = fit;
    kept = All-filter (λ (r : Row). is_eq (unit_cmp r.unit u)) (λ r. All (MayBeKept c.kind) r.fields) (rows c) own.may_be_kept;
    named = each_named;
    one_primary = elim fit.few [
      | inl many ↦ of_many c.kind u there (λ v. count_by is_primary (values v (rows c)) ≤ 1) own.one_primary many
      | inr single ↦ omega (arith, single, count_by-le-length is_primary (values u (rows c)))
    ];
    few = elim fit.few [
      | inl many ↦ of_many c.kind u there (λ v. length (values v (rows c)) ≤ 10000) own.few_values many
      | inr single ↦ omega (arith, single)
    ];
    names = each_name c.kind own.named;
  }

-- the values of a unit of a resource may stand in it
pub values_stand : (c : Content) → IsResource c → (u : AttributeUnit) → Contains (units c.kind) u → is_fixed c.kind u ≡ false → MayStand c.kind u (values u (rows c))
values_stand c own u there free = stands c own u there

-- ---- a resource with other values of a unit

-- a unit that is neither `id` nor, `meta.lastModified` aside, of `meta`
record IsFree (u : AttributeUnit) : Type 0 where
  pub no_id : u ≢ whole Id
  pub no_meta : (b : SubAttribute) → LastModified ≢ b → u ≢ unit_of (leaf_at Meta b)

module _ (c : Content) (own : IsResource c) (u : AttributeUnit) (vs : List Row) (stand : MayStand c.kind u vs) where
  -- its rows in the end, and the part of them
  abbrev final : List Row
  final = put_values u vs (rows c)

  abbrev whole_part : Content
  whole_part = content c.kind c.id final

  -- its rows are sound
  final_sound : AreSound c.kind final
  final_sound = put_sound c.kind u vs (rows c) stand.own (own_sound c own)

  -- each new value is of the unit
  own_units : All (λ (r : Row). r.unit ≡ u) vs
  own_units = All-weaker (IsValue c.kind u) (λ (r : Row). r.unit ≡ u) (λ r h. h.0) vs stand.own.own

  -- what holds of the new values, if a unit is the one, and else of those that were there, holds of those of a unit in the end
  by_unit : (P : List Row → Type 0) (v : AttributeUnit) → (u ≡ v → P vs) → P (values v (rows c)) → P (values v final)
  by_unit P v new was = elim (cases_Bool (is_same_unit u v)) [
    | inl t ↦
        let e : u ≡ v = (is_same_unit-Decides u v).0 t in
        subst P (sym (ap (λ w. values w final) (sym e) ∙ values_put u vs (rows c) own_units)) (new e)
    | inr n ↦
        let apart : u ≢ v = λ e. (let t = (is_same_unit-Decides u v).1 e in cc) in
        subst P (sym (values_stay u vs (rows c) own_units v apart)) was
  ]

  -- what holds of the new values and of those of each attribute as a whole holds of those of each in the end
  of_each : (P : List Row → Type 0) → P vs → All (λ a. P (values (whole a) (rows c))) (attributes c.kind) → All (λ a. P (values (whole a) final)) (attributes c.kind)
  of_each P new was = λ k d l. by_unit P (whole _) (λ e. new) (was k d l)

  -- what stands at its leaves
  first : (l : Leaf) → first_at l whole_part ≡ cell_at l 0 final
  first l =
      let same = rows_content c.kind c.id final final_sound in
      get_cell whole_part (part_content c.kind c.id final final_sound) (subst (AreSound c.kind) (sym same) final_sound) l 0 ∙ ap (cell_at l 0) same

  -- what holds of the atom that the new values have, if the leaf is of the unit, and else of the one that was there, holds of the one in the end
  first_by : (P : Option Atom → Type 0) (l : Leaf) → (u ≡ unit_of l → P (atom_at l 0 vs)) → P (first_at l c) → P (first_at l whole_part)
  first_by P l new was = subst P (sym (first l)) (by_unit (λ rs. P (atom_at l 0 rs)) (unit_of l) new (subst P (get_cell c own.part (own_sound c own) l 0) was))

  -- at a leaf of another unit it is the same
  first_kept : (l : Leaf) → u ≢ unit_of l → first_at l whole_part ≡ first_at l c
  first_kept l n = first_by (λ o. o ≡ first_at l c) l (λ e. absurd (n e)) refl

  -- it has what its kind is named by
  named : (kind : Kind) → NamesAs kind u vs → IsNamedAs kind c → IsNamedAs kind whole_part
  named User new was = first_by IsFilled (simple UserName) new was
  named Group new was = first_by IsSome (simple DisplayName) new was

  -- new members have each a `value`
  new_members : u ≡ whole Members → All (λ (r : Row). IsSome (atom_in (leaf_at Members Value) r.fields)) vs
  new_members e =
      let each : All (λ r. is_nameless Members r ≡ false) vs = subst (λ (v : AttributeUnit). All (λ r. is_nameless v.attribute r ≡ false) vs) e stand.named in
      All-weaker (λ r. is_nameless Members r ≡ false) (λ (r : Row). IsSome (member_value r)) (λ r h. named_member (member_value r) h) vs each

  module _ (free : IsFree u) where
    -- what `meta` has stays, `meta.lastModified` aside
    meta_kept : (b : SubAttribute) → LastModified ≢ b → first_at (leaf_at Meta b) whole_part ≡ first_at (leaf_at Meta b) c
    meta_kept b n = first_kept (leaf_at Meta b) (free.no_meta b n)

    -- so its base does
    base_kept : (base : List ℕ) → HasBase base c → HasBase base whole_part
    base_kept base h = meta_kept Location (λ e. cc) ∙ h

    -- it is a resource, if `meta.lastModified` is still there
    is_resource : (u ≡ stamp → IsSome (atom_at (leaf_at Meta LastModified) 0 vs)) → IsResource whole_part
    is_resource modified =
        let same = sym (rows_content c.kind c.id final final_sound) in
        record {
          part = part_content c.kind c.id final final_sound;
          identified = (own.identified.0, first_kept (simple Id) free.no_id ∙ own.identified.1);
          has_meta = (meta_kept ResourceType (λ e. cc) ∙ own.has_meta.0, subst IsSome (sym (meta_kept Created (λ e. cc))) own.has_meta.1, first_by IsSome (leaf_at Meta LastModified) modified own.has_meta.2);
          located = (own.located.0, base_kept own.located.0 own.located.1);
          named = named c.kind stand.names own.named;
          members_have_values = subst (λ rs. All (λ (r : Row). IsSome (atom_in (leaf_at Members Value) r.fields)) (values (whole Members) rs)) same
              (by_unit (λ rs. All (λ (r : Row). IsSome (atom_in (leaf_at Members Value) r.fields)) rs) (whole Members) new_members own.members_have_values);
          one_primary = subst (λ rs. All (λ a. count_by is_primary (values (whole a) rs) ≤ 1) (attributes c.kind)) same (of_each (λ rs. count_by is_primary rs ≤ 1) stand.one_primary own.one_primary);
          few_values = subst (λ rs. All (λ a. length (values (whole a) rs) ≤ 10000) (attributes c.kind)) same (of_each (λ rs. length rs ≤ 10000) stand.few own.few_values);
          may_be_kept = subst (λ rs. All (λ r. All (MayBeKept c.kind) r.fields) rs) same (put_all (λ r. All (MayBeKept c.kind) r.fields) u vs (rows c) stand.kept own.may_be_kept);
        }

-- ---- values that a client may write

-- no client may write anything of `meta`
fixed_meta : (kind : Kind) (b : SubAttribute) → is_fixed kind (unit_of (leaf_at Meta b)) ≡ true
fixed_meta kind ResourceType = refl
fixed_meta kind Created = refl
fixed_meta kind LastModified = refl
fixed_meta kind Location = refl
fixed_meta kind _ = refl

-- a unit that a client may write is none that no client may write
not_fixed : (kind : Kind) (u v : AttributeUnit) → is_fixed kind u ≡ false → is_fixed kind v ≡ true → u ≢ v
not_fixed kind u v free fixed e = let same : is_fixed kind u ≡ is_fixed kind v = ap (is_fixed kind) e in cc

-- so it is neither `id` nor of `meta`
unfixed : (kind : Kind) (u : AttributeUnit) → is_fixed kind u ≡ false → IsFree u
unfixed kind u free = record {
  no_id = not_fixed kind u (whole Id) free (fixed_id kind);
  no_meta = λ b n. not_fixed kind u (unit_of (leaf_at Meta b)) free (fixed_meta kind b);
}

-- a resource with other values of a unit, which may stand in it, is a resource
pub put_stands : (c : Content) → IsResource c → (u : AttributeUnit) → Contains (units c.kind) u → is_fixed c.kind u ≡ false → (vs : List Row) → MayStand c.kind u vs → IsResource (content c.kind c.id (put_values u vs (rows c)))
put_stands c own u there free vs stand =
    is_resource c own u vs stand (unfixed c.kind u free) (λ e. absurd (not_fixed c.kind u stamp free (fixed_meta c.kind LastModified) e))

-- and its base stays
pub base_stays : (c : Content) → IsResource c → (u : AttributeUnit) → Contains (units c.kind) u → is_fixed c.kind u ≡ false → (vs : List Row) → MayStand c.kind u vs
    → (base : List ℕ) → HasBase base c → HasBase base (content c.kind c.id (put_values u vs (rows c)))
base_stays c own u there free vs stand = base_kept c own u vs stand (unfixed c.kind u free)

-- ---- a resource that is modified at a moment

-- `meta.lastModified` is neither `id` nor another of `meta`
stamp_free : IsFree stamp
stamp_free = record { no_id = no_stamp Id; no_meta = other_meta }

-- what a kind is named by isn't `meta.lastModified`
stamp_names : (kind : Kind) (moment : ℕ) → NamesAs kind stamp (stamps moment)
stamp_names User moment = λ e. absurd (no_stamp UserName e)
stamp_names Group moment = λ e. absurd (no_stamp DisplayName e)

-- its one value may stand
stamps_stand : (kind : Kind) (moment : ℕ) → moment ≤ last_moment → MayStand kind stamp (stamps moment)
stamps_stand kind moment there = record {
  own = modified_fits kind moment there;
  kept = All-cons (λ (r : Row). All (MayBeKept kind) r.fields) (meta_row LastModified (Moment moment)) [] (one_kept kind (leaf_at Meta LastModified) (Moment moment) (last_modified_kept kind moment)) (All-nil (λ (r : Row). All (MayBeKept kind) r.fields));
  named = All-cons (λ r. is_nameless Meta r ≡ false) (meta_row LastModified (Moment moment)) [] refl (All-nil (λ r. is_nameless Meta r ≡ false));
  one_primary = omega arith;
  few = omega arith;
  names = stamp_names kind moment;
}

-- a resource that is modified at a moment is a resource
pub stamped_stands : (c : Content) → IsResource c → (moment : ℕ) → moment ≤ last_moment → IsResource (content c.kind c.id (modified_at moment (rows c)))
stamped_stands c own moment there = is_resource c own stamp (stamps moment) (stamps_stand c.kind moment there) stamp_free (λ e. refl)

-- and its base stays
pub stamped_base : (c : Content) → IsResource c → (moment : ℕ) → moment ≤ last_moment → (base : List ℕ) → HasBase base c → HasBase base (content c.kind c.id (modified_at moment (rows c)))
stamped_base c own moment there = base_kept c own stamp (stamps moment) (stamps_stand c.kind moment there) stamp_free

-- ---- parts with the same values

-- two parts of one kind and id with the same values of each unit are one
pub same_content : (c d : Content) → IsPart c → IsPart d → c.kind ≡ d.kind → c.id ≡ d.id → ((u : AttributeUnit) → values u (rows c) ≡ values u (rows d)) → c ≡ d
same_content c d first second kinds ids same =
    let listed : entries c.cells ≡ entries d.cells
    = cells_are_listed c first
    ∙ (λ i. flat_map (λ a. if is_multi_valued a then values_cells a 0 (same (whole a) i) else flat_map (λ l. cell_with l 0 (atom_at l 0 (same (unit_of l) i))) (leaves_with a (sub_attributes_by_place a))) (attributes (kinds i)))
    ∙ sym (cells_are_listed d second) in
    λ i. record { kind = kinds i; id = ids i; cells = same_entries_map c.cells d.cells listed i }
