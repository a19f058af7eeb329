-- A resource that is replaced by what a draft gives, and has what its kind requires, is a resource.
use Rattle.std.proofs.Common.{◌≡◌, ◌≢◌, ◌≤◌, ℕ, refl, sym, ◌∙◌, ap, subst, true, false, arith, inl, inr, List, [], ◌∷◌, length}
use Rattle.std.specs.Prelude.{None, Some, IsSome, All}
use Rattle.std.specs.List.{count_by}
use Rattle.std.proofs.lemmas.Bool.{cases_Bool}
use Rattle.std.proofs.lemmas.List.Elements.{All-nil, All-cons, All-weaker}
use Rattle.scim_schema.specs.declared.Kind.{Kind}
use Rattle.scim_schema.specs.declared.Kind.TheVariants.{User, Group}
use Rattle.scim_schema.specs.declared.Attribute.{Attribute}
use Rattle.scim_schema.specs.declared.Attribute.TheVariants.{Id, UserName, DisplayName, Members, Meta}
use Rattle.scim_schema.specs.declared.SubAttribute.TheVariants.{Value, ResourceType, Created, LastModified, Location}
use Rattle.scim_schema.specs.declared.SubAttribute.{SubAttribute}
use Rattle.scim_schema.specs.declared.Leaf.{Leaf}
use Rattle.scim_schema.specs.declared.Unit.{Unit as AttributeUnit}
use Rattle.scim_schema.specs.Characteristics.{characteristics_of}
use Rattle.scim_schema.specs.Mutability.{is_fixed}
use Rattle.scim_schema.specs.Table.{attributes}
use Rattle.scim_schema.specs.Units.{simple, leaf_at, whole, unit_of}
use Rattle.scim_text.specs.Moments.{last_moment}
use Rattle.scim_cell.specs.declared.atoms.Atom.TheVariants.{Moment}
use Rattle.scim_cell.specs.Content.{Content, HasType}
use Rattle.scim_cell.specs.Rows.{Row, rows, content, values, atom_in, atom_at, cell_at, is_primary, IsValue, AreSound, AreValues}
use Rattle.scim_value.specs.Resource.{first_at, IsFilled, IsNamedAs, MayBeKept, IsResource, HasBase}
use Rattle.scim_value.proofs.Facts.{get_cell, part_content, put_sound, rows_content, sound_part}
use Rattle.scim_body.specs.Drafts.{Draft, MayBeGiven, IsDraft, lacks_required}
use Rattle.scim_change.specs.Create.{meta_row}
use Rattle.scim_change.specs.Replace.{with_units, taken, changes, modified_at, replaced}
use Rattle.scim_change.proofs.RowLemmas.{has_last_modified, one_field}
use Rattle.scim_change.proofs.NameLemmas.{IsSimple, has_row, told_by_values, found_in, required_there, user_name, display_name}
use Rattle.scim_change.proofs.CreateLemmas.{filled, kept_field, one_kept, last_modified_kept}
use Rattle.scim_change.proofs.PutLemmas.{is_listed, put_all, unlisted, values_listed, values_put, values_stay, values_unlisted, with_all, with_sound}

-- ---- what was last modified at a moment

-- the unit that tells it
abbrev pub stamp : AttributeUnit
stamp = unit_of (leaf_at Meta LastModified)

-- its one value
abbrev pub stamps : ℕ → List Row
stamps moment = meta_row LastModified (Moment moment) ∷ []

pub modified_fits : (kind : Kind) (moment : ℕ) → moment ≤ last_moment → AreValues kind stamp (stamps moment)
modified_fits kind moment there = record {
  few = inr (omega arith);
  own = All-cons (IsValue kind stamp) (meta_row LastModified (Moment moment)) []
      (refl, refl, one_field kind (leaf_at Meta LastModified) (Moment moment) (has_last_modified kind) there) (All-nil (IsValue kind stamp));
}

pub stamps_own : (moment : ℕ) → All (λ (r : Row). r.unit ≡ stamp) (stamps moment)
stamps_own moment = All-cons (λ (r : Row). r.unit ≡ stamp) (meta_row LastModified (Moment moment)) [] refl (All-nil (λ (r : Row). r.unit ≡ stamp))

-- the other values stay
pub stamp_apart : (moment : ℕ) (rs : List Row) (v : AttributeUnit) → stamp ≢ v → values v (modified_at moment rs) ≡ values v rs
stamp_apart moment rs v n = values_stay stamp (stamps moment) rs (stamps_own moment) v n

pub stamp_own : (moment : ℕ) (rs : List Row) → values stamp (modified_at moment rs) ≡ stamps moment
stamp_own moment rs = values_put stamp (stamps moment) rs (stamps_own moment)

-- no attribute as a whole is `meta.lastModified`, nor is another sub-attribute of `meta`
pub no_stamp : (a : Attribute) → stamp ≢ whole a
no_stamp a e = let s : Some LastModified ≡ None = ap (λ (v : AttributeUnit). v.sub_attribute) e in cc

pub other_meta : (b : SubAttribute) → LastModified ≢ b → stamp ≢ unit_of (leaf_at Meta b)
other_meta b n e =
    let s : Some LastModified ≡ Some b = ap (λ (v : AttributeUnit). v.sub_attribute) e in
    let same : LastModified ≡ b = cc in n same

-- ---- units that no client may write

pub fixed_id : (kind : Kind) → is_fixed kind (whole Id) ≡ true
fixed_id User = refl
fixed_id Group = refl

module _ (d : Draft) (is : IsDraft d) (us : List AttributeUnit) (c : Content) (own : IsResource c) (kinds : d.kind ≡ c.kind) where
  -- the rows with the draft's values
  abbrev pub given : List Row
  given = with_units d us (rows c)

  draft_sound : AreSound c.kind d.rows
  draft_sound = subst (λ k. AreSound k d.rows) kinds is.sound

  own_sound : AreSound c.kind (rows c)
  own_sound = sound_part c own.part

  pub given_sound : AreSound c.kind given
  given_sound = with_sound d c.kind us (rows c) draft_sound own_sound

  -- a row of a simple attribute is there, if the unit is given, where the draft has one
  pub there_if_given : (a : Attribute) → IsSimple a → is_listed (whole a) us ≡ true → has_row a given ≡ has_row a d.rows
  there_if_given a simple t =
      told_by_values c.kind a simple given given_sound.full given_sound.own
      ∙ ap (has_row a) (values_listed d us (whole a) (rows c) t) ∙ sym (told_by_values c.kind a simple d.rows draft_sound.full draft_sound.own)

  -- and where it isn't, where the resource has one
  pub there_if_kept : (a : Attribute) → IsSimple a → is_listed (whole a) us ≡ false → has_row a given ≡ has_row a (rows c)
  there_if_kept a simple n =
      told_by_values c.kind a simple given given_sound.full given_sound.own
      ∙ ap (has_row a) (values_unlisted d us (whole a) (rows c) n) ∙ sym (told_by_values c.kind a simple (rows c) own_sound.full own_sound.own)

  module _ (moment : ℕ) where
    abbrev pub final : List Row
    final = modified_at moment given

    -- what holds of the values of a unit in the draft, and in the resource, holds of those in the end
    by_unit : (P : List Row → Type 0) (v : AttributeUnit) → stamp ≢ v → P (values v d.rows) → P (values v (rows c)) → P (values v final)
    by_unit P v n drawn kept = subst P (sym (stamp_apart moment given v n)) (elim (cases_Bool (is_listed v us)) [
      | inl t ↦ subst P (sym (values_listed d us v (rows c) t)) drawn
      | inr m ↦ subst P (sym (values_unlisted d us v (rows c) m)) kept
    ])

    of_each : (P : List Row → Type 0) → All (λ a. P (values (whole a) d.rows)) (attributes d.kind) → All (λ a. P (values (whole a) (rows c))) (attributes c.kind) → All (λ a. P (values (whole a) final)) (attributes c.kind)
    of_each P drawn kept =
        let moved : All (λ a. P (values (whole a) d.rows)) (attributes c.kind) = subst (λ k. All (λ a. P (values (whole a) d.rows)) (attributes k)) kinds drawn in
        λ k e l. by_unit P (whole _) (no_stamp _) (moved k e l) (kept k e l)

    all_kept : All (λ r. All (MayBeKept c.kind) r.fields) final
    all_kept =
        let P : Row → Type 0 = λ r. All (MayBeKept c.kind) r.fields in
        let drawn : All P d.rows
        = subst (λ k. All (λ r. All (MayBeKept k) r.fields) d.rows) kinds
        (All-weaker (λ r. All (MayBeGiven d.kind) r.fields) (λ r. All (MayBeKept d.kind) r.fields)
        (λ r h. All-weaker (MayBeGiven d.kind) (MayBeKept d.kind) (kept_field d.kind) r.fields h) d.rows is.may_be_given) in
        let stamped = All-cons P (meta_row LastModified (Moment moment)) [] (one_kept c.kind (leaf_at Meta LastModified) (Moment moment) (last_modified_kept c.kind moment)) (All-nil P) in
        put_all P stamp (stamps moment) given stamped (with_all d P us (rows c) drawn own.may_be_kept)

    module _ (there : moment ≤ last_moment) where
      abbrev pub whole_part : Content
      whole_part = content c.kind c.id final

      pub final_sound : AreSound c.kind final
      final_sound = put_sound c.kind stamp (stamps moment) given (modified_fits c.kind moment there) given_sound

      -- ---- what stands at its leaves

      first : (l : Leaf) → first_at l whole_part ≡ cell_at l 0 final
      first l =
          let same = rows_content c.kind c.id final final_sound in
          get_cell whole_part (part_content c.kind c.id final final_sound) (subst (AreSound c.kind) (sym same) final_sound) l 0 ∙ ap (cell_at l 0) same

      -- at a leaf of another unit what the draft gives, or what was there
      first_given : (l : Leaf) → stamp ≢ unit_of l → is_listed (unit_of l) us ≡ true → first_at l whole_part ≡ cell_at l 0 d.rows
      first_given l n t = first l ∙ ap (atom_at l 0) (stamp_apart moment given (unit_of l) n ∙ values_listed d us (unit_of l) (rows c) t)

      first_kept : (l : Leaf) → stamp ≢ unit_of l → is_listed (unit_of l) us ≡ false → first_at l whole_part ≡ first_at l c
      first_kept l n m =
          first l ∙ ap (atom_at l 0) (stamp_apart moment given (unit_of l) n ∙ values_unlisted d us (unit_of l) (rows c) m)
          ∙ sym (get_cell c own.part own_sound l 0)

      -- the atom of a required attribute that the draft gives
      named : (kind : Kind) → c.kind ≡ kind → lacks_required kind given ≡ false → IsNamedAs kind c → IsNamedAs kind whole_part
      named User e complete was = elim (cases_Bool (is_listed (whole UserName) us)) [
        | inl t ↦
            let some = found_in d is UserName user_name (sym (there_if_given UserName user_name t) ∙ required_there User given UserName refl refl complete) in
            subst IsFilled (sym (first_given (simple UserName) (no_stamp UserName) t ∙ some.1))
            (filled some.0 (some.2.given.filled refl) (subst (λ k. HasType (characteristics_of k (simple UserName)).attribute_type some.0) (kinds ∙ e) some.2.type))
        | inr n ↦ subst IsFilled (sym (first_kept (simple UserName) (no_stamp UserName) n)) was
      ]
      named Group e complete was = elim (cases_Bool (is_listed (whole DisplayName) us)) [
        | inl t ↦
            let some = found_in d is DisplayName display_name (sym (there_if_given DisplayName display_name t) ∙ required_there Group given DisplayName refl refl complete) in
            subst IsSome (sym (first_given (simple DisplayName) (no_stamp DisplayName) t ∙ some.1)) refl
        | inr n ↦ subst IsSome (sym (first_kept (simple DisplayName) (no_stamp DisplayName) n)) was
      ]

      module _ (writable : All (λ u. is_fixed c.kind u ≡ false) us) where
        meta_kept : (b : SubAttribute) → LastModified ≢ b → is_fixed c.kind (unit_of (leaf_at Meta b)) ≡ true → first_at (leaf_at Meta b) whole_part ≡ first_at (leaf_at Meta b) c
        meta_kept b n fixed =
            first_kept (leaf_at Meta b) (other_meta b n) (unlisted c.kind us (unit_of (leaf_at Meta b)) writable fixed)

        id_kept : first_at (simple Id) whole_part ≡ first_at (simple Id) c
        id_kept = first_kept (simple Id) (no_stamp Id) (unlisted c.kind us (whole Id) writable (fixed_id c.kind))

        pub base_kept : (base : List ℕ) → HasBase base c → HasBase base whole_part
        base_kept base h = meta_kept Location (λ e. cc) refl ∙ h

        pub is_resource : lacks_required c.kind given ≡ false → IsResource whole_part
        is_resource complete =
            let same = sym (rows_content c.kind c.id final final_sound) in
            let modified : first_at (leaf_at Meta LastModified) whole_part ≡ Some (Moment moment)
            = first (leaf_at Meta LastModified) ∙ ap (atom_at (leaf_at Meta LastModified) 0) (stamp_own moment given) in
            record {
              part = part_content c.kind c.id final final_sound;
              identified = (own.identified.0, id_kept ∙ own.identified.1);
              has_meta = (meta_kept ResourceType (λ e. cc) refl ∙ own.has_meta.0, subst IsSome (sym (meta_kept Created (λ e. cc) refl)) own.has_meta.1, subst IsSome (sym modified) refl);
              located = (own.located.0, base_kept own.located.0 own.located.1);
              named = named c.kind refl complete own.named;
              members_have_values = subst (λ rs. All (λ (r : Row). IsSome (atom_in (leaf_at Members Value) r.fields)) (values (whole Members) rs)) same
                  (by_unit (λ rs. All (λ (r : Row). IsSome (atom_in (leaf_at Members Value) r.fields)) rs) (whole Members) (no_stamp Members) is.members_have_values own.members_have_values);
              one_primary = subst (λ rs. All (λ a. count_by is_primary (values (whole a) rs) ≤ 1) (attributes c.kind)) same (of_each (λ rs. count_by is_primary rs ≤ 1) is.one_primary own.one_primary);
              few_values = subst (λ rs. All (λ a. length (values (whole a) rs) ≤ 10000) (attributes c.kind)) same (of_each (λ rs. length rs ≤ 10000) is.few_values own.few_values);
              may_be_kept = subst (λ rs. All (λ r. All (MayBeKept c.kind) r.fields) rs) same all_kept;
            }

-- ---- what becomes of it, case by case

module _ (d : Draft) (us : List AttributeUnit) (moment : ℕ) (c : Content) where
  -- nothing changes
  pub as_it_was : changes d us (rows c) ≡ false → replaced d us moment c ≡ Some c
  unfolding replaced
  as_it_was e = rw e refl

  -- a required attribute would be missing
  pub refused : changes d us (rows c) ≡ true → lacks_required c.kind (with_units d (taken d us) (rows c)) ≡ true → replaced d us moment c ≡ None
  unfolding replaced
  refused e f = rw (e, f) refl

  -- it has the values that it is given
  pub complete : changes d us (rows c) ≡ true → lacks_required c.kind (with_units d (taken d us) (rows c)) ≡ false
      → replaced d us moment c ≡ Some (content c.kind c.id (modified_at moment (with_units d (taken d us) (rows c))))
  unfolding replaced
  complete e f = rw (e, f) refl
