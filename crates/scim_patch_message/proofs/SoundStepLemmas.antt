-- So may the steps of each path, and of the whole message.
use Rattle.std.proofs.Common.{◌≡◌, ◌∙◌, ℕ, Bool, true, false, ◌&&◌, List, [], ◌∷◌, map, length, get_or, Option, None, Some, option_map, Result, Ok, Err, refl, sym, ap, subst, true≢false, inl, inr}
use Rattle.std.specs.Prelude.{All, Contains, nat_lt, codes, option_and_then, if◌then◌else◌}
use Rattle.std.proofs.lemmas.Bool.{cases_Bool}
use Rattle.std.proofs.lemmas.List.Elements.{All-nil, All-cons, All-map, All-weaker, All-contains_itself}
use denote.Enum.Bare.{sameb}
use Rattle.serde_json.specs.Data.{Data, Items, Members}
use Rattle.serde_json.specs.Find.{as_object, as_str, as_array}
use Rattle.scim_schema.specs.declared.Kind.{Kind}
use Rattle.scim_schema.specs.declared.Attribute.{Attribute}
use Rattle.scim_schema.specs.declared.Attribute.TheVariants.{UserName}
use Rattle.scim_schema.specs.declared.SubAttribute.{SubAttribute}
use Rattle.scim_schema.specs.declared.Leaf.{Leaf}
use Rattle.scim_schema.specs.declared.schema_urns.Schema.{Schema}
use Rattle.scim_schema.specs.declared.json_keys.JsonShape.{JsonShape}
use Rattle.scim_schema.specs.declared.json_keys.JsonShape.TheVariants.{Simple, Complex, MultiValued}
use Rattle.scim_schema.specs.contracts.Attribute.{the_type as the_attribute}
use Rattle.scim_schema.specs.Characteristics.{characteristics_of, is_multi_valued}
use Rattle.scim_schema.specs.JsonKeys.{shape_of}
use Rattle.scim_schema.specs.Lookup.{attribute_named_in}
use Rattle.scim_schema.specs.Mutability.{is_read_only}
use Rattle.scim_schema.specs.Schemas.{schema_of, is_same_schema}
use Rattle.scim_schema.specs.Table.{attributes, sub_attributes}
use Rattle.scim_schema.specs.Units.{simple, leaf_at, whole, unit_of, units}
use Rattle.scim_cell.specs.declared.rows.Field.{Field}
use Rattle.scim_cell.specs.Rows.{Row}
use Rattle.scim_filter_grammar.specs.Tree.{Tree}
use Rattle.scim_json.proofs.Facts.{fits}
use Rattle.scim_body.specs.BodyNames.{value_named, is_twice, items_list, value_clashes, values_clash}
use Rattle.scim_body.specs.BodyValues.{present, given_named, given_atom, field_with, fields_of, listed_values}
use Rattle.scim_body.specs.Bodies.{Given, field_given, named_given, simple_given, complex_given, shaped_given}
use Rattle.scim_body.specs.Drafts.{is_empty}
use Rattle.scim_body.proofs.Facts.{atom_given, chained, filled, fields_given, fits_simple, has_simple, mapped, not_refused, simple_no_moment, table_fits, values_listed, with_one, IsOf, IsSingle}
use Rattle.scim_path.specs.declared.faults.PathFault.{PathFault}
use Rattle.scim_path.specs.Paths.{PathTarget, OfExtension, OfAttribute, OfSubAttribute, OfValues}
use Rattle.scim_path.specs.Targets.{target_in}
use Rattle.scim_patch_steps.specs.Changes.{StepChange, Keep, KeepMatches, RemoveMatches, KeepSubAttribute, ClearAtMatches}
use Rattle.scim_patch_steps.specs.Patch.{Step, Pathless, Of, AreGivenFields, AreGivenValues, MayBeMade, IsStep}
use Rattle.scim_patch_message.specs.declared.operations.Operation.{Operation}
use Rattle.scim_patch_message.specs.declared.operations.Operation.TheVariants.{Add, Replace, Remove}
use Rattle.scim_patch_message.specs.Readings.{Read, joined, value_read}
use Rattle.scim_patch_message.specs.PathSteps.{one, emptied, kept_steps, set_to, set_units, listed_change, listed_steps, single_steps, given_steps, writable_steps, attribute_steps, sub_attribute_kept, sub_attribute_cleared, sub_attribute_set, sub_attribute_emptied, sub_attribute_given, writable_sub_attribute_steps, sub_attribute_steps, matches_emptied, matches_change, matches_set, matches_given, writable_matches_steps, matches_steps, at_matches_emptied, at_matches_change, at_matches_given, writable_at_matches_steps, at_matches_steps, own_removed, extension_removed, extension_emptied, attribute_or_none, own_member, extension_object, extension_given, extension_steps, target_steps, is_fixed_target}
use Rattle.scim_patch_message.specs.Messages.{names_nothing, key_steps, member_steps, object_steps, pathless_steps, valued_steps, pathed_steps, text_steps, path_steps, named_steps, keys_clash, member_operation, object_operation, operation_steps, if_few, list_steps, items_steps, object_message, message_steps}
use Rattle.scim_patch_message.proofs.KnownLemmas.{found_in, IsTarget, IsKnown, target_known}
use Rattle.scim_patch_message.proofs.SoundLemmas.{Sound, both_sound, joined_sound, each_sound, value_sound, one_sound, whole_there, leaf_there, many_free, sub_leaf, all_cleared_sound, set_sound, values_sound, fields_sound, field_sound}

-- what is read either way is sound
either : (kind : Kind) (b : Bool) (r s : Read) → (b ≡ true → Sound kind r) → (b ≡ false → Sound kind s) → Sound kind (if b then r else s)
either kind true r s h k = h refl
either kind false r s h k = k refl

-- ---- an attribute

module _ (kind : Kind) (a : Attribute) (c : Contains (attributes kind) a) where
  -- a simple attribute is its own unit
  whole_is : unit_of (simple a) ≡ whole a
  whole_is = elim (cases_Bool (is_multi_valued a)) [
    | inl t ↦ rw t refl
    | inr f ↦ rw f refl
  ]

  all_kept_sound : (shape : JsonShape) → fits shape (is_multi_valued a) (sub_attributes a) ≡ true → All (IsStep kind) (kept_steps a shape)
  all_kept_sound Simple h =
      let f = fits_simple (is_multi_valued a) (sub_attributes a) h in
      one_sound kind (whole a) Keep (subst (λ u. Contains (units kind) u) whole_is (leaf_there kind (simple a) (has_simple kind a c f.1))) tt
  all_kept_sound Complex h = All-nil (IsStep kind)
  all_kept_sound MultiValued h = one_sound kind (whole a) Keep (whole_there kind a c h) tt

  emptied_sound : (op : Operation) → Sound kind (emptied kind op a)
  emptied_sound Add = all_kept_sound (shape_of a) (table_fits a)
  emptied_sound Replace = all_cleared_sound kind a c
  emptied_sound Remove = all_cleared_sound kind a c

  -- what is given of it, where it has one value
  module _ (writable : is_read_only kind (simple a) ≡ false) where
    all_set : (fs : List Field) → is_multi_valued a ≡ false → All (IsSingle kind a) fs → All (IsStep kind) (map set_to (map field_given fs))
    all_set fs single own =
        All-map (IsStep kind) set_to (map field_given fs)
        (All-map (λ g. IsStep kind (set_to g)) field_given fs (All-weaker (IsSingle kind a) (λ f. IsStep kind (set_to (field_given f))) (λ f h. set_sound kind a f single h) fs own))

    simple_set : (d : Data) (gs : List Given) → is_multi_valued a ≡ false → sub_attributes a ≡ [] → simple_given kind a d ≡ Some gs → All (IsStep kind) (map set_to gs)
    simple_set d gs single none h =
        let t = (characteristics_of kind (simple a)).attribute_type in
        let x = chained (named_given a) (given_atom t d) gs h in
        let f : Field = record { leaf = simple a; atom = x.0 } in
        let kept = not_refused (sameb the_attribute a UserName && is_empty x.0) (field_given f ∷ []) gs x.2 in
        let atom = atom_given t d x.0 (simple_no_moment kind a) x.1 in
        let own : IsSingle kind a f
        = record { of_attribute = refl; writable = writable; short = atom.1; filled = filled a x.0 kept.0; of_kind = has_simple kind a c none; typed = atom.0 } in
        subst (λ hs. All (IsStep kind) (map set_to hs)) kept.1 (all_set (f ∷ []) single (All-cons (IsSingle kind a) f [] own (All-nil (IsSingle kind a))))

    complex_set : (d : Data) (gs : List Given) → is_multi_valued a ≡ false → complex_given kind a d ≡ Some gs → All (IsStep kind) (map set_to gs)
    complex_set d gs single h =
        let m = mapped (map field_given) (fields_of kind a d) gs h in
        let fields = fields_given kind a d m.0 c writable m.1 in
        let own : All (IsSingle kind a) m.0 = λ i e l. (let o = fields.own i e l in record {
          of_attribute = ap (λ (l : Leaf). l.attribute) o.1.leaf;
          writable = o.1.may_be_given.writable;
          short = o.1.may_be_given.short;
          filled = o.1.may_be_given.filled;
          of_kind = o.1.of_kind;
          typed = o.1.typed;
        }) in
        subst (λ hs. All (IsStep kind) (map set_to hs)) m.2 (all_set m.0 single own)

    shaped_set : (shape : JsonShape) (d : Data) (gs : List Given) → fits shape (is_multi_valued a) (sub_attributes a) ≡ true → is_multi_valued a ≡ false
        → shaped_given kind a shape d ≡ Some gs → All (IsStep kind) (map set_to gs)
    shaped_set Simple d gs fit single h = simple_set d gs single (fits_simple (is_multi_valued a) (sub_attributes a) fit).1 h
    shaped_set Complex d gs fit single h = complex_set d gs single h
    shaped_set MultiValued d gs fit single h = absurd (true≢false (sym fit ∙ single))

    units_set : (d : Data) → is_multi_valued a ≡ false → Sound kind (value_read (values_clash a d) (set_units kind a d))
    units_set d single = value_sound kind (values_clash a d) (set_units kind a d)
        (λ steps e. (let m = mapped (map set_to) (shaped_given kind a (shape_of a) d) steps e in
        subst (All (IsStep kind)) m.2 (shaped_set (shape_of a) d m.0 (table_fits a) single m.1)))

    -- or many
    listed_set : (op : Operation) (d : Data) → is_multi_valued a ≡ true → Sound kind (value_read (values_clash a d) (listed_steps kind op a d))
    listed_set op d many = value_sound kind (values_clash a d) (listed_steps kind op a d)
        (λ steps e. (let m = mapped (λ vs. one (whole a) (listed_change op a vs)) (listed_values kind a d) steps e in
        subst (All (IsStep kind)) m.2 (by_operation op m.0 (values_sound kind a m.0 many (values_listed kind a d m.0 c writable many m.1)))))
      where
        by_operation : (p : Operation) (vs : List Row) → AreGivenValues kind (whole a) vs → All (IsStep kind) (one (whole a) (listed_change p a vs))
        by_operation Add vs own = one_sound kind (whole a) _ (whole_there kind a c many) (many, own)
        by_operation Replace vs own = one_sound kind (whole a) _ (whole_there kind a c many) (own, λ needed. absurd (many_free kind a c many needed))
        by_operation Remove vs own = one_sound kind (whole a) _ (whole_there kind a c many) many

    single_sound : (op : Operation) (d : Data) → is_multi_valued a ≡ false → Sound kind (single_steps kind op a d)
    single_sound Add d single = units_set d single
    single_sound Replace d single = units_set d single
    single_sound Remove d single = all_cleared_sound kind a c

    given_sound : (op : Operation) (d : Data) → Sound kind (given_steps kind op a d)
    given_sound op d = either kind (is_multi_valued a) _ _ (λ many. listed_set op d many) (λ single. single_sound op d single)

    writable_sound : (op : Operation) (v : Option Data) → Sound kind (writable_steps kind op a v)
    writable_sound op None = emptied_sound op
    writable_sound op (Some d) = given_sound op d

  pub attribute_sound : (op : Operation) (v : Option Data) → Sound kind (attribute_steps kind op a v)
  unfolding attribute_steps
  attribute_sound op v = either kind (is_read_only kind (simple a)) _ _ (λ fixed. all_kept_sound (shape_of a) (table_fits a)) (λ writable. writable_sound writable op v)

-- ---- a sub-attribute

module _ (kind : Kind) (a : Attribute) (b : SubAttribute) (c : Contains (attributes kind) a) (d : Contains (sub_attributes a) b) where
  unit_in : Contains (units kind) (unit_of (leaf_at a b))
  unit_in = leaf_there kind (leaf_at a b) (sub_leaf kind a b c d)

  kept_sound : All (IsStep kind) (one (unit_of (leaf_at a b)) (sub_attribute_kept a b))
  kept_sound = one_sound kind (unit_of (leaf_at a b)) (sub_attribute_kept a b) unit_in may
    where
      may : MayBeMade kind (unit_of (leaf_at a b)) (sub_attribute_kept a b)
      may = elim (cases_Bool (is_multi_valued a)) [ inl t ↦ rw t t | inr f ↦ rw f tt ]

  cleared_sound : All (IsStep kind) (one (unit_of (leaf_at a b)) (sub_attribute_cleared a b))
  cleared_sound = one_sound kind (unit_of (leaf_at a b)) (sub_attribute_cleared a b) unit_in may
    where
      may : MayBeMade kind (unit_of (leaf_at a b)) (sub_attribute_cleared a b)
      may = elim (cases_Bool (is_multi_valued a)) [ inl t ↦ rw t t | inr f ↦ rw f tt ]

  -- a field that is read of a value
  module _ (writable : is_read_only kind (leaf_at a b) ≡ false) where
    is_of : (e : Data) (fs : List Field) → field_with kind a b e ≡ Some fs → All (IsOf kind a b) fs
    is_of e fs h = (with_one kind a b e fs (sub_leaf kind a b c d) writable h).own

    single_of : (f : Field) → IsOf kind a b f → IsSingle kind a f
    single_of f o = record {
      of_attribute = ap (λ (l : Leaf). l.attribute) o.leaf;
      writable = o.may_be_given.writable;
      short = o.may_be_given.short;
      filled = o.may_be_given.filled;
      of_kind = o.of_kind;
      typed = o.typed;
    }

    one_set : (f : Field) → IsOf kind a b f → IsStep kind (sub_attribute_set a f)
    one_set f o = elim (cases_Bool (is_multi_valued a)) [
      | inl many ↦ rw many (whole_there kind a c many, field_sound kind a b f many o)
      | inr single ↦ rw single (set_sound kind a f single (single_of f o))
    ]

    each_set : (e : Data) (to : Field → Step) → ((f : Field) → IsOf kind a b f → IsStep kind (to f)) → Sound kind (value_read false (option_map (map to) (field_with kind a b e)))
    each_set e to may = value_sound kind false (option_map (map to) (field_with kind a b e))
        (λ steps h. (let m = mapped (map to) (field_with kind a b e) steps h in
        subst (All (IsStep kind)) m.2 (All-map (IsStep kind) to m.0 (All-weaker (IsOf kind a b) (λ f. IsStep kind (to f)) may m.0 (is_of e m.0 m.1)))))

    given_at : (op : Operation) (e : Data) → Sound kind (sub_attribute_given kind op a b e)
    given_at Add e = each_set e (sub_attribute_set a) one_set
    given_at Replace e = each_set e (sub_attribute_set a) one_set
    given_at Remove e = cleared_sound

    emptied_at : (op : Operation) → All (IsStep kind) (one (unit_of (leaf_at a b)) (sub_attribute_emptied op a b))
    emptied_at Add = kept_sound
    emptied_at Replace = cleared_sound
    emptied_at Remove = cleared_sound

    writable_at : (op : Operation) (v : Option Data) → Sound kind (writable_sub_attribute_steps kind op a b v)
    writable_at op None = emptied_at op
    writable_at op (Some e) = given_at op e

  pub sub_attribute_sound : (op : Operation) (v : Option Data) → Sound kind (sub_attribute_steps kind op a b v)
  unfolding sub_attribute_steps
  sub_attribute_sound op v = either kind (is_read_only kind (leaf_at a b)) _ _ (λ fixed. kept_sound) (λ writable. writable_at writable op v)

  -- at the matches of a filter
  module _ (many : is_multi_valued a ≡ true) (t : Tree) where
    at_matches_may : (replaces : Bool) (f : Field) → IsOf kind a b f → IsStep kind (Of (whole a) (at_matches_change replaces t f))
    at_matches_may true f o = (whole_there kind a c many, field_sound kind a b f many o)
    at_matches_may false f o = (whole_there kind a c many, field_sound kind a b f many o)

    one_many : (change : StepChange) → MayBeMade kind (whole a) change → All (IsStep kind) (one (whole a) change)
    one_many change may = one_sound kind (whole a) change (whole_there kind a c many) may

    at_matches_empty : (op : Operation) → All (IsStep kind) (one (whole a) (at_matches_emptied op t b))
    at_matches_empty Add = one_many (KeepSubAttribute b) many
    at_matches_empty Replace = one_many (ClearAtMatches t b) many
    at_matches_empty Remove = one_many (ClearAtMatches t b) many

    at_matches_with : is_read_only kind (leaf_at a b) ≡ false → (op : Operation) (e : Data) → Sound kind (at_matches_given kind op a t b e)
    at_matches_with writable Add e = each_set writable e (λ f. Of (whole a) (at_matches_change false t f)) (at_matches_may false)
    at_matches_with writable Replace e = each_set writable e (λ f. Of (whole a) (at_matches_change true t f)) (at_matches_may true)
    at_matches_with writable Remove e = one_many (ClearAtMatches t b) many

    writable_at_matches : is_read_only kind (leaf_at a b) ≡ false → (op : Operation) (v : Option Data) → Sound kind (writable_at_matches_steps kind op a t b v)
    writable_at_matches writable op None = at_matches_empty op
    writable_at_matches writable op (Some e) = at_matches_with writable op e

    pub at_matches_sound : (op : Operation) (v : Option Data) → Sound kind (at_matches_steps kind op a t b v)
    unfolding at_matches_steps
    at_matches_sound op v =
        either kind (is_read_only kind (leaf_at a b)) _ _ (λ fixed. one_many (KeepSubAttribute b) many) (λ writable. writable_at_matches writable op v)

-- ---- the matches themselves

module _ (kind : Kind) (a : Attribute) (c : Contains (attributes kind) a) (many : is_multi_valued a ≡ true) (t : Tree) where
  of_whole_many : (change : StepChange) → MayBeMade kind (whole a) change → All (IsStep kind) (one (whole a) change)
  of_whole_many change may = one_sound kind (whole a) change (whole_there kind a c many) may

  matches_may : (replaces : Bool) (fs : List Field) → AreGivenFields kind (whole a) fs → MayBeMade kind (whole a) (matches_change replaces t fs)
  matches_may true fs own = own
  matches_may false fs own = own

  matches_with : is_read_only kind (simple a) ≡ false → (replaces : Bool) (e : Data) → Sound kind (matches_set kind replaces a t e)
  matches_with writable replaces e = value_sound kind (value_clashes a e) (option_map (λ fs. one (whole a) (matches_change replaces t fs)) (fields_of kind a e))
      (λ steps h. (let m = mapped (λ fs. one (whole a) (matches_change replaces t fs)) (fields_of kind a e) steps h in
      subst (All (IsStep kind)) m.2 (of_whole_many (matches_change replaces t m.0) (matches_may replaces m.0 (fields_sound kind a m.0 many (fields_given kind a e m.0 c writable m.1))))))

  matches_empty : (op : Operation) → All (IsStep kind) (one (whole a) (matches_emptied op t))
  matches_empty Add = of_whole_many (KeepMatches t) many
  matches_empty Replace = of_whole_many (RemoveMatches t) many
  matches_empty Remove = of_whole_many (RemoveMatches t) many

  matches_given_sound : is_read_only kind (simple a) ≡ false → (op : Operation) (e : Data) → Sound kind (matches_given kind op a t e)
  matches_given_sound writable Add e = matches_with writable false e
  matches_given_sound writable Replace e = matches_with writable true e
  matches_given_sound writable Remove e = of_whole_many (RemoveMatches t) many

  writable_matches : is_read_only kind (simple a) ≡ false → (op : Operation) (v : Option Data) → Sound kind (writable_matches_steps kind op a t v)
  writable_matches writable op None = matches_empty op
  writable_matches writable op (Some e) = matches_given_sound writable op e

  pub matches_sound : (op : Operation) (v : Option Data) → Sound kind (matches_steps kind op a t v)
  unfolding matches_steps
  matches_sound op v = either kind (is_read_only kind (simple a)) _ _ (λ fixed. of_whole_many Keep tt) (λ writable. writable_matches writable op v)

-- ---- whatever a path names

own_removed_sound : (kind : Kind) (s : Schema) (a : Attribute) → Contains (attributes kind) a → Sound kind (own_removed kind s a)
own_removed_sound kind s a c = either kind (is_same_schema (schema_of kind a) s) _ _ (λ own. attribute_sound kind a c Remove None) (λ other. All-nil (IsStep kind))

extension_removed_sound : (kind : Kind) (s : Schema) → Sound kind (extension_removed kind s)
extension_removed_sound kind s =
    joined_sound kind (own_removed kind s) (attributes kind)
    (All-weaker (Contains (attributes kind)) (λ a. Sound kind (own_removed kind s a)) (λ a c. own_removed_sound kind s a c) (attributes kind) (All-contains_itself (attributes kind)))

extension_emptied_sound : (kind : Kind) (op : Operation) (s : Schema) → Sound kind (extension_emptied kind op s)
extension_emptied_sound kind Add s = All-nil (IsStep kind)
extension_emptied_sound kind Replace s = extension_removed_sound kind s
extension_emptied_sound kind Remove s = extension_removed_sound kind s

own_member_sound : (kind : Kind) (op : Operation) (s : Schema) (key : List ℕ) (d : Data) → Sound kind (own_member kind op s key d)
own_member_sound kind op s key d = named (attribute_named_in kind s key) (λ a e. found_in _ (attributes kind) a e)
  where
    named : (o : Option Attribute) → ((a : Attribute) → o ≡ Some a → Contains (attributes kind) a) → Sound kind (attribute_or_none kind op o d)
    named None own = All-nil (IsStep kind)
    named (Some a) own = attribute_sound kind a (own a refl) op (present (Some d))

extension_object_sound : (kind : Kind) (op : Operation) (s : Schema) (o : Option Members) → Sound kind (extension_object kind op s o)
extension_object_sound kind op s None = tt
extension_object_sound kind op s (Some ms) = each_sound kind (own_member kind op s) (own_member_sound kind op s) ms

extension_given_sound : (kind : Kind) (op : Operation) (s : Schema) (d : Data) → Sound kind (extension_given kind op s d)
extension_given_sound kind Add s d = extension_object_sound kind Add s (as_object d)
extension_given_sound kind Replace s d = extension_object_sound kind Replace s (as_object d)
extension_given_sound kind Remove s d = extension_removed_sound kind s

extension_sound : (kind : Kind) (op : Operation) (s : Schema) (v : Option Data) → Sound kind (extension_steps kind op s v)
unfolding extension_steps
extension_sound kind op s None = extension_emptied_sound kind op s
extension_sound kind op s (Some d) = extension_given_sound kind op s d

target_sound : (kind : Kind) (op : Operation) (target : PathTarget) (v : Option Data) → IsTarget kind target → Sound kind (target_steps kind op target v)
target_sound kind op (OfExtension s) v h = extension_sound kind op s v
target_sound kind op (OfAttribute a) v h = attribute_sound kind a h op v
target_sound kind op (OfSubAttribute a b) v h = sub_attribute_sound kind a b h.0 h.1 op v
target_sound kind op (OfValues a t None) v h = matches_sound kind a h.0 h.1 t op v
target_sound kind op (OfValues a t (Some b)) v h = at_matches_sound kind a b h.0 h.2 h.1 t op v

-- ---- the message

key_sound : (kind : Kind) (op : Operation) (key : List ℕ) (d : Data) (r : Result PathTarget PathFault) → IsKnown kind r → Sound kind (key_steps kind op key d r)
key_sound kind op key d (Ok target) h = either kind (is_fixed_target kind target) _ _ (λ fixed. All-nil (IsStep kind)) (λ free. target_sound kind op target (present (Some d)) h)
key_sound kind op key d (Err f) h = either kind (names_nothing kind key) _ _ (λ ignored. All-nil (IsStep kind)) (λ wrong. tt)

object_sound : (kind : Kind) (op : Operation) (o : Option Members) → Sound kind (object_steps kind op o)
object_sound kind op None = tt
object_sound kind op (Some ms) = each_sound kind (member_steps kind op) (λ key d. key_sound kind op key d (target_in kind key) (target_known kind key)) ms

pathless_sound : (kind : Kind) (op : Operation) (v : Option Data) → Sound kind (pathless_steps kind op v)
pathless_sound kind Add v = object_sound kind Add (option_and_then as_object v)
pathless_sound kind Replace v = object_sound kind Replace (option_and_then as_object v)
pathless_sound kind Remove v = All-cons (IsStep kind) Pathless [] tt (All-nil (IsStep kind))

valued_sound : (kind : Kind) (op : Operation) (target : PathTarget) (v : Option Data) → IsTarget kind target → Sound kind (valued_steps kind op target v)
valued_sound kind Remove target v h = target_sound kind Remove target (present v) h
valued_sound kind Add target None h = tt
valued_sound kind Add target (Some d) h = target_sound kind Add target (present (Some d)) h
valued_sound kind Replace target None h = tt
valued_sound kind Replace target (Some d) h = target_sound kind Replace target (present (Some d)) h

pathed_sound : (kind : Kind) (op : Operation) (v : Option Data) (r : Result PathTarget PathFault) → IsKnown kind r → Sound kind (pathed_steps kind op v r)
pathed_sound kind op v (Ok target) h = valued_sound kind op target v h
pathed_sound kind op v (Err f) h = tt

text_sound : (kind : Kind) (op : Operation) (v : Option Data) (o : Option (List ℕ)) → Sound kind (text_steps kind op v o)
text_sound kind op v None = tt
text_sound kind op v (Some text) = pathed_sound kind op v (target_in kind text) (target_known kind text)

path_sound : (kind : Kind) (op : Operation) (v path : Option Data) → Sound kind (path_steps kind op v path)
path_sound kind op v None = pathless_sound kind op v
path_sound kind op v (Some path) = text_sound kind op v (as_str path)

named_sound : (kind : Kind) (ms : Members) (o : Option Operation) → Sound kind (named_steps kind ms o)
named_sound kind ms None = tt
named_sound kind ms (Some op) = path_sound kind op (value_named (codes "value") ms) (given_named (codes "path") ms)

object_operation_sound : (kind : Kind) (o : Option Members) → Sound kind (object_operation kind o)
object_operation_sound kind None = tt
object_operation_sound kind (Some ms) = either kind (keys_clash ms) _ _ (λ clash. tt) (λ free. named_sound kind ms (member_operation ms))

operation_sound : (kind : Kind) (d : Data) → Sound kind (operation_steps kind d)
unfolding operation_steps
operation_sound kind d = object_operation_sound kind (as_object d)

list_sound : (kind : Kind) (ds : List Data) → Sound kind (list_steps kind ds)
list_sound kind [] = tt
list_sound kind (d ∷ ds) =
    both_sound kind (if_few (d ∷ ds)) (joined (map (operation_steps kind) (d ∷ ds)))
    (either kind (nat_lt 1000 (length (d ∷ ds))) _ _ (λ many. tt) (λ few. All-nil (IsStep kind)))
    (joined_sound kind (operation_steps kind) (d ∷ ds) (λ i e l. operation_sound kind (get_or (d ∷ ds) i e)))

items_sound : (kind : Kind) (o : Option Items) → Sound kind (items_steps kind o)
items_sound kind None = tt
items_sound kind (Some items) = list_sound kind (items_list items)

object_message_sound : (kind : Kind) (o : Option Members) → Sound kind (object_message kind o)
object_message_sound kind None = tt
object_message_sound kind (Some ms) =
    either kind (is_twice (codes "Operations") ms) _ _ (λ clash. tt) (λ free. items_sound kind (option_and_then as_array (value_named (codes "Operations") ms)))

-- the steps of a message may be made of a resource of the kind
pub message_sound : (kind : Kind) (d : Option Data) → Sound kind (message_steps kind d)
unfolding message_steps
message_sound kind d = object_message_sound kind (option_and_then as_object d)

-- so the steps that are read make a patch
pub steps_sound : (kind : Kind) (d : Option Data) (steps : List Step) → message_steps kind d ≡ Ok steps → All (IsStep kind) steps
steps_sound kind d steps e = subst (Sound kind) e (message_sound kind d)
