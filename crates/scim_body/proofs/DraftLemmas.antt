-- What a body gives keeps to what is known of drafts.
use Rattle.std.proofs.Common.{◌≡◌, ◌≢◌, ◌≤◌, ◌∙◌, Bool, true, false, ◌&&◌, List, [], ◌∷◌, Option, Some, option_map, length, get_or, map, count_by, refl, ap, sym, subst, arith}
use Rattle.std.specs.Prelude.{All, AllPairs, Contains}
use Rattle.std.specs.List.{flat_map}
use Rattle.std.specs.Ordering.{is_eq}
use Rattle.std.proofs.lemmas.List.Elements.{All-nil, All-cons, All-weaker, All-filter, All-contains_itself, filter_passes}
use denote.Enum.Bare.{sameb, true_same}
use Rattle.serde_json.specs.Data.{Data, Members}
use Rattle.scim_schema.specs.declared.Kind.{Kind}
use Rattle.scim_schema.specs.declared.Attribute.{Attribute}
use Rattle.scim_schema.specs.declared.Attribute.TheVariants.{UserName, Members as MembersAttribute}
use Rattle.scim_schema.specs.declared.Leaf.{Leaf}
use Rattle.scim_schema.specs.declared.Unit.{Unit as AttributeUnit}
use Rattle.scim_schema.specs.contracts.Attribute.{the_type as the_attribute}
use Rattle.scim_schema.specs.Names.{attribute_name}
use Rattle.scim_schema.specs.Schemas.{extension_of}
use Rattle.scim_schema.specs.Table.{attributes, sub_attributes}
use Rattle.scim_schema.specs.Characteristics.{characteristics_of, is_multi_valued}
use Rattle.scim_schema.specs.Units.{simple, whole}
use Rattle.scim_schema.specs.declared.json_keys.JsonShape.{JsonShape}
use Rattle.scim_schema.specs.declared.json_keys.JsonShape.TheVariants.{Simple, Complex, MultiValued}
use Rattle.scim_schema.specs.JsonKeys.{shape_of}
use Rattle.scim_schema.specs.Mutability.{is_read_only}
use Rattle.scim_cell.specs.declared.atoms.Atom.{Atom}
use Rattle.scim_cell.specs.declared.rows.Field.{Field}
use Rattle.scim_cell.specs.Place.{attribute_number, unit_cmp}
use Rattle.scim_cell.specs.Rows.{Row, has_fields, values, is_primary, IsSoundRow}
use Rattle.scim_value.specs.Resource.{MembersHaveValues}
use Rattle.scim_value.proofs.Facts.{unit_same}
use Rattle.scim_body.specs.declared.drafts.UseFor.{UseFor}
use Rattle.scim_body.specs.declared.drafts.UseFor.TheVariants.{Creating}
use Rattle.scim_body.specs.BodyValues.{collected, given_named, given_atom, fields_of, values_of}
use Rattle.scim_body.specs.Drafts.{Draft, IsDraft, MayBeGiven, is_empty, lacks_required}
use Rattle.scim_body.specs.Bodies.{Given, field_given, named_given, simple_given, complex_given, whole_given, shaped_given, attribute_given, schema_members, given_of, all_given, draft_of}
use Rattle.scim_body.proofs.CollectedLemmas.{mapped, chained, not_refused, unless, where_given, one_pair, collected_all, collected_pairs, collected_values, collected_flat_map}
use Rattle.scim_json.proofs.Facts.{fits}
use Rattle.scim_body.proofs.LeafTables.{attributes_rise, table_fits, fits_simple, fits_complex, has_simple, simple_no_moment}
use Rattle.scim_body.proofs.GivenFields.{atom_given, Rises, fields_given}
use Rattle.scim_body.proofs.GivenRows.{Before, attribute_precedes, other_unit, IsGivenRow, AreGivenRows, no_rows, IsSingle, single_rows, values_read, whole_rows}

-- ---- one attribute

-- the rows of what is given
abbrev rows_of : List Given → List Row
rows_of gs = flat_map (λ g. g.values) gs

-- the rows of what is given of an attribute may be given
abbrev AreOf : Kind → Attribute → List Given → Type 0
AreOf kind a gs = AreGivenRows kind a (rows_of gs)

-- a `userName` that is given isn't empty
pub filled : (a : Attribute) (atom : Atom) → (sameb the_attribute a UserName && is_empty atom) ≡ false → simple a ≡ simple UserName → is_empty atom ≡ false
filled a atom h e = go (sameb the_attribute a UserName) (is_empty atom) (true_same the_attribute a UserName (ap (λ (l : Leaf). l.attribute) e)) h
  where
    go : (b c : Bool) → b ≡ true → (b && c) ≡ false → c ≡ false
    go true c t n = n
    go false c t n = cc

-- a simple attribute
simple_rows : (kind : Kind) (a : Attribute) (d : Data) (gs : List Given) → Contains (attributes kind) a → is_read_only kind (simple a) ≡ false
    → is_multi_valued a ≡ false → sub_attributes a ≡ [] → simple_given kind a d ≡ Some gs → AreOf kind a gs
simple_rows kind a d gs has writable single none h =
    let t = (characteristics_of kind (simple a)).attribute_type in
    let c = chained (named_given a) (given_atom t d) gs h in
    let f : Field = record { leaf = simple a; atom = c.0 } in
    let kept = not_refused (sameb the_attribute a UserName && is_empty c.0) (field_given f ∷ []) gs c.2 in
    let atom = atom_given t d c.0 (simple_no_moment kind a) c.1 in
    let one : IsSingle kind a f
    = record { of_attribute = refl; writable = writable; short = atom.1; filled = filled a c.0 kept.0; of_kind = has_simple kind a has none; typed = atom.0 } in
    subst (AreOf kind a) kept.1 (single_rows kind a (f ∷ []) single (All-cons (IsSingle kind a) f [] one (All-nil (IsSingle kind a))) (one_pair Rises (f ∷ []) (omega arith)))

-- a complex attribute
complex_rows : (kind : Kind) (a : Attribute) (d : Data) (gs : List Given) → Contains (attributes kind) a → is_read_only kind (simple a) ≡ false
    → is_multi_valued a ≡ false → complex_given kind a d ≡ Some gs → AreOf kind a gs
complex_rows kind a d gs has writable single h =
    let m = mapped (map field_given) (fields_of kind a d) gs h in
    let fields = fields_given kind a d m.0 has writable m.1 in
    let own : All (IsSingle kind a) m.0 = λ i e l. (let o = fields.own i e l in record {
      of_attribute = ap (λ (l : Leaf). l.attribute) o.1.leaf;
      writable = o.1.may_be_given.writable;
      short = o.1.may_be_given.short;
      filled = o.1.may_be_given.filled;
      of_kind = o.1.of_kind;
      typed = o.1.typed;
    }) in
    subst (AreOf kind a) m.2 (single_rows kind a m.0 single own fields.in_order)

-- a multi-valued attribute
whole_given_rows : (kind : Kind) (a : Attribute) (d : Data) (gs : List Given) → Contains (attributes kind) a → is_read_only kind (simple a) ≡ false
    → is_multi_valued a ≡ true → option_map (whole_given a) (values_of kind a d) ≡ Some gs → AreOf kind a gs
whole_given_rows kind a d gs has writable many h =
    let m = mapped (whole_given a) (values_of kind a d) gs h in
    subst (AreOf kind a) m.2 (subst (AreGivenRows kind a) (sym (whole_rows a m.0)) (values_read kind a d m.0 has writable many m.1))

-- by shape
shaped_rows : (kind : Kind) (a : Attribute) (shape : JsonShape) (d : Data) (gs : List Given) → Contains (attributes kind) a → is_read_only kind (simple a) ≡ false
    → fits shape (is_multi_valued a) (sub_attributes a) ≡ true → shaped_given kind a shape d ≡ Some gs → AreOf kind a gs
shaped_rows kind a Simple d gs has writable fit h = let f = fits_simple (is_multi_valued a) (sub_attributes a) fit in simple_rows kind a d gs has writable f.0 f.1 h
shaped_rows kind a Complex d gs has writable fit h = complex_rows kind a d gs has writable (fits_complex (is_multi_valued a) (sub_attributes a) fit) h
shaped_rows kind a MultiValued d gs has writable fit h = whole_given_rows kind a d gs has writable fit h

-- what an object gives of an attribute
attribute_rows : (kind : Kind) (a : Attribute) (ms : Members) (gs : List Given) → Contains (attributes kind) a → attribute_given kind a ms ≡ Some gs → AreOf kind a gs
attribute_rows kind a ms gs has h =
    unless (AreOf kind a) (is_read_only kind (simple a)) _ gs (no_rows kind a)
    (λ writable e. where_given (AreOf kind a) (shaped_given kind a (shape_of a)) (given_named (attribute_name a) ms) gs (no_rows kind a)
    (λ d read. shaped_rows kind a (shape_of a) d gs has writable (table_fits a) read) e) h

-- what a body gives of it
given_rows : (kind : Kind) (ms : Members) (a : Attribute) (gs : List Given) → Contains (attributes kind) a → given_of kind ms a ≡ Some gs → AreOf kind a gs
given_rows kind ms a gs has h =
    let c = chained (attribute_given kind a) (schema_members (extension_of a) ms) gs h in attribute_rows kind a c.0 gs has c.2

-- ---- all attributes

-- the rows that a body gives of an attribute
abbrev rows_read : Kind → Members → Attribute → Option (List Row)
rows_read kind ms a = option_map (flat_map (λ (g : Given). g.values)) (given_of kind ms a)

-- may be given
each_rows : (kind : Kind) (ms : Members) (a : Attribute) (rs : List Row) → Contains (attributes kind) a → rows_read kind ms a ≡ Some rs → AreGivenRows kind a rs
each_rows kind ms a rs has h =
    let m = mapped (flat_map (λ (g : Given). g.values)) (given_of kind ms a) rs h in subst (AreGivenRows kind a) m.2 (given_rows kind ms a m.0 has m.1)

-- a row of an attribute
abbrev IsOfAttribute : Attribute → Row → Type 0
IsOfAttribute a r = r.unit.attribute ≡ a

-- few values, of which one at most is primary
abbrev AreFew : List Row → Type 0
AreFew rs = (count_by is_primary rs ≤ 1) × (length rs ≤ 10000)

-- a value of an attribute isn't one of another
not_of_other : (a b : Attribute) (r : Row) → attribute_number a ≢ attribute_number b → IsOfAttribute a r → is_eq (unit_cmp r.unit (whole b)) ≡ false
not_of_other a b r n e = other_unit r.unit (whole b) (λ u. n (ap attribute_number (sym e ∙ ap (λ (v : AttributeUnit). v.attribute) u)))

-- what is known of the rows of a body
record AreAllGiven (kind : Kind) (rs : List Row) : Type 0 where
  own : All (IsGivenRow kind) rs
  in_order : AllPairs Before rs
  few : All (λ a. AreFew (values (whole a) rs)) (attributes kind)

-- it is so of all that is read
all_rows : (kind : Kind) (ms : Members) (rs : List Row) → collected (rows_read kind ms) (attributes kind) ≡ Some rs → AreAllGiven kind rs
all_rows kind ms rs h =
    let every = All-contains_itself (attributes kind) in
    record {
      own = collected_all (Contains (attributes kind)) (IsGivenRow kind) (rows_read kind ms) (λ a vs c e. (each_rows kind ms a vs c e).own) (attributes kind) every rs h;
      in_order = collected_pairs attribute_number (Contains (attributes kind)) IsOfAttribute Before (rows_read kind ms)
          (λ a vs c e. (each_rows kind ms a vs c e).of_attribute) (λ a vs c e. (each_rows kind ms a vs c e).in_order)
          (λ a b r s less e k. attribute_precedes r.unit s.unit (omega (arith, less, ap attribute_number e, ap attribute_number k)))
          (attributes kind) (attributes_rise kind) every rs h;
      few = collected_values attribute_number (Contains (attributes kind)) IsOfAttribute (λ a r. is_eq (unit_cmp r.unit (whole a))) (λ a vs. AreFew vs) (rows_read kind ms)
          (λ a vs c e. (each_rows kind ms a vs c e).of_attribute) (λ a vs c e. (let g = each_rows kind ms a vs c e in (g.one_primary, g.few)))
          not_of_other (attributes kind) (attributes_rise kind) every rs h;
    }

-- a value of `members` has a `value`
members_named : (kind : Kind) (rs : List Row) → All (IsGivenRow kind) rs → MembersHaveValues rs
members_named kind rs own = λ i d l.
    (let test = λ (r : Row). is_eq (unit_cmp r.unit (whole MembersAttribute)) in
    let here : All (λ r. test r ≡ true) (values (whole MembersAttribute) rs) = filter_passes test rs in
    let kept : All (IsGivenRow kind) (values (whole MembersAttribute) rs) = All-filter test (IsGivenRow kind) rs own in
    (kept i d l).named (ap (λ (u : AttributeUnit). u.attribute) (unit_same (get_or (values (whole MembersAttribute) rs) i d).unit (whole MembersAttribute) (here i d l))))

-- the draft of what a body gives keeps to what is known of drafts, where a create has all that is required
pub given_draft : (kind : Kind) (use_for : UseFor) (ms : Members) (gs : List Given) → all_given kind ms ≡ Some gs
    → (use_for ≡ Creating → lacks_required kind (flat_map (λ g. g.values) gs) ≡ false) → IsDraft (draft_of kind use_for gs)
unfolding all_given
given_draft kind use_for ms gs h complete =
    let all = all_rows kind ms (rows_of gs) (collected_flat_map (λ (g : Given). g.values) (given_of kind ms) (attributes kind) gs h) in
    record {
      sound = record {
        full = All-weaker (IsGivenRow kind) (λ r. has_fields r ≡ true) (λ r g. g.full) (rows_of gs) all.own;
        own = All-weaker (IsGivenRow kind) (IsSoundRow kind) (λ r g. g.own) (rows_of gs) all.own;
        in_order = all.in_order;
      };
      may_be_given = All-weaker (IsGivenRow kind) (λ r. All (MayBeGiven kind) r.fields) (λ r g. g.may_be_given) (rows_of gs) all.own;
      members_have_values = members_named kind (rows_of gs) all.own;
      one_primary = λ i d l. (all.few i d l).0;
      few_values = λ i d l. (all.few i d l).1;
      complete = complete;
    }

-- so does the draft with these units and rows
pub draft_with : (kind : Kind) (use_for : UseFor) (ms : Members) (gs : List Given) (units : List AttributeUnit) (rows : List Row) → all_given kind ms ≡ Some gs
    → units ≡ map (λ g. g.unit) gs → rows ≡ flat_map (λ g. g.values) gs → (use_for ≡ Creating → lacks_required kind rows ≡ false)
    → IsDraft (record { kind = kind; use_for = use_for; given = units; rows = rows })
draft_with kind use_for ms gs units rows h u r complete =
    let draft = given_draft kind use_for ms gs h (λ e. ap (lacks_required kind) (sym r) ∙ complete e) in
    subst (λ (d : Draft). IsDraft d) (λ i. record { kind = kind; use_for = use_for; given = sym u i; rows = sym r i }) draft
