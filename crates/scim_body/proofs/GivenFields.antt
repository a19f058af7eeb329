-- The fields that a body gives may stand in a resource.
use Rattle.std.proofs.Common.{◌≡◌, ◌<◌, ◌≤◌, ℕ, Bool, true, false, List, [], ◌∷◌, Option, None, Some, option_map, length, refl, ap, subst, arith, true≢false}
use Rattle.std.specs.Prelude.{All, AllPairs, Contains, option_and_then, nat_le, if◌then◌else◌}
use Rattle.std.proofs.lemmas.Bool.{leb-true}
use Rattle.std.proofs.lemmas.Option.{cond_some}
use Rattle.std.proofs.lemmas.List.Elements.{All-nil, All-cons, All-weaker}
use denote.Enum.Bare.{sameb}
use Rattle.serde_json.specs.Data.{Data, Members}
use Rattle.serde_json.specs.Find.{as_str, as_object}
use Rattle.scim_schema.specs.declared.Kind.{Kind}
use Rattle.scim_schema.specs.declared.Attribute.{Attribute}
use Rattle.scim_schema.specs.declared.SubAttribute.{SubAttribute}
use Rattle.scim_schema.specs.declared.SubAttribute.TheVariants as sub_attribute
use Rattle.scim_schema.specs.declared.Leaf.{Leaf}
use Rattle.scim_schema.specs.declared.characteristics.AttributeType.{AttributeType}
use Rattle.scim_schema.specs.declared.characteristics.AttributeType.TheVariants.{String, Boolean, DateTime, Reference, Binary, Complex as ComplexType}
use Rattle.scim_schema.specs.contracts.characteristics.AttributeType.{the_type as the_attribute_type}
use Rattle.scim_schema.specs.Names.{sub_attribute_name}
use Rattle.scim_schema.specs.Table.{attributes, HasLeaf}
use Rattle.scim_schema.specs.Characteristics.{characteristics_of}
use Rattle.scim_schema.specs.Units.{simple, leaf_at}
use Rattle.scim_schema.specs.Mutability.{is_read_only}
use Rattle.scim_cell.specs.declared.atoms.Atom.{Atom}
use Rattle.scim_cell.specs.declared.atoms.Atom.TheVariants.{Text, Truth}
use Rattle.scim_cell.specs.declared.rows.Field.{Field}
use Rattle.scim_cell.specs.Content.{HasType}
use Rattle.scim_cell.specs.Place.{sub_attribute_number, sub_attributes_by_place}
use Rattle.scim_value.specs.Resource.{IsShort}
use Rattle.scim_body.specs.BodyValues.{truth_of, short, given_atom, if_given, given_named, field_with, field_in, fields_in, has_value, fields_with, fields_of}
use Rattle.scim_body.specs.Drafts.{MayBeGiven}
use Rattle.scim_body.proofs.CollectedLemmas.{mapped, unless, where_given, one_pair, collected_all, collected_pairs}
use Rattle.scim_body.proofs.LeafTables.{place_number, sub_attributes_rise, IsSubAttribute, sub_attributes_own, has_sub_attribute, sub_attribute_no_moment, sub_attribute_kept, value_writable}

-- ---- atoms

-- an atom of the type, with a text that isn't too long
abbrev pub IsGivenAtom : AttributeType → Atom → Type 0
IsGivenAtom t atom = HasType t atom × IsShort atom

-- a boolean is
given_truth : (o : Option Bool) (atom : Atom) → option_map Truth o ≡ Some atom → IsGivenAtom Boolean atom
given_truth o atom h = let m = mapped Truth o atom h in subst (λ x. IsGivenAtom Boolean x) m.2 (tt, tt)

-- so is a text, where the type is of texts
given_text : (t : AttributeType) (typed : (s : List ℕ) → HasType t (Text s)) (o : Option (List ℕ)) (atom : Atom) → option_and_then short (option_map Text o) ≡ Some atom → IsGivenAtom t atom
given_text t typed None atom h = absurd (cc h)
given_text t typed (Some s) atom h =
    let c = cond_some (nat_le (length s) 65536) (Text s) atom h in
    subst (λ x. IsGivenAtom t x) c.1 (typed s, leb-true (length s) 65536 c.0)

-- what is read of a value that isn't a moment
pub atom_given : (t : AttributeType) (d : Data) (atom : Atom) → sameb the_attribute_type t DateTime ≡ false → given_atom t d ≡ Some atom → IsGivenAtom t atom
atom_given Boolean d atom n h = given_truth (truth_of d) atom h
atom_given String d atom n h = given_text String (λ s. tt) (as_str d) atom h
atom_given Reference d atom n h = given_text Reference (λ s. tt) (as_str d) atom h
atom_given Binary d atom n h = given_text Binary (λ s. tt) (as_str d) atom h
atom_given DateTime d atom n h = absurd (true≢false n)
atom_given ComplexType d atom n h = absurd (cc h)

-- ---- fields of sub-attributes

-- a field of a sub-attribute of an attribute of the kind
pub record IsOf (kind : Kind) (a : Attribute) (b : SubAttribute) (f : Field) : Type 0 where
  pub leaf : f.leaf ≡ leaf_at a b
  pub may_be_given : MayBeGiven kind f
  pub of_kind : HasLeaf kind f.leaf
  pub typed : HasType (characteristics_of kind f.leaf).attribute_type f.atom

-- the one field comes before the other
abbrev pub Rises : Field → Field → Type 0
Rises f g = sub_attribute_number f.leaf.sub_attribute < sub_attribute_number g.leaf.sub_attribute

-- fields of an attribute of the kind, in order of sub-attribute
pub record AreFields (kind : Kind) (a : Attribute) (fs : List Field) : Type 0 where
  pub own : All (λ f. (b : SubAttribute) × IsOf kind a b f) fs
  pub in_order : AllPairs Rises fs

-- one sub-attribute with an atom
made_of : (kind : Kind) (a : Attribute) (b : SubAttribute) (atom : Atom) → HasLeaf kind (leaf_at a b) → is_read_only kind (leaf_at a b) ≡ false
    → IsGivenAtom (characteristics_of kind (leaf_at a b)).attribute_type atom → IsOf kind a b (record { leaf = leaf_at a b; atom = atom })
made_of kind a b atom has writable given = record {
  leaf = refl;
  may_be_given = record { writable = writable; kept = sub_attribute_kept a b; short = given.1; filled = λ e. absurd (cc (ap (λ (l : Leaf). l.sub_attribute) e)) };
  of_kind = has;
  typed = given.0;
}

-- one field of a sub-attribute, or none
pub record IsAtMostOne (kind : Kind) (a : Attribute) (b : SubAttribute) (fs : List Field) : Type 0 where
  pub own : All (IsOf kind a b) fs
  pub few : length fs ≤ 1

-- none
no_field : (kind : Kind) (a : Attribute) (b : SubAttribute) → IsAtMostOne kind a b []
no_field kind a b = record { own = All-nil (IsOf kind a b); few = omega arith }

-- what is read of the value of one
pub with_one : (kind : Kind) (a : Attribute) (b : SubAttribute) (d : Data) (fs : List Field) → HasLeaf kind (leaf_at a b) → is_read_only kind (leaf_at a b) ≡ false
    → field_with kind a b d ≡ Some fs → IsAtMostOne kind a b fs
with_one kind a b d fs has writable h =
    let t = (characteristics_of kind (leaf_at a b)).attribute_type in
    let m = mapped (λ atom. record { leaf = leaf_at a b; atom = atom } ∷ []) (given_atom t d) fs h in
    let one = made_of kind a b m.0 has writable (atom_given t d m.0 (sub_attribute_no_moment kind a b writable) m.1) in
    subst (IsAtMostOne kind a b) m.2 (record { own = All-cons (IsOf kind a b) (record { leaf = leaf_at a b; atom = m.0 }) [] one (All-nil (IsOf kind a b)); few = omega arith })

-- what an object gives of it
in_object : (kind : Kind) (a : Attribute) (ms : Members) (b : SubAttribute) (fs : List Field) → HasLeaf kind (leaf_at a b) → field_in kind a ms b ≡ Some fs → IsAtMostOne kind a b fs
in_object kind a ms b fs has h =
    unless (IsAtMostOne kind a b) (is_read_only kind (leaf_at a b)) (if_given (field_with kind a b) (given_named (sub_attribute_name b) ms)) fs (no_field kind a b)
    (λ writable e. where_given (IsAtMostOne kind a b) (field_with kind a b) (given_named (sub_attribute_name b) ms) fs (no_field kind a b)
    (λ d read. with_one kind a b d fs has writable read) e) h

-- ---- fields of an attribute

-- fields of two sub-attributes stand in their order
apart : (kind : Kind) (a : Attribute) (b c : SubAttribute) (f g : Field) → place_number b < place_number c → IsOf kind a b f → IsOf kind a c g → Rises f g
apart kind a b c f g less x y =
    let e : sub_attribute_number f.leaf.sub_attribute ≡ place_number b = ap (λ (l : Leaf). sub_attribute_number l.sub_attribute) x.leaf in
    let k : sub_attribute_number g.leaf.sub_attribute ≡ place_number c = ap (λ (l : Leaf). sub_attribute_number l.sub_attribute) y.leaf in
    omega arith

-- what an object gives of its sub-attributes
of_object : (kind : Kind) (a : Attribute) (ms : Members) (fs : List Field) → Contains (attributes kind) a → fields_in kind a ms ≡ Some fs → AreFields kind a fs
of_object kind a ms fs has h =
    let one : (b : SubAttribute) (gs : List Field) → IsSubAttribute a b → field_in kind a ms b ≡ Some gs → IsAtMostOne kind a b gs
    = λ b gs s e. in_object kind a ms b gs (has_sub_attribute kind a b has s) e in
    record {
      own = collected_all (IsSubAttribute a) (λ f. (b : SubAttribute) × IsOf kind a b f) (field_in kind a ms)
          (λ b gs s e. All-weaker (IsOf kind a b) (λ f. (c : SubAttribute) × IsOf kind a c f) (λ f o. (b, o)) gs (one b gs s e).own) (sub_attributes_by_place a) (sub_attributes_own a) fs h;
      in_order = collected_pairs place_number (IsSubAttribute a) (IsOf kind a) Rises (field_in kind a ms)
          (λ b gs s e. (one b gs s e).own) (λ b gs s e. one_pair Rises gs (one b gs s e).few) (λ b c f g less x y. apart kind a b c f g less x y)
          (sub_attributes_by_place a) (sub_attributes_rise a) (sub_attributes_own a) fs h;
    }

-- what isn't an object gives the `value`
of_value : (kind : Kind) (a : Attribute) (d : Data) (fs : List Field) (has : Bool) → has_value a ≡ has → Contains (attributes kind) a → is_read_only kind (simple a) ≡ false
    → (if has then field_with kind a sub_attribute.Value d else None) ≡ Some fs → AreFields kind a fs
of_value kind a d fs false n has writable h = absurd (cc h)
of_value kind a d fs true t has writable h =
    let one = with_one kind a sub_attribute.Value d fs (has_sub_attribute kind a sub_attribute.Value has t) (value_writable kind a writable) h in
    record {
      own = All-weaker (IsOf kind a sub_attribute.Value) (λ f. (b : SubAttribute) × IsOf kind a b f) (λ f o. (sub_attribute.Value, o)) fs one.own;
      in_order = one_pair Rises fs one.few;
    }

-- by what the value is
of_either : (kind : Kind) (a : Attribute) (d : Data) (fs : List Field) (o : Option Members) → Contains (attributes kind) a → is_read_only kind (simple a) ≡ false
    → fields_with kind a d o ≡ Some fs → AreFields kind a fs
of_either kind a d fs None has writable h = of_value kind a d fs (has_value a) refl has writable h
of_either kind a d fs (Some ms) has writable h = of_object kind a ms fs has h

-- the fields that are read of a value of an attribute that isn't readOnly
pub fields_given : (kind : Kind) (a : Attribute) (d : Data) (fs : List Field) → Contains (attributes kind) a → is_read_only kind (simple a) ≡ false
    → fields_of kind a d ≡ Some fs → AreFields kind a fs
fields_given kind a d fs has writable h = of_either kind a d fs (as_object d) has writable h
