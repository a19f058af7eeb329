-- The leaves of the kinds, by the tables: in which order they stand, and what may be written there.
use Rattle.std.proofs.Common.{◌≡◌, ◌<◌, ◌∙◌, ℕ, zero, suc, Bool, true, false, List, [], ◌∷◌, map, length, get_or, refl, ap, sym, subst, arith, true≢false}
use Rattle.std.specs.Prelude.{All, Contains, Some, None, if◌then◌else◌}
use Rattle.std.specs.List.{flat_map, list_all, list_any}
use Rattle.std.proofs.Math.Bool.{and-false}
use Rattle.std.proofs.lemmas.Bool.{not-true}
use Rattle.std.proofs.lemmas.List.Elements.{Contains-append_left, Contains-append_right}
use Rattle.std.proofs.lemmas.List.Folds.{Any-from_list_any}
use denote.Enum.Bare.{sameb}
use Rattle.scim_schema.specs.declared.Kind.{Kind}
use Rattle.scim_schema.specs.declared.Kind.TheVariants.{User, Group}
use Rattle.scim_schema.specs.declared.Attribute.{Attribute}
use Rattle.scim_schema.specs.declared.Attribute.TheVariants.{Id, Password, Photos, Addresses, Groups, X509Certificates, Manager, Members, Meta}
use Rattle.scim_schema.specs.declared.SubAttribute.{SubAttribute}
use Rattle.scim_schema.specs.declared.SubAttribute.TheVariants as sub_attribute
use Rattle.scim_schema.specs.declared.Leaf.{Leaf}
use Rattle.scim_schema.specs.declared.characteristics.AttributeType.TheVariants.{DateTime}
use Rattle.scim_schema.specs.contracts.SubAttribute.{the_type as the_sub_attribute}
use Rattle.scim_schema.specs.contracts.characteristics.AttributeType.{the_type as the_attribute_type}
use Rattle.scim_schema.specs.Table.{attributes, sub_attributes, leaves_with, HasLeaf}
use Rattle.scim_schema.specs.Characteristics.{characteristics_of, is_multi_valued, common_sub_attribute, linked_sub_attribute, photo_sub_attribute, certificate_sub_attribute, manager_sub_attribute, member_sub_attribute}
use Rattle.scim_schema.specs.Units.{simple, leaf_at, unit_of, whole, is_same_attribute}
use Rattle.scim_schema.specs.declared.json_keys.JsonShape.TheVariants.{Simple, Complex}
use Rattle.scim_schema.specs.JsonKeys.{shape_of}
use Rattle.scim_schema.proofs.Facts.{sub_attribute_one}
use Rattle.scim_schema.specs.Mutability.{is_read_only, is_dropped}
use Rattle.scim_cell.specs.Place.{attribute_number, sub_attribute_number, sub_attributes_by_place}
use Rattle.scim_body.proofs.CollectedLemmas.{is_rising, all_passes}
use Rattle.scim_json.proofs.Facts.{fits}

-- ---- the order of the tables

-- the attributes of a kind stand in order
pub attributes_rise : (kind : Kind) → is_rising attribute_number (attributes kind) ≡ true
attributes_rise User = refl
attributes_rise Group = refl

-- the number of a sub-attribute among all
abbrev pub place_number : SubAttribute → ℕ
place_number b = sub_attribute_number (Some b)

-- the sub-attributes of an attribute do too
pub sub_attributes_rise : (a : Attribute) → is_rising place_number (sub_attributes_by_place a) ≡ true
unfolding sub_attributes_by_place
sub_attributes_rise Addresses = refl
sub_attributes_rise Members = refl
sub_attributes_rise _ = refl

-- ---- the leaves of a kind

-- the sub-attribute is one of the attribute
abbrev pub IsSubAttribute : Attribute → SubAttribute → Type 0
IsSubAttribute a b = list_any (λ c. sameb the_sub_attribute c b) (sub_attributes a) ≡ true

-- whether all in order of place are
all_of_attribute : (a : Attribute) → list_all (λ b. list_any (λ c. sameb the_sub_attribute c b) (sub_attributes a)) (sub_attributes_by_place a) ≡ true
unfolding sub_attributes_by_place
all_of_attribute Addresses = refl
all_of_attribute Members = refl
all_of_attribute _ = refl

-- they are
pub sub_attributes_own : (a : Attribute) → All (IsSubAttribute a) (sub_attributes_by_place a)
sub_attributes_own a = all_passes (λ b. list_any (λ c. sameb the_sub_attribute c b) (sub_attributes a)) (sub_attributes_by_place a) (all_of_attribute a)

-- what is in one of the lists is in all of them one after another
pub contains_joined : {K X : Type 0} (f : K → List X) (ks : List K) (k : K) (x : X) (i : ℕ) → i < length ks → get_or ks i k ≡ k → Contains (f k) x → Contains (flat_map f ks) x
contains_joined f [] k x i l e c = absurd (omega arith)
contains_joined f (j ∷ ks) k x zero l e c = Contains-append_left (f j) (flat_map f ks) x (subst (λ m. Contains (f m) x) (sym e) c)
contains_joined f (j ∷ ks) k x (suc i) l e c = Contains-append_right (f j) (flat_map f ks) x (contains_joined f ks k x i (omega arith) e c)

-- what is made of an element is among what is made of all
pub contains_made : {K X : Type 0} (f : K → X) (ks : List K) (k : K) (i : ℕ) → i < length ks → get_or ks i k ≡ k → Contains (map f ks) (f k)
contains_made f [] k i l e = absurd (omega arith)
contains_made f (j ∷ ks) k zero l e = (zero, omega arith, ap f e)
contains_made f (j ∷ ks) k (suc i) l e = let c = contains_made f ks k i (omega arith) e in (suc c.0, omega (arith, c.1), c.2)

-- a leaf of an attribute of a kind is one of the kind
attribute_leaf : (kind : Kind) (a : Attribute) (l : Leaf) → Contains (attributes kind) a → Contains (leaves_with a (sub_attributes a)) l → HasLeaf kind l
attribute_leaf kind a l c d = contains_joined (λ b. leaves_with b (sub_attributes b)) (attributes kind) a l c.0 c.1 c.2 d

-- the leaf of a sub-attribute stands among those of its attribute
pub sub_attribute_leaf : (a : Attribute) (bs : List SubAttribute) (b : SubAttribute) → Contains bs b → Contains (leaves_with a bs) (leaf_at a b)
sub_attribute_leaf a [] b c = absurd (omega (arith, c.1))
sub_attribute_leaf a (d ∷ bs) b c = contains_made (leaf_at a) (d ∷ bs) b c.0 c.1 c.2

-- so a sub-attribute is a leaf of the kind
pub has_sub_attribute : (kind : Kind) (a : Attribute) (b : SubAttribute) → Contains (attributes kind) a → IsSubAttribute a b → HasLeaf kind (leaf_at a b)
has_sub_attribute kind a b c d =
    let found = Any-from_list_any (λ e. sameb the_sub_attribute e b) (sub_attributes a) d in
    let one : found.1 ≡ b = sub_attribute_one found.1 b found.4 in
    let there : Contains (sub_attributes a) b = subst (λ e. Contains (sub_attributes a) e) one (found.0, found.2, found.3) in
    attribute_leaf kind a (leaf_at a b) c (sub_attribute_leaf a (sub_attributes a) b there)

-- so is an attribute without sub-attributes
pub has_simple : (kind : Kind) (a : Attribute) → Contains (attributes kind) a → sub_attributes a ≡ [] → HasLeaf kind (simple a)
has_simple kind a c none =
    let there : Contains (leaves_with a []) (simple a) = (zero, omega arith, refl) in
    attribute_leaf kind a (simple a) c (subst (λ bs. Contains (leaves_with a bs) (simple a)) (sym none) there)

-- ---- shapes

-- a shape fits the sub-attributes of the table
pub table_fits : (a : Attribute) → fits (shape_of a) (is_multi_valued a) (sub_attributes a) ≡ true
unfolding shape_of
table_fits Id = refl
table_fits _ = refl

-- a simple attribute has no sub-attributes, and one value
pub fits_simple : (many : Bool) (bs : List SubAttribute) → fits Simple many bs ≡ true → (many ≡ false) × (bs ≡ [])
fits_simple many [] h = (not-true many h, refl)
fits_simple many (b ∷ bs) h = absurd (true≢false (sym h))

-- a complex attribute has one value
pub fits_complex : (many : Bool) (bs : List SubAttribute) → fits Complex many bs ≡ true → many ≡ false
fits_complex many [] h = absurd (true≢false (sym h))
fits_complex many (b ∷ bs) h = not-true many h

-- ---- units

-- all leaves of a multi-valued attribute form one unit
pub many_unit : (a : Attribute) (b : SubAttribute) → is_multi_valued a ≡ true → unit_of (leaf_at a b) ≡ whole a
many_unit a b m = ap (λ (many : Bool). record { attribute = a; sub_attribute = if many then None else Some b }) m

-- ---- what may be written

-- no sub-attribute is dropped
pub sub_attribute_kept : (a : Attribute) (b : SubAttribute) → is_dropped (leaf_at a b) ≡ false
sub_attribute_kept a b = and-false (is_same_attribute a Password)

-- a leaf isn't a moment
abbrev pub IsNoMoment : Kind → Leaf → Type 0
IsNoMoment kind l = sameb the_attribute_type (characteristics_of kind l).attribute_type DateTime ≡ false

-- a simple attribute isn't
pub simple_no_moment : (kind : Kind) (a : Attribute) → IsNoMoment kind (simple a)
simple_no_moment User Id = refl
simple_no_moment User _ = refl
simple_no_moment Group Id = refl
simple_no_moment Group _ = refl

-- a sub-attribute of most attributes isn't
common_no_moment : (b : SubAttribute) → sameb the_attribute_type (common_sub_attribute b).attribute_type DateTime ≡ false
common_no_moment sub_attribute.Value = refl
common_no_moment _ = refl

-- nor is one that is linked
linked_no_moment : (b : SubAttribute) → sameb the_attribute_type (linked_sub_attribute b).attribute_type DateTime ≡ false
linked_no_moment sub_attribute.Value = refl
linked_no_moment _ = refl

-- nor is one of `photos`
photo_no_moment : (b : SubAttribute) → sameb the_attribute_type (photo_sub_attribute b).attribute_type DateTime ≡ false
photo_no_moment sub_attribute.Value = refl
photo_no_moment _ = refl

-- nor is one of `x509Certificates`
certificate_no_moment : (b : SubAttribute) → sameb the_attribute_type (certificate_sub_attribute b).attribute_type DateTime ≡ false
certificate_no_moment sub_attribute.Value = refl
certificate_no_moment _ = refl

-- nor is one of `manager`
manager_no_moment : (b : SubAttribute) → sameb the_attribute_type (manager_sub_attribute b).attribute_type DateTime ≡ false
manager_no_moment sub_attribute.Value = refl
manager_no_moment _ = refl

-- nor is one of `members`
member_no_moment : (b : SubAttribute) → sameb the_attribute_type (member_sub_attribute b).attribute_type DateTime ≡ false
member_no_moment sub_attribute.Value = refl
member_no_moment _ = refl

-- those of `meta` are readOnly
meta_read_only : (kind : Kind) (b : SubAttribute) → is_read_only kind (leaf_at Meta b) ≡ true
meta_read_only kind sub_attribute.Created = refl
meta_read_only kind _ = refl

-- so a sub-attribute that may be written isn't
pub sub_attribute_no_moment : (kind : Kind) (a : Attribute) (b : SubAttribute) → is_read_only kind (leaf_at a b) ≡ false → IsNoMoment kind (leaf_at a b)
sub_attribute_no_moment kind Photos b h = photo_no_moment b
sub_attribute_no_moment kind X509Certificates b h = certificate_no_moment b
sub_attribute_no_moment kind Groups b h = linked_no_moment b
sub_attribute_no_moment kind Manager b h = manager_no_moment b
sub_attribute_no_moment kind Members b h = member_no_moment b
sub_attribute_no_moment kind Meta b h = absurd (true≢false (sym (meta_read_only kind b) ∙ h))
sub_attribute_no_moment kind _ b h = common_no_moment b

-- the `value` of an attribute that may be written may be written
pub value_writable : (kind : Kind) (a : Attribute) → is_read_only kind (simple a) ≡ false → is_read_only kind (leaf_at a sub_attribute.Value) ≡ false
value_writable kind Groups h = absurd (true≢false h)
value_writable kind Meta h = absurd (true≢false h)
value_writable kind _ h = refl
