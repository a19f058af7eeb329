-- The rows of a new resource are sound: `id`, what a draft gives, and `meta` stand in the order of units.
use Rattle.std.proofs.Common.{◌≡◌, ◌≢◌, ◌≤◌, ℕ, suc, refl, sym, ◌∙◌, ap, true, false, arith, inl, inr, List, [], ◌∷◌, ◌++◌, get_or}
use Rattle.std.specs.Prelude.{Option, None, Some, All, AllPairs, Contains, if◌then◌else◌}
use Rattle.std.specs.List.{list_any}
use Rattle.std.specs.Ordering.{nat_cmp, ordering_then, is_lt, is_gt}
use Rattle.std.specs.declared.cmp.Ordering.{Ordering}
use Rattle.std.specs.declared.cmp.Ordering.TheVariants.{Less, Equal, Greater}
use Rattle.std.proofs.lemmas.Bool.{cases_Bool}
use Rattle.std.proofs.lemmas.Bool.Decides.{nat_tests}
use Rattle.std.proofs.lemmas.List.Elements.{All-nil, All-cons, All-head, All-append, All-weaker}
use Rattle.std.proofs.lemmas.List.Kept.{AllPairs-cons}
use Rattle.scim_schema.specs.declared.Kind.{Kind}
use Rattle.scim_schema.specs.declared.Kind.TheVariants.{User, Group}
use Rattle.scim_schema.specs.declared.Attribute.{Attribute}
use Rattle.scim_schema.specs.declared.Attribute.TheVariants.{Id, Meta}
use Rattle.scim_schema.specs.declared.SubAttribute.{SubAttribute}
use Rattle.scim_schema.specs.declared.SubAttribute.TheVariants.{ResourceType, Created, LastModified, Location}
use Rattle.scim_schema.specs.declared.Leaf.{Leaf}
use Rattle.scim_schema.specs.declared.Unit.{Unit as AttributeUnit}
use Rattle.scim_schema.specs.Names.{kind_name}
use Rattle.scim_schema.specs.Table.{leaves, HasLeaf}
use Rattle.scim_schema.specs.Characteristics.{characteristics_of, is_multi_valued}
use Rattle.scim_schema.specs.Units.{simple, leaf_at, unit_of, whole, is_same_leaf}
use Rattle.scim_schema.proofs.Facts.{leaf_one}
use Rattle.scim_schema.specs.Mutability.{is_read_only}
use Rattle.scim_text.specs.Moments.{last_moment}
use Rattle.scim_cell.specs.declared.atoms.Atom.{Atom}
use Rattle.scim_cell.specs.declared.atoms.Atom.TheVariants.{Text, Moment}
use Rattle.scim_cell.specs.declared.rows.Field.{Field}
use Rattle.scim_cell.specs.Content.{HasType}
use Rattle.scim_cell.specs.Ids.{id_text}
use Rattle.scim_cell.specs.Place.{attribute_number, sub_attribute_number, unit_cmp}
use Rattle.scim_cell.specs.Rows.{Row, has_fields, IsSoundField, IsSoundRow, Precedes, AreSound}
use Rattle.scim_value.specs.Resource.{location}
use Rattle.scim_value.proofs.Facts.{across, pairs_append, precedes_less, unit_same}
use Rattle.scim_body.specs.Drafts.{Draft, MayBeGiven, IsDraft}
use Rattle.scim_change.specs.Create.{row_of, meta_row, id_row, meta_rows, created_rows}

-- ---- leaves that the server fills in

-- a leaf that one of these is, is among them
contains_leaf : (ls : List Leaf) (l : Leaf) → list_any (λ m. is_same_leaf m l) ls ≡ true → Contains ls l
contains_leaf [] l e = cc
contains_leaf (m ∷ ls) l e = elim (cases_Bool (is_same_leaf m l)) [
  | inl t ↦ (0, omega arith, leaf_one m l t)
  | inr n ↦ let more = contains_leaf ls l (rw n at e) in (suc more.0, omega (arith, more.1), more.2)
]

-- each kind has `id` and all of `meta`
has_id : (kind : Kind) → HasLeaf kind (simple Id)
has_id User = contains_leaf (leaves User) (simple Id) refl
has_id Group = contains_leaf (leaves Group) (simple Id) refl

has_resource_type : (kind : Kind) → HasLeaf kind (leaf_at Meta ResourceType)
has_resource_type User = contains_leaf (leaves User) (leaf_at Meta ResourceType) refl
has_resource_type Group = contains_leaf (leaves Group) (leaf_at Meta ResourceType) refl

has_created : (kind : Kind) → HasLeaf kind (leaf_at Meta Created)
has_created User = contains_leaf (leaves User) (leaf_at Meta Created) refl
has_created Group = contains_leaf (leaves Group) (leaf_at Meta Created) refl

pub has_last_modified : (kind : Kind) → HasLeaf kind (leaf_at Meta LastModified)
has_last_modified User = contains_leaf (leaves User) (leaf_at Meta LastModified) refl
has_last_modified Group = contains_leaf (leaves Group) (leaf_at Meta LastModified) refl

has_location : (kind : Kind) → HasLeaf kind (leaf_at Meta Location)
has_location User = contains_leaf (leaves User) (leaf_at Meta Location) refl
has_location Group = contains_leaf (leaves Group) (leaf_at Meta Location) refl

-- a client may write neither `id` nor anything of `meta`
read_only_id : (kind : Kind) → is_read_only kind (simple Id) ≡ true
read_only_id User = refl
read_only_id Group = refl

read_only_sub : (kind : Kind) (b : SubAttribute) → is_read_only kind (leaf_at Meta b) ≡ true
read_only_sub User ResourceType = refl
read_only_sub User Created = refl
read_only_sub User LastModified = refl
read_only_sub User Location = refl
read_only_sub User _ = refl
read_only_sub Group ResourceType = refl
read_only_sub Group Created = refl
read_only_sub Group LastModified = refl
read_only_sub Group Location = refl
read_only_sub Group _ = refl

read_only_meta : (kind : Kind) (s : Option SubAttribute) → is_read_only kind (record { attribute = Meta; sub_attribute = s }) ≡ true
read_only_meta User None = refl
read_only_meta Group None = refl
read_only_meta kind (Some b) = read_only_sub kind b

-- ---- rows of a draft are of other units

-- a row is neither `id` nor of `meta`
pub record IsOther (r : Row) : Type 0 where
  pub no_id : r.unit ≢ whole Id
  pub no_meta : r.unit.attribute ≢ Meta

-- the leaf of a simple attribute, by its unit
leaf_of_simple : (l : Leaf) (u : AttributeUnit) → unit_of l ≡ u → u ≡ whole Id → l ≡ simple Id
leaf_of_simple l u e f =
    let a : l.attribute ≡ Id = ap (λ (v : AttributeUnit). v.attribute) (e ∙ f) in
    let single : is_multi_valued l.attribute ≡ false = ap is_multi_valued a in
    let own : (if is_multi_valued l.attribute then None else l.sub_attribute) ≡ None = ap (λ (v : AttributeUnit). v.sub_attribute) (e ∙ f) in
    let s : l.sub_attribute ≡ None = rw single at own in
    λ i. record { attribute = a i; sub_attribute = s i }

-- a field that a client may write is of another unit
field_other : (kind : Kind) (u : AttributeUnit) (f : Field) → IsSoundField kind u f → MayBeGiven kind f → (u ≢ whole Id) × (u.attribute ≢ Meta)
field_other kind u f own given = (
  λ e. (let same : f.leaf ≡ simple Id = leaf_of_simple f.leaf u own.0 e in
      let fixed : is_read_only kind f.leaf ≡ true = ap (is_read_only kind) same ∙ read_only_id kind in
      let free = given.writable in cc),
  λ e. (let a : f.leaf.attribute ≡ Meta = ap (λ (v : AttributeUnit). v.attribute) own.0 ∙ e in
      let same : f.leaf ≡ record { attribute = Meta; sub_attribute = f.leaf.sub_attribute } = λ i. record { attribute = a i; sub_attribute = f.leaf.sub_attribute } in
      let fixed : is_read_only kind f.leaf ≡ true = ap (is_read_only kind) same ∙ read_only_meta kind f.leaf.sub_attribute in
      let free = given.writable in cc),
)

row_other : (kind : Kind) (u : AttributeUnit) (fs : List Field) → has_fields (record { unit = u; fields = fs }) ≡ true → All (IsSoundField kind u) fs → All (MayBeGiven kind) fs → IsOther (record { unit = u; fields = fs })
row_other kind u [] full own given = cc
row_other kind u (f ∷ fs) full own given =
    let apart = field_other kind u f (All-head (IsSoundField kind u) f fs own) (All-head (MayBeGiven kind) f fs given) in
    record { no_id = apart.0; no_meta = apart.1 }

-- so are all rows of a draft
pub others : (d : Draft) → IsDraft d → All IsOther d.rows
others d is = λ k e l.
    (let r : Row = get_or d.rows k e in row_other d.kind r.unit r.fields (is.sound.full k e l) (is.sound.own k e l).own (is.may_be_given k e l))

-- ---- their order

below_meta : (a : Attribute) → a ≢ Meta → is_lt (nat_cmp (attribute_number a) (attribute_number Meta)) ≡ true
below_meta Meta n = absurd (n refl)
below_meta _ n = refl

less_then : (r s : Ordering) → is_lt r ≡ true → is_lt (ordering_then r s) ≡ true
less_then Less s e = refl
less_then Equal s e = cc
less_then Greater s e = cc

-- a unit of another attribute comes before those of `meta`
before_meta : (u v : AttributeUnit) → u.attribute ≢ Meta → v.attribute ≡ Meta → Precedes u v
before_meta u v n e =
    precedes_less u v (less_then _ _ (ap (λ a. is_lt (nat_cmp (attribute_number u.attribute) (attribute_number a))) e ∙ below_meta u.attribute n))

not_below_zero : (n : ℕ) → is_gt (nat_cmp 0 n) ≡ false
not_below_zero n = grind (arith, nat_tests)

neither_greater : (r s : Ordering) → is_gt r ≡ false → is_gt s ≡ false → is_gt (ordering_then r s) ≡ false
neither_greater Less s e f = refl
neither_greater Equal s e f = f
neither_greater Greater s e f = cc

-- `id` comes before each other unit
id_first : (u : AttributeUnit) → u ≢ whole Id → Precedes (whole Id) u
id_first u n = (
  neither_greater (nat_cmp 0 (attribute_number u.attribute)) (nat_cmp 0 (sub_attribute_number u.sub_attribute)) (not_below_zero (attribute_number u.attribute)) (not_below_zero (sub_attribute_number u.sub_attribute)),
  λ t. absurd (n (sym (unit_same (whole Id) u t))),
)

-- ---- the rows that the server fills in

module _ (kind : Kind) where
  -- a row of one field
  pub one_field : (l : Leaf) (atom : Atom) → HasLeaf kind l → HasType (characteristics_of kind l).attribute_type atom → IsSoundRow kind (row_of l atom)
  one_field l atom has type = record {
    own = All-cons (IsSoundField kind (unit_of l)) (record { leaf = l; atom = atom }) [] (refl, has, type) (All-nil (IsSoundField kind (unit_of l)));
    in_order = λ i j e x y. absurd (omega (arith, x, y));
  }

string_id : (kind : Kind) (t : List ℕ) → HasType (characteristics_of kind (simple Id)).attribute_type (Text t)
string_id User t = tt
string_id Group t = tt

pub id_sound : (kind : Kind) (id : List ℕ) → IsSoundRow kind (id_row id)
id_sound kind id = one_field kind (simple Id) (Text (id_text id)) (has_id kind) (string_id kind (id_text id))

-- each of four, and each pair of them
pub four : (P : Row → Type 0) (a b c d : Row) → P a → P b → P c → P d → All P (a ∷ b ∷ c ∷ d ∷ [])
four P a b c d p q r s = All-cons P a (b ∷ c ∷ d ∷ []) p (All-cons P b (c ∷ d ∷ []) q (All-cons P c (d ∷ []) r (All-cons P d [] s (All-nil P))))

three : (P : Row → Type 0) (a b c : Row) → P a → P b → P c → All P (a ∷ b ∷ c ∷ [])
three P a b c p q r = All-cons P a (b ∷ c ∷ []) p (All-cons P b (c ∷ []) q (All-cons P c [] r (All-nil P)))

two : (P : Row → Type 0) (a b : Row) → P a → P b → All P (a ∷ b ∷ [])
two P a b p q = All-cons P a (b ∷ []) p (All-cons P b [] q (All-nil P))

one : (P : Row → Type 0) (a : Row) → P a → All P (a ∷ [])
one P a p = All-cons P a [] p (All-nil P)

abbrev Before : Row → Row → Type 0
Before r s = Precedes r.unit s.unit

four_pairs : (a b c d : Row) → Before a b → Before a c → Before a d → Before b c → Before b d → Before c d → AllPairs Before (a ∷ b ∷ c ∷ d ∷ [])
four_pairs a b c d ab ac ad bc bd cd =
    AllPairs-cons Before a (b ∷ c ∷ d ∷ []) (three (Before a) b c d ab ac ad)
    (AllPairs-cons Before b (c ∷ d ∷ []) (two (Before b) c d bc bd)
    (AllPairs-cons Before c (d ∷ []) (one (Before c) d cd)
    (AllPairs-cons Before d [] (All-nil (Before d)) (λ i j e x y. absurd (omega (arith, x, y))))))

rising : (b c : SubAttribute) → is_lt (unit_cmp (unit_of (leaf_at Meta b)) (unit_of (leaf_at Meta c))) ≡ true → Precedes (unit_of (leaf_at Meta b)) (unit_of (leaf_at Meta c))
rising b c e = precedes_less (unit_of (leaf_at Meta b)) (unit_of (leaf_at Meta c)) e

module _ (kind : Kind) (id : List ℕ) (moment : ℕ) (base : List ℕ) where
  abbrev type_row : Row
  type_row = meta_row ResourceType (Text (kind_name kind))

  abbrev created_row : Row
  created_row = meta_row Created (Moment moment)

  abbrev modified_row : Row
  modified_row = meta_row LastModified (Moment moment)

  abbrev location_row : Row
  location_row = meta_row Location (Text (location base kind id))

  pub meta_own : moment ≤ last_moment → All (IsSoundRow kind) (meta_rows kind id moment base)
  meta_own there =
      four (IsSoundRow kind) type_row created_row modified_row location_row
      (one_field kind (leaf_at Meta ResourceType) (Text (kind_name kind)) (has_resource_type kind) tt)
      (one_field kind (leaf_at Meta Created) (Moment moment) (has_created kind) there)
      (one_field kind (leaf_at Meta LastModified) (Moment moment) (has_last_modified kind) there)
      (one_field kind (leaf_at Meta Location) (Text (location base kind id)) (has_location kind) tt)

  pub meta_full : All (λ r. has_fields r ≡ true) (meta_rows kind id moment base)
  meta_full = four (λ r. has_fields r ≡ true) type_row created_row modified_row location_row refl refl refl refl

  pub meta_units : All (λ (r : Row). r.unit.attribute ≡ Meta) (meta_rows kind id moment base)
  meta_units = four (λ (r : Row). r.unit.attribute ≡ Meta) type_row created_row modified_row location_row refl refl refl refl

  meta_in_order : AllPairs Before (meta_rows kind id moment base)
  meta_in_order =
      four_pairs type_row created_row modified_row location_row
      (rising ResourceType Created refl) (rising ResourceType LastModified refl) (rising ResourceType Location refl)
      (rising Created LastModified refl) (rising Created Location refl) (rising LastModified Location refl)

-- ---- all together

pub created_sound : (d : Draft) (id : List ℕ) (moment : ℕ) (base : List ℕ) → IsDraft d → moment ≤ last_moment → AreSound d.kind (created_rows d id moment base)
created_sound d id moment base is there =
    let meta = meta_rows d.kind id moment base in
    let apart = others d is in
    let metas = meta_units d.kind id moment base in
    let first : All (Before (id_row id)) (d.rows ++ meta)
    = All-append (Before (id_row id)) d.rows meta (All-weaker IsOther (Before (id_row id)) (λ r o. id_first r.unit o.no_id) d.rows apart)
    (All-weaker (λ (r : Row). r.unit.attribute ≡ Meta) (Before (id_row id)) (λ r e. id_first r.unit (λ same. (let a : r.unit.attribute ≡ Id = ap (λ (u : AttributeUnit). u.attribute) same in cc))) meta metas) in
    record {
      full = All-cons (λ r. has_fields r ≡ true) (id_row id) (d.rows ++ meta) refl (All-append (λ r. has_fields r ≡ true) d.rows meta is.sound.full (meta_full d.kind id moment base));
      own = All-cons (IsSoundRow d.kind) (id_row id) (d.rows ++ meta) (id_sound d.kind id) (All-append (IsSoundRow d.kind) d.rows meta is.sound.own (meta_own d.kind id moment base there));
      in_order = AllPairs-cons (Before) (id_row id) (d.rows ++ meta) first
          (pairs_append d.rows meta is.sound.in_order (meta_in_order d.kind id moment base)
          (across IsOther (λ s. s.unit.attribute ≡ Meta) (λ r s o e. before_meta r.unit s.unit o.no_meta e) d.rows meta apart metas));
    }
