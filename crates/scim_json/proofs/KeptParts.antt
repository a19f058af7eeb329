-- A resource without its `doorCode` is a resource, and with it again it is the same one.
use Rattle.std.proofs.Common.{Bor, ◌≡◌, ◌≢◌, ℕ, zero, suc, ◌≤◌, refl, sym, ◌∙◌, ap, subst, Bool, true, false, ◌&&◌, ◌||◌, arith, List, [], ◌∷◌, ◌++◌, append-nil, length, filter, cond, Option, Some, None, inl, inr}
use Rattle.std.specs.Prelude.{All, Result, Ok, Err, IsSome, IfOk, OnOk}
use Rattle.std.specs.Option.{is_some, option_copied, option_eq}
use Rattle.scim_text.specs.declared.memory.Failed.{Failed}
use Rattle.scim_text.specs.declared.memory.Failed.TheVariants.{Because, NoMemory}
use Rattle.scim_text.specs.Failures.{UnlessMemory, OnFault}
use Rattle.std.specs.List.{count_by, list_any}
use Rattle.std.proofs.lemmas.List.Folds.{list_any_at}
use Rattle.std.specs.declared.cmp.Ordering.{Ordering}
use Rattle.std.specs.declared.cmp.Ordering.TheVariants.{Less, Equal, Greater}
use Rattle.std.specs.Ordering.{nat_cmp, ordering_then, is_lt, is_eq, is_gt, eq_by_cmp}
use Rattle.std.specs.Cmp.{IsTotalOrder, on_total, then_total, nat_cmp_total}
use Rattle.std.specs.FinMap.{FinMap, IsAntisymmetric, nat_cmp-IsAntisymmetric, entries, find, get, insert, remove, get-entries, get-insert, get-remove, same_map}
use Rattle.std.proofs.lemmas.Bool.{cases_Bool}
use Rattle.std.proofs.lemmas.List.Elements.{All-nil, All-head, All-tail, All-append, All-filter, filter-append}
use Rattle.std.proofs.Math.Bool.{and-false}
use denote.Enum.Declared.{tag_of}
use denote.Enum.Bare.{sameb, tag_one}
use Rattle.serde_json.specs.Read.{read}
use Rattle.scim_schema.specs.declared.Kind.{Kind}
use Rattle.scim_schema.specs.declared.Kind.TheVariants.{User, Group}
use Rattle.scim_schema.specs.declared.Attribute.TheVariants.{Id, UserName, DisplayName, Members, Meta, DoorCode}
use Rattle.scim_schema.specs.declared.SubAttribute.{SubAttribute}
use Rattle.scim_schema.specs.declared.SubAttribute.TheVariants.{Value, ResourceType, Created, LastModified, Location}
use Rattle.scim_schema.specs.declared.Leaf.{Leaf}
use Rattle.scim_schema.specs.declared.Unit.{Unit as AttributeUnit}
use Rattle.scim_schema.specs.contracts.Attribute.{the_type as the_attribute}
use Rattle.scim_schema.specs.contracts.SubAttribute.{the_type as the_sub_attribute}
use Rattle.scim_schema.specs.Characteristics.{is_multi_valued}
use Rattle.scim_schema.specs.Table.{HasLeaf, attributes, leaves}
use Rattle.scim_schema.specs.Schemas.{extension_of}
use Rattle.scim_schema.specs.declared.schema_urns.Schema.TheVariants.{SiteUser}
use Rattle.scim_schema.specs.contracts.schema_urns.Schema.{the_type as the_schema}
use Rattle.scim_schema.specs.Units.{is_same_leaf, simple, leaf_at, whole, unit_of}
use Rattle.scim_cell.specs.declared.places.Place.{Place}
use Rattle.scim_cell.specs.declared.atoms.Atom.{Atom}
use Rattle.scim_cell.specs.declared.atoms.Atom.TheVariants.{Text, Truth, Moment}
use Rattle.scim_cell.specs.Place.{place_cmp, unit_cmp, place_at, leaf_of, attribute_number, sub_attribute_number}
use Rattle.scim_cell.specs.Content.{Content, Entry, IsPart, IsOfKind}
use Rattle.scim_cell.specs.Rows.{Row, rows, values, put_values, atom_in, atom_at, cell_at, is_primary, AreSound, AreValues, IsValue}
use Rattle.scim_value.specs.Changes.{with_cell, with_values}
use Rattle.scim_value.specs.Resource.{first_at, IsFilled, IsNamedAs, IsResource, HasBase, MayBeKept}
use Rattle.scim_value.proofs.Facts.{filter_filter, get_cell, one_value, part_content, put_sound, rows_content, sound_part, unit_same}
use Rattle.scim_json.specs.declared.faults.Damaged.{Damaged}
use Rattle.scim_json.specs.PartData.{has_extension, stored_data}
use Rattle.scim_json.specs.Stored.{IsResourceBelow, IsDocumentText, stored_text}
use Rattle.scim_json.specs.Kept.{text_of, door_code, without_door_code, IsKept, GivesKept}
use Rattle.scim_json.specs.Laws.{KeptPartsDetermine, KeptPartsReadBack}
use Rattle.scim_json.proofs.Back.{documents_are_apart}
use Rattle.scim_json.proofs.Kept.{kept_reads_back}

-- ---- places are in a total order, and only equal places tie

total : IsTotalOrder place_cmp
total =
    then_total (on_total (λ (p : Place). attribute_number p.attribute) nat_cmp_total)
    (then_total (on_total (λ (p : Place). p.position) nat_cmp_total) (on_total (λ (p : Place). sub_attribute_number p.sub_attribute) nat_cmp_total))

first_tied : (r s : Ordering) → ordering_then r s ≡ Equal → r ≡ Equal
first_tied Less s e = e
first_tied Equal s e = refl
first_tied Greater s e = e

then_tied : (r s : Ordering) → ordering_then r s ≡ Equal → s ≡ Equal
then_tied Less s e = cc
then_tied Equal s e = e
then_tied Greater s e = cc

sub_attribute_same : (a b : Option SubAttribute) → sub_attribute_number a ≡ sub_attribute_number b → a ≡ b
sub_attribute_same None None e = refl
sub_attribute_same None (Some y) e = absurd (omega arith)
sub_attribute_same (Some x) None e = absurd (omega arith)
sub_attribute_same (Some x) (Some y) e =
    let t : tag_of the_sub_attribute x ≡ tag_of the_sub_attribute y = omega arith in
    ap (λ (s : SubAttribute). Some s) (tag_one the_sub_attribute tt x y t)

same : IsAntisymmetric place_cmp
same a b e =
    let by_attribute = nat_cmp (attribute_number a.attribute) (attribute_number b.attribute) in
    let by_position = nat_cmp a.position b.position in
    let later = then_tied by_attribute _ e in
    let p : a.attribute ≡ b.attribute = tag_one the_attribute tt _ _ (nat_cmp-IsAntisymmetric _ _ (first_tied by_attribute _ e)) in
    let q : a.position ≡ b.position = nat_cmp-IsAntisymmetric _ _ (first_tied by_position _ later) in
    let r : a.sub_attribute ≡ b.sub_attribute = sub_attribute_same _ _ (nat_cmp-IsAntisymmetric _ _ (then_tied by_position _ later)) in
    λ i. record { attribute = p i; position = q i; sub_attribute = r i }

eq_is : (o : Ordering) → is_eq o ≡ true → o ≡ Equal
eq_is Less e = cc
eq_is Equal e = refl
eq_is Greater e = cc

-- ---- the cell at `doorCode`

abbrev leaf : Leaf
leaf = simple DoorCode

abbrev door_place : Place
door_place = place_at leaf 0

-- parts of one kind and id with the same atom at each place are equal
same_cells : (kind : Kind) (id : List ℕ) (m n : FinMap place_cmp Atom) → ((q : Place) → get m q ≡ get n q) → ◌≡◌ {A = Content} (record { kind = kind; id = id; cells = m }) (record { kind = kind; id = id; cells = n })
same_cells kind id m n is = let e = same_map total same m n is in λ i. record { kind = kind; id = id; cells = e i }

-- another leaf keeps what it has
first_rest : (l : Leaf) (c : Content) → eq_by_cmp place_cmp (place_at l 0) door_place ≡ false → first_at l (without_door_code c) ≡ first_at l c
first_rest l c n = get-remove total c.cells door_place (place_at l 0) ∙ ap (λ b. cond b None (first_at l c)) n

-- nothing is left at `doorCode`
first_gone : (c : Content) → first_at leaf (without_door_code c) ≡ None
first_gone c = get-remove total c.cells door_place door_place

-- with the cell again
with_again : (c : Content) (a : Atom) → first_at leaf c ≡ Some a → with_cell leaf 0 a (without_door_code c) ≡ c
with_again c a has = same_cells c.kind c.id (insert (remove c.cells door_place) door_place a) c.cells at
  where
    at : (q : Place) → get (insert (remove c.cells door_place) door_place a) q ≡ get c.cells q
    at q = get-insert total (remove c.cells door_place) door_place a q ∙ ap (cond (eq_by_cmp place_cmp q door_place) (Some a)) (get-remove total c.cells door_place q) ∙ elim (cases_Bool (eq_by_cmp place_cmp q door_place)) [
      | inl t ↦ rw t (sym has ∙ ap (get c.cells) (sym (same q door_place (eq_is _ t))))
      | inr n ↦ rw n refl
    ]

-- and without it where there is none
without_none : (c : Content) → first_at leaf c ≡ None → without_door_code c ≡ c
without_none c none = same_cells c.kind c.id (remove c.cells door_place) c.cells at
  where
    at : (q : Place) → get (remove c.cells door_place) q ≡ get c.cells q
    at q = get-remove total c.cells door_place q ∙ elim (cases_Bool (eq_by_cmp place_cmp q door_place)) [
      | inl t ↦ rw t (sym none ∙ ap (get c.cells) (sym (same q door_place (eq_is _ t))))
      | inr n ↦ rw n refl
    ]

without_with : (c : Content) (a : Atom) → first_at leaf c ≡ None → without_door_code (with_cell leaf 0 a c) ≡ c
without_with c a none = same_cells c.kind c.id (remove (insert c.cells door_place a) door_place) c.cells at
  where
    at : (q : Place) → get (remove (insert c.cells door_place a) door_place) q ≡ get c.cells q
    at q = get-remove total (insert c.cells door_place a) door_place q ∙ ap (cond (eq_by_cmp place_cmp q door_place) None) (get-insert total c.cells door_place a q) ∙ elim (cases_Bool (eq_by_cmp place_cmp q door_place)) [
      | inl t ↦ rw t (sym none ∙ ap (get c.cells) (sym (same q door_place (eq_is _ t))))
      | inr n ↦ rw n refl
    ]

first_with : (c : Content) (a : Atom) → first_at leaf (with_cell leaf 0 a c) ≡ Some a
first_with c a = get-insert total c.cells door_place a door_place

-- ---- the atom there is a text

-- what is found among entries that all pass passes, at a place that ties
found_passes : (P : Entry → Type 0) (q : Place) (a : Atom) (es : List Entry) → All P es → find place_cmp q es ≡ Some a → (p : Place) × (place_cmp q p ≡ Equal) × P (p, a)
found_passes P q a [] all e = cc
found_passes P q a (x ∷ es) all e = by (found_passes P q a es (All-tail P x es all)) (place_cmp q x.0) refl
  where
    by : (find place_cmp q es ≡ Some a → (p : Place) × (place_cmp q p ≡ Equal) × P (p, a)) → (o : Ordering) → place_cmp q x.0 ≡ o → (p : Place) × (place_cmp q p ≡ Equal) × P (p, a)
    by later Less t = later (rw t at e)
    by later Equal t = (x.0, t, (let one : x.1 ≡ a = (let f : Some x.1 ≡ Some a = rw t at e in cc) in subst (λ b. P (x.0, b)) one (All-head P x es all)))
    by later Greater t = later (rw t at e)

text_typed : (kind : Kind) (a : Atom) → IsOfKind kind (door_place, a) → text_of (Some a) ≡ None → ⊥
text_typed User (Text t) typed e = cc
text_typed User (Truth b) typed e = typed.1
text_typed User (Moment m) typed e = typed.1
text_typed Group (Text t) typed e = cc
text_typed Group (Truth b) typed e = typed.1
text_typed Group (Moment m) typed e = typed.1

none_typed : (c : Content) → IsPart c → (o : Option Atom) → first_at leaf c ≡ o → text_of o ≡ None → o ≡ None
none_typed c part None e n = refl
none_typed c part (Some a) e n =
    let f = found_passes (IsOfKind c.kind) door_place a (entries c.cells) part.of_kind (sym (get-entries c.cells door_place) ∙ e) in
    absurd (text_typed c.kind a (subst (λ (p : Place). IsOfKind c.kind (p, a)) (sym (same door_place f.0 f.1)) f.2) n)

-- a part without a door code has no cell there
pub no_door_cell : (c : Content) → IsPart c → door_code c ≡ None → first_at (simple DoorCode) c ≡ None
no_door_cell c part n = none_typed c part (first_at leaf c) refl n

some_text : (o : Option Atom) (t : List ℕ) → text_of o ≡ Some t → o ≡ Some (Text t)
some_text None t e = cc
some_text (Some (Text s)) t e = ap (λ x. Some (Text x)) (let one : s ≡ t = cc in one)
some_text (Some (Truth b)) t e = cc
some_text (Some (Moment m)) t e = cc

-- ---- the rows of a part without values of a unit

abbrev is_own : AttributeUnit → Row → Bool
is_own v r = is_eq (unit_cmp r.unit v)

or_none : (a b : Bool) → (a || b) ≡ false → b ≡ false
or_none true b e = cc
or_none false b e = e

filter_never : (rs : List Row) → filter (λ (r : Row). false) rs ≡ []
filter_never [] = refl
filter_never (r ∷ rs) = filter_never rs

module _ (u v : AttributeUnit) (p : Ordering → Bool) where
  both : (b : Bool) → p (unit_cmp v u) ≡ b → (r : Row) → b && is_own v r ≡ p (unit_cmp r.unit u) && is_own v r
  both b e r = elim (cases_Bool (is_own v r)) [
    | inl t ↦ rw t (ap (λ x. x && true) (sym (ap (λ (w : AttributeUnit). p (unit_cmp w u)) (unit_same r.unit v t) ∙ e)))
    | inr n ↦ rw n (and-false b ∙ sym (and-false (p (unit_cmp r.unit u))))
  ]

  side : (rs : List Row) (b : Bool) → p (unit_cmp v u) ≡ b → values v (filter (λ (r : Row). p (unit_cmp r.unit u)) rs) ≡ filter (λ (r : Row). b && is_own v r) rs
  side rs b e = filter_filter (λ (r : Row). p (unit_cmp r.unit u)) (is_own v) (λ (r : Row). b && is_own v r) (both b e) rs

-- the values of a unit where those of another are left out
values_cut : (u v : AttributeUnit) (rs : List Row) (o : Ordering) → unit_cmp v u ≡ o → values v (put_values u [] rs) ≡ cond (is_eq o) [] (values v rs)
values_cut u v rs o e = filter-append (is_own v) (filter (λ (r : Row). is_lt (unit_cmp r.unit u)) rs) (filter (λ (r : Row). is_gt (unit_cmp r.unit u)) rs) ∙ by o e
  where
    by : (o : Ordering) → unit_cmp v u ≡ o
        → values v (filter (λ (r : Row). is_lt (unit_cmp r.unit u)) rs) ++ values v (filter (λ (r : Row). is_gt (unit_cmp r.unit u)) rs) ≡ cond (is_eq o) [] (values v rs)
    by Less e =
        let low = side u v is_lt rs true (ap is_lt e) in
        let high = side u v is_gt rs false (ap is_gt e) ∙ filter_never rs in
        (λ i. low i ++ high i) ∙ append-nil (values v rs)
    by Equal e =
        let low = side u v is_lt rs false (ap is_lt e) ∙ filter_never rs in
        let high = side u v is_gt rs false (ap is_gt e) ∙ filter_never rs in
        λ i. low i ++ high i
    by Greater e =
        let low = side u v is_lt rs false (ap is_lt e) ∙ filter_never rs in
        let high = side u v is_gt rs true (ap is_gt e) in
        λ i. low i ++ high i

-- what holds of no values and of those that were there holds of those that are left
cut_of : (P : List Row → Type 0) (u v : AttributeUnit) (rs : List Row) → P [] → P (values v rs) → P (values v (put_values u [] rs))
cut_of P u v rs none was = subst P (sym (values_cut u v rs (unit_cmp v u) refl)) (by (is_eq (unit_cmp v u)))
  where
    by : (b : Bool) → P (cond b [] (values v rs))
    by true = none
    by false = was

beyond_one : (l : Leaf) (k : ℕ) (vs : List Row) → length vs ≤ 1 → k ≢ 0 → atom_at l k vs ≡ None
beyond_one l k [] few n = refl
beyond_one l zero (r ∷ vs) few n = absurd (n refl)
beyond_one l (suc k) (r ∷ []) few n = refl
beyond_one l (suc k) (r ∷ s ∷ vs) few n = absurd (omega (arith, few))

-- the leaf of the unit of `doorCode`
leaf_own : (l : Leaf) → unit_of l ≡ whole DoorCode → l ≡ leaf
leaf_own l e =
    let a : l.attribute ≡ DoorCode = ap (λ (u : AttributeUnit). u.attribute) e in
    let n : is_multi_valued l.attribute ≡ false = ap is_multi_valued a in
    let p = ap (λ (u : AttributeUnit). u.sub_attribute) e in
    let s : l.sub_attribute ≡ None = rw n at p in
    λ i. record { attribute = a i; sub_attribute = s i }

none_fit : (kind : Kind) → AreValues kind (whole DoorCode) []
none_fit kind = record { few = inr (omega arith); own = All-nil (IsValue kind (whole DoorCode)) }

module _ (c : Content) (part : IsPart c) where
  abbrev left : List Row
  left = put_values (whole DoorCode) [] (rows c)

  left_sound : AreSound c.kind left
  left_sound = put_sound c.kind (whole DoorCode) [] (rows c) (none_fit c.kind) (sound_part c part)

  abbrev emptied : Content
  emptied = with_values (whole DoorCode) [] c

  emptied_part : IsPart emptied
  emptied_part = part_content c.kind c.id left left_sound

  emptied_rows : rows emptied ≡ left
  emptied_rows = rows_content c.kind c.id left left_sound

  cell_left : (l : Leaf) (k : ℕ) → get emptied.cells (place_at l k) ≡ atom_at l k (values (unit_of l) left)
  cell_left l k = get_cell emptied emptied_part (sound_part emptied emptied_part) l k ∙ ap (cell_at l k) emptied_rows

  cell_was : (l : Leaf) (k : ℕ) → get c.cells (place_at l k) ≡ atom_at l k (values (unit_of l) (rows c))
  cell_was l k = get_cell c part (sound_part c part) l k

  -- nothing at the unit's leaf
  cell_gone : (l : Leaf) (k : ℕ) → unit_of l ≡ whole DoorCode → get emptied.cells (place_at l k) ≡ None
  cell_gone l k e = cell_left l k ∙ ap (atom_at l k) (ap (λ u. values u left) e ∙ values_cut (whole DoorCode) (whole DoorCode) (rows c) Equal refl)

  at_other : (q : Place) → eq_by_cmp place_cmp q door_place ≡ false → get emptied.cells q ≡ get c.cells q
  at_other q n = by (unit_cmp (unit_of (leaf_of q)) (whole DoorCode)) refl
    where
      l : Leaf
      l = leaf_of q

      stays : (o : Ordering) → unit_cmp (unit_of l) (whole DoorCode) ≡ o → is_eq o ≡ false → get emptied.cells q ≡ get c.cells q
      stays o e f = cell_left l q.position ∙ ap (atom_at l q.position) (values_cut (whole DoorCode) (unit_of l) (rows c) o e ∙ ap (λ b. cond b [] (values (unit_of l) (rows c))) f) ∙ sym (cell_was l q.position)

      by : (o : Ordering) → unit_cmp (unit_of l) (whole DoorCode) ≡ o → get emptied.cells q ≡ get c.cells q
      by Less e = stays Less e refl
      by Greater e = stays Greater e refl
      by Equal e =
          let own : unit_of l ≡ whole DoorCode = unit_same (unit_of l) (whole DoorCode) (ap is_eq e) in
          let is : l ≡ leaf = leaf_own l own in
          let later : q.position ≢ 0 = λ z. (let t : q ≡ door_place = (λ i. place_at (is i) (z i)) in
          let f : eq_by_cmp place_cmp door_place door_place ≡ false = subst (λ p. eq_by_cmp place_cmp p door_place ≡ false) t n in cc) in
          cell_gone l q.position own ∙ sym (cell_was l q.position ∙ beyond_one l q.position (values (unit_of l) (rows c)) (subst (λ u. length (values u (rows c)) ≤ 1) (sym own) (one_value c.kind (whole DoorCode) (rows c) (sound_part c part) refl)) later)

  -- the part without values of the unit is the part without the cell
  pub emptied_is : with_values (whole DoorCode) [] c ≡ without_door_code c
  emptied_is = same_cells c.kind c.id emptied.cells (remove c.cells door_place) at
    where
      at : (q : Place) → get emptied.cells q ≡ get (remove c.cells door_place) q
      at q = by (eq_by_cmp place_cmp q door_place) refl ∙ sym (get-remove total c.cells door_place q)
        where
          by : (b : Bool) → eq_by_cmp place_cmp q door_place ≡ b → get emptied.cells q ≡ cond (eq_by_cmp place_cmp q door_place) None (get c.cells q)
          by true t = ap (get emptied.cells) (same q door_place (eq_is _ t)) ∙ cell_gone leaf 0 refl ∙ sym (ap (λ b. cond b None (get c.cells q)) t)
          by false n = at_other q n ∙ sym (ap (λ b. cond b None (get c.cells q)) n)

  rest_rows : rows (without_door_code c) ≡ left
  rest_rows = ap rows (sym emptied_is) ∙ emptied_rows

  pub rest_part : IsPart (without_door_code c)
  rest_part = subst IsPart emptied_is emptied_part

-- ---- a resource without its door code

rest_named : (kind : Kind) (c : Content) → IsNamedAs kind c → IsNamedAs kind (without_door_code c)
rest_named User c was = subst IsFilled (sym (first_rest (simple UserName) c refl)) was
rest_named Group c was = subst IsSome (sym (first_rest (simple DisplayName) c refl)) was

pub rest_resource : (c : Content) → IsResource c → IsResource (without_door_code c)
rest_resource c own =
    let u = whole DoorCode in
    let e = sym (rest_rows c own.part) in
    record {
      part = rest_part c own.part;
      identified = (own.identified.0, first_rest (simple Id) c refl ∙ own.identified.1);
      has_meta = (
        first_rest (leaf_at Meta ResourceType) c refl ∙ own.has_meta.0,
        subst IsSome (sym (first_rest (leaf_at Meta Created) c refl)) own.has_meta.1,
        subst IsSome (sym (first_rest (leaf_at Meta LastModified) c refl)) own.has_meta.2,
      );
      located = (own.located.0, first_rest (leaf_at Meta Location) c refl ∙ own.located.1);
      named = rest_named c.kind c own.named;
      members_have_values = subst (λ rs. All (λ (r : Row). IsSome (atom_in (leaf_at Members Value) r.fields)) (values (whole Members) rs)) e
          (cut_of (All (λ (r : Row). IsSome (atom_in (leaf_at Members Value) r.fields))) u (whole Members) (rows c) (All-nil (λ (r : Row). IsSome (atom_in (leaf_at Members Value) r.fields))) own.members_have_values);
      one_primary = subst (λ rs. All (λ a. count_by is_primary (values (whole a) rs) ≤ 1) (attributes c.kind)) e
          (λ k d l. cut_of (λ vs. count_by is_primary vs ≤ 1) u (whole _) (rows c) (omega arith) (own.one_primary k d l));
      few_values = subst (λ rs. All (λ a. length (values (whole a) rs) ≤ 10000) (attributes c.kind)) e
          (λ k d l. cut_of (λ vs. length vs ≤ 10000) u (whole _) (rows c) (omega arith) (own.few_values k d l));
      may_be_kept = subst (λ rs. All (λ (r : Row). All (MayBeKept c.kind) r.fields) rs) e
          (All-append (λ (r : Row). All (MayBeKept c.kind) r.fields) (filter (λ (r : Row). is_lt (unit_cmp r.unit u)) (rows c)) (filter (λ (r : Row). is_gt (unit_cmp r.unit u)) (rows c))
          (All-filter (λ (r : Row). is_lt (unit_cmp r.unit u)) (λ (r : Row). All (MayBeKept c.kind) r.fields) (rows c) own.may_be_kept)
          (All-filter (λ (r : Row). is_gt (unit_cmp r.unit u)) (λ (r : Row). All (MayBeKept c.kind) r.fields) (rows c) own.may_be_kept));
    }

pub rest_below : (base : List ℕ) (c : Content) → IsResourceBelow base c → IsResourceBelow base (without_door_code c)
rest_below base c below = (rest_resource c below.0, first_rest (leaf_at Meta Location) c refl ∙ below.1)

-- ---- resources that have no door code

-- groups have no such leaf
no_group_leaf : HasLeaf Group leaf → ⊥
no_group_leaf has =
    let some : list_any (λ l. is_same_leaf l leaf) (leaves Group) ≡ true = list_any_at (λ l. is_same_leaf l leaf) (leaves Group) has.0 leaf has.1 (ap (λ l. is_same_leaf l leaf) has.2) in
    let none : list_any (λ l. is_same_leaf l leaf) (leaves Group) ≡ false = refl in
    cc

some_typed : (c : Content) → IsPart c → (o : Option Atom) → first_at leaf c ≡ o → (HasLeaf c.kind leaf → ⊥) → text_of o ≡ None
some_typed c part None e bad = refl
some_typed c part (Some a) e bad =
    let f = found_passes (IsOfKind c.kind) door_place a (entries c.cells) part.of_kind (sym (get-entries c.cells door_place) ∙ e) in
    absurd (bad (subst (λ (p : Place). IsOfKind c.kind (p, a)) (sym (same door_place f.0 f.1)) f.2).0)

-- so a group has no door code
pub group_code : (c : Content) → IsPart c → c.kind ≡ Group → door_code c ≡ None
group_code c part group = some_typed c part (first_at leaf c) refl (λ has. no_group_leaf (subst (λ kind. HasLeaf kind leaf) group has))

-- rows without an attribute of the extension have no value of the unit
values_no_site : (rs : List Row) → has_extension rs SiteUser ≡ false → values (whole DoorCode) rs ≡ []
unfolding has_extension
values_no_site [] h = refl
values_no_site (r ∷ rs) h = by (is_own (whole DoorCode) r) refl (values_no_site rs)
  where
    own_site : Row → Bool
    own_site r = option_eq (sameb the_schema) (extension_of r.unit.attribute) (Some SiteUser)

    by : (b : Bool) → is_own (whole DoorCode) r ≡ b → (has_extension rs SiteUser ≡ false → values (whole DoorCode) rs ≡ []) → values (whole DoorCode) (r ∷ rs) ≡ []
    by true t rest =
        let site : option_eq (sameb the_schema) (extension_of r.unit.attribute) (Some SiteUser) ≡ true = ap (λ (u : AttributeUnit). option_eq (sameb the_schema) (extension_of u.attribute) (Some SiteUser)) (unit_same r.unit (whole DoorCode) t) in
        let no = rw site at h in cc
    by false n rest = rw n (rest (or_none _ _ h))

-- so a resource without the extension has no door code
pub no_site_code : (c : Content) → IsPart c → has_extension (rows c) SiteUser ≡ false → door_code c ≡ None
no_site_code c part none = ap text_of (cell_was c part leaf 0 ∙ ap (atom_at leaf 0) (values_no_site (rows c) none))

-- ---- kept parts

-- a resource with this door code, or as it is
abbrev joined : Option (List ℕ) → Content → Content
joined None c = c
joined (Some t) c = with_cell leaf 0 (Text t) c

-- joined again the parts are the resource
joined_again : (c : Content) → IsPart c → (door : Option (List ℕ)) → door ≡ door_code c → joined door (without_door_code c) ≡ c
joined_again c part None e = without_none c (no_door_cell c part (sym e))
joined_again c part (Some t) e = with_again c (Text t) (some_text (first_at leaf c) t (sym e))

-- a resource without a door code is kept whole
pub kept_whole : (c : Content) → IsResource c → door_code c ≡ None → without_door_code c ≡ c
kept_whole c own n = without_none c (no_door_cell c own.part n)

-- the part of a resource without the values of the unit is the resource without its door code
pub cut_is : (c : Content) → IsResource c → with_values (whole DoorCode) [] c ≡ without_door_code c
cut_is c own = emptied_is c own.part

-- a document of the resource without its door code, and the code, are its kept parts
pub kept_of : (base text : List ℕ) (door : Option (List ℕ)) (c : Content) → IsResourceBelow base c → read text ≡ Some (stored_data (without_door_code c)) → door ≡ door_code c → IsKept base text door c
kept_of base text door c below reads code = record { below = below; document = (rest_below base c below, reads); code = code }

one_text : (base text : List ℕ) (a b : Content) → IsDocumentText base text a → IsDocumentText base text b → a ≡ b
one_text base text a b first second = documents_are_apart base (stored_data a) a b (first.0, refl) (second.0, (let e = first.1 in let f = second.1 in cc))

pub kept_parts_determine : KeptPartsDetermine
kept_parts_determine base text door a b first second =
    sym (joined_again a first.below.0.part door first.code) ∙ ap (joined door) (one_text base text (without_door_code a) (without_door_code b) first.document second.document)
    ∙ joined_again b second.below.0.part door second.code

pub kept_parts_read_back : KeptPartsReadBack
kept_parts_read_back base c (Ok r) below gives = ap Ok (kept_parts_determine base (stored_text (without_door_code c)) (door_code c) r c gives (kept_of base (stored_text (without_door_code c)) (door_code c) c below (kept_reads_back (without_door_code c)) refl))
kept_parts_read_back base c (Err damaged) below gives = absurd (gives c (kept_of base (stored_text (without_door_code c)) (door_code c) c below (kept_reads_back (without_door_code c)) refl))

-- ---- parts that are read

-- kept parts that no document is of
pub no_document : (base text : List ℕ) (door : Option (List ℕ)) → ((c : Content) → IsDocumentText base text c → ⊥) → (c : Content) → IsKept base text door c → ⊥
no_document base text door none c is = none (without_door_code c) is.document

-- a document with a door code is no kept part
pub has_code : (base text : List ℕ) (door : Option (List ℕ)) (r : Content) (a : Atom) → IsDocumentText base text r → first_at (simple DoorCode) r ≡ Some a → (c : Content) → IsKept base text door c → ⊥
has_code base text door r a own has c is =
    let e : r ≡ without_door_code c = one_text base text r (without_door_code c) own is.document in
    let f : first_at leaf r ≡ None = ap (first_at leaf) e ∙ first_gone c in
    cc

module _ (base text : List ℕ) (r : Content) (own : IsDocumentText base text r) (none : first_at (simple DoorCode) r ≡ None) where
  -- without a code it is the resource
  pub plain_kept : IsKept base text None r
  plain_kept = record { below = own.0; document = subst (IsDocumentText base text) (sym (without_none r none)) own; code = ap text_of (sym none) }

  -- with a code it is the resource with the code
  pub joined_kept : (t : List ℕ) → IsResource (with_cell (simple DoorCode) 0 (Text t) r) → HasBase base (with_cell (simple DoorCode) 0 (Text t) r) → IsKept base text (Some t) (with_cell (simple DoorCode) 0 (Text t) r)
  joined_kept t valid has = record {
    below = (valid, has);
    document = subst (IsDocumentText base text) (sym (without_with r (Text t) none)) own;
    code = ap text_of (sym (first_with r (Text t)));
  }

  -- where that is none, there is none
  pub joined_none : (t : List ℕ) → (IsResource (with_cell (simple DoorCode) 0 (Text t) r) → ⊥) → (c : Content) → IsKept base text (Some t) c → ⊥
  joined_none t bad c is =
      let e : r ≡ without_door_code c = one_text base text r (without_door_code c) own is.document in
      bad (subst IsResource (sym (ap (with_cell leaf 0 (Text t)) e ∙ joined_again c is.below.0.part (Some t) is.code)) is.below.0)

  -- whichever of the two is answered
  pub joined_gives : (t : List ℕ) (answer : Result Content (Failed Damaged)) → HasBase base r
      → IfOk answer (λ x. x ≡ with_cell (simple DoorCode) 0 (Text t) r) → OnOk answer (IsResource (with_cell (simple DoorCode) 0 (Text t) r)) → ((b : List ℕ) → HasBase b r → IfOk answer (HasBase b))
      → OnFault answer (IsResource (with_cell (simple DoorCode) 0 (Text t) r) → ⊥) → UnlessMemory (GivesKept base text (Some t)) answer
  joined_gives t (Ok x) has is valid based bad = subst (IsKept base text (Some t)) (sym is) (joined_kept t valid (subst (HasBase base) is (based base has)))
  joined_gives t (Err (Because damaged)) has is valid based bad = joined_none t bad
  joined_gives t (Err NoMemory) has is valid based bad = tt

-- an atom that is there
pub is_there : (o : Option (Bor Atom)) (p : Option Atom) → option_copied o ≡ p → true ≡ is_some o → (a : Atom) × (p ≡ Some a)
is_there None p e f = cc
is_there (Some a) p e f = (a.now, sym e)

-- and one that isn't
pub is_absent : (o : Option (Bor Atom)) (p : Option Atom) → option_copied o ≡ p → false ≡ is_some o → p ≡ None
is_absent None p e f = sym e
is_absent (Some a) p e f = cc
