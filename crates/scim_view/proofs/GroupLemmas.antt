-- Groups as they are seen, and the values of `groups` that are made of them.
use Rattle.std.proofs.Common.{◌≡◌, refl, sym, ◌∙◌, ap, ℕ, zero, Bool, true, false, ◌&&◌, ◌||◌, inl, inr, List, [], ◌∷◌, ◌++◌, map, filter, lit<}
use Rattle.std.specs.Prelude.{not, All, Option, None, Some, if◌then◌else◌}
use Rattle.std.specs.List.{list_any}
use Rattle.std.proofs.lemmas.Bool.{cases_Bool}
use Rattle.std.proofs.lemmas.List.{map-append}
use Rattle.std.proofs.lemmas.List.Elements.{All-head, All-tail, All-map, All-filter, All-weaker, filter-append, filter_passes}
use Rattle.std.proofs.lemmas.List.Kept.{AllPairs-filter}
use Rattle.std.proofs.Math.Bool.{and-false, and-true}
use Rattle.std.specs.Ordering.{is_lt, is_eq, is_gt}
use denote.Enum.Bare.{sameb, true_same}
use denote.Ref.{Bor}
use Rattle.scim_schema.specs.contracts.Kind.{the_type as the_kind}
use Rattle.scim_schema.specs.declared.Kind.{Kind}
use Rattle.scim_schema.specs.declared.Kind.TheVariants.{User}
use Rattle.scim_schema.specs.declared.Leaf.{Leaf}
use Rattle.scim_schema.specs.declared.Unit.{Unit as AttributeUnit}
use Rattle.scim_schema.specs.declared.Attribute.TheVariants.{DisplayName, Groups, Members}
use Rattle.scim_schema.specs.declared.SubAttribute.TheVariants.{Value}
use Rattle.scim_schema.specs.Characteristics.{is_multi_valued}
use Rattle.scim_schema.specs.Units.{simple, leaf_at, whole, unit_of, is_same_leaf}
use Rattle.scim_schema.proofs.Facts.{leaf_one}
use Rattle.scim_cell.specs.declared.rows.Field.{Field}
use Rattle.scim_cell.specs.Content.{Content, IsPart}
use Rattle.scim_cell.specs.Ids.{id_text}
use Rattle.scim_cell.specs.Place.{unit_cmp}
use Rattle.scim_cell.specs.Rows.{Row, Test, rows, values, put_values, restricted_row, restricted, content, atom_in, atom_at, cell_at, is_empty, has_fields, IsSoundField, IsSoundRow, AreValues}
use Rattle.scim_cell.proofs.Facts.{sound-AreRising, PartsRise}
use Rattle.scim_value.proofs.Facts.{sound_part, unit_same, restricted_sound, rows_content}
use Rattle.scim_policy.specs.declared.rules.Decision.{Decision}
use Rattle.scim_view.specs.declared.computed_groups.SeenGroup.{SeenGroup}
use Rattle.scim_view.specs.View.{may_be_seen, visible_by}
use Rattle.scim_view.specs.Groups as spec
use Rattle.scim_cell.specs.Order.{id_cmp}
use Rattle.scim_value.specs.Members.{is_text, lists}
use Rattle.scim_view.specs.Groups.{seen, text_in, display_of, membership_of, membership, membership_at}
use Rattle.scim_view.specs.code.Memberships.{kept_of, kept_cmp, lists_shown, names_id}
use Rattle.scim_view.specs.Sorted.{sorted_by}
use Rattle.scim_view.proofs.SortLemmas.{sorted_by-map}

-- what a test leaves of the rows of some units
restricted_filter : (keeps : Test) (p : AttributeUnit → Bool) (rs : List Row) → restricted keeps (filter (λ (r : Row). p r.unit) rs) ≡ filter (λ (r : Row). p r.unit) (restricted keeps rs)
restricted_filter keeps p [] = refl
restricted_filter keeps p (r ∷ rs) =
    let ih = restricted_filter keeps p rs in
    elim (cases_Bool (p r.unit)) [
      | inl t ↦ elim (cases_Bool (has_fields (restricted_row keeps r))) [
        | inl f ↦ rw (t, f, t) (ap (λ xs. restricted_row keeps r ∷ xs) ih)
        | inr f ↦ rw (t, f) ih
      ]
      | inr n ↦ elim (cases_Bool (has_fields (restricted_row keeps r))) [
        | inl f ↦ rw (n, f, n) ih
        | inr f ↦ rw (n, f) ih
      ]
    ]

restricted-append : (keeps : Test) (xs ys : List Row) → restricted keeps (xs ++ ys) ≡ restricted keeps xs ++ restricted keeps ys
restricted-append keeps xs ys =
    ap (filter has_fields) (map-append (restricted_row keeps) xs ys) ∙ filter-append has_fields (map (restricted_row keeps) xs) (map (restricted_row keeps) ys)

-- what a test leaves of rows with other values for a unit
pub restricted-put_values : (keeps : Test) (u : AttributeUnit) (vs rs : List Row) → restricted keeps (put_values u vs rs) ≡ put_values u (restricted keeps vs) (restricted keeps rs)
restricted-put_values keeps u vs rs =
    let before : List Row = filter (λ (r : Row). is_lt (unit_cmp r.unit u)) rs in
    let later : List Row = filter (λ (r : Row). is_gt (unit_cmp r.unit u)) rs in
    let lows = restricted_filter keeps (λ (v : AttributeUnit). is_lt (unit_cmp v u)) rs in
    let highs = restricted_filter keeps (λ (v : AttributeUnit). is_gt (unit_cmp v u)) rs in
    restricted-append keeps before (vs ++ later)
    ∙ (λ i. lows i ++ (restricted-append keeps vs later ∙ ap (λ (xs : List Row). restricted keeps vs ++ xs) highs) i)

values-restricted : (keeps : Test) (u : AttributeUnit) (rs : List Row) → values u (restricted keeps rs) ≡ restricted keeps (values u rs)
values-restricted keeps u rs = sym (restricted_filter keeps (λ (v : AttributeUnit). is_eq (unit_cmp v u)) rs)

-- the atom of a leaf among the fields that pass a test
passed_atom : (keep : Leaf → Bool) (l : Leaf) (fs : List Field) → keep l ≡ true → atom_in l (filter (λ (f : Field). keep f.leaf) fs) ≡ atom_in l fs
passed_atom keep l [] h = refl
passed_atom keep l (f ∷ fs) h =
    let ih = passed_atom keep l fs h in
    elim (cases_Bool (is_same_leaf f.leaf l)) [
      | inl t ↦
          let k : keep f.leaf ≡ true = ap keep (leaf_one f.leaf l t) ∙ h in
          rw (k, t) refl
      | inr n ↦ elim (cases_Bool (keep f.leaf)) [ inl k ↦ rw (k, n) ih | inr k ↦ rw (k, n) ih ]
    ]

dropped_atom : (keep : Leaf → Bool) (l : Leaf) (fs : List Field) → keep l ≡ false → atom_in l (filter (λ (f : Field). keep f.leaf) fs) ≡ None
dropped_atom keep l [] h = refl
dropped_atom keep l (f ∷ fs) h =
    let ih = dropped_atom keep l fs h in
    elim (cases_Bool (is_same_leaf f.leaf l)) [
      | inl t ↦
          let k : keep f.leaf ≡ false = ap keep (leaf_one f.leaf l t) ∙ h in
          rw k ih
      | inr n ↦ elim (cases_Bool (keep f.leaf)) [ inl k ↦ rw (k, n) ih | inr k ↦ rw k ih ]
    ]

no_atom : (l : Leaf) (fs : List Field) → not (is_empty fs) ≡ false → atom_in l fs ≡ None
no_atom l [] h = refl
no_atom l (f ∷ fs) h = cc

-- a text among the rows that are left stands in a row whose leaf is kept
text_left : (test : Test) (l : Leaf) (t : List ℕ) (rs : List Row)
    → list_any (λ (m : Row). is_text t (atom_in l m.fields)) (restricted test rs) ≡ list_any (λ (m : Row). is_text t (atom_in l m.fields) && test m l) rs
text_left test l t [] = refl
text_left test l t (r ∷ rs) =
    let ih = text_left test l t rs in
    elim (cases_Bool (test r l)) [
      | inl h ↦
          let own = passed_atom (test r) l r.fields h in
          let kept = ap (λ (b : Bool). is_text t (atom_in l r.fields) && b) h ∙ and-true (is_text t (atom_in l r.fields)) in
          elim (cases_Bool (has_fields (restricted_row test r))) [
            | inl f ↦ rw f (λ i. (ap (is_text t) own ∙ sym kept) i || ih i)
            | inr f ↦
                let none : atom_in l r.fields ≡ None = sym own ∙ no_atom l _ f in
                rw f (ih ∙ sym (ap (λ (b : Bool). b || list_any (λ (m : Row). is_text t (atom_in l m.fields) && test m l) rs) (kept ∙ ap (is_text t) none)))
          ]
      | inr h ↦
          let own = dropped_atom (test r) l r.fields h in
          let dropped = ap (λ (b : Bool). is_text t (atom_in l r.fields) && b) h ∙ and-false (is_text t (atom_in l r.fields)) in
          elim (cases_Bool (has_fields (restricted_row test r))) [
            | inl f ↦ rw f (λ i. (ap (is_text t) own ∙ sym dropped) i || ih i)
            | inr f ↦ rw f (ih ∙ sym (ap (λ (b : Bool). b || list_any (λ (m : Row). is_text t (atom_in l m.fields) && test m l) rs) dropped))
          ]
    ]

-- what a test leaves of a group lists an id where a member with its text keeps its `value`
pub lists_left : (test : Test) (id : List ℕ) (g : Content) → IsPart g
    → lists id (content g.kind g.id (restricted test (rows g))) ≡ list_any (λ (m : Row). names_id id m && test m (leaf_at Members Value)) (values (whole Members) (rows g))
lists_left test id g valid =
    let any : List Row → Bool = list_any (λ (m : Row). is_text (id_text id) (atom_in (leaf_at Members Value) m.fields)) in
    ap (λ (rs : List Row). any (values (whole Members) rs)) (rows_content g.kind g.id _ (restricted_sound g.kind test (rows g) (sound_part g valid)))
    ∙ ap any (values-restricted test (whole Members) (rows g))
    ∙ text_left test (leaf_at Members Value) (id_text id) (values (whole Members) (rows g))

-- the rows of what is visible
pub visible_rows : (d : Row → Leaf → Decision) (c : Content) → IsPart c → rows (visible_by d c) ≡ restricted (may_be_seen d c.kind) (rows c)
unfolding visible_by
visible_rows d c valid = rows_content c.kind c.id _ (restricted_sound c.kind (may_be_seen d c.kind) (rows c) (sound_part c valid))

pub visible_kind : (d : Row → Leaf → Decision) (c : Content) → (visible_by d c).kind ≡ c.kind
unfolding visible_by
visible_kind d c = refl

-- a group as it may be seen lists an id where it has a member with its text whose `value` may be seen
pub lists_visible : (d : Row → Leaf → Decision) (id : List ℕ) (g : Content) → IsPart g → lists id (visible_by d g) ≡ lists_shown d id g
unfolding visible_by
lists_visible d id g valid = lists_left (may_be_seen d g.kind) id g valid

-- a unit that is a leaf has no other leaf
pub one_leaf : (l m : Leaf) → is_multi_valued l.attribute ≡ false → unit_of m ≡ unit_of l → m ≡ l
one_leaf l m n e =
    let a : m.attribute ≡ l.attribute = ap (λ (u : AttributeUnit). u.attribute) e in
    let k : is_multi_valued m.attribute ≡ false = ap is_multi_valued a ∙ n in
    let p : (if is_multi_valued m.attribute then None else m.sub_attribute) ≡ (if is_multi_valued l.attribute then None else l.sub_attribute) = ap (λ (u : AttributeUnit). u.sub_attribute) e in
    let q : m.sub_attribute ≡ l.sub_attribute = rw (k, n) at p in
    λ i. record { attribute = a i; sub_attribute = q i }

passed_some : (keep : Leaf → Bool) (l : Leaf) (fs : List Field) → keep l ≡ true → All (λ f. f.leaf ≡ l) fs → not (is_empty fs) ≡ true → not (is_empty (filter (λ (f : Field). keep f.leaf) fs)) ≡ true
passed_some keep l [] h a full = full
passed_some keep l (f ∷ fs) h a full =
    let k : keep f.leaf ≡ true = ap keep (All-head (λ (f : Field). f.leaf ≡ l) f fs a) ∙ h in
    rw k refl

-- the first cell of a leaf that is a unit of its own, where each row keeps the leaf and where none does
passed_cell : (kind : Kind) (test : Test) (l : Leaf) (rs : List Row) → is_multi_valued l.attribute ≡ false → ((r : Row) → test r l ≡ true) → All (λ r. has_fields r ≡ true) rs → All (IsSoundRow kind) rs
    → atom_at l zero (restricted test (values (unit_of l) rs)) ≡ atom_at l zero (values (unit_of l) rs)
passed_cell kind test l [] n h full own = refl
passed_cell kind test l (r ∷ rs) n h full own =
    let first = All-head (IsSoundRow kind) r rs own in
    elim (cases_Bool (is_eq (unit_cmp r.unit (unit_of l)))) [
      | inl t ↦
          let one : All (λ f. f.leaf ≡ l) r.fields = All-weaker (IsSoundField kind r.unit) (λ f. f.leaf ≡ l) (λ f s. one_leaf l f.leaf n (s.0 ∙ unit_same r.unit (unit_of l) t)) r.fields first.own in
          let some : has_fields (restricted_row test r) ≡ true = passed_some (test r) l r.fields (h r) one (All-head (λ (r : Row). has_fields r ≡ true) r rs full) in
          rw (t, some) (passed_atom (test r) l r.fields (h r))
      | inr t ↦ rw t (passed_cell kind test l rs n h (All-tail (λ (r : Row). has_fields r ≡ true) r rs full) (All-tail (IsSoundRow kind) r rs own))
    ]

dropped_cell : (test : Test) (l : Leaf) (rs : List Row) → ((r : Row) → test r l ≡ false) → atom_at l zero (restricted test rs) ≡ None
dropped_cell test l [] h = refl
dropped_cell test l (r ∷ rs) h =
    elim (cases_Bool (has_fields (restricted_row test r))) [
      | inl f ↦ rw f (dropped_atom (test r) l r.fields (h r))
      | inr f ↦ rw f (dropped_cell test l rs h)
    ]

-- the name in what a test leaves of a group
left_name : (test : Test) (g : Content) → IsPart g
    → display_of (content g.kind g.id (restricted test (rows g))) ≡ text_in (atom_at (simple DisplayName) zero (restricted test (values (unit_of (simple DisplayName)) (rows g))))
left_name test g valid =
    ap (λ (rs : List Row). text_in (cell_at (simple DisplayName) zero rs)) (rows_content g.kind g.id _ (restricted_sound g.kind test (rows g) (sound_part g valid)))
    ∙ ap (λ (rs : List Row). text_in (atom_at (simple DisplayName) zero rs)) (values-restricted test (unit_of (simple DisplayName)) (rows g))

pub kept_name : (test : Test) (g : Content) → IsPart g → ((r : Row) → test r (simple DisplayName) ≡ true) → display_of (content g.kind g.id (restricted test (rows g))) ≡ display_of g
kept_name test g valid h =
    let sound = sound_part g valid in
    left_name test g valid ∙ ap text_in (passed_cell g.kind test (simple DisplayName) (rows g) refl h sound.full sound.own)

pub no_name : (test : Test) (g : Content) → IsPart g → ((r : Row) → test r (simple DisplayName) ≡ false) → display_of (content g.kind g.id (restricted test (rows g))) ≡ None
no_name test g valid h = left_name test g valid ∙ ap text_in (dropped_cell test (simple DisplayName) (values (unit_of (simple DisplayName)) (rows g)) h)

-- the name of a group as it may be seen
pub shown_name : (d : Row → Leaf → Decision) (g : Content) → IsPart g → ((r : Row) → may_be_seen d g.kind r (simple DisplayName) ≡ true) → display_of (visible_by d g) ≡ display_of g
unfolding visible_by
shown_name d g valid h = kept_name (may_be_seen d g.kind) g valid h

pub hidden_name : (d : Row → Leaf → Decision) (g : Content) → IsPart g → ((r : Row) → may_be_seen d g.kind r (simple DisplayName) ≡ false) → display_of (visible_by d g) ≡ None
unfolding visible_by
hidden_name d g valid h = no_name (may_be_seen d g.kind) g valid h

-- a value of `groups` is sound, and so is what is left of it
membership_sound : (base id : List ℕ) (name : Option (List ℕ)) → IsSoundRow User (membership_of base id name)
membership_sound base id None =
    sound-AreRising User (membership_of base id None)
    ((refl, (43, lit< tt, refl), tt), tt, ((refl, (44, lit< tt, refl), tt), lit< tt, ((refl, (46, lit< tt, refl), tt), lit< tt, tt)))
membership_sound base id (Some name) =
    sound-AreRising User (membership_of base id (Some name))
    ((refl, (43, lit< tt, refl), tt), tt, ((refl, (44, lit< tt, refl), tt), lit< tt, ((refl, (45, lit< tt, refl), tt), lit< tt, ((refl, (46, lit< tt, refl), tt), lit< tt, tt))))

-- a sound value of `groups`
abbrev pub IsGroupsRow : Row → Type 0
IsGroupsRow r = (r.unit ≡ whole Groups) × IsSoundRow User r

restricted_own : (keeps : Test) (r : Row) → IsGroupsRow r → IsGroupsRow (restricted_row keeps r)
restricted_own keeps r h = (
  h.0,
  record {
    own = All-filter (λ (f : Field). keeps r f.leaf) (IsSoundField User r.unit) r.fields h.1.own;
    in_order = AllPairs-filter PartsRise (λ (f : Field). keeps r f.leaf) r.fields h.1.in_order;
  },
)

-- the values of `groups` that are left may be put in
pub own_values : (keeps : Test) (ms : List Row) → All IsGroupsRow ms → AreValues User (whole Groups) (restricted keeps ms)
own_values keeps ms made =
    let left : List Row = map (restricted_row keeps) ms in
    let own : All IsGroupsRow left = All-map IsGroupsRow (restricted_row keeps) ms (All-weaker IsGroupsRow (λ r. IsGroupsRow (restricted_row keeps r)) (restricted_own keeps) ms made) in
    let some = filter_passes has_fields left in
    let kept : All IsGroupsRow (filter has_fields left) = All-filter has_fields IsGroupsRow left own in
    record { few = inl refl; own = λ k d l. ((kept k d l).0, some k d l, (kept k d l).1) }

pub membership_rows : (base : List ℕ) (gs : List (Bor SeenGroup)) → All IsGroupsRow (map (membership_at base) gs)
membership_rows base gs = All-map IsGroupsRow (membership_at base) gs (λ k d l. (refl, membership_sound base _ _))

pub made_rows : (base : List ℕ) (gs : List Content) → All IsGroupsRow (map (membership base) gs)
made_rows base gs = All-map IsGroupsRow (membership base) gs (λ k d l. (refl, membership_sound base _ _))

pub membership_values : (keeps : Test) (base : List ℕ) (gs : List (Bor SeenGroup)) → AreValues User (whole Groups) (restricted keeps (map (membership_at base) gs))
membership_values keeps base gs = own_values keeps (map (membership_at base) gs) (membership_rows base gs)

pub seen_values : (keeps : Test) (base : List ℕ) (gs : List Content) → AreValues User (whole Groups) (restricted keeps (map (membership base) gs))
seen_values keeps base gs = own_values keeps (map (membership base) gs) (made_rows base gs)

-- what is visible of a user, with values of `groups`
pub user_visible : (d : Row → Leaf → Decision) (ms : List Row) (c : Content) → IsPart c → c.kind ≡ User
    → content (visible_by d c).kind (visible_by d c).id (put_values (whole Groups) (restricted (may_be_seen d User) ms) (rows (visible_by d c))) ≡ spec.visible_with d ms c
unfolding spec.visible_with visible_by
user_visible d ms c valid e =
    let user : sameb the_kind c.kind User ≡ true = true_same the_kind c.kind User e in
    rw user (ap (λ (rs : List Row). content c.kind c.id rs)
    ((λ i. put_values (whole Groups) (restricted (may_be_seen d (sym e i)) ms) (visible_rows d c valid i))
    ∙ sym (restricted-put_values (may_be_seen d c.kind) (whole Groups) ms (rows c))))

-- and of another resource
pub other_visible : (d : Row → Leaf → Decision) (ms : List Row) (c : Content) → sameb the_kind c.kind User ≡ false → spec.visible_with d ms c ≡ visible_by d c
unfolding spec.visible_with visible_by
other_visible d ms c n = rw n refl

map_kept : (base : List ℕ) (gs : List Content) → map (λ (g : SeenGroup). membership_of base g.id g.display) (map kept_of gs) ≡ map (membership base) gs
map_kept base [] = refl
map_kept base (g ∷ gs) = ap (λ xs. membership base g ∷ xs) (map_kept base gs)

-- the same of references to them
pub map_lent : (base : List ℕ) (gs : List (Bor SeenGroup)) → map (λ (g : SeenGroup). membership_of base g.id g.display) (map (λ (g : Bor SeenGroup). g.now) gs) ≡ map (membership_at base) gs
map_lent base [] = refl
map_lent base (g ∷ gs) = ap (λ xs. membership_at base g ∷ xs) (map_lent base gs)

-- what is kept of groups, in order, makes their memberships in order
pub map_kept_sorted : (base : List ℕ) (gs : List Content) → map (λ (g : SeenGroup). membership_of base g.id g.display) (sorted_by kept_cmp (map kept_of gs)) ≡ map (membership base) (sorted_by id_cmp gs)
map_kept_sorted base gs = ap (map (λ (g : SeenGroup). membership_of base g.id g.display)) (sorted_by-map kept_cmp kept_of gs) ∙ map_kept base (sorted_by id_cmp gs)
