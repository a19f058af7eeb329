-- What a test leaves of some attributes alone is what it leaves of them in the whole, whatever groups list the resource.
use Rattle.std.proofs.Common.{◌≡◌, arith, refl, sym, ◌∙◌, ap, subst, ℕ, zero, suc, Bool, true, false, ◌&&◌, inl, inr, List, [], ◌∷◌, ◌++◌, map, filter}
use Rattle.std.specs.Prelude.{not, All, AllPairs, None}
use Rattle.std.specs.List.{list_any}
use Rattle.std.specs.declared.cmp.Ordering.{Ordering}
use Rattle.std.specs.declared.cmp.Ordering.TheVariants.{Less, Equal, Greater}
use Rattle.std.specs.Ordering.{is_lt, is_eq, is_gt}
use Rattle.std.proofs.lemmas.Bool.{cases_Bool, or_parts}
use Rattle.std.proofs.lemmas.List.Elements.{All-head, All-tail, All-weaker, filter-append}
use Rattle.std.proofs.lemmas.List.Folds.{list_any_at}
use Rattle.std.proofs.Math.Bool.{or-false}
use Rattle.std.proofs.Math.Path.{fun_ext}
use denote.Enum.Bare.{sameb, same_true}
use Rattle.scim_schema.specs.declared.Kind.{Kind}
use Rattle.scim_schema.specs.declared.Kind.TheVariants.{User}
use Rattle.scim_schema.specs.contracts.Kind.{the_type as the_kind}
use Rattle.scim_schema.specs.declared.Attribute.{Attribute}
use Rattle.scim_schema.specs.declared.Attribute.TheVariants.{Groups}
use Rattle.scim_schema.specs.contracts.Attribute.{the_type as the_attribute}
use Rattle.scim_schema.specs.declared.Leaf.{Leaf}
use Rattle.scim_schema.specs.declared.Unit.{Unit as AttributeUnit}
use Rattle.scim_schema.specs.Table.{HasLeaf, leaves}
use Rattle.scim_schema.specs.Mutability.{is_write_only}
use Rattle.scim_schema.specs.Units.{whole}
use Rattle.scim_cell.specs.declared.rows.Field.{Field}
use Rattle.scim_cell.specs.Place.{unit_cmp}
use Rattle.scim_cell.specs.Content.{Content, IsPart}
use Rattle.scim_cell.specs.Order.{id_cmp}
use Rattle.scim_cell.specs.Rows.{Row, Test, rows, content, put_values, restricted, restricted_row, has_fields, AreSound, AreValues, IsSoundField, IsSoundRow, Precedes, attribute_rows}
use Rattle.scim_cell.proofs.Facts.{AreAlike, restricted_alike}
use Rattle.scim_filter.specs.Truth.{truth_in_value}
use Rattle.scim_value.specs.Members.{lists}
use Rattle.scim_value.proofs.Facts.{sound_part, unit_same, unit_total, rows_content, put_sound, restricted_sound}
use Rattle.scim_policy.specs.declared.rules.Decision.{Decision}
use Rattle.scim_policy.specs.Patterns.{PatternRule, decided_for, decisions_of}
use Rattle.scim_policy.proofs.Facts.{kept_rows}
use Rattle.scim_view.specs.View.{decision_in, may_be_seen, may_be_seen_of, shows_some, visible_attributes, visible_by}
use Rattle.scim_view.specs.Groups.{memberships, rows_with, visible_with}
use Rattle.scim_view.specs.Sorted.{sorted_by}
use Rattle.scim_view.proofs.GroupLemmas.{IsGroupsRow, made_rows, own_values, restricted-put_values, seen_values}
use Rattle.scim_view.proofs.ViewLemmas.{denied_leaf, shows_value}

-- ---- the rows that a test leaves

module _ (keep : Attribute → Bool) where
  abbrev left : List Row → List Row
  left rs = kept_rows keep (filter has_fields rs)

  passed_over : (r : Row) (rs : List Row) → keep r.unit.attribute ≡ false → left (r ∷ rs) ≡ left rs
  passed_over r rs n = elim (cases_Bool (has_fields r)) [ inl t ↦ rw (t, n) refl | inr f ↦ rw f refl ]

  one_more : (r : Row) (rs ss : List Row) → left rs ≡ left ss → left (r ∷ rs) ≡ left (r ∷ ss)
  one_more r rs ss same = elim (cases_Bool (has_fields r)) [
    | inl t ↦ elim (cases_Bool (keep r.unit.attribute)) [ inl k ↦ rw (t, k) (ap (λ (xs : List Row). r ∷ xs) same) | inr k ↦ rw (t, k) same ]
    | inr f ↦ rw f same
  ]

  -- tests that are alike for some attributes leave their rows alike
  left_alike : (p q : Test) (rs : List Row) → ((r : Row) → keep r.unit.attribute ≡ true → restricted_row p r ≡ restricted_row q r)
      → kept_rows keep (restricted p rs) ≡ kept_rows keep (restricted q rs)
  left_alike p q [] same = refl
  left_alike p q (r ∷ rs) same =
      let rest = left_alike p q rs same in
      let ps : List Row = map (restricted_row p) rs in
      let qs : List Row = map (restricted_row q) rs in
      elim (cases_Bool (keep r.unit.attribute)) [
        | inl k ↦ one_more (restricted_row p r) ps qs rest ∙ ap (λ (s : Row). left (s ∷ qs)) (same r k)
        | inr n ↦ passed_over (restricted_row p r) ps n ∙ rest ∙ sym (passed_over (restricted_row q r) qs n)
      ]

-- ---- rows beside values of `groups`

less : (o : Ordering) → is_lt o ≡ true → o ≡ Less
less Less e = refl
less Equal e = cc
less Greater e = cc

-- what comes behind a unit that isn't below another isn't either
lower : (a b u : AttributeUnit) (o : Ordering) → unit_cmp a b ≡ o → is_gt o ≡ false → is_lt (unit_cmp b u) ≡ true → is_lt (unit_cmp a u) ≡ true
lower a b u Less e n l = ap is_lt (unit_total.trans a b u e (less _ l))
lower a b u Equal e n l = ap is_lt (unit_total.congr a b u e) ∙ l
lower a b u Greater e n l = cc

not_lower : (a b u : AttributeUnit) → is_gt (unit_cmp a b) ≡ false → is_lt (unit_cmp a u) ≡ false → is_lt (unit_cmp b u) ≡ false
not_lower a b u up n = elim (cases_Bool (is_lt (unit_cmp b u))) [ inl t ↦ absurd (let low = lower a b u _ refl up t in cc) | inr f ↦ f ]

none_lower : (u : AttributeUnit) (rs : List Row) → All (λ (r : Row). is_lt (unit_cmp r.unit u) ≡ false) rs → filter (λ (r : Row). is_lt (unit_cmp r.unit u)) rs ≡ []
none_lower u [] all = refl
none_lower u (r ∷ rs) all =
    let test : Row → Type 0 = λ r. is_lt (unit_cmp r.unit u) ≡ false in
    rw (All-head test r rs all) (none_lower u rs (All-tail test r rs all))

abbrev InOrder : List Row → Type 0
InOrder rs = AllPairs (λ (r s : Row). Precedes r.unit s.unit) rs

head_pairs : (r : Row) (rs : List Row) → InOrder (r ∷ rs) → All (λ s. Precedes r.unit s.unit) rs
head_pairs r rs up k d inside = up zero (suc k) d (omega arith) (omega arith)

tail_pairs : (r : Row) (rs : List Row) → InOrder (r ∷ rs) → InOrder rs
tail_pairs r rs up i j d before inside = up (suc i) (suc j) d (omega arith) (omega arith)

-- so behind one that is above a unit none is below it
none_behind : (u : AttributeUnit) (r : Row) (rs : List Row) → InOrder (r ∷ rs) → is_lt (unit_cmp r.unit u) ≡ false → filter (λ (s : Row). is_lt (unit_cmp s.unit u)) rs ≡ []
none_behind u r rs up n =
    none_lower u rs (All-weaker (λ s. Precedes r.unit s.unit) (λ s. is_lt (unit_cmp s.unit u) ≡ false) (λ s p. not_lower r.unit s.unit u p.0 n) rs (head_pairs r rs up))

less_alone : (o : Ordering) → is_lt o ≡ true → is_gt o ≡ false
less_alone Less e = refl
less_alone Equal e = cc
less_alone Greater e = cc

neither : (o : Ordering) → is_lt o ≡ false → is_gt o ≡ false → is_eq o ≡ true
neither Less e f = cc
neither Equal e f = refl
neither Greater e f = cc

module _ (keep : Attribute → Bool) (none : keep Groups ≡ false) where
  abbrev lower_rows : List Row → List Row
  lower_rows rs = filter (λ (r : Row). is_lt (unit_cmp r.unit (whole Groups))) rs

  abbrev higher_rows : List Row → List Row
  higher_rows rs = filter (λ (r : Row). is_gt (unit_cmp r.unit (whole Groups))) rs

  -- rows of other attributes stand below `groups` or above
  beside : (rs : List Row) → InOrder rs → kept_rows keep (lower_rows rs) ++ kept_rows keep (higher_rows rs) ≡ kept_rows keep rs
  beside [] up = refl
  beside (r ∷ rs) up =
      let rest = beside rs (tail_pairs r rs up) in
      elim (cases_Bool (is_lt (unit_cmp r.unit (whole Groups)))) [
        | inl l ↦
            let g : is_gt (unit_cmp r.unit (whole Groups)) ≡ false = less_alone _ l in
            elim (cases_Bool (keep r.unit.attribute)) [ inl k ↦ rw (l, g, k) (ap (λ (xs : List Row). r ∷ xs) rest) | inr k ↦ rw (l, g, k) rest ]
        | inr n ↦ elim (cases_Bool (is_gt (unit_cmp r.unit (whole Groups)))) [
          | inl g ↦
              let empty : lower_rows rs ≡ [] = none_behind (whole Groups) r rs up n in
              let above : kept_rows keep (higher_rows rs) ≡ kept_rows keep rs = ap (λ (xs : List Row). kept_rows keep xs ++ kept_rows keep (higher_rows rs)) (sym empty) ∙ rest in
              elim (cases_Bool (keep r.unit.attribute)) [ inl k ↦ rw (n, g, empty, k) (ap (λ (xs : List Row). r ∷ xs) above) | inr k ↦ rw (n, g, empty, k) above ]
          | inr m ↦
              let own : keep r.unit.attribute ≡ false = ap (λ (u : AttributeUnit). keep u.attribute) (unit_same r.unit (whole Groups) (neither _ n m)) ∙ none in
              rw (n, m, own) rest
        ]
      ]

  none_kept : (vs : List Row) → All (λ r. r.unit ≡ whole Groups) vs → kept_rows keep vs ≡ []
  none_kept [] own = refl
  none_kept (r ∷ rs) own =
      let test : Row → Type 0 = λ r. r.unit ≡ whole Groups in
      let other : keep r.unit.attribute ≡ false = ap (λ (u : AttributeUnit). keep u.attribute) (All-head test r rs own) ∙ none in
      rw other (none_kept rs (All-tail test r rs own))

  -- values of `groups` change no rows of other attributes
  put_beside : (vs rs : List Row) → All (λ r. r.unit ≡ whole Groups) vs → InOrder rs → kept_rows keep (put_values (whole Groups) vs rs) ≡ kept_rows keep rs
  put_beside vs rs own up =
      let test : Row → Bool = λ r. keep r.unit.attribute in
      filter-append test (lower_rows rs) (vs ++ higher_rows rs)
      ∙ ap (λ (xs : List Row). kept_rows keep (lower_rows rs) ++ xs) (filter-append test vs (higher_rows rs) ∙ ap (λ (xs : List Row). xs ++ kept_rows keep (higher_rows rs)) (none_kept vs own))
      ∙ beside rs up

  -- nor do the groups that list a resource, of what a test leaves of it
  kept_with : (test : Test) (base : List ℕ) (gs : List Content) (c : Content) → IsPart c
      → kept_rows keep (restricted test (rows_with (memberships base gs c.id) c)) ≡ kept_rows keep (restricted test (rows c))
  kept_with test base gs c part =
      let ms = memberships base gs c.id in
      let values = seen_values test base (sorted_by id_cmp (filter (lists c.id) gs)) in
      let order = (restricted_sound c.kind test (rows c) (sound_part c part)).in_order in
      elim (cases_Bool (sameb the_kind c.kind User)) [
        | inl t ↦ rw t (ap (kept_rows keep) (restricted-put_values test (whole Groups) ms (rows c)) ∙ put_beside (restricted test ms) (restricted test (rows c)) (λ k e inside. (values.own k e inside).0) order)
        | inr n ↦ rw n refl
      ]

-- ---- what a test leaves of some attributes

-- the test of the rows of some attributes
abbrev pub of_some : List Attribute → Test → Test
of_some attributes test r l = list_any (sameb the_attribute r.unit.attribute) attributes && test r l

-- what a test leaves of a resource has sound rows with values of `groups` too
pub sound_among : (test : Test) (ms : List Row) (c : Content) → IsPart c → All IsGroupsRow ms → AreSound c.kind (restricted test (rows_with ms c))
sound_among test ms c part made =
    let own = restricted_sound c.kind test (rows c) (sound_part c part) in
    elim (cases_Bool (sameb the_kind c.kind User)) [
      | inl t ↦
          let fit : AreValues c.kind (whole Groups) (restricted test ms)
          = subst (λ (k : Kind). AreValues k (whole Groups) (restricted test ms)) (sym (same_true the_kind tt c.kind User t)) (own_values test ms made) in
          rw t (subst (AreSound c.kind) (sym (restricted-put_values test (whole Groups) ms (rows c))) (put_sound c.kind (whole Groups) (restricted test ms) (restricted test (rows c)) fit own))
      | inr n ↦ rw n own
    ]

sound_with : (test : Test) (base : List ℕ) (gs : List Content) (c : Content) → IsPart c → AreSound c.kind (restricted test (rows_with (memberships base gs c.id) c))
sound_with test base gs c part = sound_among test (memberships base gs c.id) c part (made_rows base (sorted_by id_cmp (filter (lists c.id) gs)))

-- a test leaves the same rows of some attributes in these alone and in all
pub some_left : (attributes : List Attribute) (test : Test) (rs : List Row)
    → kept_rows (λ a. list_any (sameb the_attribute a) attributes) (restricted (of_some attributes test) rs) ≡ kept_rows (λ a. list_any (sameb the_attribute a) attributes) (restricted test rs)
some_left attributes test rs =
    left_alike (λ a. list_any (sameb the_attribute a) attributes) (of_some attributes test) test rs
    (λ r own. ap (λ (b : Bool). record { unit = r.unit; fields = filter (λ (f : Field). b && test r f.leaf) r.fields }) own)

-- so it does whatever groups list the resource, where `groups` isn't one of the attributes
pub left_with : (attributes : List Attribute) (test : Test) (base : List ℕ) (gs : List Content) (c : Content) → IsPart c → list_any (sameb the_attribute Groups) attributes ≡ false
    → kept_rows (λ a. list_any (sameb the_attribute a) attributes) (rows (content c.kind c.id (restricted (of_some attributes test) (rows c))))
    ≡ kept_rows (λ a. list_any (sameb the_attribute a) attributes) (rows (content c.kind c.id (restricted test (rows_with (memberships base gs c.id) c))))
left_with attributes test base gs c part none =
    let keep : Attribute → Bool = λ a. list_any (sameb the_attribute a) attributes in
    ap (kept_rows keep) (rows_content c.kind c.id _ (restricted_sound c.kind (of_some attributes test) (rows c) (sound_part c part)))
    ∙ some_left attributes test (rows c)
    ∙ sym (kept_with keep none test base gs c part)
    ∙ sym (ap (kept_rows keep) (rows_content c.kind c.id _ (sound_with test base gs c part)))

-- some attributes have the same rows in what may be seen of them alone and in what may be seen of all, whatever groups list the resource, where `groups` isn't one of them
pub attributes_alike : (attributes : List Attribute) (d : Row → Leaf → Decision) (base : List ℕ) (gs : List Content) (c : Content) → IsPart c → list_any (sameb the_attribute Groups) attributes ≡ false
    → kept_rows (λ a. list_any (sameb the_attribute a) attributes) (rows (visible_attributes attributes d c))
    ≡ kept_rows (λ a. list_any (sameb the_attribute a) attributes) (rows (visible_with d (memberships base gs c.id) c))
unfolding visible_attributes visible_with
attributes_alike attributes d base gs c part none = left_with attributes (may_be_seen d c.kind) base gs c part none

-- ---- attributes of which a test leaves nothing

-- whether a test of leaves passes some leaf of the attribute
abbrev pub some_leaf : (Leaf → Bool) → Kind → Attribute → Bool
some_leaf shows kind a = list_any (λ l. sameb the_attribute l.attribute a && shows l) (leaves kind)

-- none of its leaves passes where none does
pub hidden_leaf : (shows : Leaf → Bool) (kind : Kind) (a : Attribute) (l : Leaf) → HasLeaf kind l → sameb the_attribute l.attribute a ≡ true → some_leaf shows kind a ≡ false → shows l ≡ false
hidden_leaf shows kind a l there own none =
    let test : Leaf → Bool = λ m. sameb the_attribute m.attribute a && shows m in
    elim (cases_Bool (shows l)) [
      | inr f ↦ f
      | inl t ↦
          let shown : test l ≡ true = rw (own, t) refl in
          let some : some_leaf shows kind a ≡ true = list_any_at test (leaves kind) there.0 l there.1 (ap test there.2 ∙ shown) in
          absurd (cc)
    ]

-- a test that is true only of leaves that pass
abbrev pub IsWithin : (Leaf → Bool) → Test → Type 0
IsWithin shows test = (r : Row) (l : Leaf) → shows l ≡ false → test r l ≡ false

-- nor any of some such attributes
hidden : (attributes : List Attribute) (shows : Leaf → Bool) (test : Test) (kind : Kind) (r : Row) (l : Leaf) → IsWithin shows test → HasLeaf kind l → l.attribute ≡ r.unit.attribute
    → list_any (some_leaf shows kind) attributes ≡ false → of_some attributes test r l ≡ false
hidden [] shows test kind r l within there own none = refl
hidden (a ∷ attributes) shows test kind r l within there own none =
    let parts = or_parts (some_leaf shows kind a) (list_any (some_leaf shows kind) attributes) none in
    elim (cases_Bool (sameb the_attribute r.unit.attribute a)) [
      | inl t ↦ rw (t, within r l (hidden_leaf shows kind a l there (ap (λ (b : Attribute). sameb the_attribute b a) own ∙ t) parts.0)) refl
      | inr f ↦ rw f (hidden attributes shows test kind r l within there own parts.1)
    ]

pub no_fields : (p : Field → Bool) (fs : List Field) → All (λ f. p f ≡ false) fs → filter p fs ≡ []
no_fields p [] all = refl
no_fields p (f ∷ fs) all =
    let test : Field → Type 0 = λ g. p g ≡ false in
    rw (All-head test f fs all) (no_fields p fs (All-tail test f fs all))

-- nothing is left of rows by a test that no field passes
none_left : (test : Test) (kind : Kind) (rs : List Row) → ((r : Row) (f : Field) → IsSoundField kind r.unit f → test r f.leaf ≡ false) → All (IsSoundRow kind) rs → restricted test rs ≡ []
none_left test kind [] fails own = refl
none_left test kind (r ∷ rs) fails own =
    let sound = All-head (IsSoundRow kind) r rs own in
    let none : filter (λ (f : Field). test r f.leaf) r.fields ≡ [] =
    no_fields (λ f. test r f.leaf) r.fields (All-weaker (IsSoundField kind r.unit) (λ f. test r f.leaf ≡ false) (fails r) r.fields sound.own) in
    rw none (none_left test kind rs fails (All-tail (IsSoundRow kind) r rs own))

-- of attributes of which no leaf passes nothing is left
pub some_hidden : (attributes : List Attribute) (shows : Leaf → Bool) (test : Test) (c : Content) → IsPart c → IsWithin shows test → list_any (some_leaf shows c.kind) attributes ≡ false
    → restricted (of_some attributes test) (rows c) ≡ []
some_hidden attributes shows test c part within none =
    none_left (of_some attributes test) c.kind (rows c) (λ r f own. hidden attributes shows test c.kind r f.leaf within own.1 (ap (λ (u : AttributeUnit). u.attribute) own.0) none) (sound_part c part).own

pub none_there : (attributes : List Attribute) (shows : Leaf → Bool) (test : Test) (c : Content) → IsPart c → IsWithin shows test → list_any (some_leaf shows c.kind) attributes ≡ false
    → rows (content c.kind c.id (restricted (of_some attributes test) (rows c))) ≡ []
none_there attributes shows test c part within none =
    rows_content c.kind c.id _ (restricted_sound c.kind (of_some attributes test) (rows c) (sound_part c part)) ∙ some_hidden attributes shows test c part within none

-- of attributes of which no rule allows a leaf there are no rows in what may be seen of them
pub none_shown : (attributes : List Attribute) (rules : Leaf → List PatternRule) (c : Content) → IsPart c → list_any (shows_some (λ l. decisions_of (rules l)) c.kind) attributes ≡ false
    → rows (visible_attributes attributes (decision_in rules) c) ≡ []
unfolding visible_attributes
none_shown attributes rules c part none = none_there attributes (shows_value rules c.kind) (may_be_seen (decision_in rules) c.kind) c part (denied_leaf rules c.kind) none

-- nor of one of them in what may be seen of all
pub none_shown_among : (a : Attribute) (rules : Leaf → List PatternRule) (c : Content) → IsPart c → shows_some (λ l. decisions_of (rules l)) c.kind a ≡ false
    → attribute_rows a (rows (visible_by (decision_in rules) c)) ≡ []
unfolding visible_by
none_shown_among a rules c part none =
    let test = may_be_seen (decision_in rules) c.kind in
    let keep : Attribute → Bool = λ b. list_any (sameb the_attribute b) (a ∷ []) in
    let gone = some_hidden (a ∷ []) (shows_value rules c.kind) test c part (denied_leaf rules c.kind) (or-false _ ∙ none) in
    ap (attribute_rows a) (rows_content c.kind c.id _ (restricted_sound c.kind test (rows c) (sound_part c part)))
    ∙ sym (ap (λ (p : Attribute → Bool). kept_rows p (restricted test (rows c))) (fun_ext (λ b. or-false (sameb the_attribute b a))))
    ∙ sym (some_left (a ∷ []) test (rows c))
    ∙ ap (kept_rows keep) gone

-- ---- attributes whose leaves have patterns of one rule

-- the pattern of each leaf of the attributes is one rule, for all values
abbrev pub AreSingleOn : List Attribute → (Leaf → Decision) → (Leaf → List PatternRule) → Type 0
AreSingleOn attributes d rules = (l : Leaf) → list_any (sameb the_attribute l.attribute) attributes ≡ true → rules l ≡ record { decision = d l; filters = None } ∷ []

-- of a sound field the one rule shows what the pattern does
same_field : (attributes : List Attribute) (d : Leaf → Decision) (rules : Leaf → List PatternRule) (kind : Kind) (r : Row) (f : Field) → AreSingleOn attributes d rules → IsSoundField kind r.unit f
    → may_be_seen_of attributes (λ q. d) kind r f.leaf ≡ may_be_seen_of attributes (decision_in rules) kind r f.leaf
same_field attributes d rules kind r f single sound = elim (cases_Bool (list_any (sameb the_attribute r.unit.attribute) attributes)) [
  | inl t ↦
      let own : list_any (sameb the_attribute f.leaf.attribute) attributes ≡ true = ap (λ (u : AttributeUnit). list_any (sameb the_attribute u.attribute) attributes) sound.0 ∙ t in
      rw t (ap (λ (rs : List PatternRule). not (is_write_only kind f.leaf) && (decided_for (λ m. truth_in_value m r) rs).allow) (sym (single f.leaf own)))
  | inr n ↦ rw n refl
]

-- so the decisions of these rules show what the patterns do
pub plain_attributes : (attributes : List Attribute) (d : Leaf → Decision) (rules : Leaf → List PatternRule) (c : Content) → IsPart c → AreSingleOn attributes d rules
    → visible_attributes attributes (λ (r : Row). d) c ≡ visible_attributes attributes (decision_in rules) c
unfolding visible_attributes
plain_attributes attributes d rules c part single =
    let by_last = may_be_seen_of attributes (λ q. d) c.kind in
    let by_all = may_be_seen_of attributes (decision_in rules) c.kind in
    ap (content c.kind c.id) (restricted_alike by_last by_all (rows c)
    (All-weaker (IsSoundRow c.kind) (AreAlike by_last by_all)
    (λ r sound. All-weaker (IsSoundField c.kind r.unit) (λ (f : Field). by_last r f.leaf ≡ by_all r f.leaf) (λ f own. same_field attributes d rules c.kind r f single own) r.fields sound.own) (rows c) (sound_part c part).own))
