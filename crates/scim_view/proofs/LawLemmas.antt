-- What is seen and unseen by the patterns of a policy, and what comes into view with a change that opens nothing.
use Rattle.std.proofs.Common.{◌≡◌, refl, sym, ◌∙◌, ap, ap₂, ℕ, zero, suc, Bool, true, false, ◌&&◌, List, [], ◌∷◌, inl, inr}
use Rattle.std.specs.Prelude.{not, All, None, Some, slice_get, if◌then◌else◌}
use Rattle.std.specs.List.{list_any, list_all}
use Rattle.std.specs.Ordering.{is_eq}
use Rattle.std.proofs.lemmas.Bool.{cases_Bool}
use Rattle.std.proofs.lemmas.Cmp.{tied_itself}
use Rattle.std.proofs.lemmas.List.Elements.{All-head, All-tail, All-cons, All-nil}
use Rattle.std.proofs.Math.Bool.{and-false, or-false}
use denote.Enum.Bare.{sameb, same_true, true_same}
use Rattle.scim_schema.specs.declared.Attribute.{Attribute}
use Rattle.scim_schema.specs.contracts.Attribute.{the_type as the_attribute}
use Rattle.scim_schema.specs.declared.Leaf.{Leaf}
use Rattle.scim_schema.specs.declared.Unit.{Unit as AttributeUnit}
use Rattle.scim_schema.specs.Characteristics.{is_multi_valued}
use Rattle.scim_schema.specs.Mutability.{is_write_only}
use Rattle.scim_schema.specs.Table.{HasLeaf}
use Rattle.scim_schema.specs.Units.{unit_of, whole}
use Rattle.scim_schema.proofs.Facts.{and_first}
use Rattle.scim_cell.specs.declared.atoms.Atom.{Atom}
use Rattle.scim_cell.specs.Place.{leaf_of, unit_cmp}
use Rattle.scim_cell.specs.Content.{Content, Entry}
use Rattle.scim_cell.specs.Rows.{Row, rows, rows_of, is_led, led, attribute_rows, atom_at, values}
use Rattle.scim_value.proofs.Facts.{unit_same, unit_total}
use Rattle.scim_filter.specs.Truth.{truth_at, truth_in_value}
use Rattle.scim_policy.specs.declared.rules.Decision.{Decision}
use Rattle.scim_policy.specs.Rules.{Rule}
use Rattle.scim_policy.specs.Access.{access, widening}
use Rattle.scim_policy.specs.Opened.{allows, IsNotOpened}
use Rattle.scim_policy.specs.Patterns.{decided_for, decide_at, decide_in}
use Rattle.scim_policy.proofs.Facts.{not_opened, positions_by_value, same_decisions_same_rules, single_undivided, some_allows_in, undivided_pattern, wholes_allow}
use Rattle.scim_view.specs.View.{Viewer, read_in, read_pattern, read_rules, may_be_seen, visible}
use Rattle.scim_view.specs.Laws.{NothingComesIntoView, DeniedLeavesAreUnseen, DeniedAttributesAreUnseen, AllowedLeavesAreSeen}
use Rattle.scim_view.proofs.AttributeLemmas.{none_shown, none_shown_among}
use Rattle.scim_view.proofs.ViewLemmas.{denied_leaf, shows_value}

-- ---- what rules deny, and what they all allow

pub denied_leaves : DeniedLeavesAreUnseen
unfolding decide_in
denied_leaves v c l none r =
    let hides : shows_value (read_rules v c) c.kind l ≡ false = elim (cases_Bool (is_write_only c.kind l)) [ inl secret ↦ rw secret refl | inr open' ↦ rw open' none ] in
    denied_leaf (read_rules v c) c.kind r l hides

pub denied_attributes : DeniedAttributesAreUnseen
unfolding decide_in visible
denied_attributes v c a part none = record {
  among_all = none_shown_among a (read_rules v c) c part none;
  alone = none_shown (a ∷ []) (read_rules v c) c part (or-false _ ∙ none);
}

pub allowed_leaves : AllowedLeavesAreSeen
allowed_leaves v c l allowed open' r = rw (open', (wholes_allow v.policy v.client c l).values allowed r) refl

-- ---- a leaf that a change doesn't open

-- if every rule allows, reading is allowed in each value
all_allow : (v : Viewer) (c : Content) (l : Leaf) (r : Row) → list_all allows (read_pattern v c l) ≡ true → (read_in v c r l).allow ≡ true
all_allow v c l r all = let laws = wholes_allow v.policy v.client c l in laws.values (laws.every ∙ all) r

-- equal patterns decide alike in each value
same_patterns : (v : Viewer) (old new : Content) (l : Leaf) (r : Row) → new.kind ≡ old.kind → read_pattern v old l ≡ read_pattern v new l → read_in v old r l ≡ read_in v new r l
unfolding decide_in
same_patterns v old new l r kinds same = ap (decided_for (λ t. truth_in_value t r)) (same_decisions_same_rules v.policy v.client old new l (sym kinds) same)

-- afterwards it may be read in a value where it could be read before, if some rule of its pattern allows
kept_reading : (v : Viewer) (old new : Content) (l : Leaf) (r : Row) → new.kind ≡ old.kind → IsNotOpened (read_pattern v old l) (read_pattern v new l)
    → (read_in v new r l).allow ≡ ((read_in v old r l).allow && list_any allows (read_pattern v new l))
kept_reading v old new l r kinds (inl same) =
    let alike : (read_in v old r l).allow ≡ (read_in v new r l).allow = ap (λ (d : Decision). d.allow) (same_patterns v old new l r kinds same) in
    elim (cases_Bool (read_in v new r l).allow) [
      | inl t ↦ t ∙ sym (ap₂ ◌&&◌ (alike ∙ t) (some_allows_in v.policy v.client new l r t))
      | inr f ↦ f ∙ sym (ap (λ (b : Bool). b && list_any allows (read_pattern v new l)) (alike ∙ f))
    ]
kept_reading v old new l r kinds (inr (inl none)) = elim (cases_Bool (read_in v new r l).allow) [
  | inl t ↦ absurd (let some = some_allows_in v.policy v.client new l r t in cc)
  | inr f ↦ f ∙ sym (ap (λ (b : Bool). (read_in v old r l).allow && b) none ∙ and-false (read_in v old r l).allow)
]
kept_reading v old new l r kinds (inr (inr all)) =
    let may = all_allow v new l r all.1 in
    may ∙ sym (ap₂ ◌&&◌ (all_allow v old l r all.0) (some_allows_in v.policy v.client new l r may))

-- so after a change that opens nothing, what is seen of a leaf is what was seen before, unless no rule allows
pub narrowed : (v : Viewer) (old new : Content) → new.kind ≡ old.kind → widening new.kind (access v.policy v.client old) (access v.policy v.client new) ≡ None → (l : Leaf) → HasLeaf new.kind l → (r : Row)
    → may_be_seen (read_in v new) new.kind r l ≡ (may_be_seen (read_in v old) old.kind r l && (not (is_write_only new.kind l) && list_any allows (read_pattern v new l)))
narrowed v old new kinds nothing l own r =
    let some = list_any allows (read_pattern v new l) in
    let could = (read_in v old r l).allow in
    ap (λ (b : Bool). not (is_write_only new.kind l) && b) (kept_reading v old new l r kinds (not_opened new.kind (access v.policy v.client old) (access v.policy v.client new) nothing l own))
    ∙ shared (not (is_write_only new.kind l)) could some
    ∙ ap (λ kind. (not (is_write_only kind l) && could) && (not (is_write_only new.kind l) && some)) kinds
  where
    shared : (a b c : Bool) → (a && (b && c)) ≡ ((a && b) && (a && c))
    shared true b c = refl
    shared false b c = refl

-- ---- positions and values

-- the unit of a row is that of a leaf
abbrev IsOfLeaf : Row → Type 0
IsOfLeaf r = (l : Leaf) × (r.unit ≡ unit_of l)

led_rows : (b : Bool) (e : Entry) (rs : List Row) → All IsOfLeaf rs → All IsOfLeaf (led b e rs)
led_rows true e (r ∷ rs) own = All-cons IsOfLeaf _ rs (leaf_of e.0, refl) (All-tail IsOfLeaf r rs own)
led_rows true e [] own = All-cons IsOfLeaf _ [] (leaf_of e.0, refl) own
led_rows false e rs own = All-cons IsOfLeaf _ rs (leaf_of e.0, refl) own

made_rows : (es : List Entry) → All IsOfLeaf (rows_of es)
made_rows [] = All-nil IsOfLeaf
made_rows (e ∷ es) = led_rows (is_led e es) e (rows_of es) (made_rows es)

whole_unit : (l : Leaf) → is_multi_valued l.attribute ≡ true → unit_of l ≡ whole l.attribute
whole_unit l many = ap (λ (b : Bool). record { attribute = l.attribute; sub_attribute = if b then None else l.sub_attribute }) many

-- a row of a multi-valued attribute is a value of it
whole_test : (a : Attribute) (r : Row) → is_multi_valued a ≡ true → IsOfLeaf r → is_eq (unit_cmp r.unit (whole a)) ≡ sameb the_attribute r.unit.attribute a
whole_test a r many own = elim (cases_Bool (sameb the_attribute r.unit.attribute a)) [
  | inl t ↦
      let e : own.0.attribute ≡ a = ap (λ (u : AttributeUnit). u.attribute) (sym own.1) ∙ same_true the_attribute tt _ _ t in
      let unit : r.unit ≡ whole a = own.1 ∙ whole_unit own.0 (ap is_multi_valued e ∙ many) ∙ ap whole e in
      ap (λ (u : AttributeUnit). is_eq (unit_cmp u (whole a))) unit ∙ ap is_eq (tied_itself unit_total (whole a)) ∙ sym t
  | inr n ↦ elim (cases_Bool (is_eq (unit_cmp r.unit (whole a)))) [
    | inl q ↦ absurd (let same = true_same the_attribute r.unit.attribute a (ap (λ (u : AttributeUnit). u.attribute) (unit_same r.unit (whole a) q)) in cc)
    | inr q ↦ q ∙ sym n
  ]
]

values_whole : (a : Attribute) (rs : List Row) → is_multi_valued a ≡ true → All IsOfLeaf rs → values (whole a) rs ≡ attribute_rows a rs
values_whole a [] many own = refl
values_whole a (r ∷ rs) many own = ap₂ (λ b vs. if b then r ∷ vs else vs) (whole_test a r many (All-head IsOfLeaf r rs own)) (values_whole a rs many (All-tail IsOfLeaf r rs own))

-- the decision at a position is the decision in the value of the leaf's unit there
single_at : (policy : List Rule) (client : List ℕ) (c : Content) (l : Leaf) (k : ℕ) (r : Row) → is_multi_valued l.attribute ≡ false → decide_at policy client c l k ≡ decide_in policy client c l r
unfolding decide_at decide_in
single_at policy client c l k r single =
    let one = undivided_pattern policy client c l (single_undivided c l policy single) in
    ap (decided_for (λ t. truth_at t k (rows c))) one ∙ sym (ap (decided_for (λ t. truth_in_value t r)) one)

decided_at : (policy : List Rule) (client : List ℕ) (c : Content) (l : Leaf) (k : ℕ) (r : Row) → slice_get (values (unit_of l) (rows c)) k ≡ Some r → decide_at policy client c l k ≡ decide_in policy client c l r
decided_at policy client c l k r there = elim (cases_Bool (is_multi_valued l.attribute)) [
  | inl many ↦
      let all : values (unit_of l) (rows c) ≡ attribute_rows l.attribute (rows c) = ap (λ (u : AttributeUnit). values u (rows c)) (whole_unit l many) ∙ values_whole l.attribute (rows c) many (made_rows _) in
      positions_by_value policy client c l k r (ap (λ (rs : List Row). slice_get rs k) (sym all) ∙ there)
  | inr single ↦ single_at policy client c l k r single
]

-- a cell stands in a value
there_row : (l : Leaf) (k : ℕ) (vs : List Row) (atom : Atom) → atom_at l k vs ≡ Some atom → (r : Row) × (slice_get vs k ≡ Some r)
there_row l k [] atom e = cc
there_row l zero (r ∷ rs) atom e = (r, refl)
there_row l (suc k) (r ∷ rs) atom e = there_row l k rs atom e

-- what stands in values that are unchanged is seen afterwards only where it was seen before, unless something is opened
pub nothing_comes_into_view : NothingComesIntoView
nothing_comes_into_view v old new kinds nothing l k atom own stays seen =
    let row = there_row l k (values (unit_of l) (rows new)) atom seen.there in
    let r = row.0 in
    let before : slice_get (values (unit_of l) (rows old)) k ≡ Some r = ap (λ (vs : List Row). slice_get vs k) (sym stays) ∙ row.1 in
    let closed = not_opened new.kind (access v.policy v.client old) (access v.policy v.client new) nothing l own in
    let may : (read_in v new r l).allow ≡ true = ap (λ (d : Decision). d.allow) (sym (decided_at v.policy v.client new l k r row.1)) ∙ seen.readable in
    let could : (read_in v old r l).allow ≡ true = and_first _ _ (sym (kept_reading v old new l r kinds closed) ∙ may) in
    record {
      there = ap (atom_at l k) (sym stays) ∙ seen.there;
      shown = ap (λ kind. is_write_only kind l) (sym kinds) ∙ seen.shown;
      readable = ap (λ (d : Decision). d.allow) (decided_at v.policy v.client old l k r before) ∙ could;
    }
