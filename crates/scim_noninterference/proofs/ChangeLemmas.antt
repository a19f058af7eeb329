-- A change of what a client may write: where it can't tell two resources apart before, it can't tell them apart afterwards.
use Rattle.std.proofs.Common.{◌≡◌, refl, sym, ◌∙◌, ap, ap₂, subst, ℕ, Bool, true, false, List, filter, inl, inr, get_or}
use Rattle.std.specs.Prelude.{All, not, ◌&&◌, ◌||◌, None}
use Rattle.std.specs.List.{list_all, list_any}
use Rattle.std.specs.Ordering.{is_eq}
use Rattle.std.proofs.lemmas.Bool.{cases_Bool}
use Rattle.std.proofs.lemmas.List.Elements.{All-contains, All-filter, All-weaker}
use Rattle.std.proofs.lemmas.List.Sums.{AllPass-from_list_all}
use mathlib.Core.Path.{fun_ext}
use Rattle.scim_schema.specs.declared.Kind.{Kind}
use Rattle.scim_schema.specs.declared.Op.{Op}
use Rattle.scim_schema.specs.declared.Op.TheVariants.{Read, Modify, Delete}
use Rattle.scim_schema.specs.declared.Attribute.{Attribute}
use Rattle.scim_schema.specs.declared.Leaf.{Leaf}
use Rattle.scim_schema.specs.declared.Unit.{Unit as AttributeUnit}
use Rattle.scim_schema.specs.declared.Kind.TheVariants.{User, Group}
use Rattle.scim_schema.specs.Mutability.{is_secret, is_write_only}
use Rattle.scim_schema.specs.Table.{leaves, HasLeaf}
use Rattle.scim_schema.specs.Units.{unit_of}
use Rattle.scim_cell.specs.declared.rows.Field.{Field}
use Rattle.scim_cell.specs.Content.{Content}
use Rattle.scim_cell.specs.Place.{unit_cmp}
use Rattle.scim_cell.specs.Rows.{Row, by_leaf, rows, values, has_fields, restricted, IsSoundField, IsSoundRow}
use Rattle.scim_cell.proofs.Facts.{AreAlike}
use Rattle.scim_value.specs.Resource.{IsResource}
use Rattle.scim_value.proofs.Facts.{sound_part, unit_same}
use Rattle.scim_policy.specs.Rules.{Rule}
use Rattle.scim_policy.specs.Access.{Access, access, forbidding, widening}
use Rattle.scim_policy.specs.Control.{control, is_named_in, is_unique}
use Rattle.scim_policy.specs.Decide.{decide}
use Rattle.scim_policy.specs.Opened.{allows}
use Rattle.scim_policy.specs.Patterns.{decisions_of, pattern_rules}
use Rattle.scim_policy.proofs.Facts.{decide_same, patterns_same}
use Rattle.scim_view.specs.View.{Viewer, may_be_seen, read_pattern}
use Rattle.scim_change.specs.Laws.{AgreeAt, AgreeAtOpen, IsLeft}
use Rattle.scim_noninterference.specs.Names.{ControlRestsOnUnits}
use Rattle.scim_noninterference.proofs.RowLemmas.{KeepsAll, values_restricted, restricted_kept, restricted_narrower}
use Rattle.scim_view.proofs.Facts.{narrowed, passing, written_seen as written_leaf_seen}
use Rattle.scim_noninterference.proofs.UnitLemmas.{attributes_same, kept_same}
use Rattle.scim_noninterference.proofs.StoreLemmas.{Traits, may_see, traits, access_same, may_see_same, reading_same}

-- whether the viewer may see a leaf of a resource in some value
abbrev pub sees_some : Viewer → Content → Leaf → Bool
sees_some v c l = not (is_write_only c.kind l) && list_any allows (read_pattern v c l)

-- what the viewer may do with a resource
abbrev pub access_of : Viewer → Content → Access
access_of v c = access v.policy v.client c

-- a leaf is writeOnly where its unit is
abbrev is_as_secret : Kind → Leaf → Bool
is_as_secret kind l = not (is_write_only kind l) || is_secret kind (unit_of l)

all_as_secret : (kind : Kind) → list_all (is_as_secret kind) (leaves kind) ≡ true
all_as_secret User = refl
all_as_secret Group = refl

-- so a client may read the leaves of a unit that isn't
open_leaf : (kind : Kind) (u : AttributeUnit) → is_secret kind u ≡ false → (l : Leaf) → unit_of l ≡ u → HasLeaf kind l → is_write_only kind l ≡ false
open_leaf kind u open' l at there =
    let told = All-contains (λ m. is_as_secret kind m ≡ true) (leaves kind) l (AllPass-from_list_all (is_as_secret kind) (leaves kind) (all_as_secret kind)) there in
    let none : is_secret kind (unit_of l) ≡ false = ap (is_secret kind) at ∙ open' in
    elim (cases_Bool (is_write_only kind l)) [
      | inl t ↦ absurd (let e : false ≡ true = rw (t, none) at told in cc)
      | inr n ↦ n
    ]

-- ---- what decides after a change

-- decisions and uniqueness rest on these values
abbrev decides_by : List Rule → Kind → Attribute → Bool
decides_by policy kind at = is_named_in policy at || is_unique kind at

-- they are the same of two resources afterwards, where they were the same before
pub control_rests : ControlRestsOnUnits
unfolding control
control_rests policy us changed moment a b x y one two three four kinds same agree first second =
    sym (attributes_same (decides_by policy x.kind) x three)
    ∙ kept_same us changed moment a b x y agree first second three four kinds_after (by_leaf (λ l. decides_by policy x.kind l.attribute)) before
    ∙ attributes_same (decides_by policy x.kind) y four ∙ (λ i. filter (λ (r : Row). decides_by policy (kinds_after i) r.unit.attribute) (rows y))
  where
    kinds_after : x.kind ≡ y.kind
    kinds_after = first.kind ∙ kinds ∙ sym second.kind

    before : restricted (by_leaf (λ l. decides_by policy x.kind l.attribute)) (rows a) ≡ restricted (by_leaf (λ l. decides_by policy x.kind l.attribute)) (rows b)
    before =
        attributes_same (decides_by policy x.kind) a one ∙ (λ i. filter (λ (r : Row). decides_by policy (first.kind i) r.unit.attribute) (rows a))
        ∙ same
        ∙ (λ i. filter (λ (r : Row). decides_by policy (sym (first.kind ∙ kinds) i) r.unit.attribute) (rows b)) ∙ sym (attributes_same (decides_by policy x.kind) b two)

module _ (v : Viewer) where
  -- ---- a unit that may be written and isn't writeOnly is seen

  module _ (c : Content) (own : IsResource c) (u : AttributeUnit) (free : forbidding c.kind (access_of v c) u ≡ None) (open' : is_secret c.kind u ≡ false) where
    seen_field : (r : Row) → r.unit ≡ u → (f : Field) → IsSoundField c.kind r.unit f → may_see v c r f.leaf ≡ true
    seen_field r at f is =
        written_leaf_seen v c u free f.leaf (is.0 ∙ at) is.1 (open_leaf c.kind u open' f.leaf (is.0 ∙ at) is.1) r

    seen_row : (r : Row) → is_eq (unit_cmp r.unit u) ≡ true → IsSoundRow c.kind r → KeepsAll (may_see v c) r
    seen_row r at is = λ k e l. seen_field r (unit_same r.unit u at) (get_or r.fields k e) (is.own k e l)

    written_seen : restricted (may_see v c) (values u (rows c)) ≡ values u (rows c)
    written_seen =
        let sound = sound_part c own.part in
        let at = passing (λ (r : Row). is_eq (unit_cmp r.unit u)) (rows c) in
        let is = All-filter (λ (r : Row). is_eq (unit_cmp r.unit u)) (IsSoundRow c.kind) (rows c) sound.own in
        restricted_kept (may_see v c) (values u (rows c)) (All-filter (λ (r : Row). is_eq (unit_cmp r.unit u)) (λ r. has_fields r ≡ true) (rows c) sound.full)
        (λ k e l. seen_row (get_or (values u (rows c)) k e) (at k e l) (is k e l))

  -- so two resources that the viewer can't tell apart have the same values of the units that aren't writeOnly
  pub agree_at : (us : List AttributeUnit) (a b : Content) → IsResource a → IsResource b → traits v a ≡ traits v b
      → All (λ u. forbidding a.kind (access_of v a) u ≡ None) us → AgreeAtOpen a.kind us a b
  agree_at us a b one two same free =
      All-weaker (λ u. forbidding a.kind (access_of v a) u ≡ None) (λ u. is_secret a.kind u ≡ false → values u (rows a) ≡ values u (rows b)) by_unit us free
    where
      kinds : a.kind ≡ b.kind
      kinds = ap (λ (t : Traits). t.kind) same

      by_unit : (u : AttributeUnit) → forbidding a.kind (access_of v a) u ≡ None → is_secret a.kind u ≡ false → values u (rows a) ≡ values u (rows b)
      by_unit u e open' =
          let f : forbidding b.kind (access_of v b) u ≡ None = ap₂ (λ (k : Kind) (x : Access). forbidding k x u) (sym kinds) (sym (access_same v a b same)) ∙ e in
          sym (written_seen a one u e open') ∙ sym (values_restricted (may_see v a) u (rows a)) ∙ ap (λ (t : Traits). values u t.rows) same
          ∙ values_restricted (may_see v b) u (rows b) ∙ written_seen b two u f (ap (λ k. is_secret k u) (sym kinds) ∙ open')

  -- ---- after the change

  module _ (us : List AttributeUnit) (changed : Bool) (moment : ℕ) (a b x y : Content) (one : IsResource a) (two : IsResource b) (three : IsResource x) (four : IsResource y)
      (same : traits v a ≡ traits v b) (agree : AgreeAt us x y) (first : IsLeft us changed moment a x) (second : IsLeft us changed moment b y) where
    kinds_before : a.kind ≡ b.kind
    kinds_before = ap (λ (t : Traits). t.kind) same

    pub kinds_after : x.kind ≡ y.kind
    kinds_after = first.kind ∙ kinds_before ∙ sym second.kind

    pub ids_after : x.id ≡ y.id
    ids_after = first.id ∙ ap (λ (t : Traits). t.id) same ∙ sym second.id

    pub control_after : control v.policy x ≡ control v.policy y
    control_after =
        control_rests v.policy us changed moment a b x y one two three four kinds_before (ap (λ (t : Traits). t.control) same) agree first second

    rules_after : pattern_rules v.policy v.client x ≡ pattern_rules v.policy v.client y
    rules_after = fun_ext (λ (l : Leaf). patterns_same v.policy v.client x y l kinds_after control_after)

    pub access_after : access_of v x ≡ access_of v y
    access_after =
        let same_decision : (op : Op) → decide v.policy v.client op x ≡ decide v.policy v.client op y
        = λ op. fun_ext (λ (l : Leaf). decide_same v.policy v.client op x y l kinds_after control_after) in
        λ i. record {
          read = same_decision Read i;
          patterns = λ l. decisions_of (rules_after i l);
          modify = same_decision Modify i;
          delete = same_decision Delete i;
        }

    -- what was seen before is the same
    rows_after : restricted (may_see v a) (rows x) ≡ restricted (may_see v a) (rows y)
    rows_after =
        kept_same us changed moment a b x y agree first second three four kinds_after (may_see v a)
        (ap (λ (t : Traits). t.rows) same ∙ ap (λ keep. restricted keep (rows b)) (sym (may_see_same v a b same)))

    -- where nothing is opened, a field is seen afterwards exactly if it would be seen before, and its leaf is seen in some value afterwards
    narrow_at : widening x.kind (access_of v a) (access_of v x) ≡ None → (r : Row) (l : Leaf) → HasLeaf x.kind l → may_see v x r l ≡ (may_see v a r l && sees_some v x l)
    narrow_at nothing r l there = narrowed v a x first.kind nothing l there r

    narrow_rows : widening x.kind (access_of v a) (access_of v x) ≡ None → (k : Kind) → x.kind ≡ k → (rs : List Row) → All (IsSoundRow k) rs
        → All (AreAlike (may_see v x) (λ r l. may_see v a r l && sees_some v x l)) rs
    narrow_rows nothing k kinds rs own =
        λ i e l j f m. narrow_at nothing (get_or rs i e) (get_or (get_or rs i e).fields j f).leaf (subst (λ (kind : Kind). HasLeaf kind (get_or (get_or rs i e).fields j f).leaf) (sym kinds) ((own i e l).own j f m).1)

    pub traits_after : widening x.kind (access_of v a) (access_of v x) ≡ None → traits v x ≡ traits v y
    traits_after nothing =
        let may : may_see v x ≡ may_see v y = λ i. may_be_seen (reading_same v x y rules_after i) (kinds_after i) in
        let rows_now : restricted (may_see v x) (rows x) ≡ restricted (may_see v y) (rows y)
        = restricted_narrower (may_see v a) (may_see v x) (sees_some v x) (rows x) (narrow_rows nothing x.kind refl (rows x) (sound_part x three.part).own)
        ∙ ap (restricted (by_leaf (sees_some v x))) rows_after
        ∙ sym (restricted_narrower (may_see v a) (may_see v x) (sees_some v x) (rows y) (narrow_rows nothing y.kind kinds_after (rows y) (sound_part y four.part).own))
        ∙ ap (λ keep. restricted keep (rows y)) may in
        λ i. record { kind = kinds_after i; id = ids_after i; rows = rows_now i; control = control_after i }
