-- What a reply shows of what a client sees, made at once.
use Rattle.std.proofs.Common.{◌≡◌, refl, sym, ◌∙◌, ap, subst, Bool, true, false, true≢false, ◌&&◌, ◌||◌, List, [], ◌∷◌, ◌++◌, filter, map, inl, inr}
use Rattle.std.specs.Prelude.{All}
use Rattle.std.specs.List.{list_any}
use Rattle.std.proofs.lemmas.Bool.{cases_Bool}
use Rattle.std.proofs.lemmas.List.Elements.{All-head, All-tail, All-weaker, filter_passes}
use Rattle.std.proofs.lemmas.List.Folds.{list_any-append}
use Rattle.std.proofs.Math.Bool.{and-false, or-false}
use denote.Enum.Bare.{sameb, same_true, true_same}
use Rattle.scim_schema.specs.declared.Kind.{Kind}
use Rattle.scim_schema.specs.declared.Kind.TheVariants.{User}
use Rattle.scim_schema.specs.contracts.Kind.{the_type as the_kind}
use Rattle.scim_schema.specs.declared.Attribute.{Attribute}
use Rattle.scim_schema.specs.declared.Attribute.TheVariants.{Groups}
use Rattle.scim_schema.specs.contracts.Attribute.{the_type as the_attribute}
use Rattle.scim_schema.specs.declared.Leaf.{Leaf}
use Rattle.scim_schema.specs.declared.Unit.{Unit as AttributeUnit}
use Rattle.scim_schema.specs.Table.{HasLeaf}
use Rattle.scim_schema.specs.Units.{whole}
use Rattle.scim_cell.specs.declared.rows.Field.{Field}
use Rattle.scim_cell.specs.Content.{Content, IsPart}
use Rattle.scim_cell.specs.Rows.{Row, Test, by_leaf, rows, content, put_values, restricted, restricted_row, has_fields, AreValues, IsSoundField, IsSoundRow}
use Rattle.scim_cell.proofs.Facts.{AreAlike, restricted_alike, restricted_further}
use Rattle.scim_value.specs.Changes.{restricted_part}
use Rattle.scim_value.proofs.Facts.{sound_part, rows_content, restricted_sound}
use Rattle.scim_policy.specs.declared.rules.Decision.{Decision}
use Rattle.scim_policy.specs.Patterns.{PatternRule}
use Rattle.scim_view.specs.declared.projection.Wanted.{Wanted}
use Rattle.scim_view.specs.View.{Viewer, decision_in, may_be_seen, read_in}
use Rattle.scim_view.specs.Groups.{memberships, rows_with, seen, visible_with, with_groups}
use Rattle.scim_view.specs.Shown.{shows, shows_attribute, shown}
use Rattle.scim_view.specs.code.ShownCells.{seen_and_shown, shown_except, AreUnshown}
use Rattle.scim_view.proofs.GroupLemmas.{IsGroupsRow, made_rows, own_values, restricted-put_values}
use Rattle.scim_view.proofs.AttributeLemmas.{hidden_leaf, no_fields, sound_among}
use Rattle.scim_view.proofs.ViewLemmas.{AreSingle, single_decision}

-- rows that a test leaves have fields
pub left_full : (test : Test) (rs : List Row) → All (λ r. has_fields r ≡ true) (restricted test rs)
left_full test rs = filter_passes has_fields (map (restricted_row test) rs)

-- ---- attributes of which no leaf is shown

pub none_unshown : (w : Wanted) (kind : Kind) → AreUnshown w kind []
none_unshown w kind l there own = absurd (true≢false (sym own))

-- with one attribute more of which no leaf is shown
pub unshown_more : (w : Wanted) (kind : Kind) (unshown : List Attribute) (a : Attribute) → AreUnshown w kind unshown → shows_attribute w kind a ≡ false → AreUnshown w kind (unshown ++ a ∷ [])
unshown_more w kind unshown a none hidden l there own = elim (cases_Bool (list_any (sameb the_attribute l.attribute) unshown)) [
  | inl t ↦ none l there t
  | inr f ↦
      let is : Attribute → Bool = sameb the_attribute l.attribute in
      let some : (list_any is unshown || (is a || false)) ≡ true = sym (list_any-append is unshown (a ∷ [])) ∙ own in
      let last : (is a || false) ≡ true = rw f at some in
      hidden_leaf (shows w kind) kind a l there (sym (or-false (is a)) ∙ last) hidden
]

-- a field of one isn't shown
except_field : (unshown : List Attribute) (d : Row → Leaf → Decision) (kind : Kind) (w : Wanted) (r : Row) (f : Field) → AreUnshown w kind unshown → IsSoundField kind r.unit f
    → shown_except unshown d kind w r f.leaf ≡ seen_and_shown d kind w r f.leaf
except_field unshown d kind w r f none sound = elim (cases_Bool (list_any (sameb the_attribute r.unit.attribute) unshown)) [
  | inl t ↦
      let own : list_any (sameb the_attribute f.leaf.attribute) unshown ≡ true = ap (λ (u : AttributeUnit). list_any (sameb the_attribute u.attribute) unshown) sound.0 ∙ t in
      let hidden : shows w kind f.leaf ≡ false = none f.leaf sound.1 own in
      rw (t, hidden) (sym (and-false (may_be_seen d kind r f.leaf)))
  | inr n ↦ rw n refl
]

-- so they may be left out at once
pub except_unshown : (unshown : List Attribute) (d : Row → Leaf → Decision) (w : Wanted) (c : Content) → IsPart c → AreUnshown w c.kind unshown
    → restricted_part (shown_except unshown d c.kind w) c ≡ restricted_part (seen_and_shown d c.kind w) c
except_unshown unshown d w c part none =
    let p = shown_except unshown d c.kind w in
    let q = seen_and_shown d c.kind w in
    ap (content c.kind c.id) (restricted_alike p q (rows c)
    (All-weaker (IsSoundRow c.kind) (AreAlike p q)
    (λ r sound. All-weaker (IsSoundField c.kind r.unit) (λ (f : Field). p r f.leaf ≡ q r f.leaf) (λ f own. except_field unshown d c.kind w r f none own) r.fields sound.own) (rows c) (sound_part c part).own))

-- where the pattern of each leaf is one rule, it decides in each value
pub single_shown : (d : Leaf → Decision) (rules : Leaf → List PatternRule) (w : Wanted) (c : Content) → AreSingle d rules
    → restricted_part (seen_and_shown (λ (r : Row). d) c.kind w) c ≡ restricted_part (seen_and_shown (decision_in rules) c.kind w) c
single_shown d rules w c single = ap (λ (e : Row → Leaf → Decision). restricted_part (seen_and_shown e c.kind w) c) (single_decision d rules single)

-- ---- what is shown of a resource with values of `groups`

-- the visible rows that the projection keeps
shown_rows : (w : Wanted) (d : Row → Leaf → Decision) (ms : List Row) (c : Content) → IsPart c → All IsGroupsRow ms
    → shown w (visible_with d ms c) ≡ content c.kind c.id (restricted (seen_and_shown d c.kind w) (rows_with ms c))
unfolding shown visible_with
shown_rows w d ms c part made =
    ap (λ (rs : List Row). content c.kind c.id (restricted (by_leaf (shows w c.kind)) rs)) (rows_content c.kind c.id _ (sound_among (may_be_seen d c.kind) ms c part made))
    ∙ ap (content c.kind c.id) (restricted_further (may_be_seen d c.kind) (shows w c.kind) (rows_with ms c))

-- of a user, they are put in
pub user_shown : (w : Wanted) (d : Row → Leaf → Decision) (ms : List Row) (c p : Content) → IsPart c → All IsGroupsRow ms → c.kind ≡ User → p ≡ restricted_part (seen_and_shown d c.kind w) c
    → content p.kind p.id (put_values (whole Groups) (restricted (seen_and_shown d User w) ms) (rows p)) ≡ shown w (visible_with d ms c)
user_shown w d ms c p part made e is =
    let user : sameb the_kind c.kind User ≡ true = true_same the_kind c.kind User e in
    let test = seen_and_shown d c.kind w in
    let own : rows (restricted_part test c) ≡ restricted test (rows c) = rows_content c.kind c.id _ (restricted_sound c.kind test (rows c) (sound_part c part)) in
    let with' : content c.kind c.id (put_values (whole Groups) (restricted test ms) (restricted test (rows c))) ≡ content c.kind c.id (restricted test (rows_with ms c))
    = rw user (ap (content c.kind c.id) (sym (restricted-put_values test (whole Groups) ms (rows c)))) in
    ap (λ (q : Content). content q.kind q.id (put_values (whole Groups) (restricted (seen_and_shown d User w) ms) (rows q))) is
    ∙ ap (content c.kind c.id) (λ i. put_values (whole Groups) (restricted (seen_and_shown d (sym e i) w) ms) (own i))
    ∙ with'
    ∙ sym (shown_rows w d ms c part made)

-- of another resource, there are none
pub other_shown : (w : Wanted) (d : Row → Leaf → Decision) (ms : List Row) (c : Content) → IsPart c → All IsGroupsRow ms → sameb the_kind c.kind User ≡ false
    → restricted_part (seen_and_shown d c.kind w) c ≡ shown w (visible_with d ms c)
other_shown w d ms c part made n =
    let rows' : rows_with ms c ≡ rows c = rw n refl in
    ap (λ (rs : List Row). content c.kind c.id (restricted (seen_and_shown d c.kind w) rs)) (sym rows') ∙ sym (shown_rows w d ms c part made)

-- the values that are shown may be put in
pub shown_values : (w : Wanted) (d : Row → Leaf → Decision) (ms : List Row) → All IsGroupsRow ms → AreValues User (whole Groups) (restricted (seen_and_shown d User w) ms)
shown_values w d ms made = own_values (seen_and_shown d User w) ms made

-- ---- groups that aren't shown

-- nothing is left of values of `groups` by a test that no leaf of it passes
no_groups : (test : Test) (ms : List Row) → All IsGroupsRow ms → ((r : Row) (l : Leaf) → HasLeaf User l → l.attribute ≡ Groups → test r l ≡ false) → restricted test ms ≡ []
no_groups test [] made fails = refl
no_groups test (r ∷ rs) made fails =
    let own = All-head IsGroupsRow r rs made in
    let none : filter (λ (f : Field). test r f.leaf) r.fields ≡ [] =
    no_fields (λ f. test r f.leaf) r.fields (All-weaker (IsSoundField User r.unit) (λ f. test r f.leaf ≡ false) (λ f sound. fails r f.leaf sound.1 (ap (λ (u : AttributeUnit). u.attribute) (sound.0 ∙ own.0))) r.fields own.1.own) in
    rw none (no_groups test rs (All-tail IsGroupsRow r rs made) fails)

-- so the shown rows are the same for any values of `groups`
rows_alike : (w : Wanted) (d : Row → Leaf → Decision) (ms ns : List Row) (c : Content) → All IsGroupsRow ms → All IsGroupsRow ns → shows_attribute w c.kind Groups ≡ false
    → restricted (seen_and_shown d c.kind w) (rows_with ms c) ≡ restricted (seen_and_shown d c.kind w) (rows_with ns c)
rows_alike w d ms ns c made others none =
    let test = seen_and_shown d c.kind w in
    elim (cases_Bool (sameb the_kind c.kind User)) [
      | inl t ↦
          let user = same_true the_kind tt c.kind User t in
          let fails = λ (r : Row) (l : Leaf) (there : HasLeaf User l) (own : l.attribute ≡ Groups).
          ap (λ (b : Bool). may_be_seen d c.kind r l && b) (hidden_leaf (shows w c.kind) c.kind Groups l (subst (λ (k : Kind). HasLeaf k l) (sym user) there) (true_same the_attribute l.attribute Groups own) none) ∙ and-false (may_be_seen d c.kind r l) in
          let gone : restricted test ms ≡ restricted test ns = no_groups test ms made fails ∙ sym (no_groups test ns others fails) in
          rw t (restricted-put_values test (whole Groups) ms (rows c)
          ∙ ap (λ (vs : List Row). put_values (whole Groups) vs (restricted test (rows c))) gone
          ∙ sym (restricted-put_values test (whole Groups) ns (rows c)))
      | inr n ↦ rw n refl
    ]

pub unshown_groups : (w : Wanted) (c : Content) → IsPart c → shows_attribute w c.kind Groups ≡ false → (v : Viewer) (gs hs : List Content) → shown w (with_groups v gs c) ≡ shown w (with_groups v hs c)
unfolding with_groups
unshown_groups w c part none v gs hs =
    let ms = memberships v.base (seen v gs) c.id in
    let ns = memberships v.base (seen v hs) c.id in
    let made = made_rows v.base _ in
    let others = made_rows v.base _ in
    shown_rows w (read_in v c) ms c part made
    ∙ ap (content c.kind c.id) (rows_alike w (read_in v c) ms ns c made others none)
    ∙ sym (shown_rows w (read_in v c) ns c part others)
