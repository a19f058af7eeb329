-- Filters that match only rows with a value of `groups`.
use Rattle.std.proofs.Common.{◌≡◌, refl, sym, ◌∙◌, ap, Bool, true, false, true≢false, not, List, [], ◌∷◌, filter, inl, inr}
use Rattle.std.specs.Prelude.{Option, Some}
use Rattle.std.specs.Option.{option_eq}
use Rattle.std.proofs.lemmas.Bool.{cases_Bool}
use Rattle.std.proofs.lemmas.Option.{same_Some}
use denote.Enum.Bare.{sameb}
use Rattle.scim_schema.specs.declared.Attribute.{Attribute}
use Rattle.scim_schema.specs.declared.Attribute.TheVariants.{Groups}
use Rattle.scim_schema.specs.contracts.Attribute.{the_type as the_attribute}
use Rattle.scim_schema.specs.Characteristics.{is_multi_valued}
use Rattle.scim_schema.specs.Units.{is_same_attribute}
use Rattle.scim_cell.specs.Rows.{Row}
use Rattle.scim_filter_grammar.specs.declared.tree.AttributePath.{AttributePath}
use Rattle.scim_filter_grammar.specs.declared.tree.Literal.{Literal}
use Rattle.scim_filter_grammar.specs.declared.tree.Meant.{Meant}
use Rattle.scim_filter_grammar.specs.declared.tree.Meant.TheVariants as meant
use Rattle.scim_filter_grammar.specs.declared.tree.Operator.{Operator}
use Rattle.scim_filter_grammar.specs.Mentions.{mentioned_attribute}
use Rattle.scim_filter_grammar.specs.Tree.{Tree, Present, Compare, Values}
use Rattle.scim_filter.specs.Truth.{compares, truth}
use Rattle.scim_view.specs.Groups.{has_groups}
use Rattle.scim_query.specs.Needed.{TreeNeedsGroups}
use Rattle.scim_query.specs.PossibleMatches.{rows_meant, is_asked_of_none}
use Rattle.scim_query.proofs.AlikeLemmas.{same_turned}
use Rattle.scim_query.proofs.PossibleMatchLemmas.{present_fails, compare_fails, position_fails}

none_left : (rs : List Row) → has_groups rs ≡ false → filter (λ (r : Row). sameb the_attribute Groups r.unit.attribute) rs ≡ []
none_left [] none = refl
none_left (r ∷ rs) none = elim (cases_Bool (sameb the_attribute r.unit.attribute Groups)) [
  | inl s ↦ absurd (true≢false (rw s at none))
  | inr n ↦
      let other : sameb the_attribute Groups r.unit.attribute ≡ false = same_turned Groups r.unit.attribute ∙ n in
      rw other (none_left rs (rw n at none))
]

-- without a value of `groups`, a path that names `groups` means no rows
none_meant : (m : Meant) (rs : List Row) → mentioned_attribute m ≡ Some Groups → has_groups rs ≡ false → rows_meant m rs ≡ []
none_meant m rs is none =
    ap (λ (o : Option Attribute). filter (λ (r : Row). option_eq is_same_attribute o (Some r.unit.attribute)) rs) is ∙ none_left rs none

-- a test that fails without a value of `groups` needs one
needs_by : (test : List Row → Bool) → ((rs : List Row) → has_groups rs ≡ false → test rs ≡ false) → (rs : List Row) → test rs ≡ true → has_groups rs ≡ true
needs_by test fails rs holds = elim (cases_Bool (has_groups rs)) [ inl t ↦ t | inr n ↦ absurd (true≢false (sym holds ∙ fails rs n)) ]

pub present_needs : (path : AttributePath) → mentioned_attribute path.meant ≡ Some Groups → TreeNeedsGroups (Present path)
present_needs path is = needs_by (truth (Present path)) (λ rs none. present_fails path rs (none_meant path.meant rs is none))

pub compare_needs : (path : AttributePath) (op : Operator) (x : Literal) → mentioned_attribute path.meant ≡ Some Groups → compares meant.Nothing op x [] ≡ false → TreeNeedsGroups (Compare path op x)
compare_needs path op x is fails = needs_by (truth (Compare path op x)) (λ rs none. compare_fails path op x rs fails (none_meant path.meant rs is none))

-- a value path of `groups` isn't asked of no values
not_asked : (m : Meant) → mentioned_attribute m ≡ Some Groups → is_asked_of_none m ≡ false
not_asked meant.Nothing is = refl
not_asked (meant.SubAttribute a b) is = refl
not_asked (meant.Attribute a) is = ap (λ (b : Attribute). not (is_multi_valued b)) (same_Some a Groups is)

pub values_need : (path : AttributePath) (inner : Tree) → mentioned_attribute path.meant ≡ Some Groups → TreeNeedsGroups (Values path inner)
values_need path inner is =
    needs_by (truth (Values path inner)) (λ rs none. position_fails inner path.meant rs (not_asked path.meant is) (none_meant path.meant rs is none))
