-- Leaves that no path with a value filter covers: the last rule of their pattern decides in each value.
use Rattle.std.proofs.Common.{◌≡◌, refl, sym, ◌∙◌, ap, false, ◌&&◌, List, [], ◌∷◌, ◌++◌, map}
use Rattle.std.specs.Prelude.{not, All, Option, None}
use Rattle.std.specs.List.{list_any}
use Rattle.std.proofs.lemmas.List.Elements.{All-weaker}
use Rattle.scim_schema.specs.declared.Kind.{Kind}
use Rattle.scim_schema.specs.declared.Kind.TheVariants.{User}
use Rattle.scim_schema.specs.declared.Leaf.{Leaf}
use Rattle.scim_schema.specs.declared.Unit.{Unit as AttributeUnit}
use Rattle.scim_schema.specs.declared.Attribute.TheVariants.{Groups}
use Rattle.scim_schema.specs.Characteristics.{is_multi_valued}
use Rattle.scim_schema.specs.Mutability.{is_write_only}
use Rattle.scim_schema.specs.Units.{whole}
use Rattle.scim_cell.specs.declared.rows.Field.{Field}
use Rattle.scim_cell.specs.Rows.{Row, restricted, IsSoundField}
use Rattle.scim_cell.proofs.Facts.{AreAlike, restricted_alike}
use Rattle.scim_filter.specs.Truth.{truth_in_value}
use Rattle.scim_policy.specs.declared.rules.Decision.{Decision}
use Rattle.scim_policy.specs.declared.patterns.Patterns.{Patterns}
use Rattle.scim_policy.specs.Rules.{FilteredPath}
use Rattle.scim_policy.specs.Fits.{covers_in_part}
use Rattle.scim_policy.specs.Patterns.{PatternRule, decided_for}
use Rattle.scim_policy.specs.PatternTable.{last_decision, last_rule, partial_paths, partial_rules, rules_in}
use Rattle.scim_policy.specs.Table.{decided}
use Rattle.scim_view.specs.View.{decision_in, may_be_seen}
use Rattle.scim_view.proofs.GroupLemmas.{IsGroupsRow}

-- no path with a value filter covers the leaf
abbrev pub IsUncovered : Leaf → Type 0
IsUncovered l = (p : FilteredPath) → covers_in_part l p ≡ false

pub uncovered_single : (l : Leaf) → is_multi_valued l.attribute ≡ false → IsUncovered l
uncovered_single l single p = rw single refl

pub uncovered_groups : (l : Leaf) → l.attribute ≡ Groups → IsUncovered l
uncovered_groups l own p = rw own refl

none_covers : (l : Leaf) (ps : List FilteredPath) → IsUncovered l → list_any (covers_in_part l) ps ≡ false
none_covers l [] none = refl
none_covers l (p ∷ ps) none = rw (none p) (none_covers l ps none)

none_partial : (l : Leaf) (o : Option Decision) (ps : List (Decision × List FilteredPath)) → IsUncovered l → partial_rules l o ps ≡ []
none_partial l o [] none = refl
none_partial l o (p ∷ ps) none = rw (none_covers l p.1 none) (none_partial l o ps none)

-- its pattern in a table is the last rule
pub uncovered_rules : (ps : Patterns) (l : Leaf) → IsUncovered l → rules_in ps l ≡ record { decision = last_decision ps l; filters = None } ∷ []
unfolding rules_in last_decision
uncovered_rules ps l none =
    ap (λ (rs : List PatternRule). rs ++ last_rule (decided ps.last l) ∷ []) (none_partial l (decided ps.last l) (map partial_paths ps.partial.items) none)

pub uncovered_decision : (ps : Patterns) (r : Row) (l : Leaf) → IsUncovered l → decision_in (rules_in ps) r l ≡ last_decision ps l
uncovered_decision ps r l none = ap (decided_for (λ t. truth_in_value t r)) (uncovered_rules ps l none)

-- so the last rule shows it where the pattern does
pub uncovered_seen : (ps : Patterns) (kind : Kind) (r : Row) (l : Leaf) → IsUncovered l → may_be_seen (λ q. last_decision ps) kind r l ≡ may_be_seen (decision_in (rules_in ps)) kind r l
uncovered_seen ps kind r l none = ap (λ (d : Decision). not (is_write_only kind l) && d.allow) (sym (uncovered_decision ps r l none))

-- so of values of `groups` the last rules make visible what all do
groups_field : (ps : Patterns) (r : Row) (f : Field) → r.unit ≡ whole Groups → IsSoundField User r.unit f → may_be_seen (λ q. last_decision ps) User r f.leaf ≡ may_be_seen (decision_in (rules_in ps)) User r f.leaf
groups_field ps r f own sound = uncovered_seen ps User r f.leaf (uncovered_groups f.leaf (ap (λ (u : AttributeUnit). u.attribute) (sound.0 ∙ own)))

pub groups_alike : (ps : Patterns) (ms : List Row) → All IsGroupsRow ms → restricted (may_be_seen (λ q. last_decision ps) User) ms ≡ restricted (may_be_seen (decision_in (rules_in ps)) User) ms
groups_alike ps ms own =
    let by_last = may_be_seen (λ q. last_decision ps) User in
    let by_all = may_be_seen (decision_in (rules_in ps)) User in
    restricted_alike by_last by_all ms
    (All-weaker IsGroupsRow (AreAlike by_last by_all)
    (λ r h. All-weaker (IsSoundField User r.unit) (λ (f : Field). by_last r f.leaf ≡ by_all r f.leaf) (λ f sound. groups_field ps r f h.0 sound) r.fields h.1.own) ms own)
