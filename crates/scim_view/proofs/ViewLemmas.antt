-- What is visible by the rules of patterns.
use Rattle.std.proofs.Common.{◌≡◌, refl, sym, ap, inl, inr, Bool, false, ◌&&◌, List, [], ◌∷◌}
use Rattle.std.specs.Prelude.{not, None}
use Rattle.std.specs.List.{list_any}
use Rattle.std.proofs.lemmas.Bool.{cases_Bool}
use Rattle.std.proofs.Math.Path.{fun_ext}
use Rattle.scim_schema.specs.declared.Kind.{Kind}
use Rattle.scim_schema.specs.declared.Leaf.{Leaf}
use Rattle.scim_schema.specs.declared.Attribute.TheVariants.{Id}
use Rattle.scim_schema.specs.Mutability.{is_write_only}
use Rattle.scim_schema.specs.Units.{simple}
use Rattle.scim_cell.specs.Content.{Content}
use Rattle.scim_cell.specs.Rows.{Row}
use Rattle.scim_filter_grammar.specs.Tree.{Tree}
use Rattle.scim_filter.specs.Truth.{truth_in_value}
use Rattle.scim_policy.specs.declared.rules.Decision.{Decision}
use Rattle.scim_policy.specs.Decide.{decide}
use Rattle.scim_policy.specs.Opened.{allows}
use Rattle.scim_policy.specs.Patterns.{PatternRule, decided_for, decisions_of, decide_in, whole_decision}
use Rattle.scim_policy.proofs.Facts.{some_allows_for}
use Rattle.scim_view.specs.View.{Viewer, read_rules, decision_in, may_be_seen, visible_by, view_by, view, sees, visible}

-- rules that are those of the policy give the client's view
pub same_visible : (rules : Leaf → List PatternRule) (v : Viewer) (c : Content) → ((l : Leaf) → rules l ≡ read_rules v c l) → visible_by (decision_in rules) c ≡ visible v c
unfolding visible decide_in
same_visible rules v c same = ap (λ (rs : Leaf → List PatternRule). visible_by (decision_in rs) c) (fun_ext same)

pub same_view : (rules : Leaf → List PatternRule) (v : Viewer) (c : Content) → ((l : Leaf) → rules l ≡ read_rules v c l) → view_by rules c ≡ view v c
unfolding view_by visible decide_in sees decide
same_view rules v c same = ap (λ (rs : Leaf → List PatternRule). view_by rs c) (fun_ext same)

-- and whether it sees the resource
pub same_sees : (rules : Leaf → List PatternRule) (v : Viewer) (c : Content) → ((l : Leaf) → rules l ≡ read_rules v c l) → (whole_decision (decisions_of (rules (simple Id)))).allow ≡ sees v c
unfolding sees decide
same_sees rules v c same = ap (λ (rs : List PatternRule). (whole_decision (decisions_of rs)).allow) (same (simple Id))

-- ---- patterns of one rule each

-- the pattern of each leaf is one rule, for all values
abbrev pub AreSingle : (Leaf → Decision) → (Leaf → List PatternRule) → Type 0
AreSingle d rules = (l : Leaf) → rules l ≡ record { decision = d l; filters = None } ∷ []

-- it decides in each value
pub single_decision : (d : Leaf → Decision) (rules : Leaf → List PatternRule) → AreSingle d rules → (λ (r : Row). d) ≡ decision_in rules
single_decision d rules single = sym (fun_ext (λ r. fun_ext (λ l. ap (decided_for (λ t. truth_in_value t r)) (single l))))

pub single_visible : (d : Leaf → Decision) (rules : Leaf → List PatternRule) (c : Content) → AreSingle d rules → visible_by (λ (r : Row). d) c ≡ visible_by (decision_in rules) c
single_visible d rules c single = ap (λ (e : Row → Leaf → Decision). visible_by e c) (single_decision d rules single)

-- ---- what rules deny

-- a value isn't read where no rule allows
pub none_allows : (matches : Tree → Bool) (rs : List PatternRule) → list_any allows (decisions_of rs) ≡ false → (decided_for matches rs).allow ≡ false
none_allows matches rs none = elim (cases_Bool (decided_for matches rs).allow) [
  | inl t ↦ absurd (let some = some_allows_for matches rs t in cc)
  | inr f ↦ f
]

-- whether a leaf of the kind isn't writeOnly, and some of the rules of its pattern allows
abbrev pub shows_value : (Leaf → List PatternRule) → Kind → Leaf → Bool
shows_value rules kind l = not (is_write_only kind l) && list_any allows (decisions_of (rules l))

pub denied_leaf : (rules : Leaf → List PatternRule) (kind : Kind) (r : Row) (l : Leaf) → shows_value rules kind l ≡ false → may_be_seen (decision_in rules) kind r l ≡ false
denied_leaf rules kind r l none = elim (cases_Bool (is_write_only kind l)) [
  | inl secret ↦ rw secret refl
  | inr open' ↦ rw open' (none_allows (λ t. truth_in_value t r) (rules l) (rw open' at none))
]
