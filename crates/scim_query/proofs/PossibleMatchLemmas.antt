-- Terms of which nothing may be seen fail.
use Rattle.std.proofs.Common.{◌≡◌, refl, sym, ◌∙◌, ap, ℕ, Bool, true, false, not, ◌||◌, List, [], ◌∷◌, filter}
use Rattle.std.specs.Prelude.{Option, None, Some}
use Rattle.std.specs.List.{list_any}
use Rattle.std.specs.Option.{option_eq}
use Rattle.std.proofs.Math.Path.{fun_ext}
use denote.Enum.Bare.{sameb}
use Rattle.scim_schema.specs.declared.Kind.{Kind}
use Rattle.scim_schema.specs.declared.Attribute.{Attribute}
use Rattle.scim_schema.specs.declared.Attribute.TheVariants.{Groups}
use Rattle.scim_schema.specs.contracts.Attribute.{the_type as the_attribute}
use Rattle.scim_schema.specs.declared.Leaf.{Leaf}
use Rattle.scim_schema.specs.Characteristics.{is_multi_valued}
use Rattle.scim_schema.specs.Units.{is_same_attribute}
use Rattle.scim_cell.specs.Content.{Content, IsPart}
use Rattle.scim_cell.specs.Rows.{Row, rows, attribute_rows}
use Rattle.scim_filter_grammar.specs.declared.tree.Literal.{Literal}
use Rattle.scim_filter_grammar.specs.declared.tree.Literal.TheVariants as literal
use Rattle.scim_filter_grammar.specs.declared.tree.Meant.{Meant}
use Rattle.scim_filter_grammar.specs.declared.tree.Meant.TheVariants as meant
use Rattle.scim_filter_grammar.specs.declared.tree.Operator.{Operator}
use Rattle.scim_filter_grammar.specs.declared.tree.Operator.TheVariants.{Eq, Ne}
use Rattle.scim_filter_grammar.specs.declared.tree.AttributePath.{AttributePath}
use Rattle.scim_filter_grammar.specs.Mentions.{mentioned_attribute, mentioned_names, named}
use Rattle.scim_filter_grammar.specs.Tree.{Tree, Present, Compare}
use Rattle.scim_filter.specs.Truth.{is_present, is_unlike, leaf_compares, compares, some_position, truth}
use Rattle.scim_filter_grammar.specs.Types.{compared_leaf}
use Rattle.scim_policy.specs.declared.rules.Decision.{Decision}
use Rattle.scim_policy.specs.Patterns.{PatternRule, decisions_of}
use Rattle.scim_policy.proofs.Facts.{PassesNames, kept_rows, truth_kept}
use Rattle.scim_view.specs.View.{decision_in, shows_some, visible_attributes}
use Rattle.scim_view.specs.Groups.{memberships, visible_with}
use Rattle.scim_view.proofs.Facts.{attributes_alike, none_shown}
use Rattle.scim_query.specs.PossibleMatches.{rows_meant, StaysUnseen, is_asked_of_none}
use Rattle.scim_query.proofs.AlikeLemmas.{same_turned}

or_false : (b : Bool) → (b || false) ≡ b
or_false true = refl
or_false false = refl

true_of_not : (b : Bool) → not b ≡ false → b ≡ true
true_of_not true e = refl
true_of_not false e = cc

none_of : (rs : List Row) → filter (λ (r : Row). false) rs ≡ []
none_of [] = refl
none_of (r ∷ rs) = none_of rs

-- ---- what stands on no rows

present_none : (m : Meant) → is_present m [] ≡ false
present_none meant.Nothing = refl
present_none (meant.Attribute a) = refl
present_none (meant.SubAttribute a b) = refl

leaf_none : (o : Option Leaf) (op : Operator) (x : Literal) → is_unlike op false ≡ false → leaf_compares o op x [] ≡ false
leaf_none None op x e = e
leaf_none (Some l) op x e = rw (or_false (is_unlike op false)) e

compares_none : (m : Meant) (op : Operator) (x : Literal) → compares meant.Nothing op x [] ≡ false → compares m op x [] ≡ false
compares_none m Eq literal.Null e = cc
compares_none m Ne literal.Null e = present_none m
compares_none m op x e = leaf_none (compared_leaf m) op x e

-- a term with one name that fails of no rows fails where none are of its attribute
term_fails : (path : AttributePath) (term : Tree) (rs : List Row) → mentioned_names term ≡ named path ∷ [] → rows_meant path.meant rs ≡ [] → truth term [] ≡ false → truth term rs ≡ false
term_fails path term rs names none fails =
    let keep : Attribute → Bool = λ a. option_eq is_same_attribute (mentioned_attribute path.meant) (Some a) in
    let passes : PassesNames keep (mentioned_names term) = rw names (λ a e. sym (or_false (keep a)) ∙ e) in
    sym (truth_kept keep term rs passes) ∙ ap (truth term) none ∙ fails

pub present_fails : (path : AttributePath) (rs : List Row) → rows_meant path.meant rs ≡ [] → truth (Present path) rs ≡ false
present_fails path rs none = term_fails path (Present path) rs refl none (present_none path.meant)

pub compare_fails : (path : AttributePath) (op : Operator) (x : Literal) (rs : List Row) → compares meant.Nothing op x [] ≡ false → rows_meant path.meant rs ≡ [] → truth (Compare path op x) rs ≡ false
compare_fails path op x rs e none = term_fails path (Compare path op x) rs refl none (compares_none path.meant op x e)

pub position_fails : (inner : Tree) (m : Meant) (rs : List Row) → is_asked_of_none m ≡ false → rows_meant m rs ≡ [] → some_position (truth inner) m rs ≡ false
position_fails inner meant.Nothing rs e none = refl
position_fails inner (meant.SubAttribute a b) rs e none = refl
position_fails inner (meant.Attribute a) rs e none =
    let empty : attribute_rows a rs ≡ [] = ap (λ (p : Attribute → Bool). filter (λ (r : Row). p r.unit.attribute) rs) (fun_ext (λ b. same_turned b a)) ∙ none in
    rw (true_of_not (is_multi_valued a) e, empty) refl

-- ---- what may not be seen

-- an attribute of which nothing may be seen has no rows in what may be seen, whatever groups list the resource
attribute_unseen : (a : Attribute) (rules : Leaf → List PatternRule) (base : List ℕ) (gs : List Content) (c : Content) → IsPart c → sameb the_attribute a Groups ≡ false → shows_some (λ l. decisions_of (rules l)) c.kind a ≡ false
    → filter (λ (r : Row). sameb the_attribute a r.unit.attribute) (rows (visible_with (decision_in rules) (memberships base gs c.id) c)) ≡ []
attribute_unseen a rules base gs c part other hidden =
    let keep : Attribute → Bool = λ b. list_any (sameb the_attribute b) (a ∷ []) in
    let full = rows (visible_with (decision_in rules) (memberships base gs c.id) c) in
    let none : rows (visible_attributes (a ∷ []) (decision_in rules) c) ≡ [] = none_shown (a ∷ []) rules c part (or_false (shows_some (λ l. decisions_of (rules l)) c.kind a) ∙ hidden) in
    let same = attributes_alike (a ∷ []) (decision_in rules) base gs c part (or_false (sameb the_attribute Groups a) ∙ same_turned Groups a ∙ other) in
    ap (λ (p : Attribute → Bool). filter (λ (r : Row). p r.unit.attribute) full) (fun_ext (λ b. same_turned a b ∙ sym (or_false (sameb the_attribute b a))))
    ∙ sym same ∙ ap (kept_rows keep) none

-- nor has what a path means of it
pub stays_unseen : (m : Meant) (a : Attribute) (kind : Kind) (rules : Leaf → List PatternRule) → mentioned_attribute m ≡ Some a → sameb the_attribute a Groups ≡ false → shows_some (λ l. decisions_of (rules l)) kind a ≡ false
    → StaysUnseen m kind (decision_in rules)
stays_unseen m a kind rules is other hidden c part same base gs =
    ap (λ (o : Option Attribute). filter (λ (r : Row). option_eq is_same_attribute o (Some r.unit.attribute)) (rows (visible_with (decision_in rules) (memberships base gs c.id) c))) is
    ∙ attribute_unseen a rules base gs c part other (rw same hidden)

-- nor has what a path means that names nothing of the kind
pub nothing_meant : (m : Meant) (kind : Kind) (d : Row → Leaf → Decision) → mentioned_attribute m ≡ None → StaysUnseen m kind d
nothing_meant m kind d is c part same base gs =
    let full = rows (visible_with d (memberships base gs c.id) c) in
    ap (λ (o : Option Attribute). filter (λ (r : Row). option_eq is_same_attribute o (Some r.unit.attribute)) full) is ∙ none_of full
