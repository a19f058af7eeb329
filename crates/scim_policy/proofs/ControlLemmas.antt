-- What a policy decides rests on the kind, and on the values that its targets name.
use Rattle.std.proofs.Common.{◌≡◌, refl, sym, ap, ap₂, ◌∙◌, ℕ, ◌+◌, Bool, true, false, not, List, [], ◌∷◌, ◌++◌, filter, arith, inl, inr}
use Rattle.std.specs.Prelude.{◌&&◌, ◌||◌, Option, Some, None, if◌then◌else◌}
use Rattle.std.specs.List.{list_any, enumerate_from}
use Rattle.std.specs.Option.{option_eq}
use Rattle.std.proofs.lemmas.Bool.{cases_Bool, or_left, or_right}
use Rattle.std.proofs.lemmas.List.Folds.{list_any-append}
use denote.Enum.Bare.{sameb, true_same}
use Rattle.scim_schema.specs.declared.Kind.{Kind}
use Rattle.scim_schema.specs.declared.Op.{Op}
use Rattle.scim_schema.specs.declared.Op.TheVariants.{Read}
use Rattle.scim_schema.specs.declared.Leaf.{Leaf}
use Rattle.scim_schema.specs.declared.Attribute.{Attribute}
use Rattle.scim_schema.specs.declared.SubAttribute.{SubAttribute}
use Rattle.scim_schema.specs.declared.SubAttribute.TheVariants.{Value}
use Rattle.scim_schema.specs.contracts.Attribute.{the_type as the_attribute}
use Rattle.scim_schema.specs.contracts.SubAttribute.{the_type as the_sub_attribute}
use Rattle.scim_schema.specs.Table.{sub_attributes}
use Rattle.scim_schema.specs.Units.{is_same_attribute, leaf_at}
use Rattle.scim_schema.proofs.Facts.{attribute_one}
use Rattle.scim_cell.specs.Content.{Content}
use Rattle.scim_cell.specs.Rows.{Row, rows, attribute_rows}
use Rattle.scim_filter_grammar.specs.declared.mentions.Named.{Named}
use Rattle.scim_filter_grammar.specs.declared.tree.Operator.{Operator}
use Rattle.scim_filter_grammar.specs.declared.tree.Operator.TheVariants.{Eq, Ne}
use Rattle.scim_filter_grammar.specs.declared.tree.Literal.{Literal}
use Rattle.scim_filter_grammar.specs.declared.tree.Literal.TheVariants as literal
use Rattle.scim_filter_grammar.specs.declared.tree.Meant.{Meant}
use Rattle.scim_filter_grammar.specs.declared.tree.Meant.TheVariants as meant
use Rattle.scim_filter_grammar.specs.declared.tree.AttributePath.{AttributePath}
use Rattle.scim_filter_grammar.specs.Mentions.{mentioned_attribute, mentioned_names, named}
use Rattle.scim_filter_grammar.specs.Tree.{Tree, Or, And, Not, Present, Compare, Values}
use Rattle.scim_filter.specs.Truth.{is_present, leaf_compares, compares, some_position, truth}
use Rattle.scim_filter_grammar.specs.Types.{leaf_for, compared_leaf}
use Rattle.scim_policy.specs.Rules.{Rule, Target}
use Rattle.scim_policy.specs.Fits.{holds_on, speaks_of, is_reading, fits, fits_wholly, first_of, decide_wholly}
use Rattle.scim_policy.specs.Patterns.{PatternRule, decisions_of, pattern_rules, up_to_whole, whole_decision}
use Rattle.scim_policy.specs.PatternLaws.{PatternsRestOnControl}
use Rattle.scim_policy.specs.Control.{names_attribute, is_named_in, is_unique, control, DecisionsRestOnControl}
use Rattle.scim_policy.proofs.RuleLemmas.{decide_reading, decide_other}

-- whether one of some names is of an attribute
abbrev pub has_name : Attribute → List Named → Bool
has_name a ns = list_any (λ (n : Named). option_eq is_same_attribute n.attribute (Some a)) ns

-- a test passes each attribute that one of some names is of
abbrev pub PassesNames : (Attribute → Bool) → List Named → Type 0
PassesNames keep ns = (a : Attribute) → has_name a ns ≡ true → keep a ≡ true

-- the rows of attributes that pass a test
abbrev pub kept_rows : (Attribute → Bool) → List Row → List Row
kept_rows keep rs = filter (λ (r : Row). keep r.unit.attribute) rs

filter_implied : {X : Type 0} (p q : X → Bool) → ((x : X) → q x ≡ true → p x ≡ true) → (xs : List X) → filter q (filter p xs) ≡ filter q xs
filter_implied p q implied [] = refl
filter_implied p q implied (x ∷ xs) = grind (arith, filter_implied p q implied xs, implied x)

-- the name of a path is of the attribute that the path means
own_name : (path : AttributePath) (ns : List Named) (a : Attribute) → mentioned_attribute path.meant ≡ Some a → has_name a (named path ∷ ns) ≡ true
own_name path ns a e =
    let same : option_eq is_same_attribute (mentioned_attribute path.meant) (Some a) ≡ true = rw e (true_same the_attribute a a refl) in
    or_left _ _ same

-- what is compared is of the attribute that is meant
at_value : (a : Attribute) (there : Bool) (l : Leaf) → (if there then Some (leaf_at a Value) else None) ≡ Some l → Some a ≡ Some l.attribute
at_value a true l e = cc
at_value a false l e = cc

of_values : (a : Attribute) (bs : List SubAttribute) (l : Leaf) → leaf_for a bs ≡ Some l → Some a ≡ Some l.attribute
of_values a [] l e = cc
of_values a (b ∷ bs) l e = at_value a (list_any (sameb the_sub_attribute Value) (b ∷ bs)) l e

of_meant : (m : Meant) (l : Leaf) → compared_leaf m ≡ Some l → mentioned_attribute m ≡ Some l.attribute
of_meant meant.Nothing l e = cc
of_meant (meant.Attribute a) l e = of_values a (sub_attributes a) l e
of_meant (meant.SubAttribute a b) l e = cc

module _ (keep : Attribute → Bool) where
  attribute_rows_kept : (a : Attribute) (rs : List Row) → keep a ≡ true → attribute_rows a (kept_rows keep rs) ≡ attribute_rows a rs
  attribute_rows_kept a rs passes =
      filter_implied (λ (r : Row). keep r.unit.attribute) (λ (r : Row). sameb the_attribute r.unit.attribute a)
      (λ r same. ap keep (attribute_one r.unit.attribute a same) ∙ passes) rs

  -- a test passes the attribute that is meant
  abbrev PassesMeant : Meant → Type 0
  PassesMeant m = (a : Attribute) → mentioned_attribute m ≡ Some a → keep a ≡ true

  present_kept : (m : Meant) (rs : List Row) → PassesMeant m → is_present m (kept_rows keep rs) ≡ is_present m rs
  present_kept meant.Nothing rs passes = refl
  present_kept (meant.Attribute a) rs passes = rw (attribute_rows_kept a rs (passes a refl)) refl
  present_kept (meant.SubAttribute a b) rs passes = rw (attribute_rows_kept a rs (passes a refl)) refl

  leaf_compares_kept : (o : Option Leaf) (op : Operator) (x : Literal) (rs : List Row) → ((l : Leaf) → o ≡ Some l → keep l.attribute ≡ true)
      → leaf_compares o op x (kept_rows keep rs) ≡ leaf_compares o op x rs
  leaf_compares_kept None op x rs passes = refl
  leaf_compares_kept (Some l) op x rs passes = rw (attribute_rows_kept l.attribute rs (passes l refl)) refl

  compares_kept : (m : Meant) (op : Operator) (x : Literal) (rs : List Row) → PassesMeant m → compares m op x (kept_rows keep rs) ≡ compares m op x rs
  compares_kept m Eq literal.Null rs passes = ap not (present_kept m rs passes)
  compares_kept m Ne literal.Null rs passes = present_kept m rs passes
  compares_kept m op x rs passes = leaf_compares_kept (compared_leaf m) op x rs (λ l e. passes l.attribute (of_meant m l e))

  position_kept : (inner : Tree) (m : Meant) (rs : List Row) → PassesMeant m → some_position (truth inner) m (kept_rows keep rs) ≡ some_position (truth inner) m rs
  position_kept inner meant.Nothing rs passes = refl
  position_kept inner (meant.Attribute a) rs passes = rw (attribute_rows_kept a rs (passes a refl)) refl
  position_kept inner (meant.SubAttribute a b) rs passes = refl

  passes_left : (ns ms : List Named) → PassesNames keep (ns ++ ms) → PassesNames keep ns
  passes_left ns ms passes a e = passes a (list_any-append _ ns ms ∙ or_left _ _ e)

  passes_right : (ns ms : List Named) → PassesNames keep (ns ++ ms) → PassesNames keep ms
  passes_right ns ms passes a e = passes a (list_any-append _ ns ms ∙ or_right _ _ e)

  -- a filter reads the rows of the attributes that it mentions
  pub truth_kept : (tree : Tree) (rs : List Row) → PassesNames keep (mentioned_names tree) → truth tree (kept_rows keep rs) ≡ truth tree rs
  truth_kept (Or left right) rs passes =
      ap₂ ◌||◌ (truth_kept left rs (passes_left (mentioned_names left) (mentioned_names right) passes))
      (truth_kept right rs (passes_right (mentioned_names left) (mentioned_names right) passes))
  truth_kept (And left right) rs passes =
      ap₂ ◌&&◌ (truth_kept left rs (passes_left (mentioned_names left) (mentioned_names right) passes))
      (truth_kept right rs (passes_right (mentioned_names left) (mentioned_names right) passes))
  truth_kept (Not inner) rs passes = ap not (truth_kept inner rs passes)
  truth_kept (Present path) rs passes = present_kept path.meant rs (λ a e. passes a (own_name path [] a e))
  truth_kept (Compare path op x) rs passes = compares_kept path.meant op x rs (λ a e. passes a (own_name path [] a e))
  truth_kept (Values path inner) rs passes = position_kept inner path.meant rs (λ a e. passes a (own_name path (mentioned_names inner) a e))

module _ (keep : Attribute → Bool) (client : List ℕ) (op : Op) (a b : Content) (l : Leaf) (same_kind : a.kind ≡ b.kind) (same_rows : kept_rows keep (rows a) ≡ kept_rows keep (rows b)) where
  truth_same : (tree : Tree) → PassesNames keep (mentioned_names tree) → truth tree (rows a) ≡ truth tree (rows b)
  truth_same tree passes = sym (truth_kept keep tree (rows a) passes) ∙ ap (truth tree) same_rows ∙ truth_kept keep tree (rows b) passes

  holds_same : (ts : List Target) → ((x : Attribute) → list_any (names_attribute x) ts ≡ true → keep x ≡ true) → holds_on a ts ≡ holds_on b ts
  holds_same [] passes = refl
  holds_same (t ∷ ts) passes =
      rw (same_kind, truth_same t.tree (λ x e. passes x (or_left _ _ e)), holds_same ts (λ x e. passes x (or_right _ _ e))) refl

  fits_same : (r : Rule) → ((x : Attribute) → list_any (names_attribute x) r.targets ≡ true → keep x ≡ true) → fits_wholly client op a l r ≡ fits_wholly client op b l r
  unfolding speaks_of
  fits_same r passes = rw (holds_same r.targets passes, same_kind) refl

  fitting_same : (n : ℕ) (rs : List Rule) → ((x : Attribute) → is_named_in rs x ≡ true → keep x ≡ true)
      → filter (λ (numbered : ℕ × Rule). fits_wholly client op a l numbered.1) (enumerate_from n rs) ≡ filter (λ (numbered : ℕ × Rule). fits_wholly client op b l numbered.1) (enumerate_from n rs)
  fitting_same n [] passes = refl
  fitting_same n (r ∷ rs) passes =
      rw (fits_same r (λ x e. passes x (or_left _ _ e)), fitting_same (n + 1) rs (λ x e. passes x (or_right _ _ e))) refl

  -- the same of rules that fit at some values, and of the pattern that they make
  reading_fits_same : (r : Rule) → ((x : Attribute) → list_any (names_attribute x) r.targets ≡ true → keep x ≡ true) → fits client Read a l r ≡ fits client Read b l r
  unfolding speaks_of
  reading_fits_same r passes = rw (holds_same r.targets passes, same_kind) refl

  reading_same : (n : ℕ) (rs : List Rule) → ((x : Attribute) → is_named_in rs x ≡ true → keep x ≡ true)
      → filter (λ (numbered : ℕ × Rule). fits client Read a l numbered.1) (enumerate_from n rs) ≡ filter (λ (numbered : ℕ × Rule). fits client Read b l numbered.1) (enumerate_from n rs)
  reading_same n [] passes = refl
  reading_same n (r ∷ rs) passes =
      rw (reading_fits_same r (λ x e. passes x (or_left _ _ e)), reading_same (n + 1) rs (λ x e. passes x (or_right _ _ e))) refl

  up_to_whole_same : (ns : List (ℕ × Rule)) → up_to_whole a l ns ≡ up_to_whole b l ns
  up_to_whole_same [] = refl
  up_to_whole_same (n ∷ ns) = rw (same_kind, up_to_whole_same ns) refl

-- on resources of one kind with equal values in control, a leaf's pattern has the same rules
pub patterns_same : PatternsRestOnControl
unfolding pattern_rules control
patterns_same policy client a b l same_kind same =
    let keep = λ (x : Attribute). is_named_in policy x || is_unique a.kind x in
    let same_rows : kept_rows keep (rows a) ≡ kept_rows keep (rows b) =
    same ∙ ap (λ (k : Kind). kept_rows (λ (x : Attribute). is_named_in policy x || is_unique k x) (rows b)) (sym same_kind) in
    ap (up_to_whole a l) (reading_same keep client Read a b l same_kind same_rows 1 policy (λ x e. or_left _ _ e))
    ∙ up_to_whole_same keep client Read a b l same_kind same_rows _

-- the first rule that fits and covers the leaf at all values is the same too
wholly_same : (policy : List Rule) (client : List ℕ) (op : Op) (a b : Content) (l : Leaf) → a.kind ≡ b.kind → control policy a ≡ control policy b → decide_wholly policy client op a l ≡ decide_wholly policy client op b l
unfolding decide_wholly control
wholly_same policy client op a b l same_kind same =
    let keep = λ (x : Attribute). is_named_in policy x || is_unique a.kind x in
    let same_rows : kept_rows keep (rows a) ≡ kept_rows keep (rows b) =
    same ∙ ap (λ (k : Kind). kept_rows (λ (x : Attribute). is_named_in policy x || is_unique k x) (rows b)) (sym same_kind) in
    ap first_of (fitting_same keep client op a b l same_kind same_rows 1 policy (λ x e. or_left _ _ e))

-- on resources of one kind with equal values in control, a policy decides alike
pub decide_same : DecisionsRestOnControl
decide_same policy client op a b l same_kind same = elim (cases_Bool (is_reading op)) [
  | inl reads ↦
      decide_reading policy client op a l reads
      ∙ ap (λ (rs : List PatternRule). whole_decision (decisions_of rs)) (patterns_same policy client a b l same_kind same)
      ∙ sym (decide_reading policy client op b l reads)
  | inr other ↦
      decide_other policy client op a l other
      ∙ wholly_same policy client op a b l same_kind same
      ∙ sym (decide_other policy client op b l other)
]
