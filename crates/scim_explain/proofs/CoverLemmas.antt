-- A rule that covers all that another does fits wherever the other fits, and covers the leaf at all values there.
use Rattle.std.proofs.Common.{◌≡◌, refl, sym, ap, ◌∙◌, subst, ℕ, Bool, true, List, [], ◌∷◌, length, inl, inr}
use Rattle.std.specs.Prelude.{◌&&◌, ◌||◌, ◌==◌, nat_eq, Option, None, Some, option_map}
use Rattle.std.specs.List.{list_any, list_all}
use Rattle.std.specs.Option.{option_eq}
use Rattle.std.specs.Cmp.Lexicographic.{pointwise, same_text}
use Rattle.std.proofs.lemmas.Bool.{cases_Bool}
use denote.Enum.Bare.{sameb, same_true, true_same}
use Rattle.scim_schema.specs.declared.Kind.{Kind}
use Rattle.scim_schema.specs.declared.Op.{Op}
use Rattle.scim_schema.specs.declared.Op.TheVariants.{Read}
use Rattle.scim_schema.specs.declared.Leaf.{Leaf}
use Rattle.scim_schema.specs.declared.Attribute.{Attribute as AttributeName}
use Rattle.scim_schema.specs.declared.SubAttribute.{SubAttribute as SubAttributeName}
use Rattle.scim_schema.specs.contracts.Kind.{the_type as the_kind}
use Rattle.scim_schema.specs.contracts.Op.{the_type as the_op}
use Rattle.scim_schema.specs.contracts.Attribute.{the_type as the_attribute}
use Rattle.scim_schema.specs.Units.{leaf_at, is_same_attribute, is_same_leaf}
use Rattle.scim_schema.proofs.Facts.{and_first, and_second, attribute_one, leaf_one}
use Rattle.scim_cell.specs.Content.{Content}
use Rattle.scim_policy.specs.declared.rules.ClientName.{ClientName}
use Rattle.scim_policy.specs.declared.rules.ClientName.TheVariants.{Everyone, Named}
use Rattle.scim_policy.specs.declared.rules.PolicyPath.{PolicyPath}
use Rattle.scim_policy.specs.declared.rules.PolicyPath.TheVariants.{Everything, Attribute, SubAttribute}
use Rattle.scim_policy.specs.Rules.{FilteredPath, Rule}
use Rattle.scim_policy.specs.Fits.{attribute_before, covers, covers_in, covers_in_part, covers_partly, filtered_on, fits, fits_wholly, is_after, is_target_met, names, paths_on, speaks_of}
use Rattle.scim_explain.specs.Idle.{are_covered, covers_client, covers_filtered, covers_on_kind, covers_path, covers_rule, is_none_or_covered, path_of}

both : (p q : Bool) → p ≡ true → q ≡ true → p && q ≡ true
both p q s t = rw s t

-- ---- lists

module _ {X : Type 0} (covers_one : X → X → Bool) (p : X → Bool) (passes : (y x : X) → covers_one y x ≡ true → p x ≡ true → p y ≡ true) where
  pub one_passes : (x : X) (others : List X) → list_any (λ y. covers_one y x) others ≡ true → p x ≡ true → list_any p others ≡ true
  one_passes x [] e own = cc
  one_passes x (y ∷ ys) e own = elim (cases_Bool (covers_one y x)) [
    | inl t ↦ rw (passes y x t own) refl
    | inr f ↦ (
        let rest : list_any p ys ≡ true = one_passes x ys (sym (ap (λ b. b || list_any (λ z. covers_one z x) ys) f) ∙ e) own in
        elim (cases_Bool (p y)) [ inl t ↦ rw t refl | inr fails ↦ rw fails rest ]
        )
  ]

  -- where one of some passes a test that what covers it passes too, one of those that cover them does
  pub any_passes : (others xs : List X) → are_covered covers_one others xs ≡ true → list_any p xs ≡ true → list_any p others ≡ true
  any_passes others [] e own = cc
  any_passes others (x ∷ xs) e own = elim (cases_Bool (p x)) [
    | inl t ↦ one_passes x others (and_first _ _ e) t
    | inr f ↦ any_passes others xs (and_second _ _ e) (sym (ap (λ b. b || list_any p xs) f) ∙ own)
  ]

-- what is true of all is true of the one that a kind is among
kind_one : (a b : Kind) → sameb the_kind a b ≡ true → a ≡ b
kind_one a b e = same_true the_kind tt a b e

op_one : (a b : Op) → sameb the_op a b ≡ true → a ≡ b
op_one a b e = same_true the_op tt a b e

at_kind : (p : Kind → Bool) (k : Kind) (ks : List Kind) → list_all p ks ≡ true → list_any (sameb the_kind k) ks ≡ true → p k ≡ true
at_kind p k [] e there = cc
at_kind p k (j ∷ js) e there = elim (cases_Bool (sameb the_kind k j)) [
  | inl t ↦ subst (λ z. p z ≡ true) (sym (kind_one k j t)) (and_first _ _ e)
  | inr f ↦ at_kind p k js (and_second _ _ e) (sym (ap (λ b. b || list_any (sameb the_kind k) js) f) ∙ there)
]

-- ---- what is covered

client_passes : (client : List ℕ) (y x : ClientName) → covers_client y x ≡ true → names client x ≡ true → names client y ≡ true
client_passes client Everyone x e own = refl
client_passes client (Named name) Everyone e own = cc
client_passes client (Named name) (Named other) e own = subst (λ (t : List ℕ). pointwise nat_eq t client ≡ true) (sym (same_text name other (sym e))) own

op_passes : (op y x : Op) → sameb the_op y x ≡ true → sameb the_op op x ≡ true → sameb the_op op y ≡ true
op_passes op y x e own = subst (λ (z : Op). sameb the_op op z ≡ true) (sym (op_one y x e)) own

kind_passes : (k y x : Kind) → sameb the_kind y x ≡ true → sameb the_kind k x ≡ true → sameb the_kind k y ≡ true
kind_passes k y x e own = subst (λ (z : Kind). sameb the_kind k z ≡ true) (sym (kind_one y x e)) own

path_passes : (l : Leaf) (y x : PolicyPath) → covers_path y x ≡ true → covers l x ≡ true → covers l y ≡ true
path_passes l Everything x e own = refl
path_passes l (Attribute a) Everything e own = cc
path_passes l (Attribute a) (Attribute b) e own = subst (λ z. sameb the_attribute l.attribute z ≡ true) (sym (attribute_one a b e)) own
path_passes l (Attribute a) (SubAttribute b sub) e own = subst (λ z. sameb the_attribute l.attribute z ≡ true) (sym (attribute_one a b e)) (and_first _ _ own)
path_passes l (SubAttribute a sub) Everything e own = cc
path_passes l (SubAttribute a sub) (Attribute b) e own = cc
path_passes l (SubAttribute a sub) (SubAttribute b other) e own = subst (λ (z : Leaf). is_same_leaf l z ≡ true) (sym (leaf_one (leaf_at a sub) (leaf_at b other) e)) own

-- ---- paths with a value filter

-- a leaf that such a path covers at some values is covered by the path without its filter
unfiltered_covers : (l : Leaf) (a : AttributeName) (sub : Option SubAttributeName) → is_same_attribute a l.attribute ≡ true → is_after sub l ≡ true → covers l (path_of a sub) ≡ true
unfiltered_covers l a None same after = true_same the_attribute l.attribute a (sym (attribute_one a l.attribute same))
unfiltered_covers l a (Some b) same after = both _ _ (true_same the_attribute l.attribute a (sym (attribute_one a l.attribute same))) after

one_filtered : (l : Leaf) (others : List PolicyPath) (o : Option AttributeName) (sub : Option SubAttributeName) → is_none_or_covered others (option_map (λ a. path_of a sub) o) ≡ true
    → option_eq is_same_attribute o (Some l.attribute) ≡ true → is_after sub l ≡ true → list_any (covers l) others ≡ true
one_filtered l others None sub e same after = cc
one_filtered l others (Some a) sub e same after = one_passes covers_path (covers l) (path_passes l) (path_of a sub) others e (unfiltered_covers l a sub same after)

filtered_passes : (l : Leaf) (others : List PolicyPath) (p : FilteredPath) → covers_filtered others p ≡ true → covers_in_part l p ≡ true → list_any (covers l) others ≡ true
filtered_passes l others p e own =
    let on = and_second _ _ (and_second _ _ own) in
    one_filtered l others (attribute_before p.tree) p.sub_attribute e (and_first _ _ on) (and_second _ _ on)

any_filtered : (l : Leaf) (others : List PolicyPath) (ps : List FilteredPath) → list_all (covers_filtered others) ps ≡ true → list_any (covers_in_part l) ps ≡ true → list_any (covers l) others ≡ true
any_filtered l others [] e own = cc
any_filtered l others (p ∷ ps) e own = elim (cases_Bool (covers_in_part l p)) [
  | inl t ↦ filtered_passes l others p (and_first _ _ e) t
  | inr f ↦ any_filtered l others ps (and_second _ _ e) (sym (ap (λ b. b || list_any (covers_in_part l) ps) f) ∙ own)
]

-- a path with a value filter counts for reading alone
partly_filtered : (op : Op) (c : Content) (l : Leaf) (r : Rule) → covers_partly op c l r ≡ true → list_any (covers_in_part l) (filtered_on c.kind r.paths) ≡ true
partly_filtered Read c l r own = own
partly_filtered _ c l r own = cc

-- ---- rules

no_target : (c : Content) (e : Rule) → (length e.targets == 0) ≡ true → is_target_met c e ≡ true
no_target c e none = rw none refl

-- a leaf that a rule covers at all values or at some is covered at all values by one that covers the rule
leaf_covered : (e r : Rule) (op : Op) (c : Content) (l : Leaf) → covers_on_kind e r c.kind ≡ true → covers_in c l r || covers_partly op c l r ≡ true → covers_in c l e ≡ true
leaf_covered e r op c l all own = elim (cases_Bool (covers_in c l r)) [
  | inl t ↦ any_passes covers_path (covers l) (path_passes l) (paths_on c.kind e.paths) (paths_on c.kind r.paths) (and_first _ _ all) t
  | inr f ↦ any_filtered l (paths_on c.kind e.paths) (filtered_on c.kind r.paths) (and_second _ _ all) (partly_filtered op c l r (sym (ap (λ b. b || covers_partly op c l r) f) ∙ own))
]

-- a rule that covers all that another does fits wherever the other fits, and covers the leaf at all values there
pub covering_fits : (e r : Rule) (client : List ℕ) (op : Op) (c : Content) (l : Leaf) → covers_rule e r ≡ true → fits client op c l r ≡ true → fits_wholly client op c l e ≡ true
unfolding speaks_of
covering_fits e r client op c l all own =
    let none = and_first _ _ all in
    let from_clients = and_second _ _ all in
    let clients = and_first _ _ from_clients in
    let from_ops = and_second _ _ from_clients in
    let ops = and_first _ _ from_ops in
    let from_kinds = and_second _ _ from_ops in
    let kinds = and_first _ _ from_kinds in
    let paths = and_second _ _ from_kinds in
    let spoken = and_first _ _ own in
    let named = and_first _ _ spoken in
    let spoken_from_ops = and_second _ _ spoken in
    let done = and_first _ _ spoken_from_ops in
    let kind = and_first _ _ (and_second _ _ spoken_from_ops) in
    let on_kind : covers_on_kind e r c.kind ≡ true = at_kind (covers_on_kind e r) c.kind r.kinds paths kind in
    both _ _
    (both _ _ (any_passes covers_client (names client) (client_passes client) e.clients r.clients clients named)
    (both _ _ (any_passes (sameb the_op) (sameb the_op op) (op_passes op) e.ops r.ops ops done)
    (both _ _ (any_passes (sameb the_kind) (sameb the_kind c.kind) (kind_passes c.kind) e.kinds r.kinds kinds kind) (no_target c e none))))
    (leaf_covered e r op c l on_kind (and_second _ _ own))
