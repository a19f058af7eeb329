-- Only the resources that have one of the texts can match, where each match has one of them.
use Rattle.std.proofs.Common.{◌≡◌, sym, ◌∙◌, ap, subst, refl, ℕ, Bool, true, List, [], ◌∷◌, ◌||◌, map, inl, inr}
use Rattle.std.specs.Prelude.{All, Option}
use Rattle.std.specs.List.{list_any}
use Rattle.std.proofs.lemmas.Bool.{cases_Bool}
use Rattle.std.proofs.lemmas.List.Elements.{All-head, All-tail, All-weaker}
use Rattle.scim_schema.specs.declared.Kind.{Kind}
use Rattle.scim_schema.specs.declared.Leaf.{Leaf}
use Rattle.scim_schema.specs.Characteristics.{is_case_exact}
use Rattle.scim_schema.specs.IndexedLeaves.{indexed_leaves}
use Rattle.scim_schema.specs.Units.{is_same_leaf}
use Rattle.scim_schema.proofs.Facts.{leaf_one}
use Rattle.scim_cell.specs.Content.{Content, IsPart}
use Rattle.scim_cell.specs.Rows.{rows}
use Rattle.scim_filter_grammar.specs.declared.tree.Filter.{Filter}
use Rattle.scim_filter.specs.Relation.{cased}
use Rattle.scim_filter_texts.specs.declared.needs.NeededText.{NeededText}
use Rattle.scim_filter_texts.specs.Needed as needed
use Rattle.scim_query.specs.Needed.{NeedsSome}
use Rattle.scim_view.specs.View.{Viewer}
use Rattle.scim_view.specs.Groups.{with_groups}
use Rattle.scim_view.proofs.Facts.{any_weaker}
use Rattle.scim_shelf.specs.declared.leaf_texts.LeafText.{LeafText}
use Rattle.scim_shelf.specs.Stores.{has_some_text, has_text}
use Rattle.scim_search.specs.Lookups.{OnlyThose}
use Rattle.scim_search.specs.Walks.{AreCompared}
use Rattle.scim_search.proofs.TextLemmas.{IsTextLeaf, indexed_text_leaves, stored_text}

-- a statement about all leaves of a list holds for one of them
pub one_of_leaves : (P : Leaf → Type 0) (l : Leaf) (ls : List Leaf) → All P ls → list_any (is_same_leaf l) ls ≡ true → P l
one_of_leaves P l [] all e = cc
one_of_leaves P l (m ∷ ls) all e = elim (cases_Bool (is_same_leaf l m)) [
  | inl t ↦ subst P (sym (leaf_one l m t)) (All-head P m ls all)
  | inr n ↦ one_of_leaves P l ls (All-tail P m ls all) (rw n at e)
]

pub any_mapped : {X Y : Type 0} (p : Y → Bool) (f : X → Y) (xs : List X) → list_any p (map f xs) ≡ list_any (λ x. p (f x)) xs
any_mapped p f [] = refl
any_mapped p f (x ∷ xs) = ap (λ b. p (f x) || b) (any_mapped p f xs)

-- a resource in which one of the texts at such leaves is seen has one
pub stored_some : (kind : Kind) (needs : List NeededText) (texts : List LeafText) → needed.AreAt (indexed_leaves kind) needs → AreCompared needs texts
    → (v : Viewer) (gs : List Content) (c : Content) → c.kind ≡ kind → IsPart c
    → needed.has_some_text needs (rows (with_groups v gs c)) ≡ true → has_some_text texts c ≡ true
stored_some kind needs texts are same v gs c is part has =
    let passes : Leaf × List ℕ → Bool = λ t. has_text t.0 t.1 c in
    let own : LeafText → Leaf × List ℕ = λ t. (t.leaf, t.text.now) in
    let compared : NeededText → Leaf × List ℕ = λ t. (t.leaf, cased (is_case_exact t.leaf) t.text.now) in
    let seen : NeededText → Bool = λ t. needed.has_text t.leaf t.text.now (rows (with_groups v gs c)) in
    let stored : NeededText → Bool = λ t. passes (compared t) in
    let each : All (λ (t : NeededText). seen t ≡ true → stored t ≡ true) needs
    = All-weaker (λ (t : NeededText). needed.is_at (indexed_leaves kind) t ≡ true) (λ t. seen t ≡ true → stored t ≡ true)
    (λ t at. stored_text kind t.leaf t.text.now (one_of_leaves (IsTextLeaf kind) t.leaf (indexed_leaves kind) (indexed_text_leaves kind) at) v gs c is part) needs are in
    sym (any_mapped passes own texts) ∙ ap (list_any passes) same ∙ any_mapped passes compared needs ∙ any_weaker seen stored needs each has

-- where each match has one of the texts at such leaves, only resources that have one can match
pub only_with_some : (kind : Kind) (f : Option Filter) (needs : List NeededText) (texts : List LeafText)
    → needed.AreAt (indexed_leaves kind) needs → NeedsSome f needs → AreCompared needs texts → OnlyThose kind f (has_some_text texts)
only_with_some kind f needs texts are some same v gs c is sound matches = stored_some kind needs texts are same v gs c is sound.part (some (with_groups v gs c) matches)
