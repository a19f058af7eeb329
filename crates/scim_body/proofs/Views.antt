-- A tree, level by level, and a map beside the members that it stands for.
use Rattle.std.proofs.Common.{◌≡◌, ℕ, List, [], ◌∷◌, Vec, Global, Ordering, Less, Equal, Greater, nat_cmp, Bor, refl, ◌∙◌, rules}
use Rattle.std.specs.Cmp.Lexicographic.{slice_cmp}
use Rattle.std.specs.Ordering.{match_ordering}
use Rattle.std.specs.BTreeMap.{insert_entry}
use Rattle.serde_json.specs.Data.{array, object, put}
use Rattle.scim_body.specs.View.{view, items_view, members_view}
use Rattle.scim_body.specs.declared.trees.Tree.{Tree, Array, Object, the_lemmas}

abbrev pub Entry : Type 0
Entry = Bor (List ℕ) × Tree

pub view-Array : (v : Vec Tree Global) → view (Array v) ≡ array (items_view v.items)
view-Array v = search (rules, the_lemmas)

pub view-Object : (v : Vec Entry Global) → view (Object v) ≡ object (members_view v.items)
view-Object v = search (rules, the_lemmas)

members_view-match_ordering : (o : Ordering) (a b c : List Entry) → members_view (match_ordering o a b c) ≡ match_ordering o (members_view a) (members_view b) (members_view c)
members_view-match_ordering Less a b c = refl
members_view-match_ordering Equal a b c = refl
members_view-match_ordering Greater a b c = refl

abbrev pub key_cmp : Bor (List ℕ) → Bor (List ℕ) → Ordering
key_cmp a b = slice_cmp nat_cmp a.now b.now

pub members_view-insert_entry : (es : List Entry) (k : Bor (List ℕ)) (t : Tree) → members_view (insert_entry key_cmp es k t) ≡ put k.now (view t) (members_view es)
members_view-insert_entry [] k t = refl
members_view-insert_entry (e ∷ es) k t = members_view-match_ordering (key_cmp k e.0) _ _ _ ∙ rw (members_view-insert_entry es k t)
