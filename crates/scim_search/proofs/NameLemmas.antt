-- A resource in which a filter's text stands at a unique leaf has that unique name.
use Rattle.std.proofs.Common.{◌≡◌, refl, sym, ◌∙◌, ap, subst, ℕ, zero, true, false, List, [], ◌∷◌, arith}
use Rattle.std.specs.Prelude.{All, Option, Some, if◌then◌else◌}
use Rattle.std.specs.List.{list_any, flat_map}
use Rattle.std.specs.Ordering.{is_eq}
use Rattle.std.specs.Cmp.Lexicographic.{bytes_decides}
use Rattle.std.proofs.lemmas.Bool.{or_left, or_right}
use Rattle.std.proofs.lemmas.List.Elements.{All-nil, All-cons, All-head, All-weaker, All-filter}
use Rattle.std.proofs.lemmas.List.Folds.{list_any-append}
use Rattle.scim_schema.specs.declared.Kind.{Kind}
use Rattle.scim_schema.specs.declared.Kind.TheVariants.{User, Group}
use Rattle.scim_schema.specs.declared.Attribute.TheVariants.{UserName, Badge}
use Rattle.scim_schema.specs.declared.Leaf.{Leaf}
use Rattle.scim_schema.specs.Units.{simple, unit_of}
use Rattle.scim_schema.specs.Characteristics.{characteristics_of, is_case_exact, is_multi_valued}
use Rattle.scim_schema.specs.UniqueLeaves.{unique_leaves}
use Rattle.scim_schema.proofs.Facts.{leaf_same}
use Rattle.scim_text.specs.Names.{folded}
use Rattle.scim_cell.specs.declared.atoms.Atom.{Atom}
use Rattle.scim_cell.specs.declared.atoms.Atom.TheVariants.{Text}
use Rattle.scim_cell.specs.Place.{unit_cmp}
use Rattle.scim_cell.specs.Content.{Content, IsPart, HasType}
use Rattle.scim_cell.specs.Rows.{Row, rows, values, atom_at, IsSoundRow}
use Rattle.scim_value.specs.Resource.{IsResource, first_at}
use Rattle.scim_value.specs.Uniqueness.{Name, name_at}
use Rattle.scim_value.proofs.Facts.{get_cell, sound_part}
use Rattle.scim_filter_grammar.specs.declared.tree.Filter.{Filter}
use Rattle.scim_filter_grammar.specs.declared.tree.Literal.TheVariants as literal
use Rattle.scim_filter_grammar.specs.declared.tree.Operator.TheVariants.{Eq}
use Rattle.scim_filter.specs.Relation.{cased, stands}
use Rattle.scim_filter_texts.specs.Needed as needed
use Rattle.scim_query.specs.Needed.{NeedsText}
use Rattle.scim_view.specs.View.{Viewer}
use Rattle.scim_view.specs.Groups.{with_groups}
use Rattle.scim_view.proofs.Facts.{seen_stands}
use Rattle.scim_shelf.specs.Stores.{has_name, is_same_name}
use Rattle.scim_search.specs.Lookups.{OnlyThose}
use Rattle.scim_search.proofs.TextLemmas.{FitsLeaf, IsTextLeaf, equal_text, fits_in, known}

-- ---- what may stand at a leaf

-- the first atom of sound values has the type of its leaf
fits_first : (kind : Kind) (l : Leaf) (rs : List Row) → All (IsSoundRow kind) rs → FitsLeaf kind l (atom_at l zero rs)
fits_first kind l [] h = tt
fits_first kind l (r ∷ rs) h = fits_in kind r.unit l r.fields (All-head (IsSoundRow kind) r rs h).own

-- so has the one of a part
fits_part : (c : Content) (l : Leaf) → IsPart c → FitsLeaf c.kind l (first_at l c)
fits_part c l part =
    let sound = sound_part c part in
    subst (FitsLeaf c.kind l) (sym (get_cell c part sound l zero))
    (fits_first c.kind l (values (unit_of l) (rows c)) (All-filter (λ (r : Row). is_eq (unit_cmp r.unit (unit_of l))) (IsSoundRow c.kind) (rows c) sound.own))

-- ---- unique names

-- a leaf at which a user has one text at most
record IsOneTextLeaf (l : Leaf) : Type 0 where
  single : is_multi_valued l.attribute ≡ false
  text : IsTextLeaf User l

-- the name at a leaf for a text
abbrev pub named : Leaf → List ℕ → Name
named l text = record { leaf = l; text = cased (is_case_exact l) text }

-- a text at a leaf makes the name for each text that compares as it does
has_text : (l : Leaf) (o : Option Atom) (s text : List ℕ) → o ≡ Some (Text s) → cased (is_case_exact l) s ≡ cased (is_case_exact l) text → list_any (is_same_name (named l text)) (name_at User l o) ≡ true
has_text l o s text found same =
    let texts : cased (is_case_exact l) text ≡ (if is_case_exact l then s else folded s) = sym same ∙ sym (known (is_case_exact l) s) in
    rw found (rw (leaf_same l l refl) (rw ((bytes_decides _ _).1 texts) refl))

-- a name at one of the leaves is among those at all
abbrev IsAmong : (Leaf → List Name) → List Leaf → Leaf → Type 0
IsAmong names ls l = (n : Name) → list_any (is_same_name n) (names l) ≡ true → list_any (is_same_name n) (flat_map names ls) ≡ true

among : (names : Leaf → List Name) (ls : List Leaf) → All (IsAmong names ls) ls
among names [] = All-nil (IsAmong names [])
among names (l ∷ ls) =
    All-cons (IsAmong names (l ∷ ls)) l ls
    (λ n e. list_any-append (is_same_name n) (names l) (flat_map names ls) ∙ or_left (list_any (is_same_name n) (names l)) _ e)
    (All-weaker (IsAmong names ls) (IsAmong names (l ∷ ls))
    (λ m also n e. list_any-append (is_same_name n) (names l) (flat_map names ls) ∙ or_right (list_any (is_same_name n) (names l)) _ (also n e)) ls (among names ls))

-- a resource in which a text is seen at a unique leaf has that name
abbrev pub NamesSeen : Kind → Leaf → Type 0
NamesSeen kind leaf = (text : List ℕ) (v : Viewer) (gs : List Content) (c : Content) → c.kind ≡ kind → IsResource c
    → needed.has_text leaf text (rows (with_groups v gs c)) ≡ true → has_name (named leaf text) c ≡ true

-- where no part matches in which a text doesn't stand at a unique leaf, only a resource with that name can match
abbrev pub NamesByText : Kind → Leaf → Type 0
NamesByText kind leaf = (f : Option Filter) (text : List ℕ) → NeedsText f leaf text → OnlyThose kind f (has_name (record { leaf = leaf; text = cased (is_case_exact leaf) text }))

-- a leaf of one text whose names are among those of a user
abbrev IsNameLeaf : Leaf → Type 0
IsNameLeaf l = IsOneTextLeaf l × ((c : Content) → c.kind ≡ User → (n : Name) → list_any (is_same_name n) (name_at User l (first_at l c)) ≡ true → has_name n c ≡ true)

seen_name : (l : Leaf) → IsNameLeaf l → NamesSeen User l
seen_name l leaf text v gs c is sound has =
    let found = seen_stands (λ (a : Atom). stands (is_case_exact l) Eq a (literal.Text text)) l v gs c leaf.0.single leaf.0.text.stored sound.part has in
    let fits : FitsLeaf User l (first_at l c) = subst (λ (k : Kind). FitsLeaf k l (first_at l c)) is (fits_part c l sound.part) in
    let typed : HasType (characteristics_of User l).attribute_type found.0 = subst (FitsLeaf User l) found.1 fits in
    let is_text = equal_text (is_case_exact l) found.0 text (subst (λ t. HasType t found.0) leaf.0.text.type typed) found.2 in
    leaf.1 c is (named l text) (has_text l (first_at l c) is_text.0 text (found.1 ∙ ap Some is_text.1) is_text.2)

text_leaves : All IsOneTextLeaf (unique_leaves User)
unfolding unique_leaves
text_leaves =
    All-cons IsOneTextLeaf (simple UserName) (simple Badge ∷ []) (record { single = refl; text = record { stored = refl; type = refl } })
    (All-cons IsOneTextLeaf (simple Badge) [] (record { single = refl; text = record { stored = refl; type = refl } }) (All-nil IsOneTextLeaf))

-- the names at each unique leaf are among those of a user
names_among : (l : Leaf) → ((names : Leaf → List Name) → IsAmong names (unique_leaves User) l) → (c : Content) → c.kind ≡ User → (n : Name)
    → list_any (is_same_name n) (name_at User l (first_at l c)) ≡ true → has_name n c ≡ true
names_among l each c is n e = rw is (each (λ (m : Leaf). name_at User m (first_at m c)) n e)

pub names_seen : (kind : Kind) → All (NamesSeen kind) (unique_leaves kind)
unfolding unique_leaves
names_seen User = λ k d lt. seen_name _ (text_leaves k d lt, names_among _ (λ names. among names (unique_leaves User) k d lt))
names_seen Group = λ k d lt. absurd (omega (arith, lt))

pub names_by_text : (kind : Kind) → All (NamesByText kind) (unique_leaves kind)
names_by_text kind =
    All-weaker (NamesSeen kind) (NamesByText kind)
    (λ l seen f text needs v gs c is sound matches. seen text v gs c is sound (needs (with_groups v gs c) matches)) (unique_leaves kind) (names_seen kind)
