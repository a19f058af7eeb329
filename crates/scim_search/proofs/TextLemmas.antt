-- What is seen to be the text at a leaf of texts is the text in the resource.
use Rattle.std.proofs.Common.{◌≡◌, refl, sym, ◌∙◌, subst, ℕ, Bool, true, false, List, [], ◌∷◌, inl, inr}
use Rattle.std.specs.Prelude.{All, Option, None, Some, if◌then◌else◌}
use Rattle.std.specs.Ordering.{is_eq}
use Rattle.std.specs.declared.cmp.Ordering.{Ordering}
use Rattle.std.specs.declared.cmp.Ordering.TheVariants.{Less, Equal, Greater}
use Rattle.std.specs.Cmp.Lexicographic.{bytes_decides}
use Rattle.std.proofs.lemmas.Map.Lookups.{exact_bytes}
use Rattle.std.proofs.lemmas.Bool.{cases_Bool}
use Rattle.std.proofs.lemmas.List.Elements.{All-nil, All-cons, All-head, All-tail, All-weaker, All-filter}
use Rattle.scim_schema.specs.declared.Kind.{Kind}
use Rattle.scim_schema.specs.declared.Kind.TheVariants.{User, Group}
use Rattle.scim_schema.specs.declared.Attribute.TheVariants.{ExternalId, DisplayName, Emails, Members, Groups}
use Rattle.scim_schema.specs.declared.SubAttribute.TheVariants.{Value}
use Rattle.scim_schema.specs.declared.Leaf.{Leaf}
use Rattle.scim_schema.specs.declared.Unit.{Unit as AttributeUnit}
use Rattle.scim_schema.specs.declared.characteristics.AttributeType.{AttributeType}
use Rattle.scim_schema.specs.declared.characteristics.AttributeType.TheVariants.{String}
use Rattle.scim_schema.specs.Units.{simple, leaf_at, unit_of, is_same_attribute, is_same_leaf}
use Rattle.scim_schema.specs.Characteristics.{characteristics_of, is_case_exact}
use Rattle.scim_schema.specs.IndexedLeaves.{indexed_leaves}
use Rattle.scim_schema.proofs.Facts.{leaf_one}
use Rattle.scim_text.specs.Names.{folded}
use Rattle.scim_cell.specs.declared.atoms.Atom.{Atom}
use Rattle.scim_cell.specs.declared.atoms.Atom.TheVariants.{Text, Truth, Moment}
use Rattle.scim_cell.specs.declared.rows.Field.{Field}
use Rattle.scim_cell.specs.Place.{unit_cmp}
use Rattle.scim_cell.specs.Content.{Content, IsPart, HasType}
use Rattle.scim_cell.specs.Rows.{Row, rows, values, atom_in, IsSoundField, IsSoundRow}
use Rattle.scim_value.proofs.Facts.{sound_part}
use Rattle.scim_filter_grammar.specs.declared.tree.Literal.TheVariants as literal
use Rattle.scim_filter_grammar.specs.declared.tree.Operator.TheVariants.{Eq}
use Rattle.scim_filter.specs.Relation.{cased, stands}
use Rattle.scim_filter_texts.specs.Needed as needed
use Rattle.scim_view.specs.View.{Viewer}
use Rattle.scim_view.specs.Groups.{with_groups}
use Rattle.scim_view.proofs.Facts.{any_weaker, seen_in_value, some_passes}
use Rattle.scim_shelf.specs.Stores.{compared_text, has_text, is_compared}

-- ---- what may stand at a leaf

-- an atom that is there has the type of the leaf
abbrev pub FitsLeaf : Kind → Leaf → Option Atom → Type 0
FitsLeaf kind l None = Unit {0}
FitsLeaf kind l (Some a) = HasType (characteristics_of kind l).attribute_type a

-- so has the one of a sound value
pub fits_in : (kind : Kind) (u : AttributeUnit) (l : Leaf) (fs : List Field) → All (IsSoundField kind u) fs → FitsLeaf kind l (atom_in l fs)
fits_in kind u l [] h = tt
fits_in kind u l (f ∷ fs) h =
    elim (cases_Bool (is_same_leaf f.leaf l)) [
      | inl t ↦ rw t (subst (λ (m : Leaf). HasType (characteristics_of kind m).attribute_type f.atom) (leaf_one f.leaf l t) (All-head (IsSoundField kind u) f fs h).2)
      | inr n ↦ rw n (fits_in kind u l fs (All-tail (IsSoundField kind u) f fs h))
    ]

-- ---- texts that `eq` holds of

pub is_equal : (o : Ordering) → is_eq o ≡ true → o ≡ Equal
is_equal Less e = cc
is_equal Equal e = refl
is_equal Greater e = cc

-- where strings stand, what `eq` holds of is a text that compares as the text
pub equal_text : (exact : Bool) (a : Atom) (text : List ℕ) → HasType String a → stands exact Eq a (literal.Text text) ≡ true → (s : List ℕ) × (a ≡ Text s) × (cased exact s ≡ cased exact text)
equal_text exact (Truth b) text is e = absurd is
equal_text exact (Moment m) text is e = absurd is
equal_text exact (Text s) text is e = (s, refl, exact_bytes (cased exact s) (cased exact text) (is_equal _ e))

-- the text that comparisons use, as the store says it
pub known : (exact : Bool) (s : List ℕ) → (if exact then s else folded s) ≡ cased exact s
known true s = refl
known false s = refl

-- ---- indexed texts

-- a leaf of texts that are stored
pub record IsTextLeaf (kind : Kind) (l : Leaf) : Type 0 where
  pub stored : is_same_attribute Groups l.attribute ≡ false
  pub type : (characteristics_of kind l).attribute_type ≡ String

-- what `eq` holds of at such a leaf is the text as comparisons use it
equal_compared : (kind : Kind) (l : Leaf) (text : List ℕ) → IsTextLeaf kind l → (o : Option Atom) → FitsLeaf kind l o
    → some_passes (λ (a : Atom). stands (is_case_exact l) Eq a (literal.Text text)) o ≡ true → is_compared l (cased (is_case_exact l) text) o ≡ true
equal_compared kind l text leaf None fits e = e
equal_compared kind l text leaf (Some a) fits e =
    let found = equal_text (is_case_exact l) a text (subst (λ (t : AttributeType). HasType t a) leaf.type fits) e in
    let texts : cased (is_case_exact l) text ≡ compared_text l found.0 = sym found.2 ∙ sym (known (is_case_exact l) found.0) in
    rw found.1 ((bytes_decides _ _).1 texts)

-- a text that is seen at such a leaf of a resource stands there in the resource
pub stored_text : (kind : Kind) (l : Leaf) (text : List ℕ) → IsTextLeaf kind l → (v : Viewer) (gs : List Content) (c : Content) → c.kind ≡ kind → IsPart c
    → needed.has_text l text (rows (with_groups v gs c)) ≡ true → has_text l (cased (is_case_exact l) text) c ≡ true
stored_text kind l text leaf v gs c is part has =
    let passes : Atom → Bool = λ a. stands (is_case_exact l) Eq a (literal.Text text) in
    let seen : Row → Bool = λ r. some_passes passes (atom_in l r.fields) in
    let known_text : Row → Bool = λ r. is_compared l (cased (is_case_exact l) text) (atom_in l r.fields) in
    let vs = values (unit_of l) (rows c) in
    any_weaker seen known_text vs
    (All-weaker (IsSoundRow c.kind) (λ (r : Row). seen r ≡ true → known_text r ≡ true)
    (λ r own. equal_compared kind l text leaf (atom_in l r.fields) (subst (λ (k : Kind). FitsLeaf k l (atom_in l r.fields)) is (fits_in c.kind r.unit l r.fields own.own))) vs
    (All-filter (λ (r : Row). is_eq (unit_cmp r.unit (unit_of l))) (IsSoundRow c.kind) (rows c) (sound_part c part).own))
    (seen_in_value passes l v gs c leaf.stored part has)

pub indexed_text_leaves : (kind : Kind) → All (IsTextLeaf kind) (indexed_leaves kind)
unfolding indexed_leaves
indexed_text_leaves User =
    All-cons (IsTextLeaf User) (simple ExternalId) (leaf_at Emails Value ∷ []) (record { stored = refl; type = refl })
    (All-cons (IsTextLeaf User) (leaf_at Emails Value) [] (record { stored = refl; type = refl }) (All-nil (IsTextLeaf User)))
indexed_text_leaves Group =
    All-cons (IsTextLeaf Group) (simple ExternalId) (simple DisplayName ∷ leaf_at Members Value ∷ []) (record { stored = refl; type = refl })
    (All-cons (IsTextLeaf Group) (simple DisplayName) (leaf_at Members Value ∷ []) (record { stored = refl; type = refl })
    (All-cons (IsTextLeaf Group) (leaf_at Members Value) [] (record { stored = refl; type = refl }) (All-nil (IsTextLeaf Group))))
