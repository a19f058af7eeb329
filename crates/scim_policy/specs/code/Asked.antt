-- How the texts of a resource at the leaves that targets ask are stored, and compared with the texts that targets
-- need.
use Rattle.std.specs.Prelude.{◌≡◌, ℕ, Bool, true, ◌&&◌, ◌||◌, not, nat_eq, List, [], ◌∷◌, ◌++◌, Option, None, Some, if◌then◌else◌}
use Rattle.std.specs.Global.{Vec}
use Rattle.std.specs.List.{list_any}
use Rattle.std.specs.Cmp.Lexicographic.{pointwise}
use Rattle.scim_schema.specs.declared.Kind.{Kind}
use Rattle.scim_schema.specs.declared.Leaf.{Leaf}
use Rattle.scim_schema.specs.declared.Attribute.{Attribute}
use Rattle.scim_schema.specs.Characteristics.{is_case_exact}
use Rattle.scim_schema.specs.Units.{is_same_attribute, is_same_leaf}
use Rattle.scim_cell.specs.Content.{Content}
use Rattle.scim_cell.specs.declared.atoms.Atom.{Atom}
use Rattle.scim_cell.specs.declared.atoms.Atom.TheVariants as atom
use Rattle.scim_cell.specs.declared.rows.Field.{Field}
use Rattle.scim_cell.specs.Rows.{Row, rows}
use Rattle.scim_filter.specs.Relation.{cased}
use Rattle.scim_filter_texts.specs.Needed.{has_some_text}
use Rattle.scim_filter_texts.specs.declared.needs.NeededText.{NeededText}
use Rattle.scim_policy.specs.declared.asked_texts.AskedText.{AskedText}
use Rattle.scim_policy.specs.declared.asked_texts.AskedTexts.{AskedTexts}
use Rattle.scim_policy.specs.Rules.{Rule, Target}
use Rattle.scim_policy.specs.Fits.{holds_on, is_target_met}

-- the text of an atom as comparisons use it; None if the atom isn't a text
abbrev pub compared_atom : Bool → Atom → Option (List ℕ)
compared_atom exact (atom.Text text) = Some (cased exact text)
compared_atom exact _ = None

-- what is stored of a field
abbrev pub asked_text : Field → AskedText
asked_text f = record { leaf = f.leaf; text = compared_atom (is_case_exact f.leaf) f.atom }

-- whether the leaf is one of these
abbrev pub is_asked : List Leaf → Leaf → Bool
is_asked leaves l = list_any (is_same_leaf l) leaves

-- whether one of these leaves belongs to the attribute
abbrev pub asks_of : List Leaf → Attribute → Bool
asks_of leaves a = list_any (λ (l : Leaf). is_same_attribute l.attribute a) leaves

-- what is stored of the fields of a row
abbrev pub asked_in : List Leaf → List Field → List AskedText
asked_in leaves [] = []
asked_in leaves (f ∷ fs) = if is_asked leaves f.leaf then asked_text f ∷ asked_in leaves fs else asked_in leaves fs

-- what is stored of rows
abbrev pub asked_among : List Leaf → List Row → List AskedText
asked_among leaves [] = []
asked_among leaves (r ∷ rs) = if asks_of leaves r.unit.attribute then asked_in leaves r.fields ++ asked_among leaves rs else asked_among leaves rs

-- whether an atom may equal a text: an atom that isn't a text may
abbrev pub may_equal : Option (List ℕ) → List ℕ → Bool
may_equal None text = true
may_equal (Some own) text = pointwise nat_eq own text

-- whether one of the stored texts of the leaf may equal the text, which is as comparisons use it
abbrev pub has_equal : List AskedText → Leaf → List ℕ → Bool
has_equal texts l text = list_any (λ (t : AskedText). is_same_leaf t.leaf l && may_equal t.text text) texts

-- whether the resource may have the text at its leaf: it has, or the leaf isn't asked
abbrev pub may_have : AskedTexts → NeededText → Bool
may_have asked needed = has_equal asked.texts.items needed.leaf (cased (is_case_exact needed.leaf) needed.text.now) || not (is_asked asked.leaves.now needed.leaf)

-- whether the resource may have one of the texts
abbrev pub may_have_some : AskedTexts → List NeededText → Bool
may_have_some asked needed = list_any (may_have asked) needed

-- the stored texts tell which texts the rows don't have
abbrev pub TellOf : List Row → AskedTexts → Type 0
TellOf rs asked = (needed : List NeededText) → has_some_text needed rs ≡ true → may_have_some asked needed ≡ true

-- each resource of the kind that meets the targets has one of the texts
abbrev pub AreNeededBy : Kind → List Target → List NeededText → Type 0
AreNeededBy kind targets texts = (c : Content) → c.kind ≡ kind → holds_on c targets ≡ true → has_some_text texts (rows c) ≡ true

-- each resource of the kind that meets the rule's target has one of the texts
abbrev pub AreNeeded : Kind → Rule → List NeededText → Type 0
AreNeeded kind r texts = (c : Content) → c.kind ≡ kind → is_target_met c r ≡ true → has_some_text texts (rows c) ≡ true

-- whether the rule's target may be met, by the texts that the rule needs and those that the resource has
abbrev pub may_be_met : Option AskedTexts → Option (Vec NeededText) → Bool
may_be_met (Some asked) (Some needed) = may_have_some asked needed.items
may_be_met _ _ = true
