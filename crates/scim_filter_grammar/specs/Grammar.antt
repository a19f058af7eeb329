-- The grammar of filters: which texts spell which tree (RFC 7644 section 3.4.2.2).
use Rattle.std.specs.Prelude.{◌≡◌, ℕ, suc, List, [], ◌∷◌, ◌++◌, codes}
use Rattle.scim_schema.specs.declared.Kind.{Kind}
use Rattle.scim_filter_grammar.specs.declared.tree.Operator.{Operator}
use Rattle.scim_filter_grammar.specs.declared.tree.Operator.TheVariants.{Eq, Ne, Co, Sw, Ew, Gt, Ge, Lt, Le}
use Rattle.scim_filter_grammar.specs.declared.tree.Literal.{Literal}
use Rattle.scim_filter_grammar.specs.declared.tree.AttributePath.{AttributePath}
use Rattle.scim_filter_grammar.specs.declared.tree.Scope.{Scope}
use Rattle.scim_filter_grammar.specs.declared.tree.Scope.TheVariants.{Attributes, SubAttributes}
use Rattle.scim_filter_grammar.specs.Names.{IsPath}
use Rattle.scim_filter_grammar.specs.Literals.{IsWord, IsLiteral}
use Rattle.scim_filter_grammar.specs.Tree.{Tree, Or, And, Not, Present, Compare, Values, attribute_meant}

-- the bytes are all spaces
abbrev pub IsBlank : List ℕ → Type 0
IsBlank [] = Unit {0}
IsBlank (b ∷ bs) = (b ≡ 32) × IsBlank bs

-- the bytes are one or more spaces
abbrev pub IsGap : List ℕ → Type 0
IsGap [] = ⊥
IsGap (b ∷ bs) = (b ≡ 32) × IsBlank bs

-- the keyword of an operator
abbrev pub spelled : Operator → List ℕ
spelled Eq = codes "eq"
spelled Ne = codes "ne"
spelled Co = codes "co"
spelled Sw = codes "sw"
spelled Ew = codes "ew"
spelled Gt = codes "gt"
spelled Ge = codes "ge"
spelled Lt = codes "lt"
spelled Le = codes "le"

-- the text is a keyword with spaces on both sides
pub record IsJoin (keyword text : List ℕ) : Type 0 where
  pub before : List ℕ
  pub word : List ℕ
  pub after : List ℕ
  pub before_gap : IsGap before
  pub word_is : IsWord keyword word
  pub after_gap : IsGap after
  pub whole : text ≡ before ++ (word ++ after)

-- the text is the inner text in brackets, with optional spaces just inside the brackets
pub record Encloses (open_byte close_byte : ℕ) (inner text : List ℕ) : Type 0 where
  pub before : List ℕ
  pub after : List ℕ
  pub before_blank : IsBlank before
  pub after_blank : IsBlank after
  pub whole : text ≡ open_byte ∷ (before ++ (inner ++ (after ++ close_byte ∷ [])))

-- the precedence levels of `or`, `and` and terms, lowest first
pub data Level : Type 0 where
  Disjunction : Level
  Conjunction : Level
  Term : Level

-- `Spells scope level n text tree`: the text spells the tree, with brackets nested at most n deep; `not`
-- binds before `and`, and `and` before `or`, and chains of `and` or of `or` nest to the right
pub data Spells : Scope → Level → ℕ → List ℕ → Tree → Type 0 where
  one_conjunction : {i : Scope} {n : ℕ} {a : List ℕ} {t : Tree} → Spells i Conjunction n a t → Spells i Disjunction n a t
  either : {i : Scope} {n : ℕ} {a w b : List ℕ} {t u : Tree} → Spells i Conjunction n a t → IsJoin (codes "or") w → Spells i Disjunction n b u
      → Spells i Disjunction n (a ++ (w ++ b)) (Or t u)
  one_term : {i : Scope} {n : ℕ} {a : List ℕ} {t : Tree} → Spells i Term n a t → Spells i Conjunction n a t
  both : {i : Scope} {n : ℕ} {a w b : List ℕ} {t u : Tree} → Spells i Term n a t → IsJoin (codes "and") w → Spells i Conjunction n b u
      → Spells i Conjunction n (a ++ (w ++ b)) (And t u)
  group : {i : Scope} {n : ℕ} {a text : List ℕ} {t : Tree} → Spells i Disjunction n a t → Encloses 40 41 a text → Spells i Term (suc n) text t
  negation : {i : Scope} {n : ℕ} {a text : List ℕ} {t : Tree} (w s : List ℕ) → IsWord (codes "not") w → IsBlank s → Spells i Disjunction n a t → Encloses 40 41 a text
      → Spells i Term (suc n) (w ++ (s ++ text)) (Not t)
  presence : {i : Scope} {n : ℕ} {path : AttributePath} (p g w : List ℕ) → IsPath i p path → IsGap g → IsWord (codes "pr") w
      → Spells i Term n (p ++ (g ++ w)) (Present path)
  comparison : {i : Scope} {n : ℕ} {path : AttributePath} {op : Operator} {x : Literal} (p g w h l : List ℕ) → IsPath i p path → IsGap g → IsWord (spelled op) w → IsGap h → IsLiteral l x
      → Spells i Term n (p ++ (g ++ (w ++ (h ++ l)))) (Compare path op x)
  values : {kind : Kind} {n : ℕ} {a text : List ℕ} {path : AttributePath} {t : Tree} (p : List ℕ) → IsPath (Attributes kind) p path → Spells (SubAttributes (attribute_meant path.meant)) Disjunction n a t → Encloses 91 93 a text
      → Spells (Attributes kind) Term (suc n) (p ++ text) (Values path t)

-- the text spells the tree of a filter on a kind, with spaces around it and brackets nested at most n deep
pub record IsFilter (kind : Kind) (n : ℕ) (text : List ℕ) (tree : Tree) : Type 0 where
  pub before : List ℕ
  pub inner : List ℕ
  pub after : List ℕ
  pub before_blank : IsBlank before
  pub spells : Spells (Attributes kind) Disjunction n inner tree
  pub after_blank : IsBlank after
  pub whole : text ≡ before ++ (inner ++ after)
