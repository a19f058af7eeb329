-- How the tree of a filter is encoded: as the steps that build it on a stack.
use Rattle.std.specs.Prelude.{◌≡◌, ℕ, zero, suc, List, [], ◌∷◌, ◌⊎◌, None}
use Rattle.std.specs.Coded.{Coded, code_by, coded×, coded⊎, coded_ℕ, coded_list}
use mathlib.Core.Path.{refl, ap, ◌∙◌}
use mathlib.Core.Logic.{inl, inr}
use Rattle.scim_filter_grammar.specs.declared.tree.Meant.TheVariants as meant
use Rattle.scim_filter_grammar.specs.declared.tree.Operator.{Operator}
use Rattle.scim_filter_grammar.specs.declared.tree.Literal.{Literal}
use Rattle.scim_filter_grammar.specs.declared.tree.AttributePath.{AttributePath}
use Rattle.scim_filter_grammar.specs.contracts.tree.Operator as operator
use Rattle.scim_filter_grammar.specs.contracts.tree.Literal as literal
use Rattle.scim_filter_grammar.specs.contracts.tree.AttributePath as path
use Rattle.scim_filter_grammar.specs.Tree as tree
use Rattle.scim_filter_grammar.specs.Tree.{Tree}

-- a step pushes a leaf of the tree, or replaces the top tree or the top two trees of the stack by a tree
-- built from them
pub data Step : Type 0 where
  Or : Step
  And : Step
  Not : Step
  Present : AttributePath → Step
  Compare : AttributePath → Operator → Literal → Step
  Values : AttributePath → Step

-- the steps that build a tree, followed by further steps
abbrev pub steps : Tree → List Step → List Step
steps (tree.Or a b) more = steps a (steps b (Or ∷ more))
steps (tree.And a b) more = steps a (steps b (And ∷ more))
steps (tree.Not a) more = steps a (Not ∷ more)
steps (tree.Present p) more = Present p ∷ more
steps (tree.Compare p op x) more = Compare p op x ∷ more
steps (tree.Values p a) more = steps a (Values p ∷ more)

-- the stack after a step
abbrev pub after_step : Step → List Tree → List Tree
after_step (Present p) ts = tree.Present p ∷ ts
after_step (Compare p op x) ts = tree.Compare p op x ∷ ts
after_step _ [] = []
after_step Not (a ∷ ts) = tree.Not a ∷ ts
after_step (Values p) (a ∷ ts) = tree.Values p a ∷ ts
after_step _ (b ∷ []) = []
after_step Or (b ∷ (a ∷ ts)) = tree.Or a b ∷ ts
after_step And (b ∷ (a ∷ ts)) = tree.And a b ∷ ts

-- the stack after all steps
abbrev pub after_steps : List Step → List Tree → List Tree
after_steps [] ts = ts
after_steps (s ∷ ss) ts = after_steps ss (after_step s ts)

-- the tree on top of the stack, or an arbitrary tree if the stack is empty
abbrev pub top : List Tree → Tree
top [] = tree.Present (record { urn = None; name = []; sub_name = None; meant = meant.Nothing })
top (t ∷ ts) = t

-- the steps of a tree push that tree on the stack
pub stacked : (t : Tree) (more : List Step) (ts : List Tree) → after_steps (steps t more) ts ≡ after_steps more (t ∷ ts)
stacked (tree.Or a b) more ts = stacked a (steps b (Or ∷ more)) ts ∙ stacked b (Or ∷ more) (a ∷ ts)
stacked (tree.And a b) more ts = stacked a (steps b (And ∷ more)) ts ∙ stacked b (And ∷ more) (a ∷ ts)
stacked (tree.Not a) more ts = stacked a (Not ∷ more) ts
stacked (tree.Present p) more ts = refl
stacked (tree.Compare p op x) more ts = refl
stacked (tree.Values p a) more ts = stacked a (Values p ∷ more) ts

-- the type that encodes a step: a number, a number and a path, or a comparison
abbrev Stored : Type 0
Stored = ℕ ⊎ ((ℕ × AttributePath) ⊎ (AttributePath × (Operator × Literal)))

-- the encoding of a step
abbrev stored : Step → Stored
stored Or = inl 0
stored And = inl 1
stored Not = inl 2
stored (Present p) = inr (inl (0, p))
stored (Values p) = inr (inl (1, p))
stored (Compare p op x) = inr (inr (p, (op, x)))

-- the step that an encoding represents
abbrev step_of : Stored → Step
step_of (inl zero) = Or
step_of (inl (suc zero)) = And
step_of (inl (suc (suc n))) = Not
step_of (inr (inl (zero, p))) = Present p
step_of (inr (inl (suc n, p))) = Values p
step_of (inr (inr (p, (op, x)))) = Compare p op x

-- decoding an encoded step returns the step
pub step_back : (s : Step) → step_of (stored s) ≡ s
step_back Or = refl
step_back And = refl
step_back Not = refl
step_back (Present p) = refl
step_back (Values p) = refl
step_back (Compare p op x) = refl

-- the encoding of steps as a `Coded` type
abbrev pub step_code : Coded Step
step_code =
    code_by Stored (coded⊎ coded_ℕ (coded⊎ (coded× coded_ℕ path.the_row.coded) (coded× path.the_row.coded (coded× operator.the_row.coded literal.the_row.coded)))) stored step_of step_back

-- the encoding of trees, as the list of their steps
abbrev pub tree_code : Coded Tree
tree_code = code_by (List Step) (coded_list step_code) (λ t. steps t []) (λ ss. top (after_steps ss [])) (λ t. ap top (stacked t [] []))
