-- The texts for the leaves that are asked for.
use Rattle.std.specs.Prelude.{ℕ, List}
use Rattle.scim_schema.specs.declared.Leaf.{Leaf}
use Rattle.scim_explain.specs.Explain.{explained}
use Rattle.scim_explain.specs.Texts.{explanation_text}
use Rattle.scim_explain_paths.specs.declared.explained_paths.Asked.{Asked}
use Rattle.scim_explain_paths.specs.Paths.{leaf_text}

-- the explanation of the decision on a leaf
abbrev pub explanation_of : Asked → Leaf → List ℕ
explanation_of a l = explanation_text (explained a.policy.now a.client.now a.op a.resource.now l)

-- the explanation of the decision on a leaf, behind its heading
abbrev pub leaf_text_of : Asked → Leaf → List ℕ
leaf_text_of a l = leaf_text a.policy.now a.client.now a.op a.resource.now a.headed l
