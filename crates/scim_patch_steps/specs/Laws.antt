-- The theorem that the outcome of a patch depends only on the units that its steps name and that a client may read.
use Rattle.std.specs.Prelude.{◌≡◌, ℕ, Bool, List, All, Result, Ok, Err}
use Rattle.scim_schema.specs.declared.Kind.{Kind}
use Rattle.scim_schema.specs.declared.Unit.{Unit as AttributeUnit}
use Rattle.scim_cell.specs.Content.{Content}
use Rattle.scim_value.specs.Resource.{IsResource}
use Rattle.scim_patch_steps.specs.declared.steps.StepFault.{StepFault}
use Rattle.scim_change.specs.Laws.{AgreeAtOpen, EndsAlike, IsLeft}
use Rattle.scim_patch_steps.specs.Patch.{Patch, IsPatch, touched, applied}

-- two outcomes are alike: both are the same fault, or the patch changed both resources or neither, each of these
-- units ends alike in both, and each resource keeps its values of all other units except `meta.lastModified`
abbrev pub AreAlike : Kind → List AttributeUnit → ℕ → Content → Content → Result (Content × Bool) StepFault → Result (Content × Bool) StepFault → Type 0
AreAlike kind us moment a b (Err e) (Err f) = e ≡ f
AreAlike kind us moment a b (Ok x) (Ok y) =
    (x.1 ≡ y.1) × All (λ u. EndsAlike kind u a b x.0 y.0) us × IsLeft us x.1 moment a x.0 × IsLeft us y.1 moment b y.0
AreAlike kind us moment a b _ _ = ⊥

-- if two resources have equal values of the units that a patch names and that aren't writeOnly, the outcomes of
-- patching them are alike
abbrev pub PatchingRestsOnItsUnits : Type 0
PatchingRestsOnItsUnits =
    (p : Patch) (moment : ℕ) (a b : Content)
    → IsPatch p → IsResource a → IsResource b → a.kind ≡ p.kind → b.kind ≡ p.kind → AgreeAtOpen p.kind (touched p) a b
    → AreAlike p.kind (touched p) moment a b (applied p moment a) (applied p moment b)
