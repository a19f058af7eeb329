-- The patterns of a viewer's reading of the resources of a kind.
use Rattle.std.specs.Prelude.{◌≡◌, true, List}
use Rattle.scim_schema.specs.declared.Kind.{Kind}
use Rattle.scim_schema.specs.declared.Leaf.{Leaf}
use Rattle.scim_cell.specs.Content.{Content}
use Rattle.scim_policy.specs.declared.patterns.Patterns.{Patterns}
use Rattle.scim_policy.specs.Patterns.{PatternRule}
use Rattle.scim_policy.specs.PatternTable.{rules_in}
use Rattle.scim_policy.specs.Selected.{rules_by}
use Rattle.scim_view.specs.View.{Viewer, read_rules, sees}
use Rattle.scim_search.specs.declared.read_patterns.Form.{Form}
use Rattle.scim_search.specs.declared.read_patterns.Form.TheVariants.{Alike, ByTarget}
use Rattle.scim_search.specs.declared.read_patterns.ReadPatterns.{ReadPatterns}

-- the patterns are those of the viewer's reading of the resource, by the policy
abbrev pub AreFor : Viewer → Content → Patterns → Type 0
AreFor v c patterns = (l : Leaf) → rules_in patterns l ≡ read_rules v c l

-- for each resource of the kind, `rules` gives the rules of the patterns of the viewer's reading
abbrev pub AreRulesOn : Viewer → Kind → (Content → Leaf → List PatternRule) → Type 0
AreRulesOn v kind rules = (c : Content) → c.kind ≡ kind → (l : Leaf) → rules c l ≡ read_rules v c l

-- for each resource of the kind, the patterns or the selected rules of the form give the patterns of the viewer's
-- reading
abbrev pub AreRulesBy : Viewer → Kind → Form → Type 0
AreRulesBy v kind (Alike patterns) = AreRulesOn v kind (λ c. rules_in patterns)
AreRulesBy v kind (ByTarget selected) = AreRulesOn v kind (rules_by selected)

-- the patterns are those of the viewer's reading of the resources of their kind, by the policy
abbrev pub ArePatterns : Viewer → ReadPatterns → Type 0
ArePatterns v patterns = AreRulesBy v patterns.kind patterns.form

-- the viewer of the patterns sees each resource of their kind
abbrev pub ShowAll : ReadPatterns → Type 0
ShowAll patterns = (v : Viewer) → ArePatterns v patterns → (c : Content) → c.kind ≡ patterns.kind → sees v c ≡ true
