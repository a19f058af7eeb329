-- Searches that look up the only resource that can match (RFC 7644 section 3.4.2.2).
use Rattle.std.specs.Prelude.{◌≡◌, Bool, true, List, Option}
use Rattle.scim_schema.specs.declared.Kind.{Kind}
use Rattle.scim_cell.specs.Content.{Content}
use Rattle.scim_value.specs.Resource.{IsResource}
use Rattle.scim_filter_grammar.specs.declared.tree.Filter.{Filter}
use Rattle.scim_view.specs.View.{Viewer}
use Rattle.scim_view.specs.Groups.{with_groups}
use Rattle.scim_query.specs.Pages.{is_match}

-- a resource of the kind passes the test if the part that some viewer sees of the resource, with some groups,
-- matches the filter
abbrev pub OnlyThose : Kind → Option Filter → (Content → Bool) → Type 0
OnlyThose kind filter passes = (v : Viewer) (groups : List Content) (c : Content)
    → c.kind ≡ kind → IsResource c → is_match filter (with_groups v groups c) ≡ true → passes c ≡ true
