-- Queries that match all resources of a kind.
use Rattle.std.specs.Prelude.{◌≡◌, [], ◌∷◌, ◌++◌, None, map}
use Rattle.scim_cell.specs.Content.{Content}
use Rattle.scim_query.specs.declared.queries.Query.{Query}
use Rattle.scim_search.specs.declared.read_patterns.ReadPatterns.{ReadPatterns}
use Rattle.scim_search.specs.declared.unfiltered.IdVisitor.{IdVisitor}
use Rattle.scim_search.specs.ReadPatterns.{ShowAll}

-- the query has no filter and no sort key, and the viewer of the patterns sees each resource of their kind
pub record IsOfAll (patterns : ReadPatterns) (query : Query) : Type 0 where
  pub no_filter : query.filter ≡ None
  pub no_key : query.sort_by ≡ None
  pub seen : ShowAll patterns

-- the visitor adds the id of the resource at the end
abbrev pub TakesId : IdVisitor → Content → IdVisitor → Type 0
TakesId old c new = map (λ p. p.id) new.items.items ≡ map (λ p. p.id) old.items.items ++ c.id ∷ []
