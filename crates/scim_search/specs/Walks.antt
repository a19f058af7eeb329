-- Searches over all resources of a kind, or over those that have one of some texts.
use Rattle.std.specs.Prelude.{◌≡◌, ℕ, Bool, true, List, map, filter}
use Rattle.scim_schema.specs.declared.Leaf.{Leaf}
use Rattle.scim_schema.specs.Characteristics.{is_case_exact}
use Rattle.scim_schema.specs.declared.Kind.{Kind}
use Rattle.scim_schema.specs.declared.Kind.TheVariants.{Group}
use Rattle.scim_cell.specs.Content.{Content}
use Rattle.scim_cell.specs.Kinds.{of_kind}
use Rattle.scim_filter.specs.Relation.{cased}
use Rattle.scim_filter_texts.specs.declared.needs.NeededText.{NeededText}
use Rattle.scim_view.specs.declared.group_index.GroupIndex.{GroupIndex}
use Rattle.scim_view.specs.View.{Viewer, viewer_of}
use Rattle.scim_view.specs.Groups.{with_groups}
use Rattle.scim_view.specs.Indexes.{IsIndexOf}
use Rattle.scim_shelf.specs.declared.leaf_texts.LeafText.{LeafText}
use Rattle.scim_shelf.specs.Stores.{has_some_text}
use Rattle.scim_search.specs.declared.view_builders.ViewBuilder.{ViewBuilder}
use Rattle.scim_search.specs.declared.walks.Walk.{Walk}
use Rattle.scim_search.specs.declared.walks.WalkScope.{WalkScope}
use Rattle.scim_search.specs.declared.walks.WalkScope.TheVariants.{WholeKind, SomeText}
use Rattle.scim_search.specs.ViewBuilders.{made, made_of_all}

-- the texts are those of the list, as comparisons at their leaves use them
abbrev pub AreCompared : List NeededText → List LeafText → Type 0
AreCompared needed texts =
    map {B = Leaf × List ℕ} (λ (t : LeafText). (t.leaf, t.text.now)) texts ≡ map {B = Leaf × List ℕ} (λ (t : NeededText). (t.leaf, cased (is_case_exact t.leaf) t.text.now)) needed

-- whether a search with this scope reads a resource of its kind
abbrev pub is_walked : WalkScope → Content → Bool
is_walked WholeKind c = true
is_walked (SomeText texts) c = has_some_text texts.items c

-- the resources that a search reads, in order of id
abbrev pub walked : Walk → List Content → List Content
walked walk cs = filter (is_walked walk.scope) (of_kind walk.kind cs)

-- with the groups of the index, the viewer has the same view of each resource of the kind as with all groups
-- of the store
pub record IndexTells (v : Viewer) (kind : Kind) (cs : List Content) (index : GroupIndex) : Type 0 where
  pub groups : List Content
  pub is_index : IsIndexOf v groups index
  pub same : (c : Content) → c.kind ≡ kind → with_groups v groups c ≡ with_groups v (of_kind Group cs) c

-- the parts that a builder builds, one for each resource of the walk that its viewer sees
abbrev pub made_of_walk : List Content → ViewBuilder → Walk → List Content → List Content
made_of_walk groups builder walk cs = made_of_all (made (viewer_of builder.viewer.now) groups builder.scope) (viewer_of builder.viewer.now) (walked walk cs)
