-- The leaves by whose texts a store in memory finds resources.
use Rattle.std.specs.Prelude.{List, [], ◌∷◌}
use Rattle.scim_schema.specs.declared.Kind.{Kind}
use Rattle.scim_schema.specs.declared.Kind.TheVariants.{User, Group}
use Rattle.scim_schema.specs.declared.Attribute.TheVariants.{ExternalId, DisplayName, Emails, Members}
use Rattle.scim_schema.specs.declared.SubAttribute.TheVariants.{Value}
use Rattle.scim_schema.specs.declared.Leaf.{Leaf}
use Rattle.scim_schema.specs.Units.{simple, leaf_at}

-- the leaves of a kind whose texts are indexed
unfoldable pub indexed_leaves : Kind → List Leaf
indexed_leaves User = simple ExternalId ∷ leaf_at Emails Value ∷ []
indexed_leaves Group = simple ExternalId ∷ simple DisplayName ∷ leaf_at Members Value ∷ []
