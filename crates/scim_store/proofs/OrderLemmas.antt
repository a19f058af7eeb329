-- The unique names of a resource in byte order of the names of their attributes.
use Rattle.std.proofs.Common.{◌≡◌, ℕ, refl, sym, subst, List, [], ◌∷◌, ◌++◌, map, arith}
use Rattle.std.specs.Prelude.{Option, None, Some, IsPermutation}
use Rattle.std.specs.Option.{option_to_list}
use Rattle.std.specs.List.{flat_map}
use Rattle.std.specs.Ordering.{ordering_then}
use Rattle.std.specs.declared.cmp.Ordering.TheVariants.{Less, Equal}
use Rattle.std.proofs.lemmas.Cmp.{tied_itself}
use Rattle.std.proofs.lemmas.List.Sorted.{IsPermutation-refl, IsPermutation-trans, IsPermutation-swap, IsPermutation-map}
use Rattle.sqlite_trees.specs.Tree.{IsAscending}
use Rattle.sqlite_trees.proofs.ListLemmas.{IsPermutation-same, IsPermutation-flat_map, IsPermutation-flat_map_each, map-map, map-flat_map}
use Rattle.sqlite.specs.declared.types.Value.TheVariants as sql_value
use Rattle.sqlite.specs.Order.{value_cmp}
use Rattle.sqlite_value.proofs.OrderLemmas.{value_cmp_total, value_cmp-Text}
use Rattle.scim_schema.specs.declared.Kind.{Kind}
use Rattle.scim_schema.specs.declared.Kind.TheVariants.{User, Group}
use Rattle.scim_schema.specs.declared.Leaf.{Leaf}
use Rattle.scim_schema.specs.declared.Attribute.TheVariants.{UserName, Badge}
use Rattle.scim_schema.specs.Names.{attribute_name}
use Rattle.scim_schema.specs.Units.{simple}
use Rattle.scim_schema.specs.UniqueLeaves.{unique_leaves, unique_leaves_by_name, UniqueLeavesArePermuted}
use Rattle.scim_cell.specs.declared.atoms.Atom.{Atom}
use Rattle.scim_cell.specs.declared.atoms.Atom.TheVariants.{Text, Truth, Moment}
use Rattle.scim_cell.specs.Content.{Content}
use Rattle.scim_cell.specs.Ids.{id_text}
use Rattle.scim_value.specs.Resource.{first_at}
use Rattle.scim_value.specs.Uniqueness.{Name, name_at, unique_names}
use Rattle.scim_store_tables.specs.Reading.{columns_cmp, owner_first}
use Rattle.scim_store_rows.specs.Stands.{Entry, name_row, name_rows}
use Rattle.scim_store.specs.code.Damage.{triple_of, owned_name, owned_names, ordered_names}

-- the name at a leaf, if any, by its text
abbrev named : Leaf → Option (List ℕ) → List Name
named l text = map (λ t. record { leaf = l; text = t }) (option_to_list text)

text_at : (kind : Kind) (l : Leaf) (o : Option Atom) → (text : Option (List ℕ)) × (name_at kind l o ≡ named l text)
text_at kind l None = (None, refl)
text_at kind l (Some (Text t)) = (Some _, refl)
text_at kind l (Some (Truth b)) = (None, refl)
text_at kind l (Some (Moment m)) = (None, refl)

-- the rows of names rise
abbrev Rise : List ℕ → List Name → Type 0
Rise id ns = IsAscending (λ a b. columns_cmp (0 ∷ 1 ∷ 2 ∷ []) a b ≡ Less) (map (owned_name id) ns)

below : (id badge user_name : List ℕ) → columns_cmp (0 ∷ 1 ∷ 2 ∷ []) (triple_of id (attribute_name Badge) badge) (triple_of id (attribute_name UserName) user_name) ≡ Less
below id badge user_name = λ i. ordering_then (tied_itself value_cmp_total (sql_value.Text id) i) (ordering_then (value_cmp-Text (attribute_name Badge) (attribute_name UserName) i) (ordering_then (value_cmp (sql_value.Text badge) (sql_value.Text user_name)) Equal))

two_rise : (id : List ℕ) (badge user_name : Option (List ℕ)) → Rise id (named (simple Badge) badge ++ (named (simple UserName) user_name ++ []))
two_rise id None None = tt
two_rise id None (Some u) = (tt, tt)
two_rise id (Some b) None = (tt, tt)
two_rise id (Some b) (Some u) = ((below id b u, tt), (tt, tt))

kind_rises : (id : List ℕ) (c : Content) (kind : Kind) → Rise id (flat_map (λ l. name_at c.kind l (first_at l c)) (unique_leaves_by_name kind))
unfolding unique_leaves_by_name
kind_rises id c User =
    let badge = text_at c.kind (simple Badge) (first_at (simple Badge) c) in
    let user_name = text_at c.kind (simple UserName) (first_at (simple UserName) c) in
    subst (Rise id) (λ i. sym badge.1 i ++ (sym user_name.1 i ++ [])) (two_rise id badge.0 user_name.0)
kind_rises id c Group = tt

-- their rows rise, of any id
pub ordered_rise : (id : List ℕ) (c : Content) → Rise id (ordered_names c)
ordered_rise id c = kind_rises id c c.kind

permuted : UniqueLeavesArePermuted
unfolding unique_leaves unique_leaves_by_name
permuted User = IsPermutation-swap _ _ 0 1 (omega arith) (omega arith) refl
permuted Group = IsPermutation-refl []

-- they are the unique names in another order, so their rows are those of the unique names
pub owned_permuted : (e : Entry) → IsPermutation (owned_names e.content) (map owner_first (name_rows e))
owned_permuted e =
    let c = e.content in
    IsPermutation-trans _ _ _ (IsPermutation-map (owned_name (id_text c.id)) _ _ (IsPermutation-flat_map (λ l. name_at c.kind l (first_at l c)) _ _ (permuted c.kind)))
    (IsPermutation-same _ _ (sym (map-map owner_first (name_row c.id) (unique_names c))))

pub all_permuted : (es : List Entry) → IsPermutation (flat_map (λ e. owned_names e.content) es) (map owner_first (flat_map name_rows es))
all_permuted es = IsPermutation-trans _ _ _ (IsPermutation-flat_map_each (λ (e : Entry). owned_names e.content) (λ e. map owner_first (name_rows e)) owned_permuted es) (IsPermutation-same _ _ (sym (map-flat_map owner_first name_rows es)))
