-- Which resources are indexed under a text.
use Rattle.std.proofs.Common.{◌≡◌, refl, sym, ◌∙◌, ap, ℕ, Bool, true, false, ◌&&◌, ◌||◌, not, List, [], ◌∷◌, filter, arith, ◌+◌, ◌<◌, take, length, get_or}
use Rattle.std.specs.Prelude.{Option, None, Some, find}
use Rattle.std.specs.Ordering.{nat_cmp}
use Rattle.std.specs.Cmp.Lexicographic.{slice_cmp}
use Rattle.std.specs.BTreeSet.{BTreeSet, contains}
use Rattle.std.specs.List.{list_any}
use Rattle.std.proofs.Math.Path.{fun_ext}
use Rattle.std.proofs.lemmas.List.{take_more}
use Rattle.std.proofs.lemmas.List.Folds.{list_any-append}
use Rattle.std.proofs.lemmas.List.Elements.{All-weaker, filter_passes}
use denote.Enum.Bare.{same_true}
use Rattle.scim_schema.specs.declared.Kind.{Kind}
use Rattle.scim_schema.specs.declared.Kind.TheVariants.{Group}
use Rattle.scim_schema.specs.contracts.Kind.{the_type as the_kind}
use Rattle.scim_schema.specs.declared.Attribute.TheVariants.{Members}
use Rattle.scim_schema.specs.declared.SubAttribute.TheVariants.{Value}
use Rattle.scim_schema.specs.Units.{leaf_at, whole}
use Rattle.scim_schema.specs.IndexedLeaves.{indexed_leaves}
use Rattle.scim_cell.specs.declared.atoms.Atom.{Atom}
use Rattle.scim_cell.specs.declared.atoms.Atom.TheVariants.{Text, Truth, Moment}
use Rattle.scim_cell.specs.Content.{Content}
use Rattle.scim_cell.specs.Kinds.{is_of, of_kind}
use Rattle.scim_cell.specs.Rows.{Row, rows, values, atom_in}
use Rattle.scim_value.specs.Members.{is_text, lists_value}
use Rattle.scim_shelf.specs.Members.{is_value_of}
use Rattle.scim_shelf.specs.Stores.{AreKeyed, has_text, has_some_text, has_text_in, is_compared, is_group_with, with_some_text}
use Rattle.scim_shelf.specs.IndexedTexts.{has_unindexed, is_indexed, is_under_at, is_under_at_in, is_under_some, is_under_some_in}
use Rattle.scim_shelf.specs.Indexed.{has_id}
use Rattle.scim_shelf.specs.declared.leaf_texts.LeafText.{LeafText}
use Rattle.scim_shelf.proofs.PickLemmas.{filter_same, noted_resources}
use Rattle.scim_shelf.proofs.ValueLemmas.{or_false}

-- tests that agree on the resources of a kind leave the same of them
same_of_kind : (kind : Kind) (p q : Content → Bool) (cs : List Content) → ((c : Content) → c.kind ≡ kind → p c ≡ q c) → filter p (of_kind kind cs) ≡ filter q (of_kind kind cs)
same_of_kind kind p q cs agree =
    filter_same p q (of_kind kind cs)
    (All-weaker (λ (c : Content). is_of kind c ≡ true) (λ c. p c ≡ q c) (λ c own. agree c (same_true the_kind tt _ kind own)) (of_kind kind cs) (filter_passes (is_of kind) cs))

both_false : (a b : Bool) → (not a || b) ≡ false → (a ≡ true) × (b ≡ false)
both_false true b h = (refl, h)
both_false false b h = cc

some_indexed : (kind : Kind) (texts : List LeafText) (c : Content) → has_unindexed kind texts ≡ false → c.kind ≡ kind → is_under_some texts c ≡ has_some_text texts c
some_indexed kind [] c none own = refl
some_indexed kind (t ∷ ts) c none own =
    let each = both_false (is_indexed kind t.leaf) (has_unindexed kind ts) none in
    let under : is_under_at t.leaf t.text.now c ≡ has_text t.leaf t.text.now c
    = ap (λ (b : Bool). b && has_text t.leaf t.text.now c) (ap (λ (k : Kind). is_indexed k t.leaf) own ∙ each.0) in
    λ i. under i || some_indexed kind ts c each.1 own i

-- at indexed leaves the resources that are indexed under one of some texts are those that have one
pub indexed_with : (kind : Kind) (texts : List LeafText) (cs : List Content) → has_unindexed kind texts ≡ false
    → filter (is_under_some texts) (of_kind kind cs) ≡ with_some_text kind texts cs
indexed_with kind texts cs none = same_of_kind kind (is_under_some texts) (has_some_text texts) cs (λ c own. some_indexed kind texts c none own)

-- under one text
pub under_one : (t : LeafText) (cs : List Content) → filter (is_under_at t.leaf t.text.now) cs ≡ filter (is_under_some (t ∷ [])) cs
under_one t cs = ap (λ test. filter test cs) (fun_ext (λ c. sym (or_false (is_under_at t.leaf t.text.now c))))

-- under one of some texts, of which the last is at an index
pub some_more : (texts : List LeafText) (k : ℕ) (t : LeafText) (found : Option Content) → k < length texts
    → (is_under_some_in (take k texts) found || is_under_at_in (get_or texts k t).leaf (get_or texts k t).text.now found) ≡ is_under_some_in (take (k + 1) texts) found
some_more texts k t found inside =
    let last = get_or texts k t in
    sym (ap (λ (ts : List LeafText). is_under_some_in ts found) (take_more texts k t inside)
    ∙ list_any-append (λ (u : LeafText). is_under_at_in u.leaf u.text.now found) (take k texts) (last ∷ [])
    ∙ ap (λ (b : Bool). is_under_some_in (take k texts) found || b) (or_false (is_under_at_in last.leaf last.text.now found)))

-- the resources of the kind with the ids that are indexed under one of some texts are those that are
pub those_under : (kind : Kind) (texts : List LeafText) (cs : List Content) (ids : BTreeSet (List ℕ)) → AreKeyed cs
    → ((i : List ℕ) → contains (slice_cmp nat_cmp) ids i ≡ is_under_some_in texts (find (has_id i) cs))
    → of_kind kind (filter (λ c. contains (slice_cmp nat_cmp) ids c.id) cs) ≡ filter (is_under_some texts) (of_kind kind cs)
those_under kind texts cs ids keyed are =
    noted_resources kind (is_under_some texts) (contains (slice_cmp nat_cmp) ids) cs keyed (λ id c own. are id ∙ ap (is_under_some_in texts) own)

-- the `value` of a member compares as it is
exact_value : (value : List ℕ) (o : Option Atom) → is_compared (leaf_at Members Value) value o ≡ is_text value o
exact_value value None = refl
exact_value value (Some (Text t)) = refl
exact_value value (Some (Truth b)) = refl
exact_value value (Some (Moment m)) = refl

-- the texts of members at `value` are their values
pub exact_values : (value : List ℕ) (members : List Row) → has_text_in (leaf_at Members Value) value members ≡ is_value_of value members
exact_values value members = ap (λ test. list_any test members) (fun_ext (λ m. exact_value value (atom_in (leaf_at Members Value) m.fields)))

listed_value : (value : List ℕ) (c : Content) → has_text (leaf_at Members Value) value c ≡ lists_value value c
listed_value value c = exact_values value (values (whole Members) (rows c))

group_under : (value : List ℕ) (c : Content) → c.kind ≡ Group → is_under_at (leaf_at Members Value) value c ≡ lists_value value c
unfolding indexed_leaves
group_under value c own = ap (λ (k : Kind). is_indexed k (leaf_at Members Value) && has_text (leaf_at Members Value) value c) own ∙ listed_value value c

both_tests : (p q : Content → Bool) (cs : List Content) → filter q (filter p cs) ≡ filter (λ c. p c && q c) cs
both_tests p q [] = refl
both_tests p q (c ∷ cs) = grind (arith, both_tests p q cs)

-- the groups that are indexed under a value of their members are those that list it
pub groups_under : (value : List ℕ) (cs : List Content) → filter (is_under_at (leaf_at Members Value) value) (of_kind Group cs) ≡ filter (is_group_with value) cs
groups_under value cs =
    same_of_kind Group (is_under_at (leaf_at Members Value) value) (lists_value value) cs (group_under value)
    ∙ both_tests (is_of Group) (lists_value value) cs
