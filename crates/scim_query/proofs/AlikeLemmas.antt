-- What may be seen of the attributes alone that a query names is alike to it, and pages of lists that are alike are alike.
use Rattle.std.proofs.Common.{arith, ◌≡◌, refl, sym, ◌∙◌, ap, ℕ, ◌-◌, Bool, true, false, ◌||◌, cond, inl, inr, List, [], ◌∷◌, ◌++◌, map, length, take, drop, filter}
use Rattle.std.specs.Prelude.{Option, None, Some}
use Rattle.std.specs.List.{list_any}
use Rattle.std.specs.Option.{option_eq, option_map}
use Rattle.std.specs.Ordering.{is_lt, is_eq}
use Rattle.std.proofs.Math.Path.{fun_ext}
use Rattle.std.proofs.lemmas.Bool.{cases_Bool, or_left, or_right}
use Rattle.std.proofs.lemmas.List.{length-map, take-map, drop-map}
use Rattle.std.proofs.lemmas.List.Folds.{list_any-append}
use denote.Enum.Bare.{sameb, true_same}
use Rattle.scim_schema.specs.declared.Attribute.{Attribute}
use Rattle.scim_schema.specs.declared.Attribute.TheVariants.{Groups}
use Rattle.scim_schema.specs.contracts.Attribute.{the_type as the_attribute}
use Rattle.scim_schema.specs.declared.Leaf.{Leaf}
use Rattle.scim_schema.specs.declared.Unit.{Unit as AttributeUnit}
use Rattle.scim_schema.specs.Units.{is_same_attribute, unit_of}
use Rattle.scim_schema.proofs.Facts.{attribute_one}
use Rattle.scim_cell.specs.Content.{Content, IsPart}
use Rattle.scim_cell.specs.Place.{unit_cmp}
use Rattle.scim_cell.specs.Rows.{Row, rows, values}
use Rattle.scim_value.proofs.Facts.{unit_same}
use Rattle.scim_filter_grammar.specs.declared.mentions.Named.{Named}
use Rattle.scim_filter_grammar.specs.declared.tree.Filter.{Filter}
use Rattle.scim_filter_grammar.specs.Mentions.{mentioned_names}
use Rattle.scim_filter_grammar.specs.Tree.{tree_of}
use Rattle.scim_filter.specs.Truth.{truth}
use Rattle.scim_policy.specs.declared.rules.Decision.{Decision}
use Rattle.scim_policy.proofs.Facts.{PassesNames, kept_rows, truth_kept}
use Rattle.scim_view.specs.View.{visible_attributes}
use Rattle.scim_view.specs.Groups.{memberships, visible_with}
use Rattle.scim_view.proofs.Facts.{attributes_alike}
use Rattle.scim_query.specs.declared.queries.Query.{Query}
use Rattle.scim_query.specs.declared.queries.Page.{Page}
use Rattle.scim_query.specs.Keys.{key_by, atom_of, compared, sorting_value}
use Rattle.scim_query.specs.Order.{rank_cmp}
use Rattle.scim_query.specs.Pages.{is_match, matching, slice_of, IsPage}
use Rattle.scim_query.specs.Arranged.{placed, before, with_placed, arranged}
use Rattle.scim_query.specs.NamedAttributes.{attributes_in, filter_attributes, key_attributes, attributes_of, names_groups, Alike}
use Rattle.scim_query.proofs.ArrangedLemmas.{arranged_in_order, page_items}
use Rattle.scim_query.proofs.PlacedLemmas.{placed-map}

-- ---- what may be seen of some attributes alone

turned : (a b : Attribute) → sameb the_attribute a b ≡ true → sameb the_attribute b a ≡ true
turned a b t = true_same the_attribute b a (sym (attribute_one a b t))

pub same_turned : (a b : Attribute) → sameb the_attribute a b ≡ sameb the_attribute b a
same_turned a b = go (sameb the_attribute a b) (sameb the_attribute b a) (turned a b) (turned b a)
  where
    go : (p q : Bool) → (p ≡ true → q ≡ true) → (q ≡ true → p ≡ true) → p ≡ q
    go true q f g = sym (f refl)
    go false true f g = g refl
    go false false f g = refl

-- whether one of some names is of an attribute
abbrev has_name : Attribute → List Named → Bool
has_name a ns = list_any (λ (n : Named). option_eq is_same_attribute n.attribute (Some a)) ns

-- the attributes of names are all that some name is of
passes_named : (ns : List Named) → PassesNames (λ a. list_any (sameb the_attribute a) (attributes_in ns)) ns
passes_named [] a e = e
passes_named (n ∷ ns) a e = by_first n.attribute refl (passes_named ns a)
  where
    either : (b : Attribute) (named there : Bool) → (named ≡ true → there ≡ true) → (sameb the_attribute b a || named) ≡ true → (sameb the_attribute a b || there) ≡ true
    either b named there rest f = elim (cases_Bool (sameb the_attribute b a)) [
      | inl t ↦ or_left _ _ (turned b a t)
      | inr u ↦ or_right _ _ (rest (rw u at f))
    ]

    by_first : (o : Option Attribute) → n.attribute ≡ o → (has_name a ns ≡ true → list_any (sameb the_attribute a) (attributes_in ns) ≡ true)
        → list_any (sameb the_attribute a) (attributes_in (n ∷ ns)) ≡ true
    by_first None is rest = rw is (rest (rw is at e))
    by_first (Some b) is rest = rw is (either b _ _ rest (rw is at e))

filter_implied : {X : Type 0} (p q : X → Bool) → ((x : X) → q x ≡ true → p x ≡ true) → (xs : List X) → filter q (filter p xs) ≡ filter q xs
filter_implied p q implied [] = refl
filter_implied p q implied (x ∷ xs) = grind (arith, filter_implied p q implied xs, implied x)

module _ (keep : Attribute → Bool) (p q : Content) (same : kept_rows keep (rows p) ≡ kept_rows keep (rows q)) where
  -- a filter reads the rows of the attributes that it names
  match_alike : (o : Option Filter) → ((a : Attribute) → list_any (sameb the_attribute a) (filter_attributes o) ≡ true → keep a ≡ true) → is_match o p ≡ is_match o q
  match_alike None passes = refl
  match_alike (Some f) passes =
      let names : PassesNames keep (mentioned_names (tree_of f)) = λ a e. passes a (passes_named (mentioned_names (tree_of f)) a e) in
      sym (truth_kept keep (tree_of f) (rows p) names) ∙ ap (truth (tree_of f)) same ∙ truth_kept keep (tree_of f) (rows q) names

  values_kept : (u : AttributeUnit) (rs : List Row) → keep u.attribute ≡ true → values u (kept_rows keep rs) ≡ values u rs
  values_kept u rs passes =
      filter_implied (λ (r : Row). keep r.unit.attribute) (λ (r : Row). is_eq (unit_cmp r.unit u))
      (λ r one. ap (λ (v : AttributeUnit). keep v.attribute) (unit_same r.unit u one) ∙ passes) rs

  -- and a sort key those of the attribute of its leaf
  key_alike : (o : Option Leaf) → ((a : Attribute) → list_any (sameb the_attribute a) (key_attributes o) ≡ true → keep a ≡ true) → key_by o (rows p) ≡ key_by o (rows q)
  key_alike None passes = refl
  key_alike (Some l) passes =
      let own : keep l.attribute ≡ true = passes l.attribute (or_left _ _ (true_same the_attribute l.attribute l.attribute refl)) in
      ap (λ (vs : List Row). option_map (compared l) (atom_of l (sorting_value vs)))
      (sym (values_kept (unit_of l) (rows p) own) ∙ ap (values (unit_of l)) same ∙ values_kept (unit_of l) (rows q) own)

-- what may be seen of the attributes alone that a query names is alike to what may be seen of all, whatever groups list the resource
pub seen_alike : (query : Query) (d : Row → Leaf → Decision) (base : List ℕ) (gs : List Content) (c : Content) → IsPart c → names_groups query ≡ false
    → Alike query (visible_attributes (attributes_of query) d c) (visible_with d (memberships base gs c.id) c)
unfolding visible_attributes visible_with
seen_alike query d base gs c part none =
    let small = visible_attributes (attributes_of query) d c in
    let full = visible_with d (memberships base gs c.id) c in
    let named = filter_attributes query.filter in
    let key = key_attributes query.sort_by in
    let keep : Attribute → Bool = λ a. list_any (sameb the_attribute a) (named ++ key) in
    let other : keep Groups ≡ false = ap (λ (p : Attribute → Bool). list_any p (named ++ key)) (fun_ext (same_turned Groups)) ∙ none in
    let same : kept_rows keep (rows small) ≡ kept_rows keep (rows full) = attributes_alike (named ++ key) d base gs c part other in
    record {
      matches = match_alike keep small full same query.filter (λ a e. list_any-append (sameb the_attribute a) named key ∙ or_left _ _ e);
      key = key_alike keep small full same query.sort_by (λ a e. list_any-append (sameb the_attribute a) named key ∙ or_right _ _ e);
      id = refl;
    }

-- ---- pages of lists that are alike

module _ {X Y : Type 0} (f : X → Y) (test : Y → Bool) where
  map_chosen : (b : Bool) (x : X) (ys : List Y) (xs : List X) → ys ≡ map f xs → cond b (f x ∷ ys) ys ≡ map f (cond b (x ∷ xs) xs)
  map_chosen true x ys xs rest = ap (λ (t : List Y). f x ∷ t) rest
  map_chosen false x ys xs rest = rest

  filter-map : (xs : List X) → filter test (map f xs) ≡ map f (filter (λ x. test (f x)) xs)
  filter-map [] = refl
  filter-map (x ∷ xs) = map_chosen (test (f x)) x _ _ (filter-map xs)

module _ {X : Type 0} where
  -- a list in order, and then these, each put in its place
  abbrev all_placed : (X → X → Bool) → List X → List X → List X
  all_placed lt done [] = done
  all_placed lt done (x ∷ xs) = all_placed lt (placed lt x done) xs

  with_placed-map : (query : Query) (f : X → Content) (done xs : List X)
      → with_placed query (map f done) (map f xs) ≡ map f (all_placed (λ x y. before query (f x) (f y)) done xs)
  with_placed-map query f done [] = refl
  with_placed-map query f done (x ∷ xs) =
      ap (λ (ps : List Content). with_placed query ps (map f xs)) (placed-map f (before query) x done)
      ∙ with_placed-map query f (placed (λ a b. before query (f a) (f b)) x done) xs

  -- those that pass, in order
  abbrev ordered : (X → Bool) → (X → X → Bool) → List X → List X
  ordered passes lt xs = all_placed lt [] (filter passes xs)

  abbrev passes_by : Query → (X → Content) → X → Bool
  passes_by query f x = is_match query.filter (f x)

  abbrev before_by : Query → (X → Content) → X → X → Bool
  before_by query f x y = before query (f x) (f y)

  -- the parts that elements give, in order, are those of the elements in order
  arranged-map : (query : Query) (f : X → Content) (xs : List X) → arranged query (map f xs) ≡ map f (ordered (passes_by query f) (before_by query f) xs)
  arranged-map query f xs =
      ap (with_placed query []) (filter-map f (is_match query.filter) xs) ∙ with_placed-map query f [] (filter (passes_by query f) xs)

  slice-map : (query : Query) (f : X → Content) (xs : List X) → slice_of query.start query.count (map f xs) ≡ map f (take query.count (drop (query.start - 1) xs))
  slice-map query f xs = ap (take query.count) (drop-map f (query.start - 1) xs) ∙ take-map f query.count (drop (query.start - 1) xs)

module _ {X : Type 0} (query : Query) (f g : X → Content) (alike : (x : X) → Alike query (f x) (g x)) where
  one_test : passes_by query f ≡ passes_by query g
  one_test = fun_ext (λ x. (alike x).matches)

  one_order : before_by query f ≡ before_by query g
  one_order = fun_ext (λ x. fun_ext (λ y. λ i. is_lt (rank_cmp query.descending ((alike x).key i, (alike x).id i) ((alike y).key i, (alike y).id i))))

  -- the elements of the page
  abbrev chosen : List X → List X
  chosen xs = take query.count (drop (query.start - 1) (ordered (passes_by query f) (before_by query f) xs))

  one_total : (xs : List X) → length (matching query.filter (map f xs)) ≡ length (matching query.filter (map g xs))
  one_total xs =
      ap length (filter-map f (is_match query.filter) xs) ∙ length-map (filter (passes_by query f) xs) f
      ∙ ap (λ (passes : X → Bool). length (filter passes xs)) one_test
      ∙ sym (ap length (filter-map g (is_match query.filter) xs) ∙ length-map (filter (passes_by query g) xs) g)

  one_slice : (xs : List X) → map g (chosen xs) ≡ slice_of query.start query.count (arranged query (map g xs))
  one_slice xs =
      (λ i. map g (take query.count (drop (query.start - 1) (ordered (one_test i) (one_order i) xs))))
      ∙ sym (ap (slice_of query.start query.count) (arranged-map query g xs) ∙ slice-map query g (ordered (passes_by query g) (before_by query g) xs))

  -- a page of what one function gives of a list has what it gives of some elements; what the other gives of them is the page of what that gives of the list
  pub alike_pages : (xs : List X) (page : Page) → IsPage (map f xs) query page
      → (found : List X) × (page.items.items ≡ map f found)
      × ((other : Page) → other.total ≡ page.total → other.start ≡ page.start → other.items.items ≡ map g found → IsPage (map g xs) query other)
  alike_pages xs page is =
      let items : page.items.items ≡ map f (chosen xs) =
      page_items (map f xs) query page is ∙ ap (slice_of query.start query.count) (arranged-map query f xs) ∙ slice-map query f (ordered (passes_by query f) (before_by query f) xs) in (
        chosen xs,
        items,
        λ other total start given. record {
          total = total ∙ is.total ∙ one_total xs;
          start = start ∙ is.start;
          sorted = arranged query (map g xs);
          is_sorted = arranged_in_order query (map g xs);
          items = given ∙ one_slice xs;
        },
      )
