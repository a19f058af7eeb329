-- The unique names of a resource: none is there twice. The rows of the names, where a resource is replaced.
use Rattle.std.proofs.Common.{◌≡◌, ◌≢◌, ℕ, refl, sym, ◌∙◌, ap, subst, Bool, true, false, not, ◌&&◌, ◌||◌, cond, List, [], ◌∷◌, ◌++◌, map, filter, get_or}
use Rattle.std.specs.Prelude.{nat_eq, All, Contains, Option, None, Some, IsPermutation}
use Rattle.std.specs.List.{flat_map, list_any, AllByRecursion, IsDistinct}
use Rattle.std.specs.Cmp.Lexicographic.{pointwise}
use Rattle.std.proofs.lemmas.List.Elements.{All-nil, All-head, All-tail, All-filter, All-map, All-weaker, All-contains_itself, recursion_from_All, Contains-get_or}
use Rattle.std.proofs.lemmas.List.Sorted.{IsPermutation-refl, IsPermutation-sym, IsPermutation-trans, IsPermutation-cons, IsPermutation-middle, IsPermutation-append, IsPermutation-append_right, IsPermutation-filter_both}
use Rattle.std.proofs.lemmas.Map.Text.{is_eq-slice_cmp}
use Rattle.sqlite_trees.proofs.ListLemmas.{IsPermutation-same, all_of, all_weaker, all-append, filter-map, filter_none, filter_same}
use Rattle.sqlite.specs.Order.{Row}
use Rattle.scim_schema.specs.declared.Kind.{Kind}
use Rattle.scim_schema.specs.declared.Kind.TheVariants.{User, Group}
use Rattle.scim_schema.specs.declared.Leaf.{Leaf}
use Rattle.scim_schema.specs.Names.{attribute_name}
use Rattle.scim_schema.specs.Units.{simple, is_same_leaf}
use Rattle.scim_schema.specs.UniqueLeaves.{unique_leaves}
use Rattle.scim_cell.specs.declared.atoms.Atom.{Atom}
use Rattle.scim_cell.specs.declared.atoms.Atom.TheVariants.{Text, Truth, Moment}
use Rattle.scim_cell.specs.Content.{Content}
use Rattle.scim_value.specs.declared.uniqueness.UniqueName.{UniqueName}
use Rattle.scim_value.specs.Resource.{first_at}
use Rattle.scim_value.specs.Uniqueness.{Name, name_of, name_at, unique_names, AreApart}
use Rattle.scim_shelf.specs.Stores.{is_same_name}
use Rattle.scim_shelf.proofs.Facts.{by_bool, is_same_name-Decides, is_same_name-flips}
use Rattle.scim_shelf.specs.Owners.{is_among}
use Rattle.scim_store_tables.specs.Lists.{has_texts}
use Rattle.scim_store_rows.specs.Stands.{Entry, name_row, name_rows}
use Rattle.scim_store_rows.proofs.Facts.{simple_names, leaf_texts}
use Rattle.scim_store.specs.Edits.{is_name, names_in, names_beyond}

-- the name is at an attribute without sub-attributes
abbrev pub IsSimple : Name → Type 0
IsSimple n = n.leaf ≡ simple n.leaf.attribute

-- ---- the names of a resource

simple_in : (o : Option Content) → All IsSimple (names_in o)
simple_in None = All-nil _
simple_in (Some c) = simple_names c

pub distinct_join : {X : Type 0} (same : X → X → Bool) (xs ys : List X) → IsDistinct same xs → IsDistinct same ys → AllByRecursion (λ x. AllByRecursion (λ y. same x y ≡ false) ys) xs → IsDistinct same (xs ++ ys)
unfolding IsDistinct
distinct_join same [] ys one two across = two
distinct_join same (x ∷ xs) ys one two across = (all-append (λ y. same x y ≡ false) xs ys one.0 across.0, distinct_join same xs ys one.1 two across.1)

-- at most one name, which is at the leaf
name_once : (kind : Kind) (l : Leaf) (o : Option Atom) → IsDistinct is_same_name (name_at kind l o) × AllByRecursion (λ (n : Name). n.leaf ≡ l) (name_at kind l o)
unfolding IsDistinct
name_once kind l None = (tt, tt)
name_once kind l (Some (Text t)) = ((tt, tt), (refl, tt))
name_once kind l (Some (Truth b)) = (tt, tt)
name_once kind l (Some (Moment m)) = (tt, tt)

module _ (c : Content) where
  abbrev at_leaf : Leaf → List Name
  at_leaf l = name_at c.kind l (first_at l c)

  -- a name is none of those at other leaves
  other_leaves : (n : Name) (ls : List Leaf) → AllByRecursion (λ l. is_same_leaf n.leaf l ≡ false) ls → AllByRecursion (λ m. is_same_name n m ≡ false) (flat_map at_leaf ls)
  other_leaves n [] apart = tt
  other_leaves n (l ∷ ls) apart =
      all-append (λ m. is_same_name n m ≡ false) (at_leaf l) (flat_map at_leaf ls)
      (all_weaker (λ (m : Name). m.leaf ≡ l) (λ m. is_same_name n m ≡ false) (λ m at. ap (λ b. b && pointwise nat_eq n.text m.text) (ap (is_same_leaf n.leaf) at ∙ apart.0)) (at_leaf l) (name_once c.kind l (first_at l c)).1)
      (other_leaves n ls apart.1)

  names_once : (ls : List Leaf) → IsDistinct is_same_leaf ls → IsDistinct is_same_name (flat_map at_leaf ls)
  unfolding IsDistinct
  names_once [] once = tt
  names_once (l ∷ ls) once =
      (let one = name_once c.kind l (first_at l c) in
      distinct_join is_same_name (at_leaf l) (flat_map at_leaf ls) one.0 (names_once ls once.1)
      (all_weaker (λ (n : Name). n.leaf ≡ l) (λ n. AllByRecursion (λ m. is_same_name n m ≡ false) (flat_map at_leaf ls)) (λ n at. other_leaves n ls (subst (λ k. AllByRecursion (λ m. is_same_leaf k m ≡ false) ls) (sym at) once.0)) (at_leaf l) one.1))

unique_leaves_once : (kind : Kind) → IsDistinct is_same_leaf (unique_leaves kind)
unfolding unique_leaves IsDistinct
unique_leaves_once User = ((refl, tt), (tt, tt))
unique_leaves_once Group = tt

-- no name is there twice
pub unique_once : (c : Content) → IsDistinct is_same_name (unique_names c)
unique_once c = names_once c (unique_leaves c.kind) (unique_leaves_once c.kind)

none_once : IsDistinct is_same_name []
unfolding IsDistinct
none_once = tt

once_in : (o : Option Content) → IsDistinct is_same_name (names_in o)
once_in None = none_once
once_in (Some c) = unique_once c

-- ---- what comes and what stays

abbrev among : List Name → Name → Bool
among ns n = list_any (is_same_name n) ns

itself : (n : Name) → is_same_name n n ≡ true
itself n = (is_same_name-Decides n n).1 refl

-- what passes one of two tests, of which no name passes both
either : (q p : Name → Bool) → ((n : Name) → q n ≡ true → p n ≡ false) → (ns : List Name) → IsPermutation (filter (λ n. q n || p n) ns) (filter q ns ++ filter p ns)
either q p apart [] = IsPermutation-refl []
either q p apart (n ∷ ns) = go (q n) (p n) refl refl (either q p apart ns)
  where
    go : (a b : Bool) → q n ≡ a → p n ≡ b → IsPermutation (filter (λ m. q m || p m) ns) (filter q ns ++ filter p ns)
        → IsPermutation (cond (a || b) (n ∷ filter (λ m. q m || p m) ns) (filter (λ m. q m || p m) ns)) (cond a (n ∷ filter q ns) (filter q ns) ++ cond b (n ∷ filter p ns) (filter p ns))
    go true true e f rest = (let c : true ≡ false = sym f ∙ apart n e in absurd cc)
    go true false e f rest = IsPermutation-cons n _ _ rest
    go false true e f rest = IsPermutation-trans _ _ _ (IsPermutation-cons n _ _ rest) (IsPermutation-sym _ _ (IsPermutation-middle (filter q ns) n (filter p ns)))
    go false false e f rest = rest

-- the names that are one name, where none is there twice
only : (x : Name) (ns : List Name) → IsDistinct is_same_name ns → filter (λ n. is_same_name n x) ns ≡ cond (among ns x) (x ∷ []) []
unfolding IsDistinct
only x [] once = refl
only x (n ∷ ns) once = by_bool (is_same_name x n)
    (λ t.
    (let back : is_same_name n x ≡ true = is_same_name-flips n x ∙ t in
    let is : n ≡ x = (is_same_name-Decides n x).0 back in
    let none : filter (λ m. is_same_name m x) ns ≡ [] = filter_none (λ m. is_same_name m x) ns (all_weaker (λ m. is_same_name n m ≡ false) (λ m. is_same_name m x ≡ false) (λ m f. ap (is_same_name m) (sym is) ∙ is_same_name-flips m n ∙ f) ns once.0) in
    rw (back, t) (λ i. is i ∷ none i)))
    (λ f. (let back : is_same_name n x ≡ false = is_same_name-flips n x ∙ f in rw (back, f) (only x ns once.1)))

none_among : (x : Name) (ns : List Name) → AllByRecursion (λ n. is_same_name x n ≡ false) ns → among ns x ≡ false
none_among x [] apart = refl
none_among x (n ∷ ns) apart = (let rest = none_among x ns apart.1 in (λ i. apart.0 i || rest i))

-- the names that two lists share
shared : (xs ys : List Name) → IsDistinct is_same_name xs → IsDistinct is_same_name ys → IsPermutation (filter (among xs) ys) (filter (among ys) xs)
unfolding IsDistinct
shared [] ys one two = IsPermutation-same _ _ (filter_none (λ n. false) ys (all_of (λ n. false ≡ false) (λ n. refl) ys))
shared (x ∷ xs) ys one two =
    IsPermutation-trans _ _ _ (either (λ n. is_same_name n x) (among xs) (λ n t. (let is : n ≡ x = (is_same_name-Decides n x).0 t in ap (among xs) is ∙ none_among x xs one.0)) ys)
    (IsPermutation-trans _ _ _ (IsPermutation-append _ _ _ _ (IsPermutation-same _ _ (only x ys two)) (shared xs ys one.1 two)) (IsPermutation-same _ _ (front (among ys x))))
  where
    front : (b : Bool) → cond b (x ∷ []) [] ++ filter (among ys) xs ≡ cond b (x ∷ filter (among ys) xs) (filter (among ys) xs)
    front true = refl
    front false = refl

-- of some names, those stay that are not among those of them that are beyond others
stays : (others ns : List Name) → AllByRecursion (λ n. among ns n ≡ true) ns → names_beyond (names_beyond others ns) ns ≡ filter (among others) ns
stays others ns all = filter_same (λ n. not (among (names_beyond others ns) n)) (among others) ns (all_weaker (λ n. among ns n ≡ true) (λ n. not (among (names_beyond others ns) n) ≡ among others n) (λ n here. ap not (beyond n ns ∙ ap (λ b. b && not (among others n)) here) ∙ twice (among others n)) ns all)
  where
    twice : (b : Bool) → not (not b) ≡ b
    twice true = refl
    twice false = refl

    beyond : (n : Name) (ms : List Name) → among (names_beyond others ms) n ≡ among ms n && not (among others n)
    beyond n [] = refl
    beyond n (m ∷ ms) = by_bool (among others m)
        (λ t. by_bool (is_same_name n m)
        (λ s. (let out : among others n ≡ true = ap (among others) ((is_same_name-Decides n m).0 s) ∙ t in rw (t, s) (beyond n ms ∙ (λ i. among ms n && not (out i)) ∙ never (among ms n) ∙ sym (ap not out))))
        (λ f. rw (t, f) (beyond n ms)))
        (λ f. by_bool (is_same_name n m)
        (λ s. (let out : among others n ≡ false = ap (among others) ((is_same_name-Decides n m).0 s) ∙ f in rw (f, s) (sym (ap not out))))
        (λ g. rw (f, g) (beyond n ms)))
      where
        never : (b : Bool) → (b && false) ≡ false
        never true = refl
        never false = refl

-- each name is among the names
each_among : (ns : List Name) → AllByRecursion (λ n. among ns n ≡ true) ns
each_among [] = tt
each_among (n ∷ ns) = (ap (λ b. b || among ns n) (itself n), all_weaker (λ m. among ns m ≡ true) (λ m. among (n ∷ ns) m ≡ true) (λ m h. or_last (is_same_name m n) (among ns m) h) ns (each_among ns))
  where
    or_last : (a b : Bool) → b ≡ true → (a || b) ≡ true
    or_last true b h = refl
    or_last false b h = h

-- the names that come and those that stay are the new ones
pub swapped : (old new : Option Content) → IsPermutation (names_beyond (names_in old) (names_in new) ++ names_beyond (names_beyond (names_in new) (names_in old)) (names_in old)) (names_in new)
swapped old new =
    let xs = names_in old in
    let ys = names_in new in
    let left : IsPermutation (names_beyond (names_beyond ys xs) xs) (filter (among xs) ys) = IsPermutation-trans _ _ _ (IsPermutation-same _ _ (stays ys xs (each_among xs))) (IsPermutation-sym _ _ (shared xs ys (once_in old) (once_in new))) in
    IsPermutation-trans _ _ _ (IsPermutation-append_right (names_beyond xs ys) _ _ left)
    (IsPermutation-sym _ _ (IsPermutation-filter_both (λ n. not (among xs n)) (among xs) (λ n. twice (among xs n)) ys))
  where
    twice : (b : Bool) → b ≡ not (not b)
    twice true = refl
    twice false = refl

-- ---- whether a row is that of a name

abbrev has_name_row : Row → Name → Bool
has_name_row row n = has_texts (attribute_name n.leaf.attribute) n.text row

is_name_of : (names : List UniqueName) (row : Row) → is_name names row ≡ list_any (has_name_row row) (map name_of names)
is_name_of [] row = refl
is_name_of (n ∷ names) row = ap (λ b. has_name_row row (name_of n) || b) (is_name_of names row)

one_row : (id : List ℕ) (n m : Name) → IsSimple n → IsSimple m → has_name_row (name_row id n) m ≡ is_same_name n m
one_row id n m one two = (λ i. leaf_texts n.leaf m.leaf one two i && is_eq-slice_cmp n.text m.text i)

-- a row is that of one of some names where its name is one of them
named_row : (id : List ℕ) (n : Name) (ms : List Name) → IsSimple n → All IsSimple ms → list_any (has_name_row (name_row id n)) ms ≡ list_any (is_same_name n) ms
named_row id n [] is are = refl
named_row id n (m ∷ ms) is are =
    let one = one_row id n m is (All-head IsSimple m ms are) in
    let rest = named_row id n ms is (All-tail IsSimple m ms are) in
    (λ i. one i || rest i)

goes_as : (id : List ℕ) (gone : List UniqueName) (gs : List Name) (n : Name) → map name_of gone ≡ gs → All IsSimple gs → IsSimple n → is_name gone (name_row id n) ≡ list_any (is_same_name n) gs
goes_as id gone gs n is are leaf = is_name_of gone (name_row id n) ∙ ap (list_any (has_name_row (name_row id n))) is ∙ named_row id n gs leaf are

-- those that go are some of the old ones
gone_leaves : (new : List Name) (old : Option Content) → All IsSimple (names_beyond new (names_in old))
gone_leaves new old = All-filter (λ n. not (list_any (is_same_name n) new)) IsSimple (names_in old) (simple_in old)

-- of the names of the resource those stay that don't go
pub names_kept : (id : List ℕ) (gone : List UniqueName) (new : List Name) (old : Option Content) → map name_of gone ≡ names_beyond new (names_in old)
    → filter (λ r. not (is_name gone r)) (map (name_row id) (names_in old)) ≡ map (name_row id) (names_beyond (names_beyond new (names_in old)) (names_in old))
names_kept id gone new old is =
    let ns = names_in old in
    let gs = names_beyond new ns in
    let each : All (λ n. not (is_name gone (name_row id n)) ≡ not (list_any (is_same_name n) gs)) ns =
    All-weaker IsSimple (λ n. not (is_name gone (name_row id n)) ≡ not (list_any (is_same_name n) gs)) (λ n leaf. ap not (goes_as id gone gs n is (gone_leaves new old) leaf)) ns (simple_in old) in
    filter-map (λ r. not (is_name gone r)) (name_row id) ns
    ∙ ap (map (name_row id)) (filter_same (λ n. not (is_name gone (name_row id n))) (λ n. not (list_any (is_same_name n) gs)) ns (recursion_from_All (λ n. not (is_name gone (name_row id n)) ≡ not (list_any (is_same_name n) gs)) ns each))

no_name : (n : Name) (ms : List Name) → All (λ m. m ≢ n) ms → list_any (is_same_name n) ms ≡ false
no_name n [] apart = refl
no_name n (m ∷ ms) apart =
    by_bool (is_same_name n m)
    (λ t. absurd (All-head (λ x. x ≢ n) m ms apart (sym ((is_same_name-Decides n m).0 t))))
    (λ f. rw f (no_name n ms (All-tail (λ x. x ≢ n) m ms apart)))

-- the names of a resource that is apart stay
pub names_stay : (gone : List UniqueName) (new : List Name) (old : Content) (d : Entry) → map name_of gone ≡ names_beyond new (unique_names old) → AreApart old d.content → All (λ r. not (is_name gone r) ≡ true) (name_rows d)
names_stay gone new old d is apart =
    All-map (λ r. not (is_name gone r) ≡ true) (name_row d.content.id) (unique_names d.content) (λ k e low.
    (let n = get_or (unique_names d.content) k e in
    let there : Contains (unique_names d.content) n = Contains-get_or (unique_names d.content) k e low in
    let differ : All (λ m. m ≢ n) (unique_names old) =
    All-weaker (Contains (unique_names old)) (λ m. m ≢ n) (λ m here same. apart.names n (subst (Contains (unique_names old)) same here) there) (unique_names old) (All-contains_itself (unique_names old)) in
    let left = All-filter (λ m. not (list_any (is_same_name m) new)) (λ m. m ≢ n) (unique_names old) differ in
    ap not (goes_as d.content.id gone (names_beyond new (unique_names old)) n is (gone_leaves new (Some old)) (simple_names d.content k e low) ∙ no_name n (names_beyond new (unique_names old)) left)))

-- no row is that of one of no names
pub none_named : (gone : List UniqueName) (rows : List Row) → map name_of gone ≡ [] → All (λ r. not (is_name gone r) ≡ true) rows
none_named gone rows is = λ k d low. ap not (is_name_of gone (get_or rows k d) ∙ ap (list_any (λ n. has_texts (attribute_name n.leaf.attribute) n.text (get_or rows k d))) is)

-- ---- names as the code has them

among_named : (q : UniqueName) (names : List UniqueName) → is_among q names ≡ list_any (is_same_name (name_of q)) (map name_of names)
among_named q [] = refl
among_named q (n ∷ names) = (λ i. is_same_name-flips (name_of n) (name_of q) i || among_named q names i)

pub beyond_named : (others names : List UniqueName) → map name_of (filter (λ q. not (is_among q others)) names) ≡ names_beyond (map name_of others) (map name_of names)
beyond_named others names =
    (λ i. map name_of (filter (λ q. not (among_named q others i)) names))
    ∙ sym (filter-map (λ n. not (list_any (is_same_name n) (map name_of others))) name_of names)
