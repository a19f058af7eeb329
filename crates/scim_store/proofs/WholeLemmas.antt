-- Where the rows of each id hold, all rows are those of resources.
use Rattle.std.proofs.Common.{◌≡◌, ℕ, refl, sym, ◌∙◌, ap, subst, Bool, true, false, ◌&&◌, ◌||◌, cond, List, [], ◌∷◌, ◌++◌, map, filter}
use Rattle.std.specs.Prelude.{All, Contains, Option, None, Some, IsPermutation}
use Rattle.std.specs.Option.{option_to_list}
use Rattle.std.specs.List.{flat_map, list_any, AllByRecursion, IsDistinct}
use Rattle.std.specs.List.Sorted.{IsStrictlySortedBy}
use Rattle.std.specs.Ordering.{nat_cmp, is_eq, ordering_reverse}
use Rattle.std.specs.declared.cmp.Ordering.{Ordering}
use Rattle.std.specs.declared.cmp.Ordering.TheVariants.{Less, Equal, Greater}
use Rattle.std.specs.Cmp.Lexicographic.{slice_cmp}
use Rattle.std.proofs.lemmas.Cmp.{tied_itself}
use Rattle.std.proofs.lemmas.List.{map-append}
use Rattle.std.proofs.lemmas.List.Elements.{All-nil, All-head, All-tail, All-append, All-contains, All-from_recursion, recursion_from_All, filter_passes}
use Rattle.std.proofs.lemmas.List.Sorted.{IsPermutation-refl, IsPermutation-cons, IsPermutation-middle, IsPermutation-trans, IsPermutation-sym, IsPermutation-append_right, IsPermutation-append, All-permutation}
use Rattle.std.proofs.lemmas.Grind.{flat_map-append}
use Rattle.std.proofs.lemmas.Map.Keys.{sorted_head, sorted_tail, IsDistinct-IsPermutation}
use Rattle.sqlite_trees.proofs.ListLemmas.{IsPermutation-same, flat_map_none, map-flat_map, all_weaker}
use Rattle.sqlite.specs.declared.types.Value.TheVariants.{Text}
use Rattle.sqlite.specs.Order.{Row, column, value_cmp}
use Rattle.sqlite_value.proofs.OrderLemmas.{value_cmp_total}
use Rattle.scim_schema.specs.Names.{attribute_name}
use Rattle.scim_cell.specs.Ids.{IsId, id_text}
use Rattle.scim_cell.proofs.Facts.{id_text-injective}
use Rattle.scim_shelf.specs.Stores.{AreKeyed}
use Rattle.scim_shelf.proofs.Facts.{AreAbove}
use Rattle.scim_shelf.proofs.Facts.{keyed_nil, keyed_cons, ids_differ}
use Rattle.scim_store_tables.specs.declared.versions.Version.{Version}
use Rattle.scim_store_tables.specs.Reading.{owner_first, group_first}
use Rattle.scim_value.specs.Uniqueness.{Name, AreApart, unique_names}
use Rattle.scim_store.specs.Owners.{is_of}
use Rattle.scim_store.specs.Damage.{Tables, IsEntryIn, AreThoseOf, AreSound, HoldsAt, rows_at, AreOwned, is_shared}
use Rattle.scim_store_rows.specs.Stands.{Entry, resource_row, name_row, name_rows, member_rows, secret_rows}
use Rattle.scim_store_tables.proofs.Facts.{text_of}
use Rattle.scim_store.proofs.IdTextLemmas.{same_owner}
use Rattle.scim_store_rows.proofs.Facts.{contents}
use Rattle.scim_store.proofs.SoundLemmas.{sound_id}

-- ---- rows by their owners

-- a row of one id is of none that follows it
none_of_later : (k : List ℕ) (r : Row) (ks : List (List ℕ)) → IsId k → AllByRecursion IsId ks → is_of k r ≡ true → AllByRecursion (λ j. slice_cmp nat_cmp k j ≡ Less) ks → (F : List ℕ → List Row)
    → flat_map (λ j. cond (is_of j r) (r ∷ F j) (F j)) ks ≡ flat_map F ks
none_of_later k r [] is are of up F = refl
none_of_later k r (j ∷ ks) is are of up F =
    (let out : is_of j r ≡ false = same_owner k j r is are.0 of ∙ ap is_eq up.0 in
    let rest = none_of_later k r ks is are.1 of up.1 F in
    (λ i. cond (out i) (r ∷ F j) (F j) ++ rest i))

-- a row that is of one of the ids stands among the rows of that one
one_put : (r : Row) (F : List ℕ → List Row) (ks : List (List ℕ)) → IsStrictlySortedBy (slice_cmp nat_cmp) ks → AllByRecursion IsId ks → list_any (λ k. is_of k r) ks ≡ true
    → IsPermutation (r ∷ flat_map F ks) (flat_map (λ k. cond (is_of k r) (r ∷ F k) (F k)) ks)
one_put r F [] up are of = absurd cc
one_put r F (k ∷ ks) up are of = go (is_of k r) refl of (one_put r F ks (sorted_tail (slice_cmp nat_cmp) k ks up) are.1)
  where
    G : List ℕ → List Row
    G j = cond (is_of j r) (r ∷ F j) (F j)

    go : (b : Bool) → is_of k r ≡ b → (b || list_any (λ j. is_of j r) ks) ≡ true → (list_any (λ j. is_of j r) ks ≡ true → IsPermutation (r ∷ flat_map F ks) (flat_map G ks))
        → IsPermutation (r ∷ (F k ++ flat_map F ks)) (cond b (r ∷ F k) (F k) ++ flat_map G ks)
    go true e of rest = IsPermutation-same _ _ (ap (λ l. r ∷ (F k ++ l)) (sym (none_of_later k r ks are.0 are.1 e (sorted_head (slice_cmp nat_cmp) k ks up) F)))
    go false e of rest = IsPermutation-trans _ _ _ (IsPermutation-sym _ _ (IsPermutation-middle (F k) r (flat_map F ks))) (IsPermutation-append_right (F k) _ _ (rest of))

-- rows that are each of one of some ids are those of each of these
pub grouped : (ks : List (List ℕ)) → IsStrictlySortedBy (slice_cmp nat_cmp) ks → AllByRecursion IsId ks → (rows : List Row) → All (AreOwned ks) rows → IsPermutation rows (flat_map (λ k. filter (is_of k) rows) ks)
grouped ks up are [] of = IsPermutation-same _ _ (sym (flat_map_none (λ k. []) (λ k. refl) ks))
grouped ks up are (r ∷ rows) of =
    IsPermutation-trans _ _ _ (IsPermutation-cons r _ _ (grouped ks up are rows (All-tail (AreOwned ks) r rows of)))
    (one_put r (λ k. filter (is_of k) rows) ks up are (All-head (AreOwned ks) r rows of))

-- ---- the resources of ids

-- the resources whose rows are those of some ids
record Collected (version : Version) (base : List ℕ) (tables : Tables) (ks : List (List ℕ)) : Type 0 where
  entries : List Entry
  sound : All (IsEntryIn version base) entries
  above : (x : List ℕ) → AllByRecursion (λ k. slice_cmp nat_cmp x k ≡ Less) ks → AreAbove x (contents entries)
  rising : IsStrictlySortedBy (λ (a b : Entry). slice_cmp nat_cmp a.content.id b.content.id) entries
  resources : IsPermutation (flat_map (λ k. filter (is_of k) tables.resources) ks) (map resource_row entries)
  names : IsPermutation (flat_map (λ k. filter (is_of k) tables.names) ks) (map owner_first (flat_map name_rows entries))
  members : IsPermutation (flat_map (λ k. filter (is_of k) tables.members) ks) (map group_first (flat_map member_rows entries))
  secrets : IsPermutation (flat_map (λ k. filter (is_of k) tables.secrets) ks) (flat_map secret_rows entries)

-- the one resource of an id has it
own_key : (version : Version) (base : List ℕ) (tables : Tables) (k : List ℕ) (e : Entry) → IsId k → AreThoseOf version base (e ∷ []) (rows_at k tables) → e.content.id ≡ k
own_key version base tables k e is are =
    (let passes = All-permutation (λ r. is_of k r ≡ true) _ (resource_row e ∷ []) are.resources (filter_passes (is_of k) tables.resources) in
    let here : is_of k (resource_row e) ≡ true = All-head (λ r. is_of k r ≡ true) (resource_row e) [] passes in
    id_text-injective e.content.id k (sound_id version base e (All-head (IsEntryIn version base) e [] are.sound)) is (text_one (text_of (id_text k) (Text (id_text e.content.id)) here)))
  where
    text_one : {a b : List ℕ} → Text a ≡ Text b → a ≡ b
    text_one h = cc

nil_rising : IsStrictlySortedBy (λ (a b : Entry). slice_cmp nat_cmp a.content.id b.content.id) []
unfolding IsStrictlySortedBy
nil_rising = tt

cons_rising : (e : Entry) (es : List Entry) → AllByRecursion (λ (b : Entry). slice_cmp nat_cmp e.content.id b.content.id ≡ Less) es → IsStrictlySortedBy (λ (a b : Entry). slice_cmp nat_cmp a.content.id b.content.id) es
    → IsStrictlySortedBy (λ (a b : Entry). slice_cmp nat_cmp a.content.id b.content.id) (e ∷ es)
unfolding IsStrictlySortedBy
cons_rising e es up rising = (up, rising)

contents_above : (x : List ℕ) (es : List Entry) → AreAbove x (contents es) → AllByRecursion (λ (b : Entry). slice_cmp nat_cmp x b.content.id ≡ Less) es
contents_above x [] up = tt
contents_above x (e ∷ es) up = (up.0, contents_above x es up.1)

collected : (version : Version) (base : List ℕ) (tables : Tables) (ks : List (List ℕ)) → IsStrictlySortedBy (slice_cmp nat_cmp) ks → AllByRecursion IsId ks → ((id : List ℕ) → IsId id → HoldsAt version base tables id) → Collected version base tables ks
collected version base tables [] up are holds = record {
  entries = [];
  sound = All-nil (IsEntryIn version base);
  above = λ x _. tt;
  rising = nil_rising;
  resources = IsPermutation-refl [];
  names = IsPermutation-refl [];
  members = IsPermutation-refl [];
  secrets = IsPermutation-refl [];
}
collected version base tables (k ∷ ks) up are holds = go (holds k are.0).0 (holds k are.0).1 (collected version base tables ks (sorted_tail (slice_cmp nat_cmp) k ks up) are.1 holds)
  where
    later : AllByRecursion (λ j. slice_cmp nat_cmp k j ≡ Less) ks
    later = sorted_head (slice_cmp nat_cmp) k ks up

    go : (o : Option Entry) → AreThoseOf version base (option_to_list o) (rows_at k tables) → Collected version base tables ks → Collected version base tables (k ∷ ks)
    go None of rest = record {
      entries = rest.entries;
      sound = rest.sound;
      above = λ x low. rest.above x low.1;
      rising = rest.rising;
      resources = IsPermutation-append _ [] _ _ of.resources rest.resources;
      names = IsPermutation-append _ [] _ _ of.names rest.names;
      members = IsPermutation-append _ [] _ _ of.members rest.members;
      secrets = IsPermutation-append _ [] _ _ of.secrets rest.secrets;
    }
    go (Some e) of rest =
        (let key : e.content.id ≡ k = own_key version base tables k e are.0 of in
        record {
          entries = e ∷ rest.entries;
          sound = All-append (IsEntryIn version base) (e ∷ []) rest.entries of.sound rest.sound;
          above = λ x low. (ap (slice_cmp nat_cmp x) key ∙ low.0, rest.above x low.1);
          rising = cons_rising e rest.entries (contents_above e.content.id rest.entries (rest.above e.content.id (subst (λ j. AllByRecursion (λ i. slice_cmp nat_cmp j i ≡ Less) ks) (sym key) later))) rest.rising;
          resources = IsPermutation-append _ (resource_row e ∷ []) _ _ of.resources rest.resources;
          names =
              IsPermutation-trans _ _ _ (IsPermutation-append _ (map owner_first (flat_map name_rows (e ∷ []))) _ _ of.names rest.names)
              (IsPermutation-same _ _ (sym (map-append owner_first (flat_map name_rows (e ∷ [])) (flat_map name_rows rest.entries)) ∙ ap (map owner_first) (sym (flat_map-append name_rows (e ∷ []) rest.entries))));
          members =
              IsPermutation-trans _ _ _ (IsPermutation-append _ (map group_first (flat_map member_rows (e ∷ []))) _ _ of.members rest.members)
              (IsPermutation-same _ _ (sym (map-append group_first (flat_map member_rows (e ∷ [])) (flat_map member_rows rest.entries)) ∙ ap (map group_first) (sym (flat_map-append member_rows (e ∷ []) rest.entries))));
          secrets = IsPermutation-trans _ _ _ (IsPermutation-append _ (flat_map secret_rows (e ∷ [])) _ _ of.secrets rest.secrets) (IsPermutation-same _ _ (sym (flat_map-append secret_rows (e ∷ []) rest.entries)));
        })

-- ---- names that nobody shares

turned : (o : Ordering) → is_eq (ordering_reverse o) ≡ is_eq o
turned Less = refl
turned Equal = refl
turned Greater = refl

pub shared_flips : (r s : Row) → is_shared r s ≡ is_shared s r
shared_flips r s = (λ i. flips 1 i && flips 2 i)
  where
    flips : (place : ℕ) → is_eq (value_cmp (column r place) (column s place)) ≡ is_eq (value_cmp (column s place) (column r place))
    flips place = ap is_eq (value_cmp_total.antisymm (column r place) (column s place)) ∙ turned (value_cmp (column s place) (column r place))

pub distinct_parts : (xs ys : List Row) → IsDistinct is_shared (xs ++ ys) → AllByRecursion (λ x. AllByRecursion (λ y. is_shared x y ≡ false) ys) xs × IsDistinct is_shared ys
unfolding IsDistinct
distinct_parts [] ys h = (tt, h)
distinct_parts (x ∷ xs) ys h = (let rest = distinct_parts xs ys h.1 in ((right xs ys h.0, rest.0), rest.1))
  where
    right : (us vs : List Row) → AllByRecursion (λ y. is_shared x y ≡ false) (us ++ vs) → AllByRecursion (λ y. is_shared x y ≡ false) vs
    right [] vs a = a
    right (u ∷ us) vs a = right us vs a.1

-- the rows of a name of one resource and of a name of another differ, so the names do
names_differ : (a b : Entry) (n : Name) → AllByRecursion (λ x. AllByRecursion (λ y. is_shared x y ≡ false) (map owner_first (name_rows b))) (map owner_first (name_rows a)) → Contains (unique_names a.content) n → Contains (unique_names b.content) n → ⊥
names_differ a b n all in_a in_b =
    (let one = All-contains (λ m. AllByRecursion (λ y. is_shared (owner_first (name_row a.content.id m)) y ≡ false) (map owner_first (name_rows b))) (unique_names a.content) n (All-from_recursion _ _ (under a.content.id (λ x. AllByRecursion (λ y. is_shared x y ≡ false) (map owner_first (name_rows b))) (unique_names a.content) all)) in_a in
    let two : is_shared (owner_first (name_row a.content.id n)) (owner_first (name_row b.content.id n)) ≡ false = All-contains (λ m. is_shared (owner_first (name_row a.content.id n)) (owner_first (name_row b.content.id m)) ≡ false) (unique_names b.content) n (All-from_recursion _ _ (under b.content.id (λ y. is_shared (owner_first (name_row a.content.id n)) y ≡ false) (unique_names b.content) one)) in_b in
    let c : true ≡ false = sym (λ i. is_eq (tied_itself value_cmp_total (Text (attribute_name n.leaf.attribute)) i) && is_eq (tied_itself value_cmp_total (Text n.text) i)) ∙ two in cc)
  where
    under : (id : List ℕ) (P : Row → Type 0) (ns : List Name) → AllByRecursion P (map owner_first (map (name_row id) ns)) → AllByRecursion (λ m. P (owner_first (name_row id m))) ns
    under id P [] h = tt
    under id P (m ∷ ns) h = (h.0, under id P ns h.1)

apart_all : (e : Entry) (es : List Entry) → AllByRecursion (λ (b : Entry). slice_cmp nat_cmp e.content.id b.content.id ≡ Less) es → AllByRecursion (λ x. AllByRecursion (λ y. is_shared x y ≡ false) (flat_map (λ b. map owner_first (name_rows b)) es)) (map owner_first (name_rows e)) → AllByRecursion (AreApart e.content) (contents es)
apart_all e [] up all = tt
apart_all e (b ∷ es) up all = (
  record { ids = ids_differ e.content.id b.content.id up.0; names = λ n in_e in_b. names_differ e b n (all_weaker _ _ (λ x h. left x (map owner_first (name_rows b)) _ h) _ all) in_e in_b },
  apart_all e es up.1 (all_weaker _ _ (λ x h. right x (map owner_first (name_rows b)) _ h) _ all),
)
  where
    left : (x : Row) (us vs : List Row) → AllByRecursion (λ y. is_shared x y ≡ false) (us ++ vs) → AllByRecursion (λ y. is_shared x y ≡ false) us
    left x [] vs a = tt
    left x (u ∷ us) vs a = (a.0, left x us vs a.1)

    right : (x : Row) (us vs : List Row) → AllByRecursion (λ y. is_shared x y ≡ false) (us ++ vs) → AllByRecursion (λ y. is_shared x y ≡ false) vs
    right x [] vs a = a
    right x (u ∷ us) vs a = right x us vs a.1

above_contents : (x : List ℕ) (es : List Entry) → AllByRecursion (λ (b : Entry). slice_cmp nat_cmp x b.content.id ≡ Less) es → AreAbove x (contents es)
above_contents x [] up = tt
above_contents x (e ∷ es) up = (up.0, above_contents x es up.1)

pub keyed_all : (es : List Entry) → IsStrictlySortedBy (λ (a b : Entry). slice_cmp nat_cmp a.content.id b.content.id) es → IsDistinct is_shared (flat_map (λ b. map owner_first (name_rows b)) es) → AreKeyed (contents es)
keyed_all [] rising distinct = keyed_nil
keyed_all (e ∷ es) rising distinct =
    (let up = sorted_head (λ (a b : Entry). slice_cmp nat_cmp a.content.id b.content.id) e es rising in
    let parts = distinct_parts (map owner_first (name_rows e)) (flat_map (λ b. map owner_first (name_rows b)) es) distinct in
    keyed_cons e.content (contents es) (above_contents e.content.id es up) (All-from_recursion (AreApart e.content) (contents es) (apart_all e es up parts.0))
    (keyed_all es (sorted_tail (λ (a b : Entry). slice_cmp nat_cmp a.content.id b.content.id) e es rising) parts.1))

-- ---- all rows

-- where each row is of one of some ids, the rows of each id hold and no two rows have one name, all are those of resources
pub whole : (version : Version) (base : List ℕ) (tables : Tables) (ks : List (List ℕ)) → IsStrictlySortedBy (slice_cmp nat_cmp) ks → All IsId ks → All (AreOwned ks) tables.resources → All (AreOwned ks) tables.names → All (AreOwned ks) tables.members → All (AreOwned ks) tables.secrets
    → ((id : List ℕ) → IsId id → HoldsAt version base tables id) → IsDistinct is_shared tables.names → AreSound version base tables
whole version base tables ks up are r n m s holds distinct =
    (let ids = recursion_from_All IsId ks are in
    let all = collected version base tables ks up ids holds in
    let names : IsPermutation tables.names (map owner_first (flat_map name_rows all.entries)) = IsPermutation-trans _ _ _ (grouped ks up ids tables.names n) all.names in (
      all.entries,
      record {
        sound = all.sound;
        keyed = keyed_all all.entries all.rising (subst (IsDistinct is_shared) (map-flat_map owner_first name_rows all.entries) (IsDistinct-IsPermutation is_shared shared_flips _ _ names distinct));
        resources = IsPermutation-trans _ _ _ (grouped ks up ids tables.resources r) all.resources;
        names = names;
        members = IsPermutation-trans _ _ _ (grouped ks up ids tables.members m) all.members;
        secrets = IsPermutation-trans _ _ _ (grouped ks up ids tables.secrets s) all.secrets;
      },
    ))
