-- What the rows of the tables are, all in all.
use Rattle.std.proofs.Common.{◌≡◌, ℕ, refl, sym, ◌∙◌, ap, subst, Bool, true, false, ◌&&◌, ◌||◌, List, [], ◌∷◌, get_or, map}
use Rattle.std.specs.Prelude.{All, Contains, None}
use Rattle.std.specs.List.{flat_map, list_any, AllByRecursion, IsDistinct}
use Rattle.std.specs.List.Sorted.{IsStrictlySortedBy}
use Rattle.std.specs.Ordering.{nat_cmp, is_eq}
use Rattle.std.specs.declared.cmp.Ordering.{Ordering}
use Rattle.std.specs.declared.cmp.Ordering.TheVariants.{Less, Equal, Greater}
use Rattle.std.specs.Cmp.Lexicographic.{slice_cmp}
use Rattle.std.proofs.lemmas.List.Elements.{All-nil, All-append, All-head, All-tail, All-map, All-weaker, recursion_from_All, Contains-get_or}
use Rattle.std.proofs.lemmas.List.Folds.{list_any_at}
use Rattle.std.proofs.lemmas.List.Sorted.{IsPermutation-sym, All-permutation}
use Rattle.std.proofs.lemmas.Map.Keys.{IsDistinct-IsPermutation}
use Rattle.std.proofs.lemmas.Map.Lookups.{exact_bytes}
use Rattle.std.proofs.lemmas.Map.Text.{is_eq-slice_cmp}
use Rattle.sqlite_trees.proofs.ListLemmas.{IsPermutation-same, map-flat_map, all_of, all_both, all-append, all-map}
use Rattle.sqlite.specs.declared.types.Value.TheVariants.{Text}
use Rattle.sqlite.specs.Order.{Row, value_cmp}
use Rattle.sqlite_value.proofs.OrderLemmas.{value_cmp-Text}
use Rattle.scim_schema.specs.Names.{attribute_name}
use Rattle.scim_cell.specs.Content.{Content}
use Rattle.scim_cell.specs.Ids.{IsId, id_text}
use Rattle.scim_shelf.specs.Stores.{AreKeyed, is_same_name}
use Rattle.scim_shelf.proofs.Facts.{by_bool, is_same_name-Decides, keyed_nil, keyed_apart, keyed_tail}
use Rattle.scim_store_tables.specs.declared.versions.Version.{Version}
use Rattle.scim_store_tables.specs.Reading.{owner_first, group_first}
use Rattle.scim_value.specs.Uniqueness.{Name, AreApart, unique_names}
use Rattle.scim_store.specs.Owners.{is_of, HasOwner, is_owner}
use Rattle.scim_store.specs.Damage.{Tables, IsEntryIn, AreSound, HoldsAt, AreOwned, is_shared}
use Rattle.scim_store_rows.specs.Stands.{Entry, resource_row, name_row, name_rows, member_row, member_rows, secret_rows}
use Rattle.scim_store.specs.code.Damage.{HasName, AreAllOwned}
use Rattle.scim_store_rows.proofs.Facts.{tied}
use Rattle.scim_store_rows.proofs.Facts.{simple_names, leaf_texts}
use Rattle.scim_store.proofs.NameLemmas.{IsSimple, distinct_join, unique_once}
use Rattle.scim_store_rows.proofs.Facts.{contents, none_left}
use Rattle.scim_store.proofs.SoundLemmas.{sound_id, each_secret}
use Rattle.scim_store.proofs.WholeLemmas.{shared_flips, whole}

-- ---- rows of resources

all_flat : (P : Row → Type 0) (f : Entry → List Row) (es : List Entry) → All (λ e. All P (f e)) es → All P (flat_map f es)
all_flat P f [] all = All-nil P
all_flat P f (e ∷ es) all = All-append P (f e) (flat_map f es) (All-head (λ x. All P (f x)) e es all) (all_flat P f es (All-tail (λ x. All P (f x)) e es all))

-- each row of resources has an owner
pub sound_owned : (version : Version) (base : List ℕ) (tables : Tables) → AreSound version base tables → AreAllOwned tables
sound_owned version base tables (es, are) = record {
  resources = All-permutation HasOwner _ _ (IsPermutation-sym _ _ are.resources) (All-map HasOwner resource_row es (All-weaker (IsEntryIn version base) (λ e. HasOwner (resource_row e)) (λ e s. (e.content.id, sound_id version base e s, tied (id_text e.content.id))) es are.sound));
  names =
      All-permutation HasOwner _ _ (IsPermutation-sym _ _ are.names) (All-map HasOwner owner_first (flat_map name_rows es)
      (all_flat (λ r. HasOwner (owner_first r)) name_rows es (All-weaker (IsEntryIn version base) (λ e. All (λ r. HasOwner (owner_first r)) (name_rows e))
      (λ e s. All-map (λ r. HasOwner (owner_first r)) (name_row e.content.id) (unique_names e.content) (λ k d low. (e.content.id, sound_id version base e s, tied (id_text e.content.id)))) es are.sound)));
  members =
      All-permutation HasOwner _ _ (IsPermutation-sym _ _ are.members) (All-map HasOwner group_first (flat_map member_rows es)
      (all_flat (λ r. HasOwner (group_first r)) member_rows es (All-weaker (IsEntryIn version base) (λ e. All (λ r. HasOwner (group_first r)) (member_rows e))
      (λ e s. All-map (λ r. HasOwner (group_first r)) (member_row e.content.id) e.members (λ k d low. (e.content.id, sound_id version base e s, tied (id_text e.content.id)))) es are.sound)));
  secrets =
      All-permutation HasOwner _ _ (IsPermutation-sym _ _ are.secrets)
      (all_flat HasOwner secret_rows es (All-weaker (IsEntryIn version base) (λ e. All HasOwner (secret_rows e)) (λ e s. each_secret HasOwner e (λ text. (e.content.id, sound_id version base e s, tied (id_text e.content.id)))) es are.sound));
}

-- and each of a name has its attribute and its text
pub sound_named : (version : Version) (base : List ℕ) (tables : Tables) → AreSound version base tables → All HasName tables.names
sound_named version base tables (es, are) =
    All-permutation HasName _ _ (IsPermutation-sym _ _ are.names) (All-map HasName owner_first (flat_map name_rows es)
    (all_flat (λ r. HasName (owner_first r)) name_rows es (All-weaker (IsEntryIn version base) (λ e. All (λ r. HasName (owner_first r)) (name_rows e))
    (λ e s. All-map (λ r. HasName (owner_first r)) (name_row e.content.id) (unique_names e.content) (λ k d low. (let n = get_or (unique_names e.content) k d in (attribute_name n.leaf.attribute, n.text, refl, refl)))) es are.sound)))

-- ---- no two share a name

names_of : Entry → List Row
names_of e = map owner_first (name_rows e)

-- two rows are of one name where their names are the same
shared_names : (x y : List ℕ) (n m : Name) → IsSimple n → IsSimple m → is_shared (owner_first (name_row x n)) (owner_first (name_row y m)) ≡ is_same_name n m
shared_names x y n m one two =
    (λ i. is_eq (value_cmp-Text (attribute_name n.leaf.attribute) (attribute_name m.leaf.attribute) i) && is_eq (value_cmp-Text n.text m.text i))
    ∙ (λ i. leaf_texts n.leaf m.leaf one two i && is_eq-slice_cmp n.text m.text i)

-- the rows of names of which none is there twice
own_distinct : (id : List ℕ) (ns : List Name) → AllByRecursion IsSimple ns → IsDistinct is_same_name ns → IsDistinct is_shared (map owner_first (map (name_row id) ns))
unfolding IsDistinct
own_distinct id [] are once = tt
own_distinct id (n ∷ ns) are once = (
  all-map (λ y. is_shared (owner_first (name_row id n)) y ≡ false) owner_first (map (name_row id) ns)
      (all-map (λ r. is_shared (owner_first (name_row id n)) (owner_first r) ≡ false) (name_row id) ns
      (all_both IsSimple (λ m. is_same_name n m ≡ false) (λ m. is_shared (owner_first (name_row id n)) (owner_first (name_row id m)) ≡ false) (λ m is f. shared_names id id n m are.0 is ∙ f) ns are.1 once.0)),
  own_distinct id ns are.1 once.1,
)

tie : (o : Ordering) → is_eq o ≡ true → o ≡ Equal
tie Less h = absurd cc
tie Equal h = refl
tie Greater h = absurd cc

differ : (a b : Content) (x y : List ℕ) (n m : Name) → AreApart a b → IsSimple n → IsSimple m → Contains (unique_names a) n → Contains (unique_names b) m → is_shared (owner_first (name_row x n)) (owner_first (name_row y m)) ≡ false
differ a b x y n m apart one two in_a in_b = shared_names x y n m one two ∙ by_bool (is_same_name n m)
    (λ t. absurd (apart.names n in_a (subst (Contains (unique_names b)) (sym ((is_same_name-Decides n m).0 t)) in_b)))
    (λ f. f)

pair : (e d : Entry) → AreApart e.content d.content → AllByRecursion (λ x. AllByRecursion (λ y. is_shared x y ≡ false) (map owner_first (name_rows d))) (map owner_first (name_rows e))
pair e d apart =
    all-map (λ x. AllByRecursion (λ y. is_shared x y ≡ false) (map owner_first (name_rows d))) owner_first (name_rows e)
    (all-map (λ r. AllByRecursion (λ y. is_shared (owner_first r) y ≡ false) (map owner_first (name_rows d))) (name_row e.content.id) (unique_names e.content)
    (recursion_from_All (λ n. AllByRecursion (λ y. is_shared (owner_first (name_row e.content.id n)) y ≡ false) (map owner_first (name_rows d))) (unique_names e.content) (λ k n low.
    all-map (λ y. is_shared (owner_first (name_row e.content.id (get_or (unique_names e.content) k n))) y ≡ false) owner_first (name_rows d)
    (all-map (λ r. is_shared (owner_first (name_row e.content.id (get_or (unique_names e.content) k n))) (owner_first r) ≡ false) (name_row d.content.id) (unique_names d.content)
    (recursion_from_All (λ m. is_shared (owner_first (name_row e.content.id (get_or (unique_names e.content) k n))) (owner_first (name_row d.content.id m)) ≡ false) (unique_names d.content) (λ j m under.
    differ e.content d.content e.content.id d.content.id (get_or (unique_names e.content) k n) (get_or (unique_names d.content) j m) apart (simple_names e.content k n low) (simple_names d.content j m under) (Contains-get_or (unique_names e.content) k n low) (Contains-get_or (unique_names d.content) j m under)))))))

cross : (e : Entry) (es : List Entry) → AllByRecursion (AreApart e.content) (contents es) → AllByRecursion (λ x. AllByRecursion (λ y. is_shared x y ≡ false) (flat_map (λ d. map owner_first (name_rows d)) es)) (map owner_first (name_rows e))
cross e [] apart = all_of (λ x. AllByRecursion (λ y. is_shared x y ≡ false) []) (λ x. tt) (map owner_first (name_rows e))
cross e (d ∷ es) apart =
    all_both (λ x. AllByRecursion (λ y. is_shared x y ≡ false) (map owner_first (name_rows d))) (λ x. AllByRecursion (λ y. is_shared x y ≡ false) (flat_map (λ b. map owner_first (name_rows b)) es)) (λ x. AllByRecursion (λ y. is_shared x y ≡ false) (flat_map (λ b. map owner_first (name_rows b)) (d ∷ es)))
    (λ x p q. all-append (λ y. is_shared x y ≡ false) (map owner_first (name_rows d)) (flat_map (λ b. map owner_first (name_rows b)) es) p q) (map owner_first (name_rows e)) (pair e d apart.0) (cross e es apart.1)

nil_distinct : IsDistinct is_shared []
unfolding IsDistinct
nil_distinct = tt

distinct_rows : (es : List Entry) → AreKeyed (contents es) → IsDistinct is_shared (flat_map (λ d. map owner_first (name_rows d)) es)
distinct_rows [] keyed = nil_distinct
distinct_rows (e ∷ es) keyed =
    distinct_join is_shared (map owner_first (name_rows e)) (flat_map (λ d. map owner_first (name_rows d)) es)
    (own_distinct e.content.id (unique_names e.content) (recursion_from_All IsSimple (unique_names e.content) (simple_names e.content)) (unique_once e.content)) (distinct_rows es (keyed_tail e.content (contents es) keyed))
    (cross e es (recursion_from_All (AreApart e.content) (contents es) (keyed_apart e.content (contents es) keyed)))

pub sound_distinct : (version : Version) (base : List ℕ) (tables : Tables) → AreSound version base tables → IsDistinct is_shared tables.names
sound_distinct version base tables (es, are) =
    IsDistinct-IsPermutation is_shared shared_flips _ _ (IsPermutation-sym _ _ are.names)
    (subst (IsDistinct is_shared) (sym (map-flat_map owner_first name_rows es)) (distinct_rows es are.keyed))

-- ---- ids that rows belong to

-- an id that no row belongs to holds
pub none_holds : (version : Version) (base : List ℕ) (tables : Tables) (id : List ℕ) → (((is_owner tables.resources id || is_owner tables.names id) || is_owner tables.members id) || is_owner tables.secrets id) ≡ false → HoldsAt version base tables id
none_holds version base tables id out =
    (let whole = both_false ((is_owner tables.resources id || is_owner tables.names id) || is_owner tables.members id) (is_owner tables.secrets id) out in
    let outer = both_false (is_owner tables.resources id || is_owner tables.names id) (is_owner tables.members id) whole.0 in
    let inner = both_false (is_owner tables.resources id) (is_owner tables.names id) outer.0 in (
      None,
      record {
        sound = All-nil (IsEntryIn version base);
        keyed = keyed_nil;
        resources = IsPermutation-same _ _ (none_left (is_of id) tables.resources inner.0);
        names = IsPermutation-same _ _ (none_left (is_of id) tables.names inner.1);
        members = IsPermutation-same _ _ (none_left (is_of id) tables.members outer.1);
        secrets = IsPermutation-same _ _ (none_left (is_of id) tables.secrets whole.1);
      },
    ))
  where
    both_false : (a b : Bool) → (a || b) ≡ false → (a ≡ false) × (b ≡ false)
    both_false true b h = absurd cc
    both_false false b h = (refl, h)

among_owned : (row : Row) (id : List ℕ) (ks : List (List ℕ)) → is_of id row ≡ true → list_any (λ k. is_eq (slice_cmp nat_cmp id k)) ks ≡ true → list_any (λ k. is_of k row) ks ≡ true
among_owned row id [] of at = at
among_owned row id (k ∷ ks) of at = go (is_eq (slice_cmp nat_cmp id k)) refl at (among_owned row id ks of)
  where
    or_last : (a b : Bool) → b ≡ true → (a || b) ≡ true
    or_last true b h = refl
    or_last false b h = h

    go : (b : Bool) → is_eq (slice_cmp nat_cmp id k) ≡ b → (b || list_any (λ j. is_eq (slice_cmp nat_cmp id j)) ks) ≡ true → (list_any (λ j. is_eq (slice_cmp nat_cmp id j)) ks ≡ true → list_any (λ j. is_of j row) ks ≡ true) → (is_of k row || list_any (λ j. is_of j row) ks) ≡ true
    go true e h rest = ap (λ b. b || list_any (λ j. is_of j row) ks) (ap (λ j. is_of j row) (sym (exact_bytes id k (tie (slice_cmp nat_cmp id k) e))) ∙ of)
    go false e h rest = or_last (is_of k row) (list_any (λ j. is_of j row) ks) (rest h)

owned_by : (rows : List Row) (ks : List (List ℕ)) → ((id : List ℕ) → IsId id → is_owner rows id ≡ true → list_any (λ k. is_eq (slice_cmp nat_cmp id k)) ks ≡ true) → All HasOwner rows → All (AreOwned ks) rows
owned_by rows ks covers all k d low = (let has = all k d low in among_owned (get_or rows k d) has.0 ks has.2 (covers has.0 has.1 (list_any_at (is_of has.0) rows k d low has.2)))

or_before : (a b : Bool) → a ≡ true → (a || b) ≡ true
or_before true b h = refl
or_before false b h = absurd cc

or_behind : (a b : Bool) → b ≡ true → (a || b) ≡ true
or_behind true b h = refl
or_behind false b h = h

-- where all holds, the rows are those of resources
pub judged_sound : (version : Version) (base : List ℕ) (tables : Tables) (ks : List (List ℕ)) → IsStrictlySortedBy (slice_cmp nat_cmp) ks → All IsId ks
    → ((id : List ℕ) → IsId id → list_any (λ k. is_eq (slice_cmp nat_cmp id k)) ks ≡ (((is_owner tables.resources id || is_owner tables.names id) || is_owner tables.members id) || is_owner tables.secrets id))
    → ((id : List ℕ) → IsId id → HoldsAt version base tables id) → AreAllOwned tables → IsDistinct is_shared tables.names → AreSound version base tables
judged_sound version base tables ks up ids at holds owned distinct =
    whole version base tables ks up ids
    (owned_by tables.resources ks (λ id is h. at id is ∙ or_before _ _ (or_before _ _ (or_before _ _ h))) owned.resources)
    (owned_by tables.names ks (λ id is h. at id is ∙ or_before _ _ (or_before _ _ (or_behind _ _ h))) owned.names)
    (owned_by tables.members ks (λ id is h. at id is ∙ or_before _ _ (or_behind _ _ h)) owned.members)
    (owned_by tables.secrets ks (λ id is h. at id is ∙ or_behind _ _ h) owned.secrets)
    holds distinct
