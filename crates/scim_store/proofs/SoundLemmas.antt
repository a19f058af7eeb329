-- Where the rows of the tables are those of resources, those of each id hold.
use Rattle.std.proofs.Common.{◌≡◌, ℕ, refl, sym, ◌∙◌, ap, subst, Bool, true, false, cond, List, [], ◌∷◌, ◌++◌, map, filter}
use Rattle.std.specs.Prelude.{All, Option, None, Some}
use Rattle.std.specs.Option.{option_map, option_to_list}
use Rattle.std.specs.List.{flat_map}
use Rattle.std.specs.Ordering.{nat_cmp, is_eq}
use Rattle.std.specs.Cmp.Lexicographic.{slice_cmp}
use Rattle.std.proofs.lemmas.List.Elements.{All-nil, All-cons, All-head, All-tail, All-filter, All-map, All-weaker, recursion_from_All, filter-append}
use Rattle.std.proofs.lemmas.List.Sorted.{IsPermutation-trans}
use Rattle.sqlite_trees.proofs.ListLemmas.{IsPermutation-same, IsPermutation-filter, filter-map, filter_same, filter_all, filter_none, map-flat_map}
use Rattle.sqlite.specs.Order.{Row}
use Rattle.scim_cell.specs.Ids.{IsId, id_text}
use Rattle.scim_cell.proofs.Facts.{slice_cmp-id_text}
use Rattle.scim_shelf.specs.Stores.{AreKeyed}
use Rattle.scim_shelf.proofs.Facts.{keyed_nil, keyed_cons}
use Rattle.scim_store_tables.specs.declared.versions.Version.{Version}
use Rattle.scim_store_tables.specs.Lists.{secret_values}
use Rattle.scim_store_tables.specs.Reading.{owner_first, group_first}
use Rattle.scim_value.specs.Uniqueness.{AreApart, unique_names}
use Rattle.scim_store.specs.Owners.{is_of}
use Rattle.scim_store.specs.Damage.{Tables, IsEntryIn, AreSound, HoldsAt}
use Rattle.scim_store_rows.specs.Stands.{Entry, resource_row, name_row, name_rows, member_row, member_rows, secret_rows}
use Rattle.scim_store_rows.proofs.Facts.{contents}
use Rattle.scim_store_rows.proofs.Facts.{own, found}

-- the rows that pass, of rows that all pass or all fail with what they are of
pub filter-flat_map : (p : Row → Bool) (q : Entry → Bool) (f : Entry → List Row) (es : List Entry) → All (λ e. All (λ r. p r ≡ q e) (f e)) es → filter p (flat_map f es) ≡ flat_map f (filter q es)
filter-flat_map p q f [] all = refl
filter-flat_map p q f (e ∷ es) all = filter-append p (f e) (flat_map f es) ∙ go (q e) refl (All-head (λ x. All (λ r. p r ≡ q x) (f x)) e es all) (filter-flat_map p q f es (All-tail (λ x. All (λ r. p r ≡ q x) (f x)) e es all))
  where
    go : (b : Bool) → q e ≡ b → All (λ r. p r ≡ q e) (f e) → filter p (flat_map f es) ≡ flat_map f (filter q es) → filter p (f e) ++ filter p (flat_map f es) ≡ flat_map f (cond b (e ∷ filter q es) (filter q es))
    go true t here rest =
        (let whole : filter p (f e) ≡ f e = filter_all p (f e) (recursion_from_All (λ r. p r ≡ true) (f e) (All-weaker (λ r. p r ≡ q e) (λ r. p r ≡ true) (λ r h. h ∙ t) (f e) here)) in
        (λ i. whole i ++ rest i))
    go false t here rest =
        (let none : filter p (f e) ≡ [] = filter_none p (f e) (recursion_from_All (λ r. p r ≡ false) (f e) (All-weaker (λ r. p r ≡ q e) (λ r. p r ≡ false) (λ r h. h ∙ t) (f e) here)) in
        (λ i. none i ++ rest i))

-- the text of its id tells whether a resource has an id
pub own_text : (id : List ℕ) (e : Entry) → IsId e.content.id → IsId id → is_eq (slice_cmp nat_cmp (id_text e.content.id) (id_text id)) ≡ own id e
own_text id e one two = ap is_eq (sym (slice_cmp-id_text e.content.id id one two))

pub few_keyed : (o : Option Entry) → AreKeyed (contents (option_to_list o))
few_keyed None = keyed_nil
few_keyed (Some e) = keyed_cons e.content [] tt (All-nil (AreApart e.content)) keyed_nil

pub sound_id : (version : Version) (base : List ℕ) (e : Entry) → IsEntryIn version base e → IsId e.content.id
sound_id version base e s = s.entry.document.below.0.identified.0

-- the one row of a door code, if there is one
code_row : (id : List ℕ) (P : Row → Type 0) (o : Option (List ℕ)) → ((text : List ℕ) → P (secret_values id text)) → All P (option_to_list (option_map (secret_values id) o))
code_row id P None each = All-nil P
code_row id P (Some text) each = All-cons P (secret_values id text) [] (each text) (All-nil P)

-- the rows of a door code pass where each row that begins with the id does
pub each_secret : (P : Row → Type 0) (e : Entry) → ((text : List ℕ) → P (secret_values (id_text e.content.id) text)) → All P (secret_rows e)
each_secret P e each = code_row (id_text e.content.id) P e.door_code each

module _ (version : Version) (base id : List ℕ) (is : IsId id) (es : List Entry) (sound : All (IsEntryIn version base) es) where
  resources_at : filter (is_of id) (map resource_row es) ≡ map resource_row (filter (own id) es)
  resources_at =
      filter-map (is_of id) resource_row es
      ∙ ap (map resource_row) (filter_same (λ e. is_of id (resource_row e)) (own id) es (recursion_from_All (λ e. is_of id (resource_row e) ≡ own id e) es (All-weaker (IsEntryIn version base) (λ e. is_of id (resource_row e) ≡ own id e) (λ e s. own_text id e (sound_id version base e s) is) es sound)))

  names_at : filter (is_of id) (map owner_first (flat_map name_rows es)) ≡ map owner_first (flat_map name_rows (filter (own id) es))
  names_at =
      ap (filter (is_of id)) (map-flat_map owner_first name_rows es)
      ∙ filter-flat_map (is_of id) (own id) (λ e. map owner_first (name_rows e)) es
      (All-weaker (IsEntryIn version base) (λ e. All (λ r. is_of id r ≡ own id e) (map owner_first (name_rows e)))
      (λ e s. All-map (λ r. is_of id r ≡ own id e) owner_first (name_rows e) (All-map (λ r. is_of id (owner_first r) ≡ own id e) (name_row e.content.id) (unique_names e.content) (λ k d low. own_text id e (sound_id version base e s) is))) es sound)
      ∙ sym (map-flat_map owner_first name_rows (filter (own id) es))

  members_at : filter (is_of id) (map group_first (flat_map member_rows es)) ≡ map group_first (flat_map member_rows (filter (own id) es))
  members_at =
      ap (filter (is_of id)) (map-flat_map group_first member_rows es)
      ∙ filter-flat_map (is_of id) (own id) (λ e. map group_first (member_rows e)) es
      (All-weaker (IsEntryIn version base) (λ e. All (λ r. is_of id r ≡ own id e) (map group_first (member_rows e)))
      (λ e s. All-map (λ r. is_of id r ≡ own id e) group_first (member_rows e) (All-map (λ r. is_of id (group_first r) ≡ own id e) (member_row e.content.id) e.members (λ k d low. own_text id e (sound_id version base e s) is))) es sound)
      ∙ sym (map-flat_map group_first member_rows (filter (own id) es))

  pub secrets_at : filter (is_of id) (flat_map secret_rows es) ≡ flat_map secret_rows (filter (own id) es)
  secrets_at =
      filter-flat_map (is_of id) (own id) secret_rows es
      (All-weaker (IsEntryIn version base) (λ e. All (λ r. is_of id r ≡ own id e) (secret_rows e)) (λ e s. each_secret (λ r. is_of id r ≡ own id e) e (λ text. own_text id e (sound_id version base e s) is)) es sound)

-- where the rows are those of resources, those of each id are those of one resource, or there are none
pub sound_holds : (version : Version) (base : List ℕ) (tables : Tables) (id : List ℕ) → IsId id → AreSound version base tables → HoldsAt version base tables id
sound_holds version base tables id is (es, are) =
    (let f = found id es are.keyed in (
      f.entry,
      record {
        sound = subst (All (IsEntryIn version base)) f.only (All-filter (own id) (IsEntryIn version base) es are.sound);
        keyed = few_keyed f.entry;
        resources = IsPermutation-trans _ _ _ (IsPermutation-filter (is_of id) _ _ are.resources) (IsPermutation-same _ _ (resources_at version base id is es are.sound ∙ ap (map resource_row) f.only));
        names = IsPermutation-trans _ _ _ (IsPermutation-filter (is_of id) _ _ are.names) (IsPermutation-same _ _ (names_at version base id is es are.sound ∙ ap (λ os. map owner_first (flat_map name_rows os)) f.only));
        members = IsPermutation-trans _ _ _ (IsPermutation-filter (is_of id) _ _ are.members) (IsPermutation-same _ _ (members_at version base id is es are.sound ∙ ap (λ os. map group_first (flat_map member_rows os)) f.only));
        secrets = IsPermutation-trans _ _ _ (IsPermutation-filter (is_of id) _ _ are.secrets) (IsPermutation-same _ _ (secrets_at version base id is es are.sound ∙ ap (flat_map secret_rows) f.only));
      },
    ))
