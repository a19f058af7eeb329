-- Resources whose rows obey the keys of the tables are those of a new store.
use Rattle.std.proofs.Common.{◌≢◌, ℕ, refl, sym, ap, List, [], ◌∷◌, ◌++◌, map, arith}
use Rattle.std.specs.Prelude.{All, AllPairs, Contains}
use Rattle.std.specs.List.{flat_map, AllByRecursion}
use Rattle.std.proofs.lemmas.List.Elements.{All-nil, All-cons, All-weaker, All-contains, All-from_recursion}
use Rattle.std.proofs.lemmas.List.Kept.{AllPairs-cons}
use Rattle.std.proofs.lemmas.List.Sorted.{All-permutation, IsPermutation-refl, IsPermutation-cons, IsPermutation-sym, IsPermutation-trans}
use Rattle.sqlite_trees.proofs.ListLemmas.{all_weaker, all_from_map}
use Rattle.sqlite.specs.declared.types.Value.TheVariants.{Text}
use Rattle.sqlite.specs.Effect.{Database, IsDatabase}
use Rattle.sqlite.specs.Order.{Row}
use Rattle.sqlite.specs.Tree.{IsAscending}
use Rattle.scim_schema.specs.Names.{attribute_name}
use Rattle.scim_cell.specs.Content.{Content}
use Rattle.scim_cell.specs.Ids.{id_text}
use Rattle.scim_value.specs.Uniqueness.{Name, AreApart, unique_names}
use Rattle.scim_shelf.specs.Stores.{Store, IsNewStore, keep}
use Rattle.scim_shelf.specs.Indexed.{AreLeft}
use Rattle.scim_shelf.proofs.Facts.{pairs_head, pairs_tail, keyed_nil, keep_keyed}
use Rattle.scim_shelf.proofs.Facts.{last_kept}
use Rattle.scim_store_tables.proofs.Facts.{HaveOwnText, HaveOwnTexts, ids_once, names_once}
use Rattle.scim_store_rows.specs.Stands.{Entry, resource_row, name_row, name_rows}
use Rattle.scim_store_rows.proofs.Facts.{contents}
use Rattle.scim_store.specs.Importing.{HoldRowsOf}

-- ---- entries whose rows obey the keys

module _ {X : Type 0} (P : X → Type 0) where
  left_of : (xs ys : List X) → AllByRecursion P (xs ++ ys) → AllByRecursion P xs
  left_of [] ys h = tt
  left_of (x ∷ xs) ys h = (h.0, left_of xs ys h.1)

  right_of : (xs ys : List X) → AllByRecursion P (xs ++ ys) → AllByRecursion P ys
  right_of [] ys h = h
  right_of (x ∷ xs) ys h = right_of xs ys h.1

  one_of : (xs : List X) (x : X) → AllByRecursion P xs → Contains xs x → P x
  one_of xs x all has = All-contains P xs x (All-from_recursion P xs all) has

across : {X : Type 0} (R : X → X → Type 0) (xs ys : List X) → IsAscending R (xs ++ ys) → AllByRecursion (λ x. AllByRecursion (R x) ys) xs × IsAscending R ys
across R [] ys up = (tt, up)
across R (x ∷ xs) ys up = (let rest = across R xs ys up.1 in ((right_of (R x) xs ys up.0, rest.0), rest.1))

-- no name is in the rows of both
no_name : (e d : Entry) (more : List Row) (n : Name) → AllByRecursion (λ x. AllByRecursion (HaveOwnTexts x) (name_rows d ++ more)) (name_rows e) → Contains (unique_names e.content) n → Contains (unique_names d.content) n → ⊥
no_name e d more n own in_e in_d =
    (let each = all_from_map (λ x. AllByRecursion (HaveOwnTexts x) (name_rows d ++ more)) (name_row e.content.id) (unique_names e.content) own in
    let here = one_of (λ m. AllByRecursion (HaveOwnTexts (name_row e.content.id m)) (name_rows d ++ more)) (unique_names e.content) n each in_e in
    let there = all_from_map (HaveOwnTexts (name_row e.content.id n)) (name_row d.content.id) (unique_names d.content) (left_of (HaveOwnTexts (name_row e.content.id n)) (name_rows d) more here) in
    one_of (λ m. HaveOwnTexts (name_row e.content.id n) (name_row d.content.id m)) (unique_names d.content) n there in_d (attribute_name n.leaf.attribute) n.text refl refl refl refl)

each_apart : (e : Entry) (es : List Entry) → AllByRecursion (HaveOwnText (resource_row e)) (map resource_row es) → AllByRecursion (λ x. AllByRecursion (HaveOwnTexts x) (flat_map name_rows es)) (name_rows e) → AllByRecursion (AreApart e.content) (contents es)
each_apart e [] ids names = tt
each_apart e (d ∷ es) ids names = (
  record { ids = λ same. ids.0 (id_text e.content.id) refl (ap (λ x. Text (id_text x)) (sym same)); names = λ n. no_name e d (flat_map name_rows es) n names },
  each_apart e es ids.1 (all_weaker (λ x. AllByRecursion (HaveOwnTexts x) (name_rows d ++ flat_map name_rows es)) (λ x. AllByRecursion (HaveOwnTexts x) (flat_map name_rows es)) (λ x own. right_of (HaveOwnTexts x) (name_rows d) (flat_map name_rows es) own) (name_rows e) names),
)

-- no two have the same id or share a unique name
all_apart : (es : List Entry) → IsAscending HaveOwnText (map resource_row es) → IsAscending HaveOwnTexts (flat_map name_rows es) → AllPairs AreApart (contents es)
all_apart [] ids names = λ i j d low within. absurd (omega arith)
all_apart (e ∷ es) ids names =
    let both = across HaveOwnTexts (name_rows e) (flat_map name_rows es) names in
    AllPairs-cons AreApart e.content (contents es) (All-from_recursion (AreApart e.content) (contents es) (each_apart e es ids.0 both.0)) (all_apart es ids.1 both.1)

-- ---- resources that may stand together are those of a new store

new_store : (cs : List Content) → AllPairs AreApart cs → (store : Store) × IsNewStore cs store
new_store [] pairs = (record { resources = []; audit = [] }, record { members = IsPermutation-refl []; keyed = keyed_nil; no_rows = refl })
new_store (c ∷ cs) pairs =
    let before = new_store cs (pairs_tail c cs pairs) in
    let others = before.0.resources in
    let apart : All (AreApart c) others = All-permutation (AreApart c) cs others before.1.members (pairs_head c cs pairs) in
    let left : AreLeft (c ∷ others) (c ∷ []) others = record {
      members = IsPermutation-refl (c ∷ others);
      apart = AllPairs-cons AreApart c [] (All-nil (AreApart c)) (λ i j d h k. absurd (omega arith));
      across = All-cons (λ d. All (AreApart d) others) c [] apart (All-nil (λ d. All (AreApart d) others));
    } in
    let kept = last_kept (c ∷ others) [] others c before.1.keyed left in (
      record { resources = keep c others; audit = [] },
      record {
        members = IsPermutation-trans (c ∷ cs) (c ∷ others) (keep c others) (IsPermutation-cons c cs others before.1.members) kept.members;
        keyed = keep_keyed c others before.1.keyed (All-weaker (AreApart c) (λ d. d.id ≢ c.id → AreApart c d) (λ d other differs. other) others apart);
        no_rows = refl;
      },
    )

-- the tables hold a new store
pub holds_new : (base : List ℕ) (cs : List Content) (db : Database) → IsDatabase db → HoldRowsOf base cs db → (store : Store) × IsNewStore cs store
holds_new base cs db sound hold =
    let es = hold.entries in
    let tables = hold.tables in
    let made = new_store (contents es) (all_apart es (ids_once db _ tables.schema sound tables.resources) (names_once db _ tables.schema sound tables.taken)) in (
      made.0,
      record { members = IsPermutation-trans cs (contents es) made.0.resources (IsPermutation-sym (contents es) cs hold.resources) made.1.members; keyed = made.1.keyed; no_rows = made.1.no_rows },
    )
