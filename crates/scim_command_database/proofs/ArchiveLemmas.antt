-- The new store of a users file is the only one, and that of a store's own users file has its resources.
use Rattle.std.proofs.Common.{◌≡◌, refl, sym, ap, ◌∙◌, subst, ℕ, List, [], ◌∷◌, inl, inr}
use Rattle.std.specs.Prelude.{All, Some, ◌⊎◌}
use Rattle.std.specs.Ordering.{ordering_reverse}
use Rattle.std.specs.declared.cmp.Ordering.TheVariants.{Less}
use Rattle.std.specs.List.Sorted.{IsPermutation, IsStrictlySortedBy}
use Rattle.std.proofs.lemmas.Cmp.{nat_list_cmp_total}
use Rattle.std.proofs.lemmas.List.Elements.{All-from_recursion, All-cons, All-head, All-map, All-nil, All-tail, All-weaker}
use Rattle.std.proofs.lemmas.List.Sorted.{All-permutation, IsPermutation-sym, IsPermutation-trans}
use Rattle.std.proofs.lemmas.Map.Keys.{sorted_head, sorted_tail}
use Rattle.serde_json.specs.Data.{array, no_items}
use Rattle.sqlite.specs.Effect.{Database}
use Rattle.scim_cell.specs.Content.{Content}
use Rattle.scim_cell.specs.Order.{id_cmp}
use Rattle.scim_json.specs.Documents.{IsDocumentsText, documents_and}
use Rattle.scim_json.specs.PartData.{stored_data}
use Rattle.scim_json.specs.Stored.{IsResourceBelow}
use Rattle.scim_json.proofs.Facts.{documents_are_apart}
use Rattle.scim_shelf.specs.Stores.{Store, IsNewStore, IsStore}
use Rattle.scim_store_tables.specs.declared.versions.Version.{Version}
use Rattle.scim_store_rows.specs.Stands.{Entry, IsEntry, StandsForIn}
use Rattle.scim_command_database.specs.Archives.{without_audit}
use Rattle.scim_command_database.specs.Exports.{export_text, users_and_groups}
use Rattle.scim_command_database.proofs.ImportLemmas.{exports_are_imported}

-- ---- one order

abbrev Comes : Content → Content → Type 0
Comes c d = id_cmp c d ≡ Less

never_both : (c d : Content) → Comes c d → Comes d c → ⊥
never_both c d first second = (let back : Less ≡ ordering_reverse Less = sym first ∙ nat_list_cmp_total.antisymm c.id d.id ∙ ap ordering_reverse second in cc)

abbrev Among : List Content → List Content → Type 1
Among xs ys = (P : Content → Type 0) → All P xs → All P ys

-- the first of resources in order of id, and those that come after it
from_first : (x : Content) (xs : List Content) → IsStrictlySortedBy id_cmp (x ∷ xs) → All (λ c. (c ≡ x) ⊎ Comes x c) (x ∷ xs)
from_first x xs sorted = All-cons (λ c. (c ≡ x) ⊎ Comes x c) x xs (inl refl) (All-weaker (λ c. Comes x c) (λ c. (c ≡ x) ⊎ Comes x c) (λ c later. inr later) xs (All-from_recursion (λ c. Comes x c) xs (sorted_head id_cmp x xs sorted)))

-- the others, where the first are the same
among_tails : (x : Content) (xs ys : List Content) → IsStrictlySortedBy id_cmp (x ∷ ys) → Among (x ∷ xs) (x ∷ ys) → Among xs ys
among_tails x xs ys sorted among P all k d less =
    let Later : Content → Type 0 = λ c. Comes x c → P c in
    let moved : All Later (x ∷ ys) = among Later (All-cons Later x xs (λ own. absurd (never_both x x own own)) (All-weaker P Later (λ c p _. p) xs all)) in
    All-tail Later x ys moved k d less (All-from_recursion (λ c. Comes x c) ys (sorted_head id_cmp x ys sorted) k d less)

-- two lists in order of id with the same resources
same_order : (xs ys : List Content) → IsStrictlySortedBy id_cmp xs → IsStrictlySortedBy id_cmp ys → Among xs ys → Among ys xs → xs ≡ ys
same_order [] [] up vp to back = refl
same_order [] (y ∷ ys) up vp to back = absurd (All-head (λ _. ⊥) y ys (to (λ _. ⊥) (All-nil (λ _. ⊥))))
same_order (x ∷ xs) [] up vp to back = absurd (All-head (λ _. ⊥) x xs (back (λ _. ⊥) (All-nil (λ _. ⊥))))
same_order (x ∷ xs) (y ∷ ys) up vp to back =
    let heads : y ≡ x → x ∷ xs ≡ y ∷ ys = λ one.
    let vq : IsStrictlySortedBy id_cmp (x ∷ ys) = subst (λ (c : Content). IsStrictlySortedBy id_cmp (c ∷ ys)) one vp in
    let there : Among (x ∷ xs) (x ∷ ys) = λ P all. subst (λ (c : Content). All P (c ∷ ys)) one (to P all) in
    let again : Among (x ∷ ys) (x ∷ xs) = λ P all. back P (subst (λ (c : Content). All P (c ∷ ys)) (sym one) all) in
    let rest = same_order xs ys (sorted_tail id_cmp x xs up) (sorted_tail id_cmp y ys vp) (among_tails x xs ys vq there) (among_tails x ys xs up again) in
    (λ i. sym one i ∷ rest i) in
    let front : (y ≡ x) ⊎ Comes x y = All-head (λ c. (c ≡ x) ⊎ Comes x c) y ys (to (λ c. (c ≡ x) ⊎ Comes x c) (from_first x xs up)) in
    let other : (x ≡ y) ⊎ Comes y x = All-head (λ c. (c ≡ y) ⊎ Comes y c) x xs (back (λ c. (c ≡ y) ⊎ Comes y c) (from_first y ys vp)) in
    elim front [
      | inl one ↦ heads one
      | inr first ↦ elim other [ inl one ↦ heads (sym one) | inr second ↦ absurd (never_both x y first second) ]
    ]

-- resources determine their new store
pub one_new_store : (cs : List Content) (a b : Store) → IsNewStore cs a → IsNewStore cs b → a ≡ b
one_new_store cs a b first second =
    let between : IsPermutation a.resources b.resources = IsPermutation-trans a.resources cs b.resources (IsPermutation-sym cs a.resources first.members) second.members in
    let same : a.resources ≡ b.resources = same_order a.resources b.resources first.keyed.ascending second.keyed.ascending
    (λ P all. All-permutation P a.resources b.resources between all)
    (λ P all. All-permutation P b.resources a.resources (IsPermutation-sym a.resources b.resources between) all) in
    λ i. record { resources = same i; audit = (first.no_rows ∙ sym second.no_rows) i }

-- ---- one reading

same_documents : (base : List ℕ) (cs ds : List Content) → All (IsResourceBelow base) cs → All (IsResourceBelow base) ds → documents_and cs no_items ≡ documents_and ds no_items → cs ≡ ds
same_documents base [] [] below under same = refl
same_documents base [] (d ∷ ds) below under same = absurd cc
same_documents base (c ∷ cs) [] below under same = absurd cc
same_documents base (c ∷ cs) (d ∷ ds) below under same =
    let heads : stored_data c ≡ stored_data d = cc in
    let tails : documents_and cs no_items ≡ documents_and ds no_items = cc in
    let first : c ≡ d = documents_are_apart base (stored_data d) c d (All-head (IsResourceBelow base) c cs below, sym heads) (All-head (IsResourceBelow base) d ds under, refl) in
    let rest = same_documents base cs ds (All-tail (IsResourceBelow base) c cs below) (All-tail (IsResourceBelow base) d ds under) tails in
    λ i. first i ∷ rest i

-- a text is the users file of one list of resources
pub one_reading : (base text : List ℕ) (cs ds : List Content) → IsDocumentsText base text cs → IsDocumentsText base text ds → cs ≡ ds
one_reading base text cs ds first second =
    let both : Some (array (documents_and cs no_items)) ≡ Some (array (documents_and ds no_items)) = sym first.1 ∙ second.1 in
    same_documents base cs ds first.0.below second.0.below cc

-- ---- the import of a store's own users file

module _ (base text : List ℕ) (store : Store) (is : IsStore base store) (own : text ≡ export_text store.resources) where
  own_reading : IsDocumentsText base text (users_and_groups store.resources)
  own_reading = subst (λ (t : List ℕ). IsDocumentsText base t (users_and_groups store.resources)) (sym own) (exports_are_imported base store is).0

  -- the resources of the file have the store without its audit as a new store
  pub archive_is_new : (cs : List Content) → IsDocumentsText base text cs → IsNewStore cs (without_audit store)
  archive_is_new cs reads = subst (λ (ds : List Content). IsNewStore ds (without_audit store)) (one_reading base text (users_and_groups store.resources) cs own_reading reads) (exports_are_imported base store is).1

  -- and no other
  pub archive_is : (cs : List Content) (other : Store) → IsDocumentsText base text cs → IsNewStore cs other → other ≡ without_audit store
  archive_is cs other reads new = one_new_store cs other (without_audit store) new (archive_is_new cs reads)

-- ---- the store of a database

-- its resources are valid and below the base
pub stands_sound : (version : Version) (base : List ℕ) (db : Database) (store : Store) → StandsForIn version base db store → IsStore base store
stands_sound version base db store stands = record {
  sound = subst (All (IsResourceBelow base)) stands.resources (All-map (IsResourceBelow base) (λ (e : Entry). e.content) stands.entries (All-weaker (IsEntry base) (λ e. IsResourceBelow base e.content) (λ e is. is.document.below) stands.entries stands.sound));
  keyed = stands.keyed;
}
