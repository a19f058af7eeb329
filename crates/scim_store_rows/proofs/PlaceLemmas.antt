-- The resource of an id among those of a store.
use Rattle.std.proofs.Common.{◌≡◌, ◌≢◌, refl, sym, ◌∙◌, ap, subst, ℕ, Bool, true, false, cond, List, [], ◌∷◌, ◌++◌, map, filter, get_or}
use Rattle.std.specs.Prelude.{All, Option, None, Some, IsPermutation}
use Rattle.std.specs.Option.{option_map, option_to_list}
use Rattle.std.specs.Ordering.{nat_cmp, is_eq, is_lt, is_gt}
use Rattle.std.specs.declared.cmp.Ordering.{Ordering}
use Rattle.std.specs.declared.cmp.Ordering.TheVariants.{Less, Equal, Greater}
use Rattle.std.specs.Cmp.Lexicographic.{slice_cmp}
use Rattle.std.proofs.lemmas.Cmp.{tied_itself, nat_list_cmp_total}
use Rattle.std.proofs.lemmas.List.Elements.{All-nil, All-cons, All-head, All-tail, All-append, All-filter, All-weaker, filter_passes}
use Rattle.std.proofs.lemmas.List.Sorted.{IsPermutation-refl, IsPermutation-cons, IsPermutation-middle, IsPermutation-trans, IsPermutation-sym, IsPermutation-append_right}
use Rattle.std.proofs.lemmas.Map.Lookups.{exact_bytes}
use Rattle.std.proofs.lemmas.Slice.Eq.{bytes_eq-Decides}
use Rattle.scim_cell.specs.Content.{Content}
use Rattle.scim_cell.specs.Equality.{is_same_id}
use Rattle.scim_value.specs.Uniqueness.{AreApart}
use Rattle.scim_shelf.specs.Stores.{AreKeyed, of_id}
use Rattle.scim_shelf.proofs.Facts.{by_order}
use Rattle.scim_shelf.proofs.Facts.{keyed_apart, keyed_tail, apart_back}
use Rattle.scim_shelf.proofs.Facts.{by_bool}
use Rattle.scim_store_rows.specs.Stands.{Entry}

-- how the id of a resource compares to an id
abbrev place : List ℕ → Entry → Ordering
place id e = slice_cmp nat_cmp e.content.id id

-- whether it has the id
abbrev pub own : List ℕ → Entry → Bool
own id e = is_eq (place id e)

-- whether its id is below the id
abbrev pub lower : List ℕ → Entry → Bool
lower id e = is_lt (place id e)

-- whether its id is above the id
abbrev pub upper : List ℕ → Entry → Bool
upper id e = is_gt (place id e)

-- those below an id and those above it
abbrev pub others : List ℕ → List Entry → List Entry
others id es = filter (lower id) es ++ filter (upper id) es

-- all are the one of the id, and the others
pub split : (id : List ℕ) (es : List Entry) → IsPermutation es (filter (own id) es ++ others id es)
split id [] = IsPermutation-refl []
split id (e ∷ es) = go (place id e) (split id es)
  where
    go : (o : Ordering) → IsPermutation es (filter (own id) es ++ others id es)
        → IsPermutation (e ∷ es) (cond (is_eq o) (e ∷ filter (own id) es) (filter (own id) es) ++ (cond (is_lt o) (e ∷ filter (lower id) es) (filter (lower id) es) ++ cond (is_gt o) (e ∷ filter (upper id) es) (filter (upper id) es)))
    go Equal rest = IsPermutation-cons e _ _ rest
    go Less rest = IsPermutation-trans _ _ _ (IsPermutation-cons e _ _ rest) (IsPermutation-sym _ _ (IsPermutation-middle (filter (own id) es) e (others id es)))
    go Greater rest =
        IsPermutation-trans _ _ _ (IsPermutation-cons e _ _ rest)
        (IsPermutation-trans _ _ _ (IsPermutation-sym _ _ (IsPermutation-middle (filter (own id) es) e (others id es)))
        (IsPermutation-append_right (filter (own id) es) _ _ (IsPermutation-sym _ _ (IsPermutation-middle (filter (lower id) es) e (filter (upper id) es)))))

-- an id that is another
other_id : (x id : List ℕ) → (slice_cmp nat_cmp x id ≡ Equal → ⊥) → is_same_id id x ≡ false
other_id x id differs =
    by_bool (is_same_id id x)
    (λ t. absurd (differs (subst (λ (y : List ℕ). slice_cmp nat_cmp x y ≡ Equal) (sym ((bytes_eq-Decides id x).0 t)) (tied_itself nat_list_cmp_total x))))
    (λ f. f)

-- the two tests of an id are one
pub own_same : (id : List ℕ) (e : Entry) → is_same_id id e.content.id ≡ own id e
own_same id e =
    by_order (place id e)
    (λ h. other_id e.content.id id (λ tied. (let c : Less ≡ Equal = sym h ∙ tied in cc)) ∙ sym (ap is_eq h))
    (λ h. (bytes_eq-Decides id e.content.id).1 (sym (exact_bytes e.content.id id h)) ∙ sym (ap is_eq h))
    (λ h. other_id e.content.id id (λ tied. (let c : Greater ≡ Equal = sym h ∙ tied in cc)) ∙ sym (ap is_eq h))

-- one that has the id
pub own_id : (id : List ℕ) (e : Entry) → own id e ≡ true → e.content.id ≡ id
own_id id e h = sym ((bytes_eq-Decides id e.content.id).0 (own_same id e ∙ h))

-- one that has another
pub other_own : (id : List ℕ) (e : Entry) → own id e ≡ false → e.content.id ≢ id
other_own id e h same = (let t : is_same_id id e.content.id ≡ true = (bytes_eq-Decides id e.content.id).1 (sym same) in let c : true ≡ false = sym t ∙ own_same id e ∙ h in cc)

own_none : (id : List ℕ) (e : Entry) (es : List Entry) → own id e ≡ true → All (AreApart e.content) (map (λ (x : Entry). x.content) es) → filter (own id) es ≡ []
own_none id e [] here apart = refl
own_none id e (d ∷ es) here apart =
    by_bool (own id d)
    (λ t. absurd ((All-head (AreApart e.content) d.content _ apart).ids (own_id id e here ∙ sym (own_id id d t))))
    (λ f. rw f (own_none id e es here (All-tail (AreApart e.content) d.content _ apart)))

-- what there is of the id: the resource that is found by it, if there is one
pub record Found (id : List ℕ) (es : List Entry) : Type 0 where
  pub entry : Option Entry
  pub only : filter (own id) es ≡ option_to_list entry
  pub is : of_id id (map (λ (x : Entry). x.content) es) ≡ option_map (λ (x : Entry). x.content) entry

pub found : (id : List ℕ) (es : List Entry) → AreKeyed (map (λ (x : Entry). x.content) es) → Found id es
found id [] keyed = record { entry = None; only = refl; is = refl }
found id (e ∷ es) keyed = go (found id es (keyed_tail e.content _ keyed))
  where
    go : Found id es → Found id (e ∷ es)
    go rest =
        by_bool (own id e)
        (λ t. record {
          entry = Some e;
          only = rw t (ap (λ (l : List Entry). e ∷ l) (own_none id e es t (keyed_apart e.content _ keyed)));
          is = rw (own_same id e ∙ t) refl;
        })
        (λ f. record { entry = rest.entry; only = rw f rest.only; is = rw (own_same id e ∙ f) rest.is })

pub contents_all : (P : Content → Type 0) (es : List Entry) → All P (map (λ (x : Entry). x.content) es) → All (λ (x : Entry). P x.content) es
contents_all P [] all = All-nil (λ (x : Entry). P x.content)
contents_all P (e ∷ es) all = All-cons (λ (x : Entry). P x.content) e es (All-head P e.content _ all) (contents_all P es (All-tail P e.content _ all))

-- the one of an id is apart from those of other ids
pub own_apart : (id : List ℕ) (o : Entry) (es : List Entry) → AreKeyed (map (λ (x : Entry). x.content) es) → filter (own id) es ≡ o ∷ [] → All (λ (d : Entry). own id d ≡ false → AreApart o.content d.content) es
own_apart id o [] keyed only = All-nil _
own_apart id o (e ∷ es) keyed only = go (own_apart id o es (keyed_tail e.content _ keyed))
  where
    P : Entry → Type 0
    P d = own id d ≡ false → AreApart o.content d.content

    apart : All (λ (d : Entry). AreApart e.content d.content) es
    apart = contents_all (AreApart e.content) es (keyed_apart e.content _ keyed)

    first : (xs ys : List Entry) → ◌≡◌ {A = List Entry} (e ∷ xs) (o ∷ ys) → e ≡ o
    first xs ys h = cc

    go : (filter (own id) es ≡ o ∷ [] → All P es) → All P (e ∷ es)
    go rest =
        by_bool (own id e)
        (λ t.
        (let same : e ≡ o = first (filter (own id) es) [] (rw t at only) in
        All-cons P e es (λ f. absurd (let c : true ≡ false = sym t ∙ f in cc)) (All-weaker (λ (d : Entry). AreApart e.content d.content) P (λ d a _. subst (λ (x : Entry). AreApart x.content d.content) same a) es apart)))
        (λ f.
        (let behind : filter (own id) es ≡ o ∷ [] = rw f at only in
        let here : All (λ (d : Entry). AreApart e.content d.content) (o ∷ []) = subst (All (λ (d : Entry). AreApart e.content d.content)) behind (All-filter (own id) (λ (d : Entry). AreApart e.content d.content) es apart) in
        All-cons P e es (λ _. apart_back e.content o.content (All-head (λ (d : Entry). AreApart e.content d.content) o [] here)) (rest behind)))

-- each is the one of its id
pub own_each : (es : List Entry) → AreKeyed (map (λ (x : Entry). x.content) es) → All (λ (e : Entry). filter (own e.content.id) es ≡ e ∷ []) es
own_each [] keyed = All-nil _
own_each (x ∷ xs) keyed = All-cons (λ (e : Entry). filter (own e.content.id) (x ∷ xs) ≡ e ∷ []) x xs first (others_own (own_each xs (keyed_tail x.content _ keyed)))
  where
    itself : own x.content.id x ≡ true
    itself = ap is_eq (tied_itself nat_list_cmp_total x.content.id)

    first : filter (own x.content.id) (x ∷ xs) ≡ x ∷ []
    first = rw itself (ap (λ (l : List Entry). x ∷ l) (own_none x.content.id x xs itself (keyed_apart x.content _ keyed)))

    apart : All (λ (d : Entry). AreApart x.content d.content) xs
    apart = contents_all (AreApart x.content) xs (keyed_apart x.content _ keyed)

    others_own : All (λ (e : Entry). filter (own e.content.id) xs ≡ e ∷ []) xs → All (λ (e : Entry). filter (own e.content.id) (x ∷ xs) ≡ e ∷ []) xs
    others_own rest = λ k d l. (let e = get_or xs k d in by_bool (own e.content.id x) (λ t. absurd ((apart k d l).ids (own_id e.content.id x t))) (λ f. rw f (rest k d l)))

lower_other : (o : Ordering) → is_lt o ≡ true → is_eq o ≡ false
lower_other Less h = refl
lower_other Equal h = cc
lower_other Greater h = refl

upper_other : (o : Ordering) → is_gt o ≡ true → is_eq o ≡ false
upper_other Less h = refl
upper_other Equal h = cc
upper_other Greater h = refl

-- the others have another id, and what holds of all of another id holds of them
pub others_all : (P : Entry → Type 0) (id : List ℕ) (es : List Entry) → All (λ (d : Entry). own id d ≡ false → P d) es → All P (others id es)
others_all P id es all =
    All-append P (filter (lower id) es) (filter (upper id) es)
    (both (filter (lower id) es) (All-weaker (λ (d : Entry). lower id d ≡ true) Q (λ d h. lower_other (place id d) h) _ (filter_passes (lower id) es)) (All-filter (lower id) (λ (d : Entry). own id d ≡ false → P d) es all))
    (both (filter (upper id) es) (All-weaker (λ (d : Entry). upper id d ≡ true) Q (λ d h. upper_other (place id d) h) _ (filter_passes (upper id) es)) (All-filter (upper id) (λ (d : Entry). own id d ≡ false → P d) es all))
  where
    Q : Entry → Type 0
    Q d = own id d ≡ false

    both : (ds : List Entry) → All Q ds → All (λ (d : Entry). own id d ≡ false → P d) ds → All P ds
    both ds qs ps = λ k d h. ps k d h (qs k d h)
