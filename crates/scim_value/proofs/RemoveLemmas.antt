-- A cell taken out.
use Rattle.std.proofs.Common.{◌≡◌, refl, sym, ◌∙◌, ap, Bool, true, false, List, [], ◌∷◌, filter, inl, inr, cond}
use Rattle.std.specs.Prelude.{None, Some, not}
use Rattle.std.proofs.lemmas.Bool.{cases_Bool}
use Rattle.std.proofs.lemmas.Float.{T_from_true}
use Rattle.std.specs.declared.cmp.Ordering.TheVariants.{Less, Equal, Greater}
use Rattle.std.specs.Ordering.{is_eq, eq_by_cmp}
use Rattle.std.specs.FinMap.{FinMap, entries, find, remove, from_sorted, get-entries, get-from_sorted, get-remove, same_map, is_sorted}
use Rattle.scim_cell.specs.declared.places.Place.{Place}
use Rattle.scim_cell.specs.declared.cells.Cell.{Cell}
use Rattle.scim_cell.specs.declared.atoms.Atom.{Atom}
use Rattle.scim_cell.specs.Place.{place_cmp}
use Rattle.scim_cell.specs.Content.{Entry, place_of, entry_of, entries_of}
use Rattle.scim_value.proofs.OrderLemmas.{eq_is}
use Rattle.scim_value.proofs.PlaceLemmas.{place_total, place_same}
use Rattle.scim_value.proofs.PartLemmas.{entries-from_true}
use Rattle.scim_value.proofs.RowLemmas.{sorted_map}
use Rattle.scim_value.proofs.CloseLemmas.{sorted-filter}

abbrev pub is_other : Place → Entry → Bool
is_other k e = not (is_eq (place_cmp e.0 k))

find_skip : (q : Place) (e : Entry) (es : List Entry) → is_eq (place_cmp q e.0) ≡ false → find place_cmp q (e ∷ es) ≡ find place_cmp q es
find_skip q e es n = elim (place_cmp q e.0) as (λ r. place_cmp q e.0 ≡ r → find place_cmp q (e ∷ es) ≡ find place_cmp q es) [
  | Less ↦ λ t. rw t refl
  | Equal ↦ λ t. (let y : is_eq (place_cmp q e.0) ≡ true = rw t refl in cc)
  | Greater ↦ λ t. rw t refl
] refl

find_here : (q : Place) (e : Entry) (es : List Entry) → is_eq (place_cmp q e.0) ≡ true → find place_cmp q (e ∷ es) ≡ Some e.1
find_here q e es y = let t : place_cmp q e.0 ≡ Equal = eq_is _ y in rw t refl

-- what is found among the others
find_other : (k q : Place) (es : List Entry) → find place_cmp q (filter (is_other k) es) ≡ cond (eq_by_cmp place_cmp q k) None (find place_cmp q es)
find_other k q [] = elim (cases_Bool (eq_by_cmp place_cmp q k)) [ inl t ↦ rw t refl | inr t ↦ rw t refl ]
find_other k q (e ∷ es) =
    let ih = find_other k q es in
    elim (cases_Bool (is_eq (place_cmp e.0 k))) [
      | inl at ↦
          let same : e.0 ≡ k = place_same e.0 k (eq_is _ at) in
          elim (cases_Bool (eq_by_cmp place_cmp q k)) [
            | inl t ↦ rw (at, t) (rw t at ih)
            | inr n ↦
                let far : is_eq (place_cmp q e.0) ≡ false = ap (λ (p : Place). is_eq (place_cmp q p)) same ∙ n in
                rw (at, n) (rw n at ih ∙ sym (find_skip q e es far))
          ]
      | inr off ↦
          elim (cases_Bool (is_eq (place_cmp q e.0))) [
            | inl here ↦
                let same : q ≡ e.0 = place_same q e.0 (eq_is _ here) in
                let n : eq_by_cmp place_cmp q k ≡ false = ap (λ (p : Place). is_eq (place_cmp p k)) same ∙ off in
                rw (off, n) (find_here q e (filter (is_other k) es) here ∙ sym (find_here q e es here))
            | inr far ↦
                rw off (find_skip q e (filter (is_other k) es) far ∙ ih ∙ ap (cond (eq_by_cmp place_cmp q k) None) (sym (find_skip q e es far)))
          ]
    ]

-- the cells of a map without one
pub entries-remove : (m : FinMap place_cmp Atom) (k : Place) → entries (remove m k) ≡ filter (is_other k) (entries m)
entries-remove m k =
    let sorted : is_sorted place_cmp (filter (is_other k) (entries m)) ≡ true = sorted-filter (is_other k) (entries m) (sorted_map m) in
    let same : remove m k ≡ from_sorted (filter (is_other k) (entries m))
    = same_map place_total place_same _ _ (λ q.
    get-remove place_total m k q ∙ ap (cond (eq_by_cmp place_cmp q k) None) (get-entries m q) ∙ sym (find_other k q (entries m))
    ∙ sym (get-from_sorted place_cmp (filter (is_other k) (entries m)) q (T_from_true _ sorted))) in
    ap entries same ∙ entries-from_true _ sorted

-- cells taken out of a list are taken out of its entries
pub entries-filter : (k : Place) (cells : List Cell) → entries_of (filter (λ (c : Cell). not (is_eq (place_cmp (place_of c) k))) cells) ≡ filter (is_other k) (entries_of cells)
entries-filter k [] = refl
entries-filter k (c ∷ cells) = elim (cases_Bool (is_eq (place_cmp (place_of c) k))) [
  | inl t ↦ rw t (entries-filter k cells)
  | inr t ↦ rw t (ap (λ es. entry_of c ∷ es) (entries-filter k cells))
]
