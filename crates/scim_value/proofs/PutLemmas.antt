-- A cell put into its place among sorted cells.
use Rattle.std.proofs.Common.{◌≡◌, ℕ, zero, suc, ◌≤◌, ◌<◌, refl, sym, ◌∙◌, ap, subst, arith, true, List, [], ◌∷◌, length, get_or, set}
use Rattle.std.specs.Prelude.{insert}
use Rattle.std.specs.List.{AllWithin}
use Rattle.std.specs.declared.cmp.Ordering.TheVariants.{Less, Equal, Greater}
use Rattle.std.specs.Ordering.{ordering_reverse}
use Rattle.std.specs.Cmp.{tied_back}
use Rattle.std.specs.FinMap.{is_sorted, put, entries, entries_sorted, entries-insert, same_entries_map, insert as insert_entry}
use Rattle.scim_cell.specs.declared.places.Place.{Place}
use Rattle.scim_cell.specs.declared.cells.Cell.{Cell}
use Rattle.scim_cell.specs.Place.{place_cmp}
use Rattle.scim_cell.specs.Content.{Content, Entry, place_of, entries_of, AreSortedPartCells, IsPart}
use Rattle.scim_cell.specs.declared.atoms.Atom.{Atom}
use Rattle.scim_value.proofs.PlaceLemmas.{place_total, place_same}
use Rattle.scim_value.proofs.ChainLemmas.{true_from_T, and_first, and_second}
use Rattle.scim_value.proofs.FindLemmas.{below_at}

-- in place of the cell that stands there
pub put-at : (x : Cell) (cells : List Cell) (i : ℕ) (d : Cell) → is_sorted place_cmp (entries_of cells) ≡ true → i < length cells
    → place_cmp (place_of (get_or cells i d)) (place_of x) ≡ Equal → put place_cmp (place_of x) x.atom (entries_of cells) ≡ entries_of (set cells i x)
put-at x [] i d h l e = absurd (omega arith)
put-at x (c ∷ cs) zero d h l e =
    let same : (place_of c) ≡ (place_of x) = place_same (place_of c) (place_of x) e in
    rw (tied_back place_total (place_of c) (place_of x) e) (λ i. (same i, x.atom) ∷ entries_of cs)
put-at x (c ∷ cs) (suc i) d h l e =
    let below : place_cmp (place_of c) (place_of (get_or cs i d)) ≡ Less = below_at (place_of c) cs i d (and_first _ _ h) (omega arith) in
    let here : place_cmp (place_of c) (place_of x) ≡ Less = sym (ap (place_cmp (place_of c)) (place_same _ (place_of x) e)) ∙ below in
    let turned : place_cmp (place_of x) (place_of c) ≡ Greater = place_total.antisymm (place_of x) (place_of c) ∙ ap ordering_reverse here in
    rw turned (ap (λ es. (place_of c, c.atom) ∷ es) (put-at x cs i d (and_second _ _ h) (omega arith) e))

-- between the cells before it and those after it
pub put-new : (x : Cell) (cells : List Cell) (i : ℕ) → i ≤ length cells
    → AllWithin (λ (y : Cell). place_cmp (place_of y) (place_of x) ≡ Less) cells 0 i → AllWithin (λ (y : Cell). place_cmp (place_of y) (place_of x) ≡ Greater) cells i (length cells)
    → put place_cmp (place_of x) x.atom (entries_of cells) ≡ entries_of (insert cells i x)
put-new x [] zero l low high = refl
put-new x [] (suc i) l low high = absurd (omega arith)
put-new x (c ∷ cs) zero l low high =
    let above : place_cmp (place_of c) (place_of x) ≡ Greater = high zero c (omega arith) (omega arith) in
    let turned : place_cmp (place_of x) (place_of c) ≡ Less = place_total.antisymm (place_of x) (place_of c) ∙ ap ordering_reverse above in
    rw turned refl
put-new x (c ∷ cs) (suc i) l low high =
    let below : place_cmp (place_of c) (place_of x) ≡ Less = low zero c (omega arith) (omega arith) in
    let turned : place_cmp (place_of x) (place_of c) ≡ Greater = place_total.antisymm (place_of x) (place_of c) ∙ ap ordering_reverse below in
    rw turned (ap (λ es. (place_of c, c.atom) ∷ es)
    (put-new x cs i (omega arith) (λ k d a b. low (suc k) d (omega arith) (omega arith)) (λ k d a b. high (suc k) d (omega arith) (omega arith))))

-- a content whose entries are another's with one cell put in
pub content_put : (p c : Content) (k : Place) (v : Atom) (es : List Entry) → p.kind ≡ c.kind → p.id ≡ c.id → entries p.cells ≡ es → es ≡ put place_cmp k v (entries c.cells)
    → p ≡ record c { cells = insert_entry c.cells k v }
content_put p c k v es kinds ids held puts =
    let cells : p.cells ≡ insert_entry c.cells k v = same_entries_map p.cells (insert_entry c.cells k v) (held ∙ puts ∙ sym (entries-insert place_total c.cells k v)) in
    λ i. record { kind = kinds i; id = ids i; cells = cells i }

-- such cells are not those of a part where the check says so
pub not_part_put : (c : Content) (k : Place) (v : Atom) (es : List Entry) → es ≡ put place_cmp k v (entries c.cells) → (AreSortedPartCells c.kind es → ⊥)
    → IsPart (record c { cells = insert_entry c.cells k v }) → ⊥
not_part_put c k v es puts never h =
    let held : entries (insert_entry c.cells k v) ≡ es = entries-insert place_total c.cells k v ∙ sym puts in
    never (subst (λ (xs : List Entry). AreSortedPartCells c.kind xs) held (true_from_T _ (entries_sorted (insert_entry c.cells k v)), h))
