-- Rows whose atoms are others: places don't rest on atoms, so these are the rows of their content too, whatever the atoms are.
use Rattle.std.proofs.Common.{◌≡◌, ◌≢◌, ◌≤◌, ℕ, refl, sym, ◌∙◌, ap, subst, Bool, true, false, ◌&&◌, arith, List, [], ◌∷◌, ◌++◌, map, filter, if◌then◌else◌}
use Rattle.std.specs.Prelude.{Option, None, Some, All}
use Rattle.std.specs.Ordering.{is_lt, is_gt}
use Rattle.std.specs.FinMap.{is_sorted}
use Rattle.std.specs.FinMap.Entries.{below_all}
use Rattle.std.proofs.lemmas.List.{map-append}
use Rattle.std.proofs.lemmas.List.Elements.{All-head, All-tail, All-weaker, All-filter, filter_passes}
use Rattle.scim_schema.specs.declared.Kind.{Kind}
use Rattle.scim_schema.specs.declared.Attribute.TheVariants.{Meta}
use Rattle.scim_schema.specs.declared.SubAttribute.TheVariants.{LastModified}
use Rattle.scim_schema.specs.declared.Leaf.{Leaf}
use Rattle.scim_schema.specs.declared.Unit.{Unit as AttributeUnit}
use Rattle.scim_schema.specs.Units.{leaf_at, unit_of, is_same_leaf}
use Rattle.scim_schema.proofs.Facts.{leaf_one}
use Rattle.scim_text.specs.Moments.{last_moment}
use Rattle.scim_cell.specs.declared.places.Place.{Place}
use Rattle.scim_cell.specs.declared.atoms.Atom.{Atom}
use Rattle.scim_cell.specs.declared.atoms.Atom.TheVariants.{Moment}
use Rattle.scim_cell.specs.declared.rows.Field.{Field}
use Rattle.scim_cell.specs.Content.{Entry}
use Rattle.scim_cell.specs.Place.{place_cmp, leaf_of, place_at, unit_cmp}
use Rattle.scim_cell.specs.Rows.{Row, rows, rows_of, is_led, led, numbered, next_position, content, IsSoundField, IsSoundRow, AreSound}
use Rattle.scim_value.proofs.Facts.{entries_content, entries-from_true, put_sound, rows_content, sorted_entries}
use Rattle.scim_change.specs.Replace.{modified_at}
use Rattle.scim_change.proofs.ValueLemmas.{untrue}
use Rattle.scim_change.proofs.PutLemmas.{before_apart, after_apart}
use Rattle.scim_change.proofs.ReplaceLemmas.{modified_fits, stamp, stamps}

module _ (g : Leaf → Atom → Atom) where
  abbrev with_field : Field → Field
  with_field f = record { leaf = f.leaf; atom = g f.leaf f.atom }

  abbrev pub with_row : Row → Row
  with_row r = record { unit = r.unit; fields = map with_field r.fields }

  abbrev with_entry : Entry → Entry
  with_entry e = (e.0, g (leaf_of e.0) e.1)

  -- ---- rows as cells, and back

  placed : (k : ℕ) (fs : List Field) → map (λ (f : Field). (place_at f.leaf k, f.atom)) (map with_field fs) ≡ map with_entry (map (λ (f : Field). (place_at f.leaf k, f.atom)) fs)
  placed k [] = refl
  placed k (f ∷ fs) = ap (λ es. (place_at f.leaf k, g f.leaf f.atom) ∷ es) (placed k fs)

  numbered_with : (last : Option (AttributeUnit × ℕ)) (rs : List Row) → numbered last (map with_row rs) ≡ map with_entry (numbered last rs)
  numbered_with last [] = refl
  numbered_with last (r ∷ rs) =
      let k = next_position last r.unit in
      let first = placed k r.fields in
      let rest = numbered_with (Some (r.unit, k)) rs in
      (λ i. first i ++ rest i) ∙ sym (map-append with_entry (map (λ (f : Field). (place_at f.leaf k, f.atom)) r.fields) (numbered (Some (r.unit, k)) rs))

  led_with : (b : Bool) (e : Entry) (rs : List Row) → led b (with_entry e) (map with_row rs) ≡ map with_row (led b e rs)
  led_with true e [] = refl
  led_with true e (r ∷ rs) = refl
  led_with false e rs = refl

  is_led_with : (e : Entry) (es : List Entry) → is_led (with_entry e) (map with_entry es) ≡ is_led e es
  is_led_with e [] = refl
  is_led_with e (f ∷ es) = refl

  rows_of_with : (es : List Entry) → rows_of (map with_entry es) ≡ map with_row (rows_of es)
  rows_of_with [] = refl
  rows_of_with (e ∷ es) =
      let same = is_led_with e es in
      let rest = rows_of_with es in
      (λ i. led (same i) (with_entry e) (rest i)) ∙ led_with (is_led e es) e (rows_of es)

  -- ---- the order of places

  below_with : (p : Place) (es : List Entry) → below_all place_cmp p (map with_entry es) ≡ below_all place_cmp p es
  below_with p [] = refl
  below_with p (e ∷ es) = ap (λ b. is_lt (place_cmp p e.0) && b) (below_with p es)

  sorted_with : (es : List Entry) → is_sorted place_cmp (map with_entry es) ≡ is_sorted place_cmp es
  sorted_with [] = refl
  sorted_with (e ∷ es) =
      let first = below_with e.0 es in
      let rest = sorted_with es in
      λ i. first i && rest i

  -- ---- the rows of their content

  pub rows_with : (kind : Kind) (id : List ℕ) (rs : List Row) → AreSound kind rs → rows (content kind id (map with_row rs)) ≡ map with_row rs
  rows_with kind id rs h =
      let cells = entries_content kind id rs h in
      let sorted : is_sorted place_cmp (numbered None rs) ≡ true = ap (is_sorted place_cmp) (sym cells) ∙ sorted_entries (content kind id rs) in
      let same = numbered_with None rs in
      let rising : is_sorted place_cmp (numbered None (map with_row rs)) ≡ true = ap (is_sorted place_cmp) same ∙ sorted_with (numbered None rs) ∙ sorted in
      ap (λ es. rows_of es) (entries-from_true (numbered None (map with_row rs)) rising ∙ same) ∙ rows_of_with (numbered None rs)
      ∙ ap (λ es. map with_row (rows_of es)) (sym cells) ∙ ap (map with_row) (rows_content kind id rs h)

  -- ---- rows that have none of the atoms that change

  fields_same : (fs : List Field) → All (λ (f : Field). g f.leaf f.atom ≡ f.atom) fs → map with_field fs ≡ fs
  fields_same [] h = refl
  fields_same (f ∷ fs) h =
      let P : Field → Type 0 = λ (f : Field). g f.leaf f.atom ≡ f.atom in
      let first = All-head P f fs h in
      let rest = fields_same fs (All-tail P f fs h) in
      λ i. record { leaf = f.leaf; atom = first i } ∷ rest i

  pub rows_same : (rs : List Row) → All (λ r. All (λ (f : Field). g f.leaf f.atom ≡ f.atom) r.fields) rs → map with_row rs ≡ rs
  rows_same [] h = refl
  rows_same (r ∷ rs) h =
      let P : Row → Type 0 = λ r. All (λ (f : Field). g f.leaf f.atom ≡ f.atom) r.fields in
      let first = fields_same r.fields (All-head P r rs h) in
      let rest = rows_same rs (All-tail P r rs h) in
      λ i. record { unit = r.unit; fields = first i } ∷ rest i

-- ---- another moment

-- the atom of `meta.lastModified` is the moment, and each other stays
abbrev at_moment : ℕ → Leaf → Atom → Atom
at_moment moment l a = if is_same_leaf l (leaf_at Meta LastModified) then Moment moment else a

stays : (moment : ℕ) (f : Field) → unit_of f.leaf ≢ stamp → at_moment moment f.leaf f.atom ≡ f.atom
stays moment f n =
    let other : is_same_leaf f.leaf (leaf_at Meta LastModified) ≡ false = untrue _ (λ t. n (ap unit_of (leaf_one f.leaf (leaf_at Meta LastModified) t))) in rw other refl

-- rows of other units stay
others_stay : (kind : Kind) (moment : ℕ) (p : Row → Bool) (rs : List Row) → ((r : Row) → p r ≡ true → r.unit ≢ stamp) → AreSound kind rs → map (with_row (at_moment moment)) (filter p rs) ≡ filter p rs
others_stay kind moment p rs apart h =
    rows_same (at_moment moment) (filter p rs) (λ k e l.
    (let passes = filter_passes p rs k e l in
    let own = All-filter p (IsSoundRow kind) rs h.own k e l in
    All-weaker (IsSoundField kind _) (λ (f : Field). at_moment moment f.leaf f.atom ≡ f.atom) (λ f s. stays moment f (λ u. apart _ passes (sym s.0 ∙ u))) _ own.own))

-- what was modified at the one moment is what was modified at the other, but for the atom
stamped : (kind : Kind) (moment : ℕ) (rs : List Row) → AreSound kind rs → map (with_row (at_moment moment)) (modified_at 0 rs) ≡ modified_at moment rs
stamped kind moment rs h =
    let f = with_row (at_moment moment) in
    let low = λ (r : Row). is_lt (unit_cmp r.unit stamp) in
    let high = λ (r : Row). is_gt (unit_cmp r.unit stamp) in
    let before = others_stay kind moment low rs (before_apart stamp) h in
    let after = others_stay kind moment high rs (after_apart stamp) h in
    map-append f (filter low rs) (stamps 0 ++ filter high rs) ∙ (λ i. before i ++ (stamps moment ++ after i))

-- so rows that were modified at whatever moment are those of their content
pub rows_modified : (kind : Kind) (id : List ℕ) (moment : ℕ) (rs : List Row) → AreSound kind rs → rows (content kind id (modified_at moment rs)) ≡ modified_at moment rs
rows_modified kind id moment rs h =
    let there : 0 ≤ last_moment = omega arith in
    let sound = put_sound kind stamp (stamps 0) rs (modified_fits kind 0 there) h in
    subst (λ ss. rows (content kind id ss) ≡ ss) (stamped kind moment rs h) (rows_with (at_moment moment) kind id (modified_at 0 rs) sound)
