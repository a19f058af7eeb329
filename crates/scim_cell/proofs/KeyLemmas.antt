-- Lemmas on keys of values.
use Rattle.std.proofs.Common.{◌≡◌, ℕ, Bool, true, false, ◌||◌, List, [], ◌∷◌, ◌++◌, Option, Some, None, refl, ap, sym, ◌∙◌, cond}
use Rattle.std.specs.Prelude.{is_some, String, string_bytes}
use Rattle.std.specs.List.{list_any}
use Rattle.std.specs.Option.{option_eq}
use Rattle.std.specs.Str.{bytes_eq}
use Rattle.std.specs.Bool.{one_answer}
use Rattle.std.specs.declared.alloc.Global.{Global}
use Rattle.std.specs.BTreeMap.{Updates, get_by_text}
use Rattle.std.specs.String.{string_cmp}
use Rattle.std.proofs.lemmas.Slice.Eq.{bytes_eq-Decides}
use Rattle.std.proofs.lemmas.List.Folds.{list_any-append}
use Rattle.std.proofs.lemmas.Map.Text.{btree_map_updates_text}
use Rattle.scim_schema.specs.declared.Attribute.{Attribute}
use Rattle.scim_cell.specs.declared.atoms.Atom.{Atom}
use Rattle.scim_cell.specs.Atoms.{is_same_atom, is_same_atom-Decides}
use Rattle.scim_cell.specs.Equality.{is_same_row, is_same_row-Decides}
use Rattle.scim_cell.specs.Rows.{Row}
use Rattle.scim_cell.specs.SameValues.{is_members, member_value, is_same_value, with_value, with_values}
use Rattle.scim_cell.specs.code.Keys.{some_key, fields_key, key_of, Places, Covers}

some_keys : (a b : Option Atom) → option_eq is_same_atom a b ≡ true → some_key a ≡ some_key b
some_keys (Some a) (Some b) h = ap (λ (x : Option Atom). some_key x) (ap Some ((is_same_atom-Decides a b).0 h))
some_keys None None h = refl
some_keys None (Some b) h = cc
some_keys (Some a) None h = cc

by_test : (m : Bool) (x y : Row)
    → cond m (option_eq is_same_atom (member_value x) (member_value y)) (is_same_row x y) ≡ true
    → cond m (some_key (member_value x)) (fields_key x.fields) ≡ cond m (some_key (member_value y)) (fields_key y.fields)
by_test true x y h = some_keys (member_value x) (member_value y) h
by_test false x y h = ap (λ (r : Row). fields_key r.fields) ((is_same_row-Decides x y).0 h)

-- values that are the same have the same key
pub same_keys : (a : Attribute) (x y : Row) → is_same_value a x y ≡ true → key_of a x ≡ key_of a y
same_keys a x y h = by_test (is_members a) x y h

-- the test of a value's key against another's
abbrev keyed : Attribute → Row → Row → Bool
keyed a r other = bytes_eq (key_of a r) (key_of a other)

or_parts : (a b : Bool) → (a || b) ≡ false → (a ≡ false) × (b ≡ false)
or_parts true b h = absurd (cc h)
or_parts false b h = (refl, h)

or_false : (a b : Bool) → a ≡ false → b ≡ false → (a || b) ≡ false
or_false true b h k = h
or_false false b h k = k

other : (a b : Bool) → b ≡ false → (a ≡ true → b ≡ true) → a ≡ false
other true b h f = sym (f refl) ∙ h
other false b h f = refl

-- where no value has this key, none is the same
pub none_same : (a : Attribute) (rs : List Row) (r : Row) → list_any (keyed a r) rs ≡ false → list_any (λ s. is_same_value a s r) rs ≡ false
none_same a [] r h = refl
none_same a (x ∷ rs) r h =
    let parts = or_parts (keyed a r x) (list_any (keyed a r) rs) h in
    let first : is_same_value a x r ≡ false =
    other (is_same_value a x r) (keyed a r x) parts.0 (λ e. (bytes_eq-Decides (key_of a r) (key_of a x)).1 (sym (same_keys a x r e))) in
    or_false (is_same_value a x r) (list_any (λ s. is_same_value a s r) rs) first (none_same a rs r parts.1)

symmetric : (x y : List ℕ) → bytes_eq x y ≡ bytes_eq y x
symmetric x y = one_answer (bytes_eq x y) (bytes_eq y x) (bytes_eq-Decides x y) ((λ h. sym ((bytes_eq-Decides y x).0 h)), (λ e. (bytes_eq-Decides y x).1 (sym e)))

one_more : (b : Bool) (i : ℕ) (found : Option ℕ) (t : Bool) → is_some found ≡ t → is_some (cond b (Some i) found) ≡ (t || (b || false))
one_more true i found true h = refl
one_more true i found false h = refl
one_more false i found true h = h
one_more false i found false h = h

-- one value more, and its key
pub covers_push : (m n : Places) (key : String Global) (i : ℕ) (a : Attribute) (rs : List Row) (r : Row)
    → string_bytes key ≡ key_of a r
    → Updates string_cmp m n key (Some i)
    → Covers m a rs
    → Covers n a (rs ++ r ∷ [])
covers_push m n key i a rs r k updates covered q =
    ap is_some (btree_map_updates_text (string_bytes key) m n (Some i) updates q)
    ∙ ap (λ bs. is_some (cond (bytes_eq bs q) (Some i) (get_by_text m q))) k
    ∙ ap (λ b. is_some (cond b (Some i) (get_by_text m q))) (symmetric (key_of a r) q)
    ∙ one_more (bytes_eq q (key_of a r)) i (get_by_text m q) _ (covered q)
    ∙ sym (list_any-append (λ s. bytes_eq q (key_of a s)) rs (r ∷ []))

-- a value that is the same as none of these
pub with_value_other : (a : Attribute) (rs : List Row) (r : Row) → list_any (λ s. is_same_value a s r) rs ≡ false → with_value a rs r ≡ rs ++ r ∷ []
with_value_other a rs r h = rw h refl

-- one value more at the end
pub with_values_more : (a : Attribute) (rs more : List Row) (r : Row) → with_values a rs (more ++ r ∷ []) ≡ with_value a (with_values a rs more) r
with_values_more a rs [] r = refl
with_values_more a rs (x ∷ more) r = with_values_more a (with_value a rs x) more r

-- a value that is the same as one before is left out
pub left_out : (a : Attribute) (all rs more : List Row) (r : Row) → all ≡ with_values a rs more → list_any (λ s. is_same_value a s r) all ≡ true
    → all ≡ with_values a rs (more ++ r ∷ [])
left_out a all rs more r h same = rw (with_values_more a rs more r, ← h, same) refl

-- and any other is added
pub added : (a : Attribute) (all rs more new : List Row) (r : Row) → all ≡ with_values a rs more → list_any (λ s. is_same_value a s r) all ≡ false
    → new ≡ all ++ r ∷ [] → new ≡ with_values a rs (more ++ r ∷ [])
added a all rs more new r h other is = rw (with_values_more a rs more r, ← h, other, is) refl
