-- Rows that tests leave.
use Rattle.std.proofs.Common.{◌≡◌, refl, ◌&&◌, Bool, true, false, List, [], ◌∷◌, filter, map, arith}
use Rattle.std.specs.Prelude.{All}
use Rattle.std.proofs.lemmas.List.Elements.{All-head, All-tail}
use Rattle.scim_schema.specs.declared.Leaf.{Leaf}
use Rattle.scim_cell.specs.declared.rows.Field.{Field}
use Rattle.scim_cell.specs.Rows.{Row, Test, by_leaf, is_empty, restricted}

-- two tests decide alike on each field of a row
abbrev pub AreAlike : Test → Test → Row → Type 0
AreAlike p q r = All (λ (f : Field). p r f.leaf ≡ q r f.leaf) r.fields

fields_alike : (p q : Leaf → Bool) (fs : List Field) → All (λ (f : Field). p f.leaf ≡ q f.leaf) fs
    → filter (λ (f : Field). p f.leaf) fs ≡ filter (λ (f : Field). q f.leaf) fs
fields_alike p q [] alike = refl
fields_alike p q (f ∷ fs) alike =
    let own = All-head (λ (g : Field). p g.leaf ≡ q g.leaf) f fs alike in
    grind (arith, fields_alike p q fs (All-tail (λ (g : Field). p g.leaf ≡ q g.leaf) f fs alike), own)

-- tests that decide alike on each field leave the same rows
pub restricted_alike : (p q : Test) (rs : List Row) → All (AreAlike p q) rs → restricted p rs ≡ restricted q rs
restricted_alike p q [] alike = refl
restricted_alike p q (r ∷ rs) alike =
    let fields = fields_alike (p r) (q r) r.fields (All-head (AreAlike p q) r rs alike) in
    grind (arith, fields, restricted_alike p q rs (All-tail (AreAlike p q) r rs alike))

fields_further : (p q : Leaf → Bool) (fs : List Field)
    → filter (λ (f : Field). q f.leaf) (filter (λ (f : Field). p f.leaf) fs) ≡ filter (λ (f : Field). p f.leaf && q f.leaf) fs
fields_further p q [] = refl
fields_further p q (f ∷ fs) = grind (arith, fields_further p q fs)

no_fields : (p q : Leaf → Bool) (fs : List Field)
    → is_empty (filter (λ (f : Field). p f.leaf) fs) ≡ true → is_empty (filter (λ (f : Field). p f.leaf && q f.leaf) fs) ≡ true
no_fields p q [] e = refl
no_fields p q (f ∷ fs) e = grind (arith, no_fields p q fs)

-- to restrict by a test, and then by a test of leaves, is to restrict by both at once
pub restricted_further : (p : Test) (q : Leaf → Bool) (rs : List Row) → restricted (by_leaf q) (restricted p rs) ≡ restricted (λ r l. p r l && q l) rs
restricted_further p q [] = refl
restricted_further p q (r ∷ rs) =
    grind (arith, restricted_further p q rs, no_fields (p r) q r.fields, fields_further (p r) q r.fields)
