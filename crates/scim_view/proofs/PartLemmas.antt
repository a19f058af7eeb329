-- Parts by their rows.
use Rattle.std.proofs.Common.{◌≡◌, refl, sym, ◌∙◌, ap, subst, ℕ, Bool, true, List, [], ◌∷◌, filter}
use Rattle.std.specs.Prelude.{All}
use Rattle.std.specs.List.{list_all}
use Rattle.std.proofs.lemmas.List.Elements.{All-head, All-tail}
use Rattle.scim_schema.specs.declared.Kind.{Kind}
use Rattle.scim_schema.specs.declared.Leaf.{Leaf}
use Rattle.scim_schema.proofs.Facts.{and_first, and_second}
use Rattle.scim_cell.specs.declared.rows.Field.{Field}
use Rattle.scim_cell.specs.Content.{Content, IsPart}
use Rattle.scim_cell.specs.Rows.{Row, rows, content, restricted, has_fields, AreSound}
use Rattle.scim_value.proofs.Facts.{same_part, sound_part, rows_content, part_content}

-- a part is that of its rows
pub part_of_rows : (p : Content) (kind : Kind) (id : List ℕ) (rs : List Row) → IsPart p → p.kind ≡ kind → p.id ≡ id → rows p ≡ rs → p ≡ content kind id rs
part_of_rows p kind id rs valid kinds ids own =
    let sound : AreSound kind rs = subst (λ (k : Kind). AreSound k rs) kinds (subst (λ (xs : List Row). AreSound p.kind xs) own (sound_part p valid)) in
    same_part p (content kind id rs) valid (part_content kind id rs sound) kinds ids (own ∙ sym (rows_content kind id rs sound))

-- a test that each field passes leaves them all
passed_fields : (keeps : Leaf → Bool) (fs : List Field) → list_all (λ f. keeps f.leaf) fs ≡ true → filter (λ f. keeps f.leaf) fs ≡ fs
passed_fields keeps [] h = refl
passed_fields keeps (f ∷ fs) h =
    let first : keeps f.leaf ≡ true = and_first _ _ h in
    rw first (ap (λ xs. f ∷ xs) (passed_fields keeps fs (and_second _ _ h)))

-- rows are left as they are where each field passes and none is without fields
pub passed_rows : (keeps : Leaf → Bool) (rs : List Row) → list_all (λ r. list_all (λ f. keeps f.leaf) r.fields) rs ≡ true → All (λ r. has_fields r ≡ true) rs → restricted (λ r l. keeps l) rs ≡ rs
passed_rows keeps [] h full = refl
passed_rows keeps (r ∷ rs) h full =
    let fields : filter (λ (f : Field). keeps f.leaf) r.fields ≡ r.fields = passed_fields keeps r.fields (and_first _ _ h) in
    let some : has_fields r ≡ true = All-head (λ (s : Row). has_fields s ≡ true) r rs full in
    rw (fields, some) (ap (λ xs. r ∷ xs) (passed_rows keeps rs (and_second _ _ h) (All-tail (λ (s : Row). has_fields s ≡ true) r rs full)))
