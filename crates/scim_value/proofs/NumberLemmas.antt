-- Rows numbered one after another.
use Rattle.std.proofs.Common.{◌≡◌, ℕ, suc, ◌+◌, ◌<◌, refl, sym, ◌∙◌, ap, arith, List, ◌∷◌, ◌++◌, append_assoc, map, length, get_or, drop, drop-cons, add-one, inl, inr}
use Rattle.std.specs.Prelude.{Option, None, Some, ◌&&◌}
use Rattle.std.proofs.lemmas.Bool.{cases_Bool}
use Rattle.std.specs.Option.{ForSome}
use denote.Enum.Bare.{sameb}
use Rattle.scim_schema.specs.declared.Unit.{Unit as AttributeUnit}
use Rattle.scim_schema.specs.contracts.Attribute.{the_type as the_attribute}
use Rattle.scim_schema.specs.Characteristics.{is_multi_valued}
use Rattle.scim_cell.specs.declared.rows.Field.{Field}
use Rattle.scim_cell.specs.Place.{place_at}
use Rattle.scim_cell.specs.Content.{Entry}
use Rattle.scim_cell.specs.Rows.{Row, next_position, numbered}

-- one row more
pub numbered_step : (last : Option (AttributeUnit × ℕ)) (rs : List Row) (i : ℕ) (row : Row) (whole before after : List Entry) (u : AttributeUnit) (n : ℕ) → i < length rs → row ≡ get_or rs i row → u ≡ row.unit → n ≡ next_position last u
    → after ≡ before ++ map (λ (f : Field). (place_at f.leaf n, f.atom)) row.fields → whole ≡ before ++ numbered last (drop i rs) → whole ≡ after ++ numbered (Some (u, n)) (drop (i + 1) rs)
numbered_step last rs i row whole before after u n l is unit next more so_far =
    let first : drop i rs ≡ get_or rs i row ∷ drop (suc i) rs = drop-cons rs i row l in
    let same : get_or rs i row ≡ row = sym is in
    let here : drop i rs ≡ row ∷ drop (i + 1) rs = rw (add-one, first) (λ k. same k ∷ drop (suc i) rs) in
    let cells : ℕ → List Entry = λ m. map (λ (f : Field). (place_at f.leaf m, f.atom)) row.fields in
    let number : next_position last row.unit ≡ n = ap (next_position last) (sym unit) ∙ sym next in
    so_far ∙ ap (λ (xs : List Row). before ++ numbered last xs) here
    ∙ (λ k. before ++ (cells (number k) ++ numbered (Some (sym unit k, number k)) (drop (i + 1) rs)))
    ∙ sym (append_assoc before (cells n) (numbered (Some (u, n)) (drop (i + 1) rs)))
    ∙ ap (λ (xs : List Entry). xs ++ numbered (Some (u, n)) (drop (i + 1) rs)) (sym more)

-- positions stay below the number of rows
pub next_bound : (last : Option (AttributeUnit × ℕ)) (u : AttributeUnit) (i : ℕ) → ForSome last (λ p. p.1 < i) → next_position last u < i + 1
next_bound None u i h = omega arith
next_bound (Some l) u i h =
    let low : l.1 < i = h l refl in
    elim (cases_Bool (sameb the_attribute l.0.attribute u.attribute && is_multi_valued u.attribute)) [
      | inl t ↦ rw t (omega (arith, low))
      | inr t ↦ rw t (omega arith)
    ]
