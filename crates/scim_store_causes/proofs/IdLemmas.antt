-- The texts of ids in rows.
use Rattle.std.proofs.Common.{◌≡◌, ◌<◌, ℕ, sym, ap, subst, ◌∙◌, inl, inr, true, false, Bool, List, [], length, slice_index, arith}
use Rattle.std.specs.Prelude.{Option, None, Some, IsSome, MatchBool, IsUtf8, ◌↔◌}
use Rattle.std.specs.Option.{is_some}
use Rattle.std.proofs.Math.ListN.{get_or-eq_default}
use Rattle.std.proofs.lemmas.Bool.{cases_lt}
use Rattle.std.proofs.lemmas.Str.{IsUtf8-from_ascii}
use Rattle.sqlite.specs.declared.types.Value.{Value}
use Rattle.sqlite.specs.declared.types.Value.TheVariants.{Text}
use Rattle.sqlite.specs.Order.{Row, column}
use Rattle.scim_cell.specs.Ids.{IsId, IsIdText, IsLowerHexDigit, id_text}
use Rattle.scim_cell.proofs.Facts.{IsIdText-id_text}
use Rattle.scim_store_causes.specs.Ids.{IsTextOfId, HasId}

-- what may stand in the text of an id is ASCII: a hyphen, or a digit
ascii_at : (b : Bool) (c : ℕ) → MatchBool b (c ≡ 45) (IsLowerHexDigit c) → c < 128
ascii_at true c h = omega (arith, h)
ascii_at false c h = elim h [ inl d ↦ (let top = d.1 in omega (arith, top)) | inr l ↦ (let top = l.1 in omega (arith, top)) ]

id_text-utf8 : (id : List ℕ) → IsId id → IsUtf8 (id_text id)
id_text-utf8 id is = IsUtf8-from_ascii (id_text id) (λ i. elim (cases_lt i (length (id_text id))) [ inl low ↦ ascii_at _ (slice_index (id_text id) i) ((IsIdText-id_text id).characters i low) | inr high ↦ (let none : slice_index (id_text id) i ≡ 0 = get_or-eq_default (id_text id) 0 high in omega (arith, none)) ])

-- the text of an id is UTF-8
pub utf8_of_id : (bytes : List ℕ) → IsTextOfId bytes → IsUtf8 bytes
utf8_of_id bytes (id, is, same) = subst IsUtf8 (sym same) (id_text-utf8 id is)

-- the text of an id is read
pub unread_id : (o : Option (List ℕ)) (text : List ℕ) → (IsSome o ↔ IsIdText text) → is_some o ≡ false → ¬ IsTextOfId text
unread_id None text form none (id, is, same) = nothing (form.1 (subst IsIdText (sym same) (IsIdText-id_text id)))
  where
    nothing : ¬ IsSome (let o : Option (List ℕ) = None in o)
    nothing h = absurd cc
unread_id (Some id) text form none has = absurd cc

-- ---- the first column of a row

text_in : Value → List ℕ
text_in (Text t) = t
text_in _ = []

pub has_of_text : (bytes : List ℕ) (row : Row) → Text bytes ≡ column row 0 → IsTextOfId bytes → HasId row
has_of_text bytes row at (id, is, same) = (id, is, sym at ∙ ap Text same)

pub text_of_has : (bytes : List ℕ) (row : Row) → Text bytes ≡ column row 0 → HasId row → IsTextOfId bytes
unfolding text_in
text_of_has bytes row at (id, is, same) = (id, is, ap text_in (at ∙ same))
