-- Units, each once.
use Rattle.std.proofs.Common.{◌≡◌, ◌<◌, ℕ, ◌+◌, refl, sym, ◌∙◌, ap, Bool, true, false, inl, inr, List, [], ◌∷◌, ◌++◌, get_or, length, take}
use Rattle.std.specs.Prelude.{◌||◌}
use Rattle.std.specs.List.{list_any}
use Rattle.std.proofs.lemmas.Bool.{cases_Bool}
use Rattle.std.proofs.lemmas.List.{take_more}
use Rattle.std.proofs.lemmas.List.Elements.{filter_agree}
use Rattle.std.proofs.lemmas.List.Folds.{list_any-append}
use Rattle.scim_schema.specs.declared.Unit.{Unit as AttributeUnit}
use Rattle.scim_schema.specs.Units.{is_same_unit}
use Rattle.scim_schema.proofs.Facts.{is_same_unit-Decides}
use Rattle.scim_cell.specs.Rows.{Row}
use Rattle.scim_patch_steps.specs.code.Touched.{PassTheSame, is_about, rows_about}

-- lists of the same units are about the same rows
pub rows_alike : (us vs : List AttributeUnit) (rs : List Row) → PassTheSame us vs → rows_about us rs ≡ rows_about vs rs
rows_alike us vs rs same = filter_agree (λ (r : Row). is_about us r.unit) (λ (r : Row). is_about vs r.unit) (λ r. same (is_same_unit r.unit)) rs

or_true : (b : Bool) → b || true ≡ true
or_true true = refl
or_true false = refl

or_false : (b : Bool) → b || false ≡ b
or_false true = refl
or_false false = refl

-- a test that one of the units passes finds one
passes : (p : AttributeUnit → Bool) (u : AttributeUnit) (us : List AttributeUnit) → is_about us u ≡ true → p u ≡ true → list_any p us ≡ true
passes p u [] among h = absurd (cc among)
passes p u (v ∷ us) among h = elim (cases_Bool (is_same_unit u v)) [
  | inl s ↦ (let own : p v ≡ true = ap p (sym ((is_same_unit-Decides u v).0 s)) ∙ h in rw own refl)
  | inr n ↦ (let rest = passes p u us (rw n at among) h in rw rest (or_true (p v)))
]

-- one more unit, that was there before
module _ (us all : List AttributeUnit) (k : ℕ) (d : AttributeUnit) (l : k < length all) (same : PassTheSame us (take k all)) where
  grown : (p : AttributeUnit → Bool) → list_any p us || (p (get_or all k d) || false) ≡ list_any p (take (k + 1) all)
  grown p =
      (λ i. same p i || (p (get_or all k d) || false))
      ∙ sym (ap (list_any p) (take_more all k d l) ∙ list_any-append p (take k all) (get_or all k d ∷ []))

  pub units_same : is_about us (get_or all k d) ≡ true → PassTheSame us (take (k + 1) all)
  units_same among p = elim (cases_Bool (p (get_or all k d))) [
    | inl t ↦ (let found = passes p (get_or all k d) us among t in let both : list_any p us ≡ list_any p us || (p (get_or all k d) || false) = rw found refl in both ∙ grown p)
    | inr n ↦ (let both : list_any p us ≡ list_any p us || (p (get_or all k d) || false) = rw n (sym (or_false (list_any p us))) in both ∙ grown p)
  ]

  -- and another
  pub units_pushed : PassTheSame (us ++ get_or all k d ∷ []) (take (k + 1) all)
  units_pushed p = list_any-append p us (get_or all k d ∷ []) ∙ grown p
