-- A part is found in a text exactly where it stands there.
use Rattle.std.proofs.Common.{◌≡◌, ℕ, true, eqb, List, [], ◌∷◌, ◌++◌, drop, length, refl, ap, inl, inr}
use Rattle.std.specs.Bool.{Decides}
use Rattle.std.specs.List.{starts_with}
use Rattle.std.specs.Str.Iter.{HasSubslice}
use Rattle.std.proofs.lemmas.Bool.{or_left, or_right, or_cases}
use Rattle.std.proofs.lemmas.Bool.Decides.{Decides-eqb}
use Rattle.std.proofs.lemmas.Slice.Eq.{starts_is}
use Rattle.scim_filter.specs.Relation.{contains_text}

found-stands : (text part : List ℕ) → contains_text text part ≡ true → HasSubslice text part
found-stands [] part e = ([], drop (length part) [], (starts_is {E = eqb} Decides-eqb [] part (starts_with eqb [] part) refl).0 e)
found-stands (b ∷ bs) part e =
    elim (or_cases (starts_with eqb (b ∷ bs) part) (contains_text bs part) e) as (λ _. HasSubslice (b ∷ bs) part) [
      | inl t ↦ ([], drop (length part) (b ∷ bs), (starts_is {E = eqb} Decides-eqb (b ∷ bs) part (starts_with eqb (b ∷ bs) part) refl).0 t)
      | inr t ↦ (let h = found-stands bs part t in (b ∷ h.0, h.1, ap (λ (r : List ℕ). b ∷ r) h.2))
    ]

starts-found : (text part : List ℕ) → starts_with eqb text part ≡ true → contains_text text part ≡ true
starts-found [] part e = e
starts-found (b ∷ bs) part e = or_left (starts_with eqb (b ∷ bs) part) (contains_text bs part) e

stands-found : (before after text part : List ℕ) → text ≡ before ++ (part ++ after) → contains_text text part ≡ true
stands-found [] after text part e = starts-found text part ((starts_is {E = eqb} Decides-eqb text part (starts_with eqb text part) refl).1 after e)
stands-found (x ∷ before) after [] part e = absurd cc
stands-found (x ∷ before) after (b ∷ bs) part e =
    let rest : bs ≡ before ++ (part ++ after) = cc in
    or_right (starts_with eqb (b ∷ bs) part) (contains_text bs part) (stands-found before after bs part rest)

pub contains_text-Decides : (text part : List ℕ) → Decides (contains_text text part) (HasSubslice text part)
contains_text-Decides text part = (found-stands text part, λ h. stands-found h.0 h.1 text part h.2)
