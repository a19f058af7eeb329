-- What a text has before its end, and whether there is such a front.
use Rattle.std.proofs.Common.{◌≡◌, refl, sym, ◌∙◌, ap, ℕ, List, ◌++◌, append_assoc}
use Rattle.std.specs.Prelude.{Option, None, Some, ◌↔◌, IsTrue, is_some}
use Rattle.std.specs.Option.{option_copied}
use Rattle.std.proofs.lemmas.List.{append_cancel_right}
use denote.Ref.{Bor}
use Rattle.scim_schema.specs.declared.Attribute.TheVariants.{Meta}
use Rattle.scim_schema.specs.declared.SubAttribute.TheVariants.{Location}
use Rattle.scim_cell.specs.declared.atoms.Atom.TheVariants.{Text}
use Rattle.scim_cell.specs.Content.{Content}
use Rattle.scim_schema.specs.Units.{leaf_at}
use Rattle.scim_value.specs.Resource.{first_at, location, HasBase}

-- before an end that is cut off in two pieces
pub front_before : (text x a b : List ℕ) (r : Option (List ℕ)) → text ≡ x ++ a → ((f : List ℕ) → (r ≡ Some f) ↔ (x ≡ f ++ b)) → (f : List ℕ) → (r ≡ Some f) ↔ (text ≡ f ++ (b ++ a))
front_before text x a b r e h f = (
  λ s. e ∙ ap (λ (y : List ℕ). y ++ a) ((h f).0 s) ∙ append_assoc f b a,
  λ t. (h f).1 (append_cancel_right x (f ++ b) a (sym e ∙ t ∙ sym (append_assoc f b a))),
)

-- and where the last piece isn't there
pub none_before : (text a b : List ℕ) (q r : Option (List ℕ)) → q ≡ None → r ≡ None → ((f : List ℕ) → (q ≡ Some f) ↔ (text ≡ f ++ a)) → (f : List ℕ) → (r ≡ Some f) ↔ (text ≡ f ++ (b ++ a))
none_before text a b q r m n h f = (
  λ s. cc,
  λ t. (let p : q ≡ Some (f ++ b) = (h (f ++ b)).1 (t ∙ sym (append_assoc f b a)) in cc),
)

-- an answer that names each text of which a fact holds tells whether there is one
pub some_found : (r : Option (Bor (List ℕ))) (P : List ℕ → Type 0) → ((f : List ℕ) → (option_copied r ≡ Some f) ↔ P f) → IsTrue (is_some r) ↔ ((f : List ℕ) × P f)
some_found None P h = (λ t. cc, λ p. (let n : option_copied {T = List ℕ} None ≡ Some p.0 = (h p.0).1 p.1 in cc))
some_found (Some x) P h = (λ t. (x.now, (h x.now).0 refl), λ p. refl)

text_one : (a b : List ℕ) → Some (Text a) ≡ Some (Text b) → a ≡ b
text_one a b e = cc

-- the base of the location that stands in a part
pub base_found : (c : Content) (l : List ℕ) (r : Option (List ℕ)) → first_at (leaf_at Meta Location) c ≡ Some (Text l) → ((base : List ℕ) → (r ≡ Some base) ↔ (l ≡ location base c.kind c.id)) → (base : List ℕ) → (r ≡ Some base) ↔ HasBase base c
base_found c l r e h base = (
  λ s. e ∙ ap (λ (t : List ℕ). Some (Text t)) ((h base).0 s),
  λ t. (h base).1 (text_one l (location base c.kind c.id) (sym e ∙ t)),
)
