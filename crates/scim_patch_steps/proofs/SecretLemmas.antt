-- What a step makes of a writeOnly unit: the same of any values, or just the values that it has.
use Rattle.std.proofs.Common.{◌≡◌, ◌≤◌, refl, ap, true, false, arith, inl, inr, List, [], ◌∷◌, length}
use Rattle.std.specs.Prelude.{All, Contains, not, ◌||◌, Ok}
use Rattle.std.specs.List.{list_all}
use Rattle.std.proofs.lemmas.Bool.{not-true}
use Rattle.std.proofs.lemmas.List.Elements.{All-head}
use denote.Enum.Bare.{sameb, same_true}
use Rattle.scim_schema.specs.declared.Kind.{Kind}
use Rattle.scim_schema.specs.declared.Kind.TheVariants.{User, Group}
use Rattle.scim_schema.specs.declared.Unit.{Unit as AttributeUnit}
use Rattle.scim_schema.specs.declared.characteristics.Mutability.TheVariants.{ReadOnly, WriteOnly}
use Rattle.scim_schema.specs.contracts.characteristics.Mutability.{the_type as the_mutability}
use Rattle.scim_schema.specs.Characteristics.{is_multi_valued}
use Rattle.scim_schema.specs.Mutability.{mutability_of, is_fixed, is_secret}
use Rattle.scim_schema.specs.Units.{units}
use Rattle.scim_cell.specs.Rows.{Row, IsValue, AreValues}
use Rattle.scim_patch_steps.specs.Changes.{StepChange, Keep, KeepMatches, KeepSubAttribute, Append, Replace, Clear, RemoveListed, AddToMatches, ReplaceMatches, RemoveMatches, AddAtMatches, SetAtMatches, ClearAtMatches, SetEverywhere, ClearEverywhere}
use Rattle.scim_patch_steps.specs.Steps.{after}
use Rattle.scim_patch_steps.specs.Patch.{Of, MayBeMade, IsStep, writes}
use Rattle.scim_patch_steps.proofs.FieldLemmas.{passes_in}
use Rattle.scim_patch_steps.proofs.SingleLemmas.{no_member}

-- no multi-valued attribute is writeOnly
singles : (kind : Kind) → list_all (λ u. not (is_secret kind u) || not (is_multi_valued u.attribute)) (units kind) ≡ true
unfolding units
singles User = refl
singles Group = refl

secret_single : (kind : Kind) (u : AttributeUnit) → Contains (units kind) u → is_secret kind u ≡ true → is_multi_valued u.attribute ≡ false
secret_single kind u there secret =
    not-true (is_multi_valued u.attribute) (rw secret at (passes_in (λ v. not (is_secret kind v) || not (is_multi_valued v.attribute)) (units kind) u (singles kind) there))

-- nor is a readOnly unit
secret_free : (kind : Kind) (u : AttributeUnit) → is_secret kind u ≡ true → is_fixed kind u ≡ false
secret_free kind u secret = ap (λ m. sameb the_mutability m ReadOnly) (same_true the_mutability tt (mutability_of kind u) WriteOnly secret)

module _ (kind : Kind) (u : AttributeUnit) (change : StepChange) (step : IsStep kind (Of u change)) (secret : is_secret kind u ≡ true) where
  single : is_multi_valued u.attribute ≡ false
  single = secret_single kind u step.0 secret

  no_many : is_multi_valued u.attribute ≡ true → ⊥
  no_many many = (let m = many in let n = single in cc)

  -- a step that writes to it makes the same of any values
  pub written_same : writes change ≡ true → (vs ws : List Row) → after kind u change vs ≡ after kind u change ws
  written_same writing vs ws = go change step.1 writing
    where
      go : (c : StepChange) → MayBeMade kind u c → writes c ≡ true → after kind u c vs ≡ after kind u c ws
      go Keep m t = absurd (cc t)
      go Clear m t = refl
      go (Replace given) m t = refl
      go (Append given) m t = absurd (no_many m.0)
      go (AddToMatches f fs) m t = absurd (no_many m.many)
      go (ReplaceMatches f fs) m t = absurd (no_many m.many)
      go (AddAtMatches f field) m t = absurd (no_many m.many)
      go (SetAtMatches f field) m t = absurd (no_many m.many)
      go (SetEverywhere field) m t = absurd (no_many m.many)
      go (KeepMatches f) m t = absurd (no_many m)
      go (KeepSubAttribute b) m t = absurd (no_many m)
      go (RemoveListed texts) m t = absurd (no_many m)
      go (RemoveMatches f) m t = absurd (no_many m)
      go (ClearAtMatches f b) m t = absurd (no_many m)
      go (ClearEverywhere b) m t = absurd (no_many m)

  -- another leaves it as it is
  pub unwritten_kept : writes change ≡ false → (vs : List Row) → AreValues kind u vs → after kind u change vs ≡ Ok vs
  unwritten_kept idle vs own = go change idle
    where
      at_most : length vs ≤ 1
      at_most = elim own.few [ inl many ↦ absurd (no_many many) | inr short ↦ short ]

      kept : (rs : List Row) → All (IsValue kind u) rs → length rs ≤ 1 → after kind u Keep rs ≡ Ok rs
      kept [] each short = rw (secret_free kind u secret) refl
      kept (r ∷ []) each short = rw (secret_free kind u secret, (All-head (IsValue kind u) r [] each).1, no_member kind u single) refl
      kept (r ∷ s ∷ rs) each short = absurd (omega (arith, short))

      go : (c : StepChange) → writes c ≡ false → after kind u c vs ≡ Ok vs
      go Keep n = kept vs own.own at_most
      go Clear n = absurd (cc n)
      go (Replace given) n = absurd (cc n)
      go (Append given) n = absurd (cc n)
      go (AddToMatches f fs) n = absurd (cc n)
      go (ReplaceMatches f fs) n = absurd (cc n)
      go (AddAtMatches f field) n = absurd (cc n)
      go (SetAtMatches f field) n = absurd (cc n)
      go (SetEverywhere field) n = absurd (cc n)
      go (KeepMatches f) n = absurd (cc n)
      go (KeepSubAttribute b) n = absurd (cc n)
      go (RemoveListed texts) n = absurd (cc n)
      go (RemoveMatches f) n = absurd (cc n)
      go (ClearAtMatches f b) n = absurd (cc n)
      go (ClearEverywhere b) n = absurd (cc n)
