-- A row is sound just where its fields pass the check one after another.
use Rattle.std.proofs.Common.{ℕ, zero, suc, ◌+◌, ◌<◌, arith, List, [], ◌∷◌}
use Rattle.std.specs.Prelude.{Option, None, Some, All, AllPairs}
use Rattle.std.proofs.lemmas.List.Elements.{All-nil, All-cons, All-head, All-tail}
use Rattle.std.proofs.lemmas.List.Kept.{AllPairs-cons}
use Rattle.scim_schema.specs.declared.Kind.{Kind}
use Rattle.scim_schema.specs.declared.Unit.{Unit as AttributeUnit}
use Rattle.scim_cell.specs.declared.rows.Field.{Field}
use Rattle.scim_cell.specs.Place.{sub_attribute_number}
use Rattle.scim_cell.specs.code.Fields.{Rises, AreRising}
use Rattle.scim_cell.specs.Rows.{Row, IsSoundField, IsSoundRow}

-- the second field comes after the first
abbrev pub PartsRise : Field → Field → Type 0
PartsRise c d = sub_attribute_number c.leaf.sub_attribute < sub_attribute_number d.leaf.sub_attribute

abbrev pub number : Field → ℕ
number f = sub_attribute_number f.leaf.sub_attribute

pub own-AreRising : (kind : Kind) (u : AttributeUnit) (last : Option ℕ) (fs : List Field) → AreRising kind u last fs → All (IsSoundField kind u) fs
own-AreRising kind u last [] h = All-nil (IsSoundField kind u)
own-AreRising kind u last (f ∷ fs) h = All-cons (IsSoundField kind u) f fs h.0 (own-AreRising kind u (Some (number f)) fs h.2)

above : (kind : Kind) (u : AttributeUnit) (m n : ℕ) (fs : List Field) → m < n + 1 → AreRising kind u (Some n) fs → All (λ (f : Field). m < number f) fs
above kind u m n [] le h = All-nil (λ (f : Field). m < number f)
above kind u m n (f ∷ fs) le h =
    All-cons (λ (f : Field). m < number f) f fs (omega (arith, le, h.1)) (above kind u m (number f) fs (omega (arith, le, h.1)) h.2)

in_order-AreRising : (kind : Kind) (u : AttributeUnit) (last : Option ℕ) (fs : List Field) → AreRising kind u last fs → AllPairs PartsRise fs
in_order-AreRising kind u last [] h = λ i j d l m. absurd (omega arith)
in_order-AreRising kind u last (f ∷ fs) h =
    AllPairs-cons PartsRise f fs (above kind u (number f) (number f) fs (omega arith) h.2) (in_order-AreRising kind u (Some (number f)) fs h.2)

-- the first field may come after the last one
abbrev pub Begins : Option ℕ → List Field → Type 0
Begins last [] = Unit {0}
Begins last (f ∷ fs) = Rises last (number f)

begins_after : (f : Field) (fs : List Field) → AllPairs PartsRise (f ∷ fs) → Begins (Some (number f)) fs
begins_after f [] h = tt
begins_after f (g ∷ fs) h = h zero (suc zero) f (omega arith) (omega arith)

AreRising-own : (kind : Kind) (u : AttributeUnit) (last : Option ℕ) (fs : List Field) → Begins last fs → All (IsSoundField kind u) fs → AllPairs PartsRise fs → AreRising kind u last fs
AreRising-own kind u last [] b own order = tt
AreRising-own kind u last (f ∷ fs) b own order =
    (All-head (IsSoundField kind u) f fs own, b, AreRising-own kind u (Some (number f)) fs (begins_after f fs order) (All-tail (IsSoundField kind u) f fs own) (λ i j d l m. order (suc i) (suc j) d (omega arith) (omega arith)))

begins_none : (fs : List Field) → Begins None fs
begins_none [] = tt
begins_none (f ∷ fs) = tt

pub sound-AreRising : (kind : Kind) (r : Row) → AreRising kind r.unit None r.fields → IsSoundRow kind r
sound-AreRising kind r h = record { own = own-AreRising kind r.unit None r.fields h; in_order = in_order-AreRising kind r.unit None r.fields h }

pub AreRising-sound : (kind : Kind) (r : Row) → IsSoundRow kind r → AreRising kind r.unit None r.fields
AreRising-sound kind r h = AreRising-own kind r.unit None r.fields (begins_none r.fields) h.own h.in_order
