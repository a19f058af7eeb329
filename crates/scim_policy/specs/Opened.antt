-- The rights on reading that a change would add, by the patterns of leaves.
use Rattle.std.specs.Prelude.{◌≡◌, ◌⊎◌, Bool, true, false, not, ◌&&◌, nat_eq, List, [], ◌∷◌, filter, filter_map, Option, None, Some, option_map, if◌then◌else◌}
use Rattle.std.specs.List.{list_any, list_all}
use Rattle.std.specs.Cmp.Lexicographic.{pointwise}
use Rattle.scim_schema.specs.declared.Kind.{Kind}
use Rattle.scim_schema.specs.declared.Op.{Op}
use Rattle.scim_schema.specs.declared.Op.TheVariants.{Read}
use Rattle.scim_schema.specs.declared.Leaf.{Leaf}
use Rattle.scim_schema.specs.Table.{leaves}
use Rattle.scim_policy.specs.declared.rules.Decision.{Decision}

-- the first element, if there is one
abbrev pub first : {X : Type 0} → List X → Option X
first [] = None
first (x ∷ xs) = Some x

-- whether the decision allows
abbrev pub allows : Decision → Bool
allows d = d.allow

-- whether two decisions are equal
abbrev pub is_same_decision : Decision → Decision → Bool
is_same_decision a b = nat_eq a.rule b.rule && (if a.allow then b.allow else not b.allow)

-- whether a change of a leaf's pattern opens reading: the patterns differ, a rule of the one afterwards allows, and
-- not every rule of both allows
abbrev pub opens : List Decision → List Decision → Bool
opens before after =
    not (pointwise is_same_decision before after) && (list_any allows after && not (list_all allows before && list_all allows after))

-- the first rule of the pattern afterwards that allows, if the change opens reading
abbrev pub opened_at : List Decision → List Decision → Option Decision
opened_at before after = if opens before after then first (filter allows after) else None

-- a leaf on which the change opens reading, with that rule
abbrev pub opening : Leaf → Option Decision → Option (Op × Leaf × Decision)
opening l o = option_map (λ (d : Decision). (Read, l, d)) o

-- the leaves on which a change opens reading, in order
abbrev pub opened_for_reading : Kind → (Leaf → List Decision) → (Leaf → List Decision) → List (Op × Leaf × Decision)
opened_for_reading kind before after = filter_map (λ (l : Leaf). opening l (opened_at (before l) (after l))) (leaves kind)

-- a change of a leaf's pattern doesn't open reading: the patterns before and after it are equal, or no rule of the one
-- afterwards allows, or every rule of both allows
abbrev pub IsNotOpened : List Decision → List Decision → Type 0
IsNotOpened before after =
    (before ≡ after) ⊎ ((list_any allows after ≡ false) ⊎ ((list_all allows before ≡ true) × (list_all allows after ≡ true)))
