-- After a step at most one value of its unit is primary, where at most one was before.
use Rattle.std.proofs.Common.{◌≡◌, ◌≢◌, ◌≤◌, ◌+◌, ℕ, Bool, true, false, ◌&&◌, List, [], ◌∷◌, refl, subst, arith, cond, length}
use Rattle.std.specs.Prelude.{not, map, filter, nat_lt, ◌==◌, ◌||◌, Option, None, Some, option_map, Result, Ok, Err, AllPairs, if◌then◌else◌}
use Rattle.std.specs.List.{list_any, count_by}
use Rattle.std.proofs.lemmas.Bool.{eqb-false, ltb-false, or_parts}
use Rattle.std.proofs.lemmas.List.Elements.{All-nil, All-cons}
use Rattle.std.proofs.lemmas.List.Sums.{sum_by-cons, sum_by-append}
use Rattle.scim_schema.specs.declared.Kind.{Kind}
use Rattle.scim_schema.specs.declared.Attribute.{Attribute}
use Rattle.scim_schema.specs.declared.Unit.{Unit as AttributeUnit}
use Rattle.scim_schema.specs.Units.{leaf_at}
use Rattle.scim_cell.specs.declared.rows.Field.{Field}
use Rattle.scim_cell.specs.Rows.{Row, is_primary, has_fields}
use Rattle.scim_cell.specs.SameValues.{is_nameless}
use Rattle.scim_filter_grammar.specs.Tree.{Tree}
use Rattle.scim_filter.specs.Truth.{truth_in_value}
use Rattle.scim_patch_values.specs.declared.positions.Position.{Position}
use Rattle.scim_patch_values.specs.Described.{described}
use Rattle.scim_patch_values.specs.Fields.{row_without, demoted}
use Rattle.scim_patch_values.specs.Matches.{kept, made, value_of, is_listed, is_any_match, set_over, set_at_match, cleared_at_match, with_made, added_at_matches, set_everywhere}
use Rattle.scim_patch_steps.specs.declared.steps.StepFault.{StepFault}
use Rattle.scim_patch_steps.specs.Changes.{StepChange, Keep, KeepMatches, KeepSubAttribute, Append, Replace, Clear, RemoveListed, AddToMatches, ReplaceMatches, RemoveMatches, AddAtMatches, SetAtMatches, ClearAtMatches, SetEverywhere, ClearEverywhere}
use Rattle.scim_patch_steps.specs.Table.{row}
use Rattle.scim_patch_steps.specs.Steps.{is_forbidden, gives_two_primary, are_refused, beside_chosen, primary_settled, checked, settled, judged, after}
use Rattle.scim_patch_steps.specs.Patch.{MayBeMade}
use Rattle.scim_patch_steps.proofs.LooseLemmas.{is_loose, count_map, count_filter, count_none, Rises, demoted_is_not, primary_without, primary_cleared, loose_kept, loose_over, loose_at_match, loose_made, loose_given, loose_replaced}

-- ---- the table

module _ (vs : List Row) where
  -- no more positions are loose than values were primary
  abbrev NoMoreLoose : Option (List Position) → Type 0
  NoMoreLoose None = Unit {0}
  NoMoreLoose (Some ps) = count_by is_loose ps ≤ count_by is_primary vs

  -- of values that are left as they are
  kept_few : (rs : List Row) → count_by is_primary rs ≤ count_by is_primary vs → count_by is_loose (map kept rs) ≤ count_by is_primary vs
  kept_few rs h = omega (arith, count_map is_loose is_primary kept loose_kept rs, h)

  -- of those with one behind them that is made
  made_few : (u : AttributeUnit) (f : List Field → List Field) (o : Option (List Field)) → NoMoreLoose (option_map (λ fs. with_made u vs (f fs)) o)
  made_few u f None = tt
  made_few u f (Some fs) =
      let new : Row = value_of u (f fs) in
      let none : ◌≡◌ {A = ℕ} (cond (is_loose (made new)) 1 0) 0 = rw (loose_made new) refl in
      omega (arith, sum_by-append (λ p. cond (is_loose p) 1 0) (map kept vs) (made new ∷ []), kept_few vs (omega arith), none)

  -- of the one outcome or the other, whichever a test picks
  few_by : (b : Bool) (p o : Option (List Position)) → NoMoreLoose p → NoMoreLoose o → NoMoreLoose (if b then p else o)
  few_by true p o g h = g
  few_by false p o g h = h

  -- of what an add at matches makes
  added_few : (u : AttributeUnit) (t : Tree) (given : List Field) → AllPairs Rises given → NoMoreLoose (added_at_matches u t given vs)
  added_few u t given order =
      few_by (is_any_match t vs) _ _ (count_map is_loose is_primary (set_at_match t given) (λ r. loose_at_match t given r order) vs) (made_few u _ (described u.attribute t))

-- of what comes of fields that are set in every value
everywhere_few : (u : AttributeUnit) (given : List Field) (vs : List Row) → AllPairs Rises given → count_by is_loose (set_everywhere u given vs) ≤ count_by is_primary vs
everywhere_few u given [] order = count_none is_loose (made (value_of u given) ∷ []) (All-cons (λ p. is_loose p ≡ false) (made (value_of u given)) [] (loose_made (value_of u given)) (All-nil (λ p. is_loose p ≡ false)))
everywhere_few u given (v ∷ vs) order = count_map is_loose is_primary (set_over given) (λ r. loose_over given r order) (v ∷ vs)

-- whatever the change is, no more positions are loose than values were primary
row_few : (kind : Kind) (u : AttributeUnit) (change : StepChange) (vs : List Row) → MayBeMade kind u change → NoMoreLoose vs (row u change vs)
row_few kind u Keep vs m = kept_few vs vs (omega arith)
row_few kind u (KeepMatches t) vs m = kept_few vs vs (omega arith)
row_few kind u (KeepSubAttribute b) vs m = kept_few vs vs (omega arith)
row_few kind u (Append given) vs m = loose_given u.attribute given vs
row_few kind u (Replace given) vs m = omega (arith, loose_given u.attribute given [])
row_few kind u Clear vs m = omega arith
row_few kind u (RemoveListed texts) vs m = kept_few vs (filter (λ r. not (is_listed texts r)) vs) (count_filter (λ r. not (is_listed texts r)) is_primary vs)
row_few kind u (AddToMatches t given) vs m = added_few vs u t given m.in_order
row_few kind u (ReplaceMatches t given) vs m = few_by vs (is_any_match t vs) _ _ (loose_replaced u.attribute t (value_of u given) vs) tt
row_few kind u (RemoveMatches t) vs m = kept_few vs (filter (λ r. not (truth_in_value t r)) vs) (count_filter (λ r. not (truth_in_value t r)) is_primary vs)
row_few kind u (AddAtMatches t f) vs m = added_few vs u t (f ∷ []) m.in_order
row_few kind u (SetAtMatches t f) vs m =
    few_by vs (is_any_match t vs) _ _ (count_map is_loose is_primary (set_at_match t (f ∷ [])) (λ r. loose_at_match t (f ∷ []) r m.in_order) vs) tt
row_few kind u (ClearAtMatches t b) vs m = kept_few vs (map (cleared_at_match t b) vs) (count_map is_primary is_primary (cleared_at_match t b) (primary_cleared t b) vs)
row_few kind u (SetEverywhere f) vs m = everywhere_few u (f ∷ []) vs m.in_order
row_few kind u (ClearEverywhere b) vs m =
    kept_few vs (map (row_without (leaf_at u.attribute b)) vs) (count_map is_primary is_primary (row_without (leaf_at u.attribute b)) (primary_without (leaf_at u.attribute b)) vs)

-- ---- what is left

-- how many positions the step chose
abbrev chosen_count : List Position → ℕ
chosen_count ps = count_by (λ (p : Position). p.chosen) ps

-- beside the chosen ones none is primary
beside_few : (ps : List Position) → count_by is_primary (map beside_chosen ps) ≤ chosen_count ps
beside_few ps = count_map is_primary (λ (p : Position). p.chosen) beside_chosen (λ p. go p p.chosen) ps
  where
    go : (p : Position) (b : Bool) → is_primary (if b then p.value else demoted p.value) ≡ true → b ≡ true
    go p true h = refl
    go p false h = (let n = demoted_is_not p.value in cc)

-- each primary value is loose or chosen
all_few : (ps : List Position) → count_by is_primary (map (λ (p : Position). p.value) ps) ≤ count_by is_loose ps + chosen_count ps
all_few [] = omega arith
all_few (p ∷ ps) =
    omega (
      arith,
      sum_by-cons (λ r. cond (is_primary r) 1 0) p.value (map (λ (q : Position). q.value) ps),
      sum_by-cons (λ q. cond (is_loose q) 1 0) p ps,
      sum_by-cons (λ (q : Position). cond q.chosen 1 0) p ps,
      all_few ps,
      go p.chosen (is_primary p.value),
    )
  where
    go : (c b : Bool) → cond b 1 0 ≤ cond (not c && b) 1 0 + cond c 1 0
    go true true = omega arith
    go true false = omega arith
    go false true = omega arith
    go false false = omega arith

-- where at most one position is chosen, and at most one is loose, one value at most is primary
settled_one : (ps : List Position) → chosen_count ps ≤ 1 → count_by is_loose ps ≤ 1 → count_by is_primary (primary_settled ps) ≤ 1
settled_one ps few loose = go (chosen_count ps == 1) refl
  where
    go : (b : Bool) → (chosen_count ps == 1) ≡ b → count_by is_primary (if b then map beside_chosen ps else map (λ (p : Position). p.value) ps) ≤ 1
    go true e = omega (arith, beside_few ps)
    go false e = (let other : chosen_count ps ≢ 1 = eqb-false (chosen_count ps) 1 e in omega (arith, all_few ps, other))

-- what is left has at most one primary value
abbrev HasOne : Result (List Row) StepFault → Type 0
HasOne (Ok ws) = count_by is_primary ws ≤ 1
HasOne (Err e) = Unit {0}

-- a refusal leaves no value, so it is enough to look at what isn't refused
one_by : (b : Bool) (e : StepFault) (found : Result (List Row) StepFault) → (b ≡ false → HasOne found) → HasOne (if b then Err e else found)
one_by true e found h = tt
one_by false e found h = h refl

-- positions that aren't refused have at most one that is chosen
checked_one : (a : Attribute) (ps : List Position) → count_by is_loose ps ≤ 1 → HasOne (checked a ps)
checked_one a ps h =
    one_by (are_refused a ps) _ (Ok (primary_settled ps))
    (λ n. (let parts = or_parts (nat_lt 1 (chosen_count ps) || list_any (λ (p : Position). is_nameless a p.value) ps) (nat_lt 10000 (length ps)) n in
    let first = or_parts (nat_lt 1 (chosen_count ps)) (list_any (λ (p : Position). is_nameless a p.value) ps) parts.0 in
    settled_one ps (ltb-false 1 (chosen_count ps) first.0) h))

-- values without a field are gone, and that makes no more loose
found_one : (a : Attribute) (vs : List Row) (found : Option (List Position)) → count_by is_primary vs ≤ 1 → NoMoreLoose vs found → HasOne (settled a found)
found_one a vs None one h = tt
found_one a vs (Some ps) one h =
    let full = λ (p : Position). has_fields p.value in
    checked_one a (filter full ps) (omega (arith, count_filter full is_loose ps))

-- so after a step one value at most is primary
pub one_primary : (kind : Kind) (u : AttributeUnit) (change : StepChange) (vs ws : List Row) → MayBeMade kind u change → count_by is_primary vs ≤ 1
    → after kind u change vs ≡ Ok ws → count_by is_primary ws ≤ 1
one_primary kind u change vs ws made one e =
    subst HasOne e
    (one_by (is_forbidden kind u change vs) _ (judged u.attribute change (row u change vs))
    (λ n. one_by (gives_two_primary u.attribute change) _ (settled u.attribute (row u change vs)) (λ m. found_one u.attribute vs (row u change vs) one (row_few kind u change vs made))))
