-- What a step leaves of a unit that has one value at most: that may stand too.
use Rattle.std.proofs.Common.{◌≡◌, ◌≤◌, refl, sym, ◌∙◌, ap, subst, Bool, true, false, arith, inl, inr, List, [], ◌∷◌, length, Some, None}
use Rattle.std.specs.Prelude.{◌⊎◌, All, IsSome, not, map, filter, Result, Ok, Err, if◌then◌else◌}
use Rattle.std.specs.List.{count_by}
use Rattle.std.proofs.lemmas.Bool.{cases_Bool, or_parts}
use Rattle.std.proofs.lemmas.List.Elements.{All-nil, All-cons, All-head, All-tail, All-weaker}
use Rattle.std.proofs.lemmas.List.Sums.{count_by-le-length}
use denote.Enum.Bare.{same_true}
use Rattle.scim_schema.specs.declared.Kind.{Kind}
use Rattle.scim_schema.specs.declared.Kind.TheVariants.{User, Group}
use Rattle.scim_schema.specs.declared.Attribute.{Attribute}
use Rattle.scim_schema.specs.declared.Attribute.TheVariants.{UserName, DisplayName, Members}
use Rattle.scim_schema.specs.declared.Unit.{Unit as AttributeUnit}
use Rattle.scim_schema.specs.contracts.Attribute.{the_type as the_attribute}
use Rattle.scim_schema.specs.Characteristics.{is_multi_valued, characteristics_of}
use Rattle.scim_schema.specs.Units.{simple, whole}
use Rattle.scim_schema.proofs.Facts.{is_same_leaf-Decides}
use Rattle.scim_cell.specs.declared.rows.Field.{Field}
use Rattle.scim_cell.specs.Content.{HasType}
use Rattle.scim_cell.specs.Rows.{Row, atom_in, atom_at, has_fields, is_primary, IsSoundField, IsValue, AreValues}
use Rattle.scim_value.specs.Resource.{MayBeKept, IsFilled}
use Rattle.scim_cell.specs.SameValues.{is_members, is_nameless}
use Rattle.scim_body.specs.Drafts.{MayBeGiven}
use Rattle.scim_change.proofs.Facts.{filled, kept_field}
use Rattle.scim_patch_values.specs.declared.positions.Position.{Position}
use Rattle.scim_patch_values.specs.Matches.{kept}
use Rattle.scim_patch_steps.specs.Changes.{StepChange, Keep, KeepMatches, KeepSubAttribute, Append, Replace, Clear, RemoveListed, AddToMatches, ReplaceMatches, RemoveMatches, AddAtMatches, SetAtMatches, ClearAtMatches, SetEverywhere, ClearEverywhere}
use Rattle.scim_patch_steps.specs.Table.{row}
use Rattle.scim_patch_steps.proofs.Outcomes.{not_refused}
use Rattle.scim_patch_steps.specs.declared.steps.StepFault.TheVariants as fault
use Rattle.scim_patch_steps.specs.Steps.{is_required, is_forbidden, gives_two_primary, are_refused, primary_settled, checked, settled, judged, after}
use Rattle.scim_schema.specs.Mutability.{is_fixed}
use Rattle.scim_patch_steps.specs.Patch.{AreGivenValues, MayBeMade}
use Rattle.scim_patch_steps.proofs.Stand.{NamesAs, MayStand}

-- ---- a value alone

module _ (kind : Kind) (u : AttributeUnit) where
  -- of what isn't multi-valued there is no member
  pub no_member : is_multi_valued u.attribute ≡ false → is_members u.attribute ≡ false
  no_member single = elim (cases_Bool (is_members u.attribute)) [
    | inl t ↦ (let e = same_true the_attribute tt u.attribute Members t in let many : is_multi_valued u.attribute ≡ true = ap is_multi_valued e in cc)
    | inr n ↦ n
  ]

  named : is_multi_valued u.attribute ≡ false → (vs : List Row) → All (λ r. is_nameless u.attribute r ≡ false) vs
  named single [] = All-nil (λ r. is_nameless u.attribute r ≡ false)
  named single (r ∷ vs) = All-cons (λ s. is_nameless u.attribute s ≡ false) r vs (rw (no_member single) refl) (named single vs)

-- ---- the name that a kind has

-- a field of a simple attribute's unit stands at the attribute itself
at_simple : (kind : Kind) (a : Attribute) (f : Field) → is_multi_valued a ≡ false → IsSoundField kind (whole a) f → f.leaf ≡ simple a
at_simple kind a f single own =
    let attribute : f.leaf.attribute ≡ a = ap (λ (v : AttributeUnit). v.attribute) own.0 in
    let one : is_multi_valued f.leaf.attribute ≡ false = ap is_multi_valued attribute ∙ single in
    let sub : f.leaf.sub_attribute ≡ None = sym (ap (λ b. if b then None else f.leaf.sub_attribute) one) ∙ ap (λ (v : AttributeUnit). v.sub_attribute) own.0 in
    λ i. record { attribute = attribute i; sub_attribute = sub i }

-- so it is found there
found_first : (a : Attribute) (f : Field) (fs : List Field) → f.leaf ≡ simple a → atom_in (simple a) (f ∷ fs) ≡ Some f.atom
found_first a f fs e = rw ((is_same_leaf-Decides f.leaf (simple a)).1 e) refl

-- a value that is given for `userName` is filled
user_named : (r : Row) → IsValue User (whole UserName) r → All (MayBeGiven User) r.fields → IsFilled (atom_in (simple UserName) r.fields)
user_named r own given = go r.fields own.1 own.2.own given own.0
  where
    go : (fs : List Field) → not (Rattle.scim_cell.specs.Rows.is_empty fs) ≡ true → All (IsSoundField User r.unit) fs → All (MayBeGiven User) fs → r.unit ≡ whole UserName → IsFilled (atom_in (simple UserName) fs)
    go [] full sound may e = cc
    go (f ∷ fs) full sound may e =
        let own : IsSoundField User (whole UserName) f = subst (λ v. IsSoundField User v f) e (All-head (IsSoundField User r.unit) f fs sound) in
        let at : f.leaf ≡ simple UserName = at_simple User UserName f refl own in
        let type = subst (λ l. HasType (characteristics_of User l).attribute_type f.atom) at own.2 in
        subst IsFilled (sym (found_first UserName f fs at)) (filled f.atom ((All-head (MayBeGiven User) f fs may).filled at) type)

-- and one for the `displayName` of a group is there
group_named : (r : Row) → IsValue Group (whole DisplayName) r → IsSome (atom_in (simple DisplayName) r.fields)
group_named r own = go r.fields own.1 own.2.own own.0
  where
    go : (fs : List Field) → not (Rattle.scim_cell.specs.Rows.is_empty fs) ≡ true → All (IsSoundField Group r.unit) fs → r.unit ≡ whole DisplayName → IsSome (atom_in (simple DisplayName) fs)
    go [] full sound e = cc
    go (f ∷ fs) full sound e =
        let own : IsSoundField Group (whole DisplayName) f = subst (λ v. IsSoundField Group v f) e (All-head (IsSoundField Group r.unit) f fs sound) in
        subst IsSome (sym (found_first DisplayName f fs (at_simple Group DisplayName f refl own))) refl

given_names : (kind : Kind) (u : AttributeUnit) (r : Row) → AreGivenValues kind u (r ∷ []) → NamesAs kind u (r ∷ [])
given_names User u r given = λ e.
    user_named r (subst (λ v. IsValue User v r) e (All-head (IsValue User u) r [] given.own.own)) (All-head (λ s. All (MayBeGiven User) s.fields) r [] given.may_be_given)
given_names Group u r given = λ e. group_named r (subst (λ v. IsValue Group v r) e (All-head (IsValue Group u) r [] given.own.own))

-- what isn't required needs no name
unrequired_names : (kind : Kind) (u : AttributeUnit) (vs : List Row) → is_required kind u ≡ false → NamesAs kind u vs
unrequired_names User u vs n = λ e. absurd (let t : is_required User u ≡ true = ap (is_required User) e in cc)
unrequired_names Group u vs n = λ e. absurd (let t : is_required Group u ≡ true = ap (is_required Group) e in cc)

-- ---- what a step leaves

-- values that stay
stay : (vs : List Row) → All (λ r. has_fields r ≡ true) vs → filter (λ (p : Position). has_fields p.value) (map kept vs) ≡ map kept vs
stay [] full = refl
stay (r ∷ vs) full =
    let first = All-head (λ s. has_fields s ≡ true) r vs full in
    rw first (ap (λ (ps : List Position). kept r ∷ ps) (stay vs (All-tail (λ s. has_fields s ≡ true) r vs full)))

-- none of them is chosen
none_chosen : (vs : List Row) → count_by (λ (p : Position). p.chosen) (map kept vs) ≡ 0
none_chosen [] = refl
none_chosen (r ∷ vs) = none_chosen vs

values_again : (vs : List Row) → map (λ (p : Position). p.value) (map kept vs) ≡ vs
values_again [] = refl
values_again (r ∷ vs) = ap (λ rs. r ∷ rs) (values_again vs)

-- what is left of them is what they are
pub kept_left : (a : Attribute) (vs ws : List Row) → All (λ r. has_fields r ≡ true) vs → settled a (Some (map kept vs)) ≡ Ok ws → vs ≡ ws
kept_left a vs ws full h =
    let same = stay vs full in
    let allowed = not_refused (are_refused a (filter (λ (p : Position). has_fields p.value) (map kept vs))) _ _ ws h in
    let left : primary_settled (filter (λ (p : Position). has_fields p.value) (map kept vs)) ≡ ws = (let e = allowed.1 in cc) in
    let own : primary_settled (map kept vs) ≡ vs = rw (none_chosen vs) (values_again vs) in
    sym own ∙ ap primary_settled (sym same) ∙ left

-- nothing is left of nothing
pub nothing_left : (a : Attribute) (ws : List Row) → settled a (Some []) ≡ Ok ws → [] ≡ ws
nothing_left a ws h = cc

same_ok : {X E : Type 0} (x y : X) (found : Result X E) → found ≡ Ok x → found ≡ Ok y → x ≡ y
same_ok x y (Ok z) e f = (let same : z ≡ x = cc in let other : z ≡ y = cc in sym same ∙ other)
same_ok x y (Err z) e f = absurd (cc e)

-- and of one value that value, chosen or not
one_position : (a : Attribute) (p : Position) (ws : List Row) → has_fields p.value ≡ true → settled a (Some (p ∷ [])) ≡ Ok ws → primary_settled (p ∷ []) ≡ ws
one_position a p ws full h =
    let left : checked a (p ∷ []) ≡ Ok ws = rw full at h in
    let allowed = not_refused (are_refused a (p ∷ [])) fault.Value (Ok (primary_settled (p ∷ []))) ws left in
    same_ok (primary_settled (p ∷ [])) ws (Ok (primary_settled (p ∷ []))) refl allowed.1

one_value : (r : Row) (chosen : Bool) → primary_settled (record { value = r; chosen = chosen } ∷ []) ≡ r ∷ []
one_value r true = refl
one_value r false = refl

one_left : (a : Attribute) (r : Row) (chosen : Bool) (ws : List Row) → has_fields r ≡ true → settled a (Some (record { value = r; chosen = chosen } ∷ [])) ≡ Ok ws → r ∷ [] ≡ ws
one_left a r chosen ws full h = sym (one_value r chosen) ∙ one_position a (record { value = r; chosen = chosen }) ws full h

-- ---- a unit that isn't multi-valued

-- the values that a body gives of it are one at most, and may stand
given_stand : (kind : Kind) (u : AttributeUnit) (vs : List Row) → is_multi_valued u.attribute ≡ false → AreGivenValues kind u vs → (is_required kind u ≡ true → length vs ≡ 1) → MayStand kind u vs
given_stand kind u vs single given there = record {
  own = given.own;
  kept = All-weaker (λ r. All (MayBeGiven kind) r.fields) (λ r. All (MayBeKept kind) r.fields) (λ r h. All-weaker (MayBeGiven kind) (MayBeKept kind) (kept_field kind) r.fields h) vs given.may_be_given;
  named = named kind u single vs;
  one_primary = (let few = at_most given.own.few in let counted = count_by-le-length is_primary vs in omega (arith, few, counted));
  few = (let few = at_most given.own.few in omega (arith, few));
  names = names vs given there;
}
  where
    at_most : ((is_multi_valued u.attribute ≡ true) ⊎ (length vs ≤ 1)) → length vs ≤ 1
    at_most (inl many) = (let m = many in let s = single in cc)
    at_most (inr few) = few

    names : (ws : List Row) → AreGivenValues kind u ws → (is_required kind u ≡ true → length ws ≡ 1) → NamesAs kind u ws
    names ws own one = elim (cases_Bool (is_required kind u)) [
      | inl t ↦ by_length ws own (one t)
      | inr n ↦ unrequired_names kind u ws n
    ]
      where
        by_length : (rs : List Row) → AreGivenValues kind u rs → length rs ≡ 1 → NamesAs kind u rs
        by_length [] own e = absurd (cc e)
        by_length (r ∷ []) own e = given_names kind u r own
        by_length (r ∷ s ∷ rs) own e = absurd (omega (arith, e))

-- nothing may stand where nothing is required
none_stands : (kind : Kind) (u : AttributeUnit) → is_required kind u ≡ false → MayStand kind u []
none_stands kind u n = record {
  own = record { few = inr (omega arith); own = All-nil (IsValue kind u) };
  kept = All-nil (λ r. All (MayBeKept kind) r.fields);
  named = All-nil (λ r. is_nameless u.attribute r ≡ false);
  one_primary = omega arith;
  few = omega arith;
  names = unrequired_names kind u [] n;
}

-- values in place of those there are: a step that replaces leaves those that it gives
replaced_left : (kind : Kind) (u : AttributeUnit) (given ws : List Row) → is_multi_valued u.attribute ≡ false → AreValues kind u given → settled u.attribute (row u (Replace given) []) ≡ Ok ws → given ≡ ws
replaced_left kind u [] ws single own h = nothing_left u.attribute ws h
replaced_left kind u (r ∷ []) ws single own h = one_left u.attribute r _ ws (All-head (IsValue kind u) r [] own.own).1 h
replaced_left kind u (r ∷ s ∷ given) ws single own h = absurd (go own.few)
  where
    go : ((is_multi_valued u.attribute ≡ true) ⊎ (length (r ∷ s ∷ given) ≤ 1)) → ⊥
    go (inl many) = (let m = many in let n = single in cc)
    go (inr few) = omega (arith, few)

-- what a step leaves of a unit that isn't multi-valued may stand
pub single_left : (kind : Kind) (u : AttributeUnit) (change : StepChange) (vs ws : List Row) → is_multi_valued u.attribute ≡ false
    → MayBeMade kind u change → MayStand kind u vs → after kind u change vs ≡ Ok ws → MayStand kind u ws
single_left kind u change vs ws single may stands h = go change may (not_refused (is_forbidden kind u change vs) fault.Mutability (judged u.attribute change (row u change vs)) ws h)
  where
    settled_so : (c : StepChange) → judged u.attribute c (row u c vs) ≡ Ok ws → settled u.attribute (row u c vs) ≡ Ok ws
    settled_so c e = (not_refused (gives_two_primary u.attribute c) fault.Value (settled u.attribute (row u c vs)) ws e).1

    no_many : is_multi_valued u.attribute ≡ true → ⊥
    no_many many = (let m = many in let n = single in cc)

    go : (c : StepChange) → MayBeMade kind u c → (is_forbidden kind u c vs ≡ false) × (judged u.attribute c (row u c vs) ≡ Ok ws) → MayStand kind u ws
    go Keep m a = subst (MayStand kind u) (kept_left u.attribute vs ws (All-weaker (IsValue kind u) (λ r. has_fields r ≡ true) (λ r o. o.1) vs stands.own.own) (settled_so Keep a.1)) stands
    go Clear m a = subst (MayStand kind u) (nothing_left u.attribute ws (settled_so Clear a.1)) (none_stands kind u (or_parts (is_fixed kind u) (is_required kind u) a.0).1)
    go (Replace given) m a = subst (MayStand kind u) (replaced_left kind u given ws single m.0.own (settled_so (Replace given) a.1)) (given_stand kind u given single m.0 m.1)
    go (Append given) m a = absurd (no_many m.0)
    go (AddToMatches t fs) m a = absurd (no_many m.many)
    go (ReplaceMatches t fs) m a = absurd (no_many m.many)
    go (AddAtMatches t f) m a = absurd (no_many m.many)
    go (SetAtMatches t f) m a = absurd (no_many m.many)
    go (SetEverywhere f) m a = absurd (no_many m.many)
    go (KeepMatches t) m a = absurd (no_many m)
    go (KeepSubAttribute b) m a = absurd (no_many m)
    go (RemoveListed texts) m a = absurd (no_many m)
    go (RemoveMatches t) m a = absurd (no_many m)
    go (ClearAtMatches t b) m a = absurd (no_many m)
    go (ClearEverywhere b) m a = absurd (no_many m)
