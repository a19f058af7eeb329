-- What an index of groups holds, as groups are added, and what it gives.
use Rattle.std.proofs.Common.{◌≡◌, refl, sym, ◌∙◌, ap, subst, ℕ, suc, ◌+◌, ◌-◌, ◌<◌, Bool, true, false, ◌||◌, cond, List, [], ◌∷◌, ◌++◌, append_assoc, map, filter, length, inl, inr, arith}
use Rattle.std.specs.Prelude.{not, ◌==◌, All, Option, None, Some, IsSome, nat_eq, vec_len, if◌then◌else◌}
use Rattle.std.specs.List.{list_any, slice_get}
use Rattle.std.specs.Option.{option_eq, option_copied}
use Rattle.std.specs.Global.{Vec}
use Rattle.std.specs.BTreeMap.{BTreeMap, UpdatesBy, get}
use Rattle.std.specs.Ordering.{nat_cmp, is_eq}
use Rattle.std.specs.Cmp.Lexicographic.{slice_cmp}
use Rattle.std.proofs.lemmas.Bool.{cases_Bool, ne_eqb, eq-eqb}
use Rattle.std.proofs.lemmas.List.{length_push, length-map, map_push}
use Rattle.std.proofs.lemmas.Map.Text.{is_eq-slice_cmp}
use Rattle.std.proofs.lemmas.Slice.Eq.{bytes_eq-Decides}
use Rattle.std.proofs.lemmas.List.Elements.{All-nil, All-cons, All-weaker}
use denote.Ref.{Bor}
use Rattle.std.specs.Slice.{IsItemAt}
use Rattle.std.proofs.lemmas.Option.{slice_get_past, slice_get-get_or, slice_get_within, get_or_from_slice_get}
use Rattle.scim_cell.specs.Content.{Content}
use Rattle.scim_cell.specs.Ids.{IsId}
use Rattle.scim_cell.specs.Rows.{Row}
use Rattle.scim_view.specs.declared.computed_groups.SeenGroup.{SeenGroup}
use Rattle.scim_view.specs.declared.group_index.GroupIndex.{GroupIndex}
use Rattle.scim_view.specs.View.{Viewer, view}
use Rattle.scim_value.specs.Members.{lists}
use Rattle.scim_view.specs.Groups.{and_those, seen}
use Rattle.scim_view.specs.code.Index.{ends_in, is_found, noted, at_positions, positions_in, positions_of, Indexes, positions_from, IsMadeOf}
use Rattle.scim_view.specs.code.Memberships.{kept_of}

-- an element that was added at the end stands there
at_end : {X : Type 0} (xs : List X) (x : X) (ys : List X) → slice_get (xs ++ x ∷ ys) (length xs) ≡ Some x
at_end [] x ys = refl
at_end (y ∷ xs) x ys = at_end xs x ys

ends_in_itself : (p : ℕ) (ps : List ℕ) → ends_in p (ps ++ p ∷ []) ≡ true
ends_in_itself p ps =
    let last : length (ps ++ p ∷ []) - 1 ≡ length ps = omega (arith, length_push ps p) in
    rw (last, at_end ps p []) (eq-eqb p p refl)

-- a position that is noted twice stands there once
pub noted_twice : (p : ℕ) (ps : List ℕ) → noted p (noted p ps) ≡ noted p ps
noted_twice p ps =
    elim (cases_Bool (ends_in p ps)) [
      | inl t ↦ rw (t, t) refl
      | inr n ↦ rw n (rw (ends_in_itself p ps) refl)
    ]

-- the positions, by id
abbrev pub Positions : Type 0
Positions = BTreeMap (List ℕ) (Vec ℕ)

-- what is found is there
pub is_there : {X : Type 0} (o : Option X) (x : X) → Some x ≡ o → IsSome o
is_there o x h = subst IsSome h refl

-- where one position more is kept for an id, it is noted for this id alone
pub noted_at : (id : List ℕ) (n : ℕ) (old new : Positions) (ps : Option (Vec ℕ)) → UpdatesBy (slice_cmp nat_cmp) (slice_cmp nat_cmp id) old new ps
    → positions_in ps ≡ noted n (positions_in (get (slice_cmp nat_cmp) old id)) → (other : List ℕ)
    → positions_in (get (slice_cmp nat_cmp) new other)
    ≡ cond (is_eq (slice_cmp nat_cmp id other)) (noted n (positions_in (get (slice_cmp nat_cmp) old other))) (positions_in (get (slice_cmp nat_cmp) old other))
noted_at id n old new ps updates is other =
    ap positions_in (updates.0 other)
    ∙ (elim (cases_Bool (is_eq (slice_cmp nat_cmp id other))) [
      | inl t ↦
          let same : id ≡ other = (bytes_eq-Decides id other).0 (sym (is_eq-slice_cmp id other) ∙ t) in
          rw t (is ∙ ap (λ (x : List ℕ). noted n (positions_in (get (slice_cmp nat_cmp) old x))) same)
      | inr f ↦ rw f refl
    ])

-- a position beyond all others is new
ends_in_below : (p : ℕ) (ps : List ℕ) → All (λ q. q < p) ps → ends_in p ps ≡ false
ends_in_below p ps below =
    elim (slice_get ps (length ps - 1)) as (λ o. slice_get ps (length ps - 1) ≡ o → option_eq nat_eq o (Some p) ≡ false) [
      | None ↦ λ e. refl
      | Some q ↦ λ e.
          let within : length ps - 1 < length ps = slice_get_within ps (length ps - 1) q e in
          let less : q < p = subst (λ (x : ℕ). x < p) (get_or_from_slice_get ps (length ps - 1) q 0 e) (below (length ps - 1) 0 within) in
          ne_eqb q p (λ h. omega arith)
    ] refl

pub noted_new : (p : ℕ) (ps : List ℕ) → All (λ q. q < p) ps → noted p ps ≡ ps ++ p ∷ []
noted_new p ps below = rw (ends_in_below p ps below) refl

-- the positions are those of the groups
pub positions_within : (n : ℕ) (id : List ℕ) (gs : List Content) → All (λ p. p < n + length gs) (positions_from n id gs)
positions_within n id [] = All-nil (λ p. p < n + 0)
positions_within n id (g ∷ gs) =
    let rest : All (λ p. p < n + length (g ∷ gs)) (positions_from (n + 1) id gs) = All-weaker (λ p. p < n + 1 + length gs) (λ p. p < n + length (g ∷ gs)) (λ p l. omega (arith, l)) (positions_from (n + 1) id gs) (positions_within (n + 1) id gs) in
    elim (cases_Bool (lists id g)) [
      | inl t ↦ rw t (All-cons (λ p. p < n + length (g ∷ gs)) n (positions_from (n + 1) id gs) (omega arith) rest)
      | inr f ↦ rw f rest
    ]

-- the positions with a group more
pub positions_more : (n : ℕ) (id : List ℕ) (gs : List Content) (g : Content)
    → positions_from n id (gs ++ g ∷ []) ≡ (if lists id g then positions_from n id gs ++ (n + length gs) ∷ [] else positions_from n id gs)
positions_more n id [] g =
    let same : n + 0 ≡ n = omega arith in
    rw same refl
positions_more n id (h ∷ gs) g =
    let same : n + 1 + length gs ≡ n + length (h ∷ gs) = omega arith in
    let ih : positions_from (n + 1) id (gs ++ g ∷ []) ≡ (if lists id g then positions_from (n + 1) id gs ++ (n + length (h ∷ gs)) ∷ [] else positions_from (n + 1) id gs) =
    subst (λ (k : ℕ). positions_from (n + 1) id (gs ++ g ∷ []) ≡ (if lists id g then positions_from (n + 1) id gs ++ k ∷ [] else positions_from (n + 1) id gs)) same (positions_more (n + 1) id gs g) in
    elim (cases_Bool (lists id h)) [
      | inl t ↦ elim (cases_Bool (lists id g)) [
        | inl u ↦ rw (t, u) (ap (λ ps. n ∷ ps) (rw u at ih))
        | inr u ↦ rw (t, u) (ap (λ ps. n ∷ ps) (rw u at ih))
      ]
      | inr f ↦ elim (cases_Bool (lists id g)) [
        | inl u ↦ rw (f, u) (rw u at ih)
        | inr u ↦ rw (f, u) (rw u at ih)
      ]
    ]

-- what stands at the positions of the groups that list an id
pub given : (id : List ℕ) (xs : List SeenGroup) (gs : List Content) → at_positions (xs ++ map kept_of gs) (positions_from (length xs) id gs) ≡ map kept_of (filter (lists id) gs)
given id xs [] = refl
given id xs (g ∷ gs) =
    let more : at_positions (xs ++ kept_of g ∷ map kept_of gs) (positions_from (length xs + 1) id gs) ≡ map kept_of (filter (lists id) gs) =
    rw (append_assoc xs (kept_of g ∷ []) (map kept_of gs), length_push xs (kept_of g)) at (given id (xs ++ kept_of g ∷ []) gs) in
    elim (cases_Bool (lists id g)) [
      | inl t ↦ rw (t, at_end xs (kept_of g) (map kept_of gs)) (ap (λ ys. kept_of g ∷ ys) more)
      | inr f ↦ rw f more
    ]

-- an index that holds groups gives those that list an id
pub held : (gs : List Content) (index : GroupIndex) → IsMadeOf gs index → Indexes gs index
held gs index h id valid = rw (h.groups, h.positions id valid) (given id [] gs)

-- an id has positions if a group lists it
listed_from : (n : ℕ) (id : List ℕ) (gs : List Content) → not (length (positions_from n id gs) == 0) ≡ list_any (lists id) gs
listed_from n id [] = refl
listed_from n id (g ∷ gs) = elim (cases_Bool (lists id g)) [
  | inl t ↦ rw t (ap not (ne_eqb (suc (length (positions_from (n + 1) id gs))) 0 (λ h. omega (arith, h))))
  | inr f ↦ rw f (listed_from (n + 1) id gs)
]

pub listed : (gs : List Content) (index : GroupIndex) (id : List ℕ) → IsMadeOf gs index → IsId id → not (length (positions_of index id) == 0) ≡ list_any (lists id) gs
listed gs index id made valid = ap (λ (ps : List ℕ). not (length ps == 0)) (made.positions id valid) ∙ listed_from 0 id gs

-- an index with a group more
pub added : (gs : List Content) (g : Content) (old new : GroupIndex) → IsMadeOf gs old → new.groups.items ≡ old.groups.items ++ kept_of g ∷ []
    → ((id : List ℕ) → IsId id → positions_of new id ≡ (if lists id g then noted (length old.groups.items) (positions_of old id) else positions_of old id))
    → IsMadeOf (gs ++ g ∷ []) new
added gs g old new h groups positions = record {
  groups = groups ∙ ap (λ xs. xs ++ kept_of g ∷ []) h.groups ∙ sym (map_push kept_of gs g);
  positions = λ id valid.
      let n : length old.groups.items ≡ length gs = ap (λ xs. length xs) h.groups ∙ length-map gs kept_of in
      let none : 0 + length gs ≡ length gs = omega arith in
      let new_at : noted (length gs) (positions_from 0 id gs) ≡ positions_from 0 id gs ++ length gs ∷ [] = noted_new (length gs) (positions_from 0 id gs) (subst (λ (m : ℕ). All (λ p. p < m) (positions_from 0 id gs)) none (positions_within 0 id gs)) in
      positions id valid ∙ rw (n, h.positions id valid, new_at) (sym (subst (λ (m : ℕ). positions_from 0 id (gs ++ g ∷ []) ≡ (if lists id g then positions_from 0 id gs ++ m ∷ [] else positions_from 0 id gs)) none (positions_more 0 id gs g)));
}

-- the groups that a client sees, with a group more
pub and_those_append : {X : Type 0} (o : Option X) (xs ys : List X) → and_those o (xs ++ ys) ≡ and_those o xs ++ ys
and_those_append None xs ys = refl
and_those_append (Some x) xs ys = refl

pub seen_more : (v : Viewer) (gs : List Content) (g : Content) → seen v (gs ++ g ∷ []) ≡ seen v gs ++ and_those (view v g) []
seen_more v [] g = refl
seen_more v (h ∷ gs) g = ap (and_those (view v h)) (seen_more v gs g) ∙ and_those_append (view v h) (seen v gs) (and_those (view v g) [])

-- one position more
pub at_positions_more : {X : Type 0} (xs : List X) (ps : List ℕ) (p : ℕ) → at_positions xs (ps ++ p ∷ []) ≡ at_positions xs ps ++ and_those (slice_get xs p) []
at_positions_more xs [] p = refl
at_positions_more xs (q ∷ ps) p = ap (and_those (slice_get xs q)) (at_positions_more xs ps p) ∙ and_those_append (slice_get xs q) (at_positions xs ps) (and_those (slice_get xs p) [])

-- what `get` of a slice gives
pub item_at : {X : Type 0} (xs : List X) (i : ℕ) (r : Option (Bor X)) → IsItemAt xs i r → option_copied r ≡ slice_get xs i
item_at xs i None h = sym (slice_get_past xs i h.3)
item_at xs i (Some x) h = ap (λ y. Some y) h.1 ∙ sym (slice_get-get_or xs i x.now (h.3).0)

-- a test for some element, with one element more
pub list_any_more : {X : Type 0} (p : X → Bool) (xs : List X) (x : X) → list_any p (xs ++ x ∷ []) ≡ (list_any p xs || p x)
list_any_more p [] x = elim (cases_Bool (p x)) [ inl t ↦ rw t refl | inr f ↦ rw f refl ]
list_any_more p (y ∷ xs) x = elim (cases_Bool (p y)) [ inl t ↦ rw t refl | inr f ↦ rw f (list_any_more p xs x) ]

-- a position noted for a member more
pub noted_more : (b m : Bool) (n : ℕ) (ps now : List ℕ) → now ≡ (if b then noted n ps else ps) → cond m (noted n now) now ≡ (if b || m then noted n ps else ps)
noted_more true true n ps now e = ap (noted n) e ∙ noted_twice n ps
noted_more true false n ps now e = e
noted_more false true n ps now e = ap (noted n) e
noted_more false false n ps now e = e

-- of the members so far in which a test finds an id, the position of the next group is noted for that id
abbrev pub AreNoted : (List ℕ → Row → Bool) → GroupIndex → List Row → GroupIndex → Type 0
AreNoted finds old ms now =
    (id : List ℕ) → IsId id → positions_of now id ≡ (if list_any (finds id) ms then noted (vec_len old.groups) (positions_of old id) else positions_of old id)

-- with a member more in which it finds one
pub noted_member : (finds : List ℕ → Row → Bool) (old now new : GroupIndex) (ms : List Row) (m : Row) (found : List ℕ) → now.groups ≡ old.groups → AreNoted finds old ms now
    → ((id : List ℕ) → IsId id → finds id m ≡ is_found id (Some found))
    → ((id : List ℕ) → positions_of new id ≡ cond (is_eq (slice_cmp nat_cmp found id)) (noted (vec_len now.groups) (positions_of now id)) (positions_of now id))
    → AreNoted finds old (ms ++ m ∷ []) new
noted_member finds old now new ms m found groups before own step id valid =
    let n = vec_len old.groups in
    step id
    ∙ ap (λ (b : Bool). cond b (noted (vec_len now.groups) (positions_of now id)) (positions_of now id)) (is_eq-slice_cmp found id)
    ∙ ap (λ (k : ℕ). cond (is_found id (Some found)) (noted k (positions_of now id)) (positions_of now id)) (ap (λ (v : Vec SeenGroup). vec_len v) groups)
    ∙ noted_more (list_any (finds id) ms) (is_found id (Some found)) n (positions_of old id) (positions_of now id) (before id valid)
    ∙ sym (ap (λ (b : Bool). if b then noted n (positions_of old id) else positions_of old id) (list_any_more (finds id) ms m ∙ ap (λ (b : Bool). list_any (finds id) ms || b) (own id valid)))

-- and with one in which it finds none
pub passed_member : (finds : List ℕ → Row → Bool) (old now : GroupIndex) (ms : List Row) (m : Row) → AreNoted finds old ms now
    → ((id : List ℕ) → IsId id → finds id m ≡ false) → AreNoted finds old (ms ++ m ∷ []) now
passed_member finds old now ms m before none id valid =
    let n = vec_len old.groups in
    noted_more (list_any (finds id) ms) false n (positions_of old id) (positions_of now id) (before id valid)
    ∙ sym (ap (λ (b : Bool). if b then noted n (positions_of old id) else positions_of old id) (list_any_more (finds id) ms m ∙ ap (λ (b : Bool). list_any (finds id) ms || b) (none id valid)))
