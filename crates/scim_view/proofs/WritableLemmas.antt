-- What a client may write it sees.
use Rattle.std.proofs.Common.{◌≡◌, refl, sym, ◌∙◌, Bool, true, false, List, [], ◌∷◌, ◌++◌, filter, inl, inr, if◌then◌else◌}
use Rattle.std.specs.Prelude.{All, not, find, Option, None, Some}
use Rattle.std.specs.List.{flat_map}
use Rattle.std.proofs.lemmas.Bool.{cases_Bool}
use Rattle.std.proofs.lemmas.List.Elements.{All-head, All-tail, All-cons, All-nil, All-contains}
use Rattle.scim_schema.specs.declared.Kind.{Kind}
use Rattle.scim_schema.specs.declared.Leaf.{Leaf}
use Rattle.scim_schema.specs.declared.Unit.{Unit as AttributeUnit}
use Rattle.scim_schema.specs.Mutability.{is_write_only}
use Rattle.scim_schema.specs.Table.{HasLeaf, leaves}
use Rattle.scim_schema.specs.Units.{unit_of, is_same_unit}
use Rattle.scim_schema.proofs.Facts.{is_same_unit-Decides}
use Rattle.scim_cell.specs.Content.{Content}
use Rattle.scim_cell.specs.Rows.{Row}
use Rattle.scim_policy.specs.declared.rules.Decision.{Decision}
use Rattle.scim_policy.specs.Access.{Access, access, needed, leaves_of, forbidding}
use Rattle.scim_policy.specs.Table.{or_else}
use Rattle.scim_view.specs.View.{Viewer, read_in, may_be_seen}
use Rattle.scim_view.proofs.LawLemmas.{allowed_leaves}

-- ---- lists

-- what a test admits of some is so of each that passes it
unfiltered : {X : Type 0} (p : X → Bool) (P : X → Type 0) (xs : List X) → All P (filter p xs) → All (λ x. p x ≡ true → P x) xs
unfiltered p P [] h = All-nil (λ x. p x ≡ true → P x)
unfiltered p P (x ∷ xs) h = elim (cases_Bool (p x)) [
  | inl t ↦
      let here : All P (x ∷ filter p xs) = rw t at h in
      All-cons (λ y. p y ≡ true → P y) x xs (λ e. All-head P x (filter p xs) here) (unfiltered p P xs (All-tail P x (filter p xs) here))
  | inr n ↦
      let here : All P (filter p xs) = rw n at h in
      All-cons (λ y. p y ≡ true → P y) x xs (λ e. cc) (unfiltered p P xs here)
]

-- each of those that pass a test passes it
pub passing : {X : Type 0} (p : X → Bool) (xs : List X) → All (λ x. p x ≡ true) (filter p xs)
passing p [] = All-nil (λ x. p x ≡ true)
passing p (x ∷ xs) = elim (cases_Bool (p x)) [
  | inl t ↦ rw t (All-cons (λ y. p y ≡ true) x (filter p xs) t (passing p xs))
  | inr n ↦ rw n (passing p xs)
]

-- ---- a unit that no leaf forbids to write

-- whether a decision denies
abbrev denies : Leaf × Decision → Bool
denies d = not d.1.allow

-- its leaves may be read, but for those that nobody reads
abbrev IsReadable : Kind → Access → Leaf → Type 0
IsReadable kind a l = is_write_only kind l ≡ false → (a.read l).allow ≡ true

-- a denial is found
some_none : (X : Type 0) (x : X) → Some x ≡ None → ⊥
some_none X x e = cc

denial_found : (l : Leaf) (d : Decision) (more : List (Leaf × Decision)) → d.allow ≡ false → find denies ((l, d) ∷ more) ≡ None → ⊥
denial_found l d more no' e = by_bool d.allow no' e
  where
    by_bool : (b : Bool) → b ≡ false → (if not b then Some (l, d) else find denies more) ≡ None → ⊥
    by_bool true f h = absurd (cc f)
    by_bool false f h = some_none (Leaf × Decision) (l, d) h

readable : (kind : Kind) (a : Access) (ls : List Leaf) → find denies (flat_map (needed kind a) ls) ≡ None → All (IsReadable kind a) ls
readable kind a [] e = All-nil (IsReadable kind a)
readable kind a (l ∷ ls) e = elim (cases_Bool (a.modify l).allow) [
  | inr denied ↦ absurd (denial_found l (a.modify l) ((if is_write_only kind l then [] else (l, a.read l) ∷ []) ++ flat_map (needed kind a) ls) denied e)
  | inl may ↦ elim (cases_Bool (is_write_only kind l)) [
    | inl secret ↦ All-cons (IsReadable kind a) l ls (λ open'. cc) (readable kind a ls (rw (may, secret) at e))
    | inr open' ↦ elim (cases_Bool (a.read l).allow) [
      | inr denied ↦ absurd (denial_found l (a.read l) (flat_map (needed kind a) ls) denied (rw (may, open') at e))
      | inl reads ↦ All-cons (IsReadable kind a) l ls (λ o. reads) (readable kind a ls (rw (may, open', reads) at e))
    ]
  ]
]

pub readable_leaf : (kind : Kind) (a : Access) (u : AttributeUnit) → forbidding kind a u ≡ None → (l : Leaf) → unit_of l ≡ u → HasLeaf kind l → is_write_only kind l ≡ false → (a.read l).allow ≡ true
unfolding forbidding
readable_leaf kind a u e l own there open' =
    let each = unfiltered (λ m. is_same_unit (unit_of m) u) (IsReadable kind a) (leaves kind) (readable kind a (leaves_of kind u) e) in
    All-contains (λ m. is_same_unit (unit_of m) u ≡ true → IsReadable kind a m) (leaves kind) l each there ((is_same_unit-Decides (unit_of l) u).1 own) open'

-- so what may be written is seen in each value, but for what nobody reads
pub written_seen : (v : Viewer) (c : Content) (u : AttributeUnit) → forbidding c.kind (access v.policy v.client c) u ≡ None
    → (l : Leaf) → unit_of l ≡ u → HasLeaf c.kind l → is_write_only c.kind l ≡ false → (r : Row) → may_be_seen (read_in v c) c.kind r l ≡ true
written_seen v c u e l own there open' = allowed_leaves v c l (readable_leaf c.kind (access v.policy v.client c) u e l own there open') open'

-- the first denial of some units is none where none is denied
pub none_denied : (kind : Kind) (a : Access) (us : List AttributeUnit) (rest : List AttributeUnit → Option (Leaf × Decision))
    → rest [] ≡ None → ((u : AttributeUnit) (vs : List AttributeUnit) → rest (u ∷ vs) ≡ or_else (forbidding kind a u) (rest vs)) → rest us ≡ None → All (λ u. forbidding kind a u ≡ None) us
none_denied kind a [] rest nothing more e = All-nil (λ u. forbidding kind a u ≡ None)
none_denied kind a (u ∷ us) rest nothing more e =
    let parts = both_none (forbidding kind a u) (rest us) (sym (more u us) ∙ e) in
    All-cons (λ v. forbidding kind a v ≡ None) u us parts.0 (none_denied kind a us rest nothing more parts.1)
  where
    both_none : (o p : Option (Leaf × Decision)) → or_else o p ≡ None → (o ≡ None) × (p ≡ None)
    both_none None p h = (refl, h)
    both_none (Some d) p h = absurd (let some : Some d ≡ None = h in cc)
