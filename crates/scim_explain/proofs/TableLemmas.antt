-- At which leaves an operation is granted.
use Rattle.std.proofs.Common.{◌≡◌, refl, sym, ap, ◌∙◌, Bool, true, false, List, [], ◌∷◌, inl, inr}
use Rattle.std.specs.Prelude.{Option, None, Some, not, ◌&&◌, find, filter, is_none, option_map, if◌then◌else◌}
use Rattle.std.specs.List.{flat_map, list_all, list_any}
use Rattle.std.specs.Option.{option_or}
use Rattle.std.proofs.lemmas.Bool.{cases_Bool}
use Rattle.std.proofs.lemmas.List.Folds.{find-append}
use Rattle.scim_schema.specs.declared.Attribute.TheVariants.{Id}
use Rattle.scim_schema.specs.declared.Kind.{Kind}
use Rattle.scim_schema.specs.declared.Op.TheVariants.{Read, Create, Modify, Delete}
use Rattle.scim_schema.specs.declared.Leaf.{Leaf}
use Rattle.scim_schema.specs.declared.Unit.{Unit as AttributeUnit}
use Rattle.scim_schema.specs.Mutability.{is_fixed, is_write_only}
use Rattle.scim_schema.specs.Table.{leaves}
use Rattle.scim_schema.specs.Units.{simple, is_same_leaf, is_same_unit, unit_of}
use Rattle.scim_schema.proofs.Facts.{and_first, and_second, is_same_leaf-Decides, is_same_unit-Decides}
use Rattle.scim_policy.specs.declared.rules.Decision.{Decision}
use Rattle.scim_policy.specs.Decide.{decide}
use Rattle.scim_policy.specs.Access.{Access, forbidding, leaves_of, needed}
use Rattle.scim_explain.specs.declared.inquiries.Obstacle.{Obstacle}
use Rattle.scim_explain.specs.declared.inquiries.Obstacle.TheVariants.{Denied, WriteOnly}
use Rattle.scim_explain.specs.Inquiries.{Inquiry, create_obstacle, first_denied, hiding, inquiry, modify_denial, modify_obstacle, obstacle, unit_obstacle}
use Rattle.scim_explain.specs.TableLaws.{TellsWhatIsCreated, TellsWhatIsDeleted, TellsWhatIsModified, TellsWhatIsRead}

-- ---- what is found nowhere among leaves isn't at one of them

none_first : {X : Type 0} (o p : Option X) → option_or o p ≡ None → o ≡ None
none_first None p e = refl
none_first (Some x) p e = absurd cc

none_second : {X : Type 0} (o p : Option X) → option_or o p ≡ None → p ≡ None
none_second None p e = e
none_second (Some x) p e = absurd cc

allowed : (b : Bool) (d : Leaf × Decision) (o : Option (Leaf × Decision)) → (if not b then Some d else o) ≡ None → b ≡ true
allowed true d o e = refl
allowed false d o e = absurd cc

-- where no leaf of a unit is forbidden, each leaf of the unit may be modified
module _ (kind : Kind) (a : Access) (u : AttributeUnit) (l : Leaf) (own : is_same_unit (unit_of l) u ≡ true) where
  abbrev found : List Leaf → Option (Leaf × Decision)
  found ls = find (λ (d : Leaf × Decision). not d.1.allow) (flat_map (needed kind a) (filter (λ m. is_same_unit (unit_of m) u) ls))

  abbrev more : List Leaf → List Leaf
  more ls = filter (λ (m : Leaf). is_same_unit (unit_of m) u) ls

  modified : (ls : List Leaf) → list_any (is_same_leaf l) ls ≡ true → found ls ≡ None → (a.modify l).allow ≡ true
  modified [] among none = absurd cc
  modified (m ∷ ms) among none = elim (cases_Bool (is_same_leaf l m)) [
    | inl same ↦ (
        let one : l ≡ m = (is_same_leaf-Decides l m).0 same in
        let kept : is_same_unit (unit_of m) u ≡ true = ap (λ (k : Leaf). is_same_unit (unit_of k) u) (sym one) ∙ own in
        let here : option_or (find (λ (d : Leaf × Decision). not d.1.allow) (needed kind a m)) (found ms) ≡ None = sym (apart m ms kept) ∙ none in
        ap (λ (k : Leaf). (a.modify k).allow) one ∙ allowed (a.modify m).allow (m, a.modify m) _ (none_first _ (found ms) here)
        )
    | inr other ↦ (
        let rest : list_any (is_same_leaf l) ms ≡ true = rw other at among in
        elim (cases_Bool (is_same_unit (unit_of m) u)) [
          | inl kept ↦ modified ms rest (none_second (find (λ (d : Leaf × Decision). not d.1.allow) (needed kind a m)) (found ms) (sym (apart m ms kept) ∙ none))
          | inr left ↦ modified ms rest (sym (ap (λ (b : Bool). find (λ (d : Leaf × Decision). not d.1.allow) (flat_map (needed kind a) (if b then m ∷ more ms else more ms))) left) ∙ none)
        ]
        )
  ]
    where
      apart : (m : Leaf) (ms : List Leaf) → is_same_unit (unit_of m) u ≡ true → found (m ∷ ms) ≡ option_or (find (λ (d : Leaf × Decision). not d.1.allow) (needed kind a m)) (found ms)
      apart m ms kept =
          ap (λ (b : Bool). find (λ (d : Leaf × Decision). not d.1.allow) (flat_map (needed kind a) (if b then m ∷ more ms else more ms))) kept
          ∙ find-append (λ (d : Leaf × Decision). not d.1.allow) (needed kind a m) (flat_map (needed kind a) (more ms))

-- no leaf of a unit is denied exactly if each is allowed
none_denied : (allows : Leaf → Bool) (u : AttributeUnit) (ls : List Leaf) → is_none (find (λ m. is_same_unit (unit_of m) u && not (allows m)) ls) ≡ list_all allows (filter (λ m. is_same_unit (unit_of m) u) ls)
none_denied allows u [] = refl
none_denied allows u (m ∷ ms) = elim (cases_Bool (is_same_unit (unit_of m) u)) [
  | inl own ↦ elim (cases_Bool (allows m)) [ inl does ↦ rw (own, does) (none_denied allows u ms) | inr never ↦ rw (own, never) refl ]
  | inr other ↦ rw other (none_denied allows u ms)
]

-- each leaf of a unit is allowed if all are
all_allowed : (allows : Leaf → Bool) (u : AttributeUnit) (l : Leaf) → is_same_unit (unit_of l) u ≡ true → (ls : List Leaf) → list_any (is_same_leaf l) ls ≡ true → list_all allows (filter (λ m. is_same_unit (unit_of m) u) ls) ≡ true → allows l ≡ true
all_allowed allows u l own [] among all = absurd cc
all_allowed allows u l own (m ∷ ms) among all = elim (cases_Bool (is_same_leaf l m)) [
  | inl same ↦ (
      let one : l ≡ m = (is_same_leaf-Decides l m).0 same in
      let kept : is_same_unit (unit_of m) u ≡ true = ap (λ (k : Leaf). is_same_unit (unit_of k) u) (sym one) ∙ own in
      ap allows one ∙ and_first (allows m) (list_all allows (filter (λ k. is_same_unit (unit_of k) u) ms)) (rw kept at all)
      )
  | inr other ↦ (
      let rest : list_any (is_same_leaf l) ms ≡ true = rw other at among in
      elim (cases_Bool (is_same_unit (unit_of m) u)) [
        | inl kept ↦ all_allowed allows u l own ms rest (and_second (allows m) (list_all allows (filter (λ k. is_same_unit (unit_of k) u) ms)) (rw kept at all))
        | inr left ↦ all_allowed allows u l own ms rest (rw left at all)
      ]
      )
]

-- ---- what is granted

and_false : (b : Bool) → b && false ≡ false
and_false true = refl
and_false false = refl

-- two tests of which the second, however it is written, holds only if the first does
and_implied : (b x y : Bool) → y ≡ x → (x ≡ true → b ≡ true) → b && y ≡ x
and_implied b x y same implies = elim (cases_Bool x) [
  | inl t ↦ (λ i. implies t i && (same ∙ t) i) ∙ sym t
  | inr f ↦ ap (λ (z : Bool). b && z) (same ∙ f) ∙ and_false b ∙ sym f
]

none_mapped : {X Y : Type 0} (f : X → Y) (o : Option X) → is_none (option_map f o) ≡ is_none o
none_mapped f None = refl
none_mapped f (Some x) = refl

is_nothing : {X : Type 0} (o : Option X) → is_none o ≡ true → o ≡ None
is_nothing None e = refl
is_nothing (Some x) e = absurd cc

own_unit : (l : Leaf) → is_same_unit (unit_of l) (unit_of l) ≡ true
own_unit l = (is_same_unit-Decides (unit_of l) (unit_of l)).1 refl

-- nothing is in the way of modifying
modify_clear : (i : Inquiry) (l : Leaf) → is_none (option_or (hiding i) (modify_obstacle i l)) ≡ (i.access.read (simple Id)).allow && (not (is_fixed i.kind (unit_of l)) && is_none (forbidding i.kind i.access (unit_of l)))
modify_clear i l = elim (cases_Bool (i.access.read (simple Id)).allow) [
  | inl seen ↦ elim (cases_Bool (is_fixed i.kind (unit_of l))) [ inl fixed ↦ rw (seen, fixed) refl | inr free ↦ rw (seen, free) (none_mapped (modify_denial i) (forbidding i.kind i.access (unit_of l))) ]
  | inr hidden ↦ rw hidden refl
]

-- of creating
create_clear : (i : Inquiry) (l : Leaf) → is_same_leaf l (simple Id) ≡ false
    → is_none (create_obstacle i l) ≡ not (is_fixed i.kind (unit_of l)) && ((i.on (simple Id)).allow && list_all (λ m. (i.on m).allow) (leaves_of i.kind (unit_of l)))
unfolding create_obstacle unit_obstacle
create_clear i l other = elim (cases_Bool (is_fixed i.kind (unit_of l))) [
  | inl fixed ↦ rw (other, fixed) refl
  | inr free ↦ elim (cases_Bool (i.on (simple Id)).allow) [
    | inl does ↦ rw (other, free, does) (none_mapped (λ m. Denied Create m (i.on m)) (first_denied i (unit_of l) (leaves i.kind)) ∙ none_denied (λ m. (i.on m).allow) (unit_of l) (leaves i.kind))
    | inr never ↦ rw (other, free, never) refl
  ]
]

pub what_is_modified : TellsWhatIsModified
unfolding forbidding
what_is_modified policy client c l among =
    let i = inquiry policy client Modify c in
    let free = not (is_fixed c.kind (unit_of l)) in
    let unforbidden = is_none (forbidding c.kind i.access (unit_of l)) in
    and_implied (i.on l).allow ((i.access.read (simple Id)).allow && (free && unforbidden)) (is_none (obstacle i l)) (modify_clear i l)
    (λ all. modified c.kind i.access (unit_of l) l (own_unit l) (leaves c.kind) among (is_nothing (forbidding c.kind i.access (unit_of l)) (and_second free unforbidden (and_second (i.access.read (simple Id)).allow (free && unforbidden) all))))

pub what_is_created : TellsWhatIsCreated
what_is_created policy client c l among other =
    let i = inquiry policy client Create c in
    let free = not (is_fixed c.kind (unit_of l)) in
    let all = list_all (λ m. (i.on m).allow) (leaves_of c.kind (unit_of l)) in
    and_implied (i.on l).allow (free && ((i.on (simple Id)).allow && all)) (is_none (create_obstacle i l)) (create_clear i l other)
    (λ holds. all_allowed (λ m. (i.on m).allow) (unit_of l) l (own_unit l) (leaves c.kind) among (and_second (i.on (simple Id)).allow all (and_second free ((i.on (simple Id)).allow && all) holds)))

-- reading: whether the decision allows, the client sees the resource, and the leaf is writeOnly
read_clear : (b seen secret : Bool) (hidden : Obstacle) → b && is_none (option_or (if seen then None else Some hidden) (if secret then Some WriteOnly else None)) ≡ seen && (b && not secret)
read_clear true true true hidden = refl
read_clear true true false hidden = refl
read_clear true false secret hidden = refl
read_clear false true secret hidden = refl
read_clear false false secret hidden = refl

pub what_is_read : TellsWhatIsRead
what_is_read policy client c l =
    let id = decide policy client Read c (simple Id) in
    read_clear (decide policy client Read c l).allow id.allow (is_write_only c.kind l) (Denied Read (simple Id) id)

-- deleting: whether the decision allows, and the client sees the resource
delete_clear : (b seen : Bool) (hidden denied : Obstacle) → b && is_none (option_or (if seen then None else Some hidden) (if b then None else Some denied)) ≡ seen && b
delete_clear true true hidden denied = refl
delete_clear true false hidden denied = refl
delete_clear false true hidden denied = refl
delete_clear false false hidden denied = refl

pub what_is_deleted : TellsWhatIsDeleted
what_is_deleted policy client c =
    let id = decide policy client Delete c (simple Id) in
    let seeing = decide policy client Read c (simple Id) in
    delete_clear id.allow seeing.allow (Denied Read (simple Id) seeing) (Denied Delete (simple Id) id)
