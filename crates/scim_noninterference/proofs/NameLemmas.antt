-- The unique names that are in use.
use Rattle.std.proofs.Common.{◌≡◌, ◌≢◌, refl, sym, ◌∙◌, ap, ap₂, subst, ℕ, suc, zero, Bool, true, false, ◌||◌, List, [], ◌∷◌, ◌++◌, inl, inr, get_or, arith}
use Rattle.std.specs.Prelude.{All, AllPairs, Option, None, Some, find, not, ◌&&◌}
use Rattle.std.specs.List.{list_any, flat_map}
use Rattle.std.specs.Ordering.{nat_cmp, is_eq}
use Rattle.std.specs.declared.cmp.Ordering.TheVariants.{Less, Equal, Greater}
use Rattle.std.specs.Cmp.Lexicographic.{slice_cmp}
use Rattle.std.proofs.lemmas.Bool.{cases_Bool, or_parts, or_from, or_right, false_from_ne_true}
use Rattle.std.proofs.lemmas.Cmp.{tied_itself, nat_list_cmp_total}
use Rattle.std.proofs.lemmas.List.Elements.{All-head, All-tail, All-weaker}
use Rattle.std.proofs.lemmas.List.Folds.{list_any-append, list_any_none, list_any_at}
use Rattle.std.proofs.lemmas.Map.Lookups.{exact_bytes}
use Rattle.std.proofs.lemmas.Slice.Eq.{bytes_eq-Decides}
use mathlib.Core.Path.{fun_ext}
use denote.Enum.Bare.{true_same}
use Rattle.scim_schema.specs.declared.Kind.{Kind}
use Rattle.scim_schema.specs.declared.Leaf.{Leaf}
use Rattle.scim_schema.specs.declared.Unit.{Unit as AttributeUnit}
use Rattle.scim_schema.specs.contracts.Attribute.{the_type as the_attribute}
use Rattle.scim_schema.specs.Units.{unit_of, is_same_attribute}
use Rattle.scim_schema.specs.UniqueLeaves.{unique_leaves}
use Rattle.scim_cell.specs.Place.{unit_cmp}
use Rattle.scim_cell.specs.Content.{Content, IsPart}
use Rattle.scim_cell.specs.Equality.{is_same_id}
use Rattle.scim_cell.specs.Rows.{Row, rows, values, atom_at, cell_at}
use Rattle.scim_value.specs.Resource.{IsResource, first_at}
use Rattle.scim_value.specs.Uniqueness.{Name, name_at, unique_names, AreApart}
use Rattle.scim_value.proofs.Facts.{get_cell, sound_part, unit_same}
use Rattle.scim_policy.specs.Rules.{Rule}
use Rattle.scim_policy.specs.Control.{is_named_in, is_unique, control}
use Rattle.scim_shelf.specs.declared.changes.Change.{Change}
use Rattle.scim_shelf.specs.declared.changes.Change.TheVariants.{Nothing, Keep, Remove}
use Rattle.scim_shelf.specs.Stores.{AreKeyed, IsOld, is_at, is_same_name, has_name, is_taken, is_used, of_id, below, above, keep, without, changed}
use Rattle.scim_service.specs.Step.{plan}
use Rattle.scim_noninterference.specs.Alike.{is_in_use}
use Rattle.scim_noninterference.specs.Names.{has_name_if, in_use_after, NamesAfterTurns, NamesRestOnControl}
use Rattle.scim_noninterference.proofs.RowLemmas.{filter_implied}
use Rattle.scim_search.proofs.Facts.{not_both}

-- a name is in use in a list with a resource more where the resource has it, or it is in use in the list
swapped : (p q r : Bool) → (p || (q || r)) ≡ (q || (p || r))
swapped true true r = refl
swapped true false r = refl
swapped false true r = refl
swapped false false r = refl

in_use_between : (x : Content) (cs ds : List Content) (name : Name) → is_in_use (cs ++ x ∷ ds) name ≡ (has_name name x || is_in_use (cs ++ ds) name)
in_use_between x cs ds name =
    list_any-append (has_name name) cs (x ∷ ds) ∙ swapped (is_in_use cs name) (has_name name x) (is_in_use ds name)
    ∙ ap (λ b. has_name name x || b) (sym (list_any-append (has_name name) cs ds))

pub in_use_keep : (x : Content) (cs : List Content) (name : Name) → is_in_use (keep x cs) name ≡ (has_name name x || is_in_use (without x.id cs) name)
in_use_keep x cs name = in_use_between x (below x.id cs) (above x.id cs) name

-- where the resource of an id is left out, a resource of the id goes, and one of another id stays
without_own : (d : Content) (ds : List Content) → without d.id (d ∷ ds) ≡ without d.id ds
without_own d ds = rw (tied_itself nat_list_cmp_total d.id) refl

in_use_beside : (id : List ℕ) (d : Content) (ds : List Content) (name : Name) → d.id ≢ id
    → is_in_use (without id (d ∷ ds)) name ≡ (has_name name d || is_in_use (without id ds) name)
in_use_beside id d ds name differs =
    elim (slice_cmp nat_cmp d.id id) as (λ o. slice_cmp nat_cmp d.id id ≡ o → is_in_use (without id (d ∷ ds)) name ≡ (has_name name d || is_in_use (without id ds) name)) [
      | Less ↦ λ e. rw e refl
      | Equal ↦ λ e. absurd (differs (exact_bytes d.id id e))
      | Greater ↦ λ e. rw e (in_use_between d (below id ds) (above id ds) name)
    ] refl

-- an id that no resource has takes no name away
pub in_use_absent : (id : List ℕ) (cs : List Content) (name : Name) → is_used cs id ≡ false → is_in_use (without id cs) name ≡ is_in_use cs name
in_use_absent id [] name unused = refl
in_use_absent id (d ∷ ds) name unused =
    let parts = or_parts (is_same_id id d.id) (is_used ds id) unused in
    let differs : d.id ≢ id = λ same. (let yes' : is_same_id id d.id ≡ true = (bytes_eq-Decides id d.id).1 (sym same) in cc) in
    in_use_beside id d ds name differs ∙ ap (λ b. has_name name d || b) (in_use_absent id ds name parts.1)

pub unnamed_later : (d : Content) (ds : List Content) (name : Name) → All (AreApart d) ds → has_name name d ≡ true → is_in_use ds name ≡ false
unnamed_later d ds name apart has =
    list_any_none (has_name name) ds
    (All-weaker (AreApart d) (λ e. has_name name e ≡ false) (λ e h. false_from_ne_true (has_name name e) (not_both name d e h has)) ds apart)

unused_later : (d : Content) (ds : List Content) → All (AreApart d) ds → is_used ds d.id ≡ false
unused_later d ds apart =
    list_any_none (λ e. is_same_id d.id e.id) ds
    (All-weaker (AreApart d) (λ e. is_same_id d.id e.id ≡ false) (λ e h. false_from_ne_true (is_same_id d.id e.id) (λ same. h.ids ((bytes_eq-Decides d.id e.id).0 same))) ds apart)

-- what holds of all holds of the one that is found
found_has : (P : Content → Type 0) (test : Content → Bool) (cs : List Content) (c : Content) → find test cs ≡ Some c → All P cs → P c
found_has P test [] c found all = cc
found_has P test (d ∷ ds) c found all = elim (cases_Bool (test d)) [
  | inl here ↦ let same : Some d ≡ Some c = rw here at found in let one : d ≡ c = cc in subst P one (All-head P d ds all)
  | inr other ↦ found_has P test ds c (rw other at found) (All-tail P d ds all)
]

-- resources that are apart have all names of one of them and those of the others, and the others have none of its names
abbrev Splits : List Content → Name → Content → Type 0
Splits cs name a =
    (is_in_use cs name ≡ (has_name name a || is_in_use (without a.id cs) name)) × (has_name name a ≡ true → is_in_use (without a.id cs) name ≡ false)

first_splits : (d : Content) (ds : List Content) (name : Name) → All (AreApart d) ds → Splits (d ∷ ds) name d
first_splits d ds name apart =
    let gone : is_in_use (without d.id (d ∷ ds)) name ≡ is_in_use ds name
    = ap (λ es. is_in_use es name) (without_own d ds) ∙ in_use_absent d.id ds name (unused_later d ds apart) in (
      ap (λ b. has_name name d || b) (sym gone),
      λ has. gone ∙ unnamed_later d ds name apart has,
    )

later_splits : (d : Content) (ds : List Content) (name : Name) (a : Content) → AreApart d a → Splits ds name a → Splits (d ∷ ds) name a
later_splits d ds name a apart later =
    let beside = in_use_beside a.id d ds name apart.ids in (
      ap (λ b. has_name name d || b) later.0 ∙ swapped (has_name name d) (has_name name a) (is_in_use (without a.id ds) name) ∙ ap (λ b. has_name name a || b) (sym beside),
      λ has. beside ∙ or_from _ _ (false_from_ne_true (has_name name d) (λ also. not_both name d a apart also has)) (later.1 has),
    )

apart_splits : (test : Content → Bool) (cs : List Content) (a : Content) (name : Name) → AllPairs AreApart cs → find test cs ≡ Some a → Splits cs name a
apart_splits test [] a name apart found = cc
apart_splits test (d ∷ ds) a name apart found =
    let first : All (AreApart d) ds = λ k e h. apart zero (suc k) e (omega arith) (omega arith) in
    let rest : AllPairs AreApart ds = λ i j e h k. apart (suc i) (suc j) e (omega arith) (omega arith) in
    elim (cases_Bool (test d)) [
      | inl here ↦ let same : Some d ≡ Some a = rw here at found in let one : d ≡ a = cc in subst (Splits (d ∷ ds) name) one (first_splits d ds name first)
      | inr other ↦
          let found' : find test ds ≡ Some a = rw other at found in
          later_splits d ds name a (found_has (AreApart d) test ds a found' first) (apart_splits test ds a name rest found')
    ]

pub in_use_split : (kind : Kind) (id : List ℕ) (cs : List Content) (a : Content) (name : Name) → AreKeyed cs → find (is_at kind id) cs ≡ Some a
    → (is_in_use cs name ≡ (has_name name a || is_in_use (without a.id cs) name)) × (has_name name a ≡ true → is_in_use (without a.id cs) name ≡ false)
in_use_split kind id cs a name keyed found = apart_splits (is_at kind id) cs a name keyed.apart found

-- ---- after a change

-- what is found passes, and where none is found none passes
found_passes : (test : Content → Bool) (cs : List Content) (c : Content) → find test cs ≡ Some c → test c ≡ true
found_passes test [] c found = cc
found_passes test (d ∷ ds) c found = elim (cases_Bool (test d)) [
  | inl here ↦ let same : Some d ≡ Some c = rw here at found in let one : d ≡ c = cc in subst (λ (e : Content). test e ≡ true) one here
  | inr other ↦ found_passes test ds c (rw other at found)
]

none_passes : (test : Content → Bool) (cs : List Content) → find test cs ≡ None → list_any test cs ≡ false
none_passes test [] none = refl
none_passes test (d ∷ ds) none = elim (cases_Bool (test d)) [
  | inl here ↦ (let found : Some d ≡ None = rw here at none in cc)
  | inr other ↦ rw other (none_passes test ds (rw other at none))
]

and_true : (b : Bool) → b ≡ (b && true)
and_true true = refl
and_true false = refl

-- if `all` is `has` or `others`, and `others` is false where `has` is true, `others` is `all` and not `has`
left_over : (all has others : Bool) → all ≡ (has || others) → (has ≡ true → others ≡ false) → others ≡ (all && not has)
left_over all true others split none = none refl ∙ sym (ap (λ b. b && false) split)
left_over all false others split none = and_true others ∙ sym (ap (λ b. b && true) split)

in_use_without : (id : List ℕ) (cs : List Content) (old : Option Content) (name : Name) → AreKeyed cs → of_id id cs ≡ old
    → is_in_use (without id cs) name ≡ (is_in_use cs name && not (has_name_if name old))
in_use_without id cs None name keyed found = in_use_absent id cs name (none_passes (λ d. is_same_id id d.id) cs found) ∙ and_true (is_in_use cs name)
in_use_without id cs (Some a) name keyed found =
    let test = λ (c : Content). is_same_id id c.id in
    let split = apart_splits test cs a name keyed.apart found in
    let own : id ≡ a.id = (bytes_eq-Decides id a.id).0 (found_passes test cs a found) in
    subst (λ (i : List ℕ). is_in_use (without i cs) name ≡ (is_in_use cs name && not (has_name name a))) (sym own)
    (left_over (is_in_use cs name) (has_name name a) (is_in_use (without a.id cs) name) split.0 split.1)

in_use_changed : (change : Change) (cs : List Content) (old : Option Content) (name : Name) → AreKeyed cs → IsOld cs change old
    → is_in_use (changed change cs) name ≡ in_use_after change old name (is_in_use cs name)
in_use_changed Nothing cs old name keyed found = refl
in_use_changed (Keep c) cs old name keyed found = in_use_keep c cs name ∙ ap (λ b. has_name name c || b) (in_use_without c.id cs old name keyed found)
in_use_changed (Remove kind id) cs old name keyed found = in_use_without id cs old name keyed found

pub names_after_turns : NamesAfterTurns
names_after_turns policy base turn store old name is found = in_use_changed (plan policy base turn store).change store.resources old name is.keyed found

-- ---- by control

-- the unique names of a resource rest on control: they stand in its rows, so resources of one kind with the same rows there have the same ones
control_values : (policy : List Rule) (c : Content) (u : AttributeUnit) → is_unique c.kind u.attribute ≡ true → values u (control policy c) ≡ values u (rows c)
unfolding control
control_values policy c u unique =
    filter_implied (λ (r : Row). is_named_in policy r.unit.attribute || is_unique c.kind r.unit.attribute) (λ (r : Row). is_eq (unit_cmp r.unit u))
    (λ r tie. or_right (is_named_in policy r.unit.attribute) _ (ap (λ (v : AttributeUnit). is_unique c.kind v.attribute) (unit_same r.unit u tie) ∙ unique)) (rows c)

first_in_control : (policy : List Rule) (c : Content) → IsPart c → (l : Leaf) → is_unique c.kind l.attribute ≡ true → first_at l c ≡ cell_at l 0 (control policy c)
first_in_control policy c part l unique = get_cell c part (sound_part c part) l 0 ∙ ap (atom_at l 0) (sym (control_values policy c (unit_of l) unique))

unique_own : (kind : Kind) → All (λ (l : Leaf). is_unique kind l.attribute ≡ true) (unique_leaves kind)
unique_own kind = λ k l lt. list_any_at (λ (m : Leaf). is_same_attribute m.attribute (get_or (unique_leaves kind) k l).attribute) (unique_leaves kind) k l lt (true_same the_attribute _ _ refl)

flat_map_same : {X Y : Type 0} (f g : X → List Y) (xs : List X) → All (λ x. f x ≡ g x) xs → flat_map f xs ≡ flat_map g xs
flat_map_same f g [] same = refl
flat_map_same f g (x ∷ xs) same = ap₂ ◌++◌ (All-head (λ y. f y ≡ g y) x xs same) (flat_map_same f g xs (All-tail (λ y. f y ≡ g y) x xs same))

-- the unique names that rows of a kind have
abbrev names_in : Kind → List Row → List Name
names_in kind rs = flat_map (λ (l : Leaf). name_at kind l (cell_at l 0 rs)) (unique_leaves kind)

names_by_control : (policy : List Rule) (c : Content) → IsPart c → unique_names c ≡ names_in c.kind (control policy c)
names_by_control policy c part =
    flat_map_same (λ l. name_at c.kind l (first_at l c)) (λ l. name_at c.kind l (cell_at l 0 (control policy c))) (unique_leaves c.kind)
    (All-weaker (λ (l : Leaf). is_unique c.kind l.attribute ≡ true) _ (λ l unique. ap (name_at c.kind l) (first_in_control policy c part l unique)) (unique_leaves c.kind) (unique_own c.kind))

pub names_same : NamesRestOnControl
names_same policy a b is_a is_b same_kind same =
    names_by_control policy a is_a.part ∙ ap₂ names_in same_kind same ∙ sym (names_by_control policy b is_b.part)

pub has_name_same : (policy : List Rule) (a b : Content) (name : Name) → IsResource a → IsResource b → a.kind ≡ b.kind → control policy a ≡ control policy b
    → has_name name a ≡ has_name name b
has_name_same policy a b name is_a is_b same_kind same = ap (list_any (is_same_name name)) (names_same policy a b is_a is_b same_kind same)

-- so where the same names are in use, those of the others are the same
left_in_use : (all has others : Bool) → has ≡ false → all ≡ (has || others) → others ≡ all
left_in_use all has others not' split = sym (split ∙ ap (λ b. b || others) not')

pub others_same : (kind : Kind) (id : List ℕ) (s t : List Content) (a b : Content) (policy : List Rule) → AreKeyed s → AreKeyed t → IsResource a → IsResource b
    → find (is_at kind id) s ≡ Some a → find (is_at kind id) t ≡ Some b → a.kind ≡ b.kind → a.id ≡ b.id → control policy a ≡ control policy b
    → ((name : Name) → is_in_use s name ≡ is_in_use t name) → (name : Name) → is_in_use (without a.id s) name ≡ is_in_use (without b.id t) name
others_same kind id s t a b policy keyed_s keyed_t is_a is_b found_a found_b same_kind same_id same used name =
    let first = in_use_split kind id s a name keyed_s found_a in
    let second = in_use_split kind id t b name keyed_t found_b in
    let both = has_name_same policy a b name is_a is_b same_kind same in
    elim (cases_Bool (has_name name b)) [
      | inl has ↦ first.1 (both ∙ has) ∙ sym (second.1 has)
      | inr not' ↦ left_in_use _ _ _ (both ∙ not') first.0 ∙ (used name ∙ sym (left_in_use _ _ _ not' second.0))
    ]

-- resources with the same unique names, among resources that use the same names
pub taken_same : (x y : Content) (s t : List Content) → unique_names x ≡ unique_names y → ((name : Name) → is_in_use s name ≡ is_in_use t name) → is_taken s x ≡ is_taken t y
taken_same x y s t same used = ap₂ list_any (fun_ext used) same

pub in_use_keep_same : (x y : Content) (s t : List Content) → unique_names x ≡ unique_names y → (name : Name)
    → is_in_use (without x.id s) name ≡ is_in_use (without y.id t) name → is_in_use (keep x s) name ≡ is_in_use (keep y t) name
in_use_keep_same x y s t same name others =
    in_use_keep x s name ∙ ap₂ (λ p q. p || q) (ap (list_any (is_same_name name)) same) others ∙ sym (in_use_keep y t name)
