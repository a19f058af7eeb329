-- What a client's requests rest on, of each resource that it sees.
use Rattle.std.proofs.Common.{◌≡◌, ◌⊎◌, refl, sym, ◌∙◌, ap, ap₂, ℕ, Bool, true, false, ◌&&◌, List, [], ◌∷◌, ◌++◌, map, filter, inl, inr, arith, if◌then◌else◌}
use Rattle.std.specs.Prelude.{All, AllPairs, Option, None, Some, find, zero, suc}
use Rattle.std.specs.Option.{option_map}
use Rattle.std.specs.Ordering.{nat_cmp, is_lt, is_gt}
use Rattle.std.specs.Cmp.Lexicographic.{slice_cmp}
use Rattle.std.proofs.Math.Path.{fun_ext}
use Rattle.std.proofs.lemmas.Bool.{cases_Bool}
use Rattle.std.proofs.lemmas.List.{map-append}
use Rattle.std.proofs.lemmas.List.Elements.{All-head, All-tail, All-filter, filter-append}
use denote.Enum.Bare.{sameb}
use Rattle.scim_schema.specs.contracts.Kind.{the_type as the_kind}
use Rattle.scim_schema.specs.declared.Kind.{Kind}
use Rattle.scim_schema.specs.declared.Kind.TheVariants.{User, Group}
use Rattle.scim_schema.specs.declared.Leaf.{Leaf}
use Rattle.scim_schema.specs.declared.Attribute.TheVariants.{Id, Groups}
use Rattle.scim_schema.specs.declared.Op.{Op}
use Rattle.scim_schema.specs.declared.Op.TheVariants.{Read, Modify, Delete}
use Rattle.scim_schema.specs.Units.{simple, whole}
use Rattle.scim_cell.specs.Content.{Content}
use Rattle.scim_cell.specs.Equality.{is_same_id}
use Rattle.scim_cell.specs.Kinds.{of_kind}
use Rattle.scim_cell.specs.Rows.{Row, Test, rows, content, put_values, restricted}
use Rattle.scim_value.specs.Resource.{IsResource}
use Rattle.scim_value.specs.Uniqueness.{AreApart}
use Rattle.scim_value.proofs.Facts.{rows_content, restricted_sound, sound_part}
use Rattle.scim_policy.specs.declared.rules.Decision.{Decision}
use Rattle.scim_policy.specs.Decide.{decide}
use Rattle.scim_policy.specs.Access.{access}
use Rattle.scim_policy.specs.Control.{control}
use Rattle.scim_policy.specs.Patterns.{decide_in, decided_for, decisions_of, pattern_rules}
use Rattle.scim_policy.proofs.Facts.{decide_same, patterns_same}
use Rattle.scim_filter.specs.Truth.{truth_in_value}
use Rattle.scim_view.specs.View.{Viewer, read_in, may_be_seen, sees, visible, visible_by}
use Rattle.scim_view.specs.Groups.{seen, memberships, visible_with, with_groups, views}
use Rattle.scim_shelf.specs.Stores.{AreKeyed, is_at, below, above, keep, without}
use Rattle.scim_search.proofs.Facts.{filter_swap, none_at, made_map, made_views}
use Rattle.scim_noninterference.specs.Alike.{whole_view}
use Rattle.scim_noninterference.proofs.RowLemmas.{restricted_put}

-- of a resource: its kind and id, the rows of what may be seen of it, and what the policy decides by
pub record Traits : Type 0 where
  pub kind : Kind
  pub id : List ℕ
  pub rows : List Row
  pub control : List Row

abbrev pub may_see : Viewer → Content → Test
may_see v c = may_be_seen (read_in v c) c.kind

abbrev pub traits : Viewer → Content → Traits
traits v c = record { kind = c.kind; id = c.id; rows = restricted (may_see v c) (rows c); control = control v.policy c }

-- of those that are seen, in their order
abbrev pub seen_traits : Viewer → List Content → List Traits
seen_traits v cs = map (traits v) (filter (sees v) cs)

-- whether they are of the kind, and whether of the kind and the id
abbrev has_kind : Kind → Traits → Bool
has_kind kind t = sameb the_kind t.kind kind

abbrev has_kind_and_id : Kind → List ℕ → Traits → Bool
has_kind_and_id kind id t = has_kind kind t && is_same_id id t.id

-- not there, or there and not seen
abbrev pub IsUnseen : Viewer → Option Content → Type 0
IsUnseen v None = Unit {0}
IsUnseen v (Some c) = sees v c ≡ false

-- two finds: each a resource that is seen, with the same traits, or neither one that is seen
abbrev pub AreFound : Viewer → Option Content → Option Content → Type 0
AreFound v o p =
    ((a : Content) × (b : Content) × (o ≡ Some a) × (p ≡ Some b) × (sees v a ≡ true) × (sees v b ≡ true) × (traits v a ≡ traits v b))
    ⊎ (IsUnseen v o × IsUnseen v p)

-- a test of what is made of each
map_filter : {X Y : Type 0} (f : X → Y) (q : Y → Bool) (xs : List X) → map f (filter (λ x. q (f x)) xs) ≡ filter q (map f xs)
map_filter f q [] = refl
map_filter f q (x ∷ xs) = grind (arith, map_filter f q xs)

find_map : {X Y : Type 0} (f : X → Y) (q : Y → Bool) (xs : List X) → option_map f (find (λ x. q (f x)) xs) ≡ find q (map f xs)
find_map f q [] = refl
find_map f q (x ∷ xs) = grind (arith, find_map f q xs)

-- where two lists are made to the same by f, so are they by what rests on f
map_same : {X Y Z : Type 0} (f : X → Y) (g h : X → Z) → ((x y : X) → f x ≡ f y → g x ≡ h y) → (xs ys : List X) → map f xs ≡ map f ys → map g xs ≡ map h ys
map_same f g h rest [] [] e = refl
map_same f g h rest [] (y ∷ ys) e = cc
map_same f g h rest (x ∷ xs) [] e = cc
map_same f g h rest (x ∷ xs) (y ∷ ys) e =
    let first : f x ≡ f y = cc in
    let later : map f xs ≡ map f ys = cc in
    ap₂ ◌∷◌ (rest x y first) (map_same f g h rest xs ys later)

module _ (v : Viewer) where
  -- what is decided rests on the traits
  pub decision_same : (op : Op) (a b : Content) → traits v a ≡ traits v b → decide v.policy v.client op a ≡ decide v.policy v.client op b
  decision_same op a b e = fun_ext (λ (l : Leaf). decide_same v.policy v.client op a b l (ap (λ (t : Traits). t.kind) e) (ap (λ (t : Traits). t.control) e))

  pub sees_same : (a b : Content) → traits v a ≡ traits v b → sees v a ≡ sees v b
  unfolding sees
  sees_same a b e = ap (λ (d : Leaf → Decision). (d (simple Id)).allow) (decision_same Read a b e)

  pub rules_same : (a b : Content) → traits v a ≡ traits v b → pattern_rules v.policy v.client a ≡ pattern_rules v.policy v.client b
  rules_same a b e = fun_ext (λ (l : Leaf). patterns_same v.policy v.client a b l (ap (λ (t : Traits). t.kind) e) (ap (λ (t : Traits). t.control) e))

  pub reading_same : (a b : Content) → pattern_rules v.policy v.client a ≡ pattern_rules v.policy v.client b → read_in v a ≡ read_in v b
  unfolding decide_in
  reading_same a b e = λ i r l. decided_for (λ t. truth_in_value t r) (e i l)

  pub may_see_same : (a b : Content) → traits v a ≡ traits v b → may_see v a ≡ may_see v b
  may_see_same a b e = λ i. may_be_seen (reading_same a b (rules_same a b e) i) (e i).kind

  pub access_same : (a b : Content) → traits v a ≡ traits v b → access v.policy v.client a ≡ access v.policy v.client b
  access_same a b e = λ i. record {
    read = decision_same Read a b e i;
    patterns = λ l. decisions_of (rules_same a b e i l);
    modify = decision_same Modify a b e i;
    delete = decision_same Delete a b e i;
  }

  -- what is visible, by the traits
  abbrev visible_of : Traits → Content
  visible_of t = content t.kind t.id t.rows

  visible_traits : (c : Content) → visible v c ≡ visible_of (traits v c)
  unfolding visible visible_by
  visible_traits c = refl

  pub visible_same : (a b : Content) → traits v a ≡ traits v b → visible v a ≡ visible v b
  visible_same a b e = visible_traits a ∙ ap visible_of e ∙ sym (visible_traits b)

  -- what is seen of some of the resources, by a test of their traits
  seen_filter : (test : Traits → Bool) (cs : List Content) → seen_traits v (filter (λ c. test (traits v c)) cs) ≡ filter test (seen_traits v cs)
  seen_filter test cs = ap (map (traits v)) (filter_swap (λ c. test (traits v c)) (sees v) cs) ∙ map_filter (traits v) test (filter (sees v) cs)

  seen_append : (cs ds : List Content) → seen_traits v (cs ++ ds) ≡ seen_traits v cs ++ seen_traits v ds
  seen_append cs ds = ap (map (traits v)) (filter-append (sees v) cs ds) ∙ map-append (traits v) (filter (sees v) cs) (filter (sees v) ds)

  abbrev below_of : List ℕ → List Traits → List Traits
  below_of id ts = filter (λ (t : Traits). is_lt (slice_cmp nat_cmp t.id id)) ts

  abbrev above_of : List ℕ → List Traits → List Traits
  above_of id ts = filter (λ (t : Traits). is_gt (slice_cmp nat_cmp t.id id)) ts

  seen_below : (id : List ℕ) (cs : List Content) → seen_traits v (below id cs) ≡ below_of id (seen_traits v cs)
  seen_below id cs = seen_filter (λ t. is_lt (slice_cmp nat_cmp t.id id)) cs

  seen_above : (id : List ℕ) (cs : List Content) → seen_traits v (above id cs) ≡ above_of id (seen_traits v cs)
  seen_above id cs = seen_filter (λ t. is_gt (slice_cmp nat_cmp t.id id)) cs

  -- of one resource
  seen_one : (a b : Content) → traits v a ≡ traits v b → seen_traits v (a ∷ []) ≡ seen_traits v (b ∷ [])
  seen_one a b e = elim (cases_Bool (sees v b)) [
    | inl yes' ↦ rw (sees_same a b e, yes') (ap (λ (t : Traits). t ∷ []) e)
    | inr no' ↦ rw (sees_same a b e, no') refl
  ]

  seen_keep : (c : Content) (cs : List Content)
      → seen_traits v (keep c cs) ≡ below_of c.id (seen_traits v cs) ++ (seen_traits v (c ∷ []) ++ above_of c.id (seen_traits v cs))
  seen_keep c cs =
      seen_append (below c.id cs) (c ∷ above c.id cs)
      ∙ ap₂ ◌++◌ (seen_below c.id cs) (seen_append (c ∷ []) (above c.id cs) ∙ ap (λ ts. seen_traits v (c ∷ []) ++ ts) (seen_above c.id cs))

  seen_without : (id : List ℕ) (cs : List Content) → seen_traits v (without id cs) ≡ below_of id (seen_traits v cs) ++ above_of id (seen_traits v cs)
  seen_without id cs = seen_append (below id cs) (above id cs) ∙ ap₂ ◌++◌ (seen_below id cs) (seen_above id cs)

  -- a change of what is seen, or of what isn't, is the same change of the traits
  pub traits_keep : (x y : Content) → traits v x ≡ traits v y → (s t : List Content) → seen_traits v s ≡ seen_traits v t → seen_traits v (keep x s) ≡ seen_traits v (keep y t)
  traits_keep x y e s t h =
      seen_keep x s ∙ (λ i. below_of (e i).id (h i) ++ (seen_one x y e i ++ above_of (e i).id (h i))) ∙ sym (seen_keep y t)

  pub traits_without : (k j : List ℕ) → k ≡ j → (s t : List Content) → seen_traits v s ≡ seen_traits v t → seen_traits v (without k s) ≡ seen_traits v (without j t)
  traits_without k j e s t h = seen_without k s ∙ (λ i. below_of (e i) (h i) ++ above_of (e i) (h i)) ∙ sym (seen_without j t)

  -- the resources of a kind
  pub kind_traits : (kind : Kind) (s t : List Content) → seen_traits v s ≡ seen_traits v t → seen_traits v (of_kind kind s) ≡ seen_traits v (of_kind kind t)
  kind_traits kind s t h =
      seen_filter (has_kind kind) s ∙ ap (filter (has_kind kind)) h ∙ sym (seen_filter (has_kind kind) t)

  -- what is seen, in order
  pub seen_map : (cs : List Content) → seen v cs ≡ map (visible v) (filter (sees v) cs)
  seen_map [] = refl
  seen_map (c ∷ cs) = elim (cases_Bool (sees v c)) [
    | inl yes' ↦ rw yes' (ap (λ ds. visible v c ∷ ds) (seen_map cs))
    | inr no' ↦ rw no' (seen_map cs)
  ]

  pub seen_same : (s t : List Content) → seen_traits v s ≡ seen_traits v t → seen v s ≡ seen v t
  seen_same s t h = seen_map s ∙ map_same (traits v) (visible v) (visible v) visible_same (filter (sees v) s) (filter (sees v) t) h ∙ sym (seen_map t)

  pub controls_same : (s t : List Content) → seen_traits v s ≡ seen_traits v t → map (control v.policy) (filter (sees v) s) ≡ map (control v.policy) (filter (sees v) t)
  controls_same s t h =
      map_same (traits v) (control v.policy) (control v.policy) (λ a b e. ap (λ (r : Traits). r.control) e) (filter (sees v) s) (filter (sees v) t) h

  -- what is found, where it is seen
  abbrev if_seen : Option Content → Option Content
  if_seen None = None
  if_seen (Some c) = if sees v c then Some c else None

  -- where none passes a test, none of those that are seen is found
  none_later : (test : Content → Bool) (cs : List Content) → All (λ c. test c ≡ false) cs → find test (filter (sees v) cs) ≡ None
  none_later test [] all = refl
  none_later test (c ∷ cs) all =
      grind (arith, All-head (λ x. test x ≡ false) c cs all, none_later test cs (All-tail (λ x. test x ≡ false) c cs all))

  -- of those that are seen the one of an id is found, where it is seen
  found_seen : (kind : Kind) (id : List ℕ) (cs : List Content) → AllPairs AreApart cs → find (is_at kind id) (filter (sees v) cs) ≡ if_seen (find (is_at kind id) cs)
  found_seen kind id [] apart = refl
  found_seen kind id (c ∷ cs) apart =
      let rest = found_seen kind id cs (λ i j d h k. apart (suc i) (suc j) d (omega arith) (omega arith)) in
      elim (cases_Bool (is_at kind id c)) [
        | inl here ↦
            let others : All (λ d. is_at kind id d ≡ false) cs = λ k d h. none_at kind id c _ (apart zero (suc k) d (omega arith) (omega arith)) here in
            let none = none_later (is_at kind id) cs others in
            elim (cases_Bool (sees v c)) [
              | inl yes' ↦ grind (arith, here, yes')
              | inr no' ↦ grind (arith, here, no', none)
            ]
        | inr other ↦ grind (arith, other, rest)
      ]

  found_traits : (kind : Kind) (id : List ℕ) (cs : List Content) → AreKeyed cs
      → option_map (traits v) (if_seen (find (is_at kind id) cs)) ≡ find (has_kind_and_id kind id) (seen_traits v cs)
  found_traits kind id cs keyed =
      ap (option_map (traits v)) (sym (found_seen kind id cs keyed.apart)) ∙ find_map (traits v) (has_kind_and_id kind id) (filter (sees v) cs)

  -- two finds, each kept where it is seen
  found_from : (o p : Option Content) → option_map (traits v) (if_seen o) ≡ option_map (traits v) (if_seen p) → AreFound v o p
  found_from None None e = inr (tt, tt)
  found_from None (Some b) e = elim (cases_Bool (sees v b)) [
    | inl yes' ↦ (let e' : None ≡ Some (traits v b) = rw yes' at e in cc)
    | inr no' ↦ inr (tt, no')
  ]
  found_from (Some a) None e = elim (cases_Bool (sees v a)) [
    | inl yes' ↦ (let e' : Some (traits v a) ≡ None = rw yes' at e in cc)
    | inr no' ↦ inr (no', tt)
  ]
  found_from (Some a) (Some b) e = elim (cases_Bool (sees v a)) [
    | inl left ↦ elim (cases_Bool (sees v b)) [
      | inl right ↦ (let e' : Some (traits v a) ≡ Some (traits v b) = rw (left, right) at e in inl (a, b, refl, refl, left, right, cc))
      | inr right ↦ (let e' : Some (traits v a) ≡ None = rw (left, right) at e in cc)
    ]
    | inr left ↦ elim (cases_Bool (sees v b)) [
      | inl right ↦ (let e' : None ≡ Some (traits v b) = rw (left, right) at e in cc)
      | inr right ↦ inr (left, right)
    ]
  ]

  -- what is found in each of two lists of resources
  pub found_same : (kind : Kind) (id : List ℕ) (s t : List Content) → AreKeyed s → AreKeyed t → seen_traits v s ≡ seen_traits v t
      → AreFound v (find (is_at kind id) s) (find (is_at kind id) t)
  found_same kind id s t is it h =
      found_from (find (is_at kind id) s) (find (is_at kind id) t)
      (found_traits kind id s is ∙ ap (find (has_kind_and_id kind id)) h ∙ sym (found_traits kind id t it))

  -- a resource with its groups, by its traits
  abbrev with_memberships : Test → List Content → Kind → List ℕ → List Row → Content
  with_memberships keep gs kind id rs =
      content kind id (if sameb the_kind kind User then put_values (whole Groups) (restricted keep (memberships v.base gs id)) rs else rs)

  with_traits : (gs : List Content) (c : Content) → with_groups v gs c ≡ with_memberships (may_see v c) (seen v gs) c.kind c.id (traits v c).rows
  unfolding with_groups visible_with
  with_traits gs c =
      elim (cases_Bool (sameb the_kind c.kind User)) [
        | inl yes' ↦ rw yes' (ap (content c.kind c.id) (restricted_put (may_see v c) (whole Groups) (memberships v.base (seen v gs) c.id) (rows c)))
        | inr no' ↦ rw no' refl
      ]

  pub with_groups_same : (s t : List Content) → seen_traits v s ≡ seen_traits v t → (a b : Content) → traits v a ≡ traits v b
      → with_groups v (of_kind Group s) a ≡ with_groups v (of_kind Group t) b
  with_groups_same s t h a b e =
      let groups = seen_same (of_kind Group s) (of_kind Group t) (kind_traits Group s t h) in
      with_traits (of_kind Group s) a
      ∙ (λ i. with_memberships (may_see_same a b e i) (groups i) (e i).kind (e i).id (e i).rows)
      ∙ sym (with_traits (of_kind Group t) b)

  -- all that are seen, with their groups
  pub views_map : (gs cs : List Content) → views v gs cs ≡ map (with_groups v gs) (filter (sees v) cs)
  views_map gs cs = sym (made_views v gs cs) ∙ made_map (with_groups v gs) v cs

  pub views_same : (kind : Kind) (s t : List Content) → seen_traits v s ≡ seen_traits v t
      → views v (of_kind Group s) (of_kind kind s) ≡ views v (of_kind Group t) (of_kind kind t)
  views_same kind s t h =
      views_map (of_kind Group s) (of_kind kind s)
      ∙ map_same (traits v) (with_groups v (of_kind Group s)) (with_groups v (of_kind Group t)) (with_groups_same s t h)
      (filter (sees v) (of_kind kind s)) (filter (sees v) (of_kind kind t)) (kind_traits kind s t h)
      ∙ sym (views_map (of_kind Group t) (of_kind kind t))

  pub whole_same : (s t : List Content) → seen_traits v s ≡ seen_traits v t → whole_view v s ≡ whole_view v t
  whole_same s t h =
      views_map (of_kind Group s) s
      ∙ map_same (traits v) (with_groups v (of_kind Group s)) (with_groups v (of_kind Group t)) (with_groups_same s t h) (filter (sees v) s) (filter (sees v) t) h
      ∙ sym (views_map (of_kind Group t) t)

  -- the rows of what is visible of a resource are those of its traits
  pub rows_visible : (c : Content) → IsResource c → rows (visible v c) ≡ restricted (may_see v c) (rows c)
  rows_visible c is = ap rows (visible_traits c) ∙ rows_content c.kind c.id (traits v c).rows (restricted_sound c.kind (may_see v c) (rows c) (sound_part c is.part))

  -- traits, by what is visible and what decides
  abbrev traits_of : Content → List Row → Traits
  traits_of c rs = record { kind = c.kind; id = c.id; rows = rows c; control = rs }

  traits_visible : (c : Content) → IsResource c → traits v c ≡ traits_of (visible v c) (control v.policy c)
  traits_visible c is =
      let e = visible_traits c in
      (λ i. record { kind = c.kind; id = c.id; rows = sym (rows_visible c is) i; control = control v.policy c })
      ∙ (λ i. record { kind = (sym e i).kind; id = (sym e i).id; rows = rows (visible v c); control = control v.policy c })

  traits_back : (xs ys : List Content) → All IsResource xs → All IsResource ys → map (visible v) xs ≡ map (visible v) ys
      → map (control v.policy) xs ≡ map (control v.policy) ys → map (traits v) xs ≡ map (traits v) ys
  traits_back [] [] own other e k = refl
  traits_back [] (y ∷ ys) own other e k = cc
  traits_back (x ∷ xs) [] own other e k = cc
  traits_back (x ∷ xs) (y ∷ ys) own other e k =
      let first : visible v x ≡ visible v y = cc in
      let first_control : control v.policy x ≡ control v.policy y = cc in
      let later : map (visible v) xs ≡ map (visible v) ys = cc in
      let later_control : map (control v.policy) xs ≡ map (control v.policy) ys = cc in
      ap₂ ◌∷◌ (traits_visible x (All-head IsResource x xs own) ∙ ap₂ traits_of first first_control ∙ sym (traits_visible y (All-head IsResource y ys other)))
      (traits_back xs ys (All-tail IsResource x xs own) (All-tail IsResource y ys other) later later_control)

  -- what is seen of resources, and what decides on it, make their traits
  pub traits_from : (s t : List Content) → All IsResource s → All IsResource t → seen v s ≡ seen v t
      → map (control v.policy) (filter (sees v) s) ≡ map (control v.policy) (filter (sees v) t) → seen_traits v s ≡ seen_traits v t
  traits_from s t own other e k =
      traits_back (filter (sees v) s) (filter (sees v) t) (All-filter (sees v) IsResource s own) (All-filter (sees v) IsResource t other) (sym (seen_map s) ∙ e ∙ seen_map t) k
