-- The groups that list a value, found by the rows of their members.
use Rattle.std.proofs.Common.{◌≡◌, ◌≢◌, ℕ, zero, suc, refl, sym, ◌∙◌, ap, subst, Bool, true, false, ◌&&◌, cond, List, [], ◌∷◌, ◌++◌, map, filter, arith}
use Rattle.std.specs.Prelude.{All, AllPairs, find, None, Some, IsTrue}
use Rattle.std.specs.List.{flat_map, AllByRecursion}
use Rattle.std.specs.List.Sorted.{IsStrictlySortedBy}
use Rattle.std.specs.Ordering.{nat_cmp}
use Rattle.std.specs.declared.cmp.Ordering.TheVariants.{Less}
use Rattle.std.specs.Cmp.Lexicographic.{slice_cmp}
use Rattle.std.specs.Str.{bytes_eq}
use Rattle.std.proofs.lemmas.Cmp.{tied_itself, nat_list_cmp_total}
use Rattle.std.proofs.lemmas.List.{map-append}
use Rattle.std.proofs.lemmas.List.Elements.{All-nil, All-cons, All-head, All-tail, All-map, All-append, All-weaker, All-filter, All-from_recursion, filter-append}
use Rattle.std.proofs.lemmas.List.Kept.{IsStrictlySortedBy-filter}
use Rattle.std.proofs.lemmas.Map.Text.{is_eq-slice_cmp}
use Rattle.std.proofs.lemmas.Slice.Eq.{bytes_eq-Decides}
use Rattle.sqlite_trees.proofs.ListLemmas.{map-map, filter-map}
use Rattle.sqlite.specs.declared.types.Value.{Value}
use Rattle.sqlite.specs.declared.types.Value.TheVariants.{Text}
use Rattle.scim_schema.proofs.Facts.{and_second}
use Rattle.scim_cell.specs.Equality.{is_same_id}
use Rattle.sqlite.specs.Order.{Row, column, value_cmp}
use Rattle.sqlite.specs.State.{State}
use Rattle.sqlite.specs.Tree.{IsAscending}
use Rattle.sqlite.proofs.Callers.{unchanged_then}
use Rattle.scim_schema.specs.declared.Kind.TheVariants.{Group}
use Rattle.scim_cell.specs.Content.{Content}
use Rattle.scim_cell.specs.Ids.{IsId, id_text}
use Rattle.scim_cell.specs.Kinds.{is_of}
use Rattle.scim_cell.specs.Order.{id_cmp}
use Rattle.scim_cell.proofs.Facts.{id_text-injective, slice_cmp-id_text}
use Rattle.scim_value.specs.Members.{lists_value}
use Rattle.scim_shelf.specs.Stores.{Store, AreKeyed, is_at, is_group_with}
use Rattle.scim_shelf.specs.Indexed.{has_id, only_of}
use Rattle.scim_shelf.proofs.Facts.{by_bool, found_at}
use Rattle.scim_shelf.proofs.Facts.{reversed}
use Rattle.scim_shelf.proofs.Facts.{All-both, keyed_above, keyed_tail}
use Rattle.scim_store_rows.proofs.OwnerLemmas.{contents, found_all, found_passes, sound_ids}
use Rattle.scim_store_tables.specs.Lists.{Lists, has_text, no_rows}
use Rattle.scim_store_tables.specs.Reading.{Rests, Holds, Tells, group_alone, columns_cmp}
use Rattle.scim_store_tables.proofs.Facts.{told_rising}
use Rattle.scim_store_rows.specs.Stands.{Entry, IsEntry, is_among, member_row, member_rows, lists_of}
use Rattle.scim_store_rows.specs.Finding.{StandsIn, FindsById, FindsGroups}
use Rattle.scim_store_rows.specs.code.Finding.{AreGroups, IsGroupOf, id_value}
use Rattle.scim_store_rows.proofs.FindLemmas.{shut_holds, stands_still, rests_then}

abbrev HasId : Entry → Type 0
HasId e = IsId e.content.id

-- ---- rows of resources in order

module _ (row_of : Entry → Row) (first : (e : Entry) → column (row_of e) 0 ≡ Text (id_text e.content.id)) where
  rows_above : (e : Entry) (es : List Entry) → HasId e → All HasId es → AllByRecursion (λ c. id_cmp e.content c ≡ Less) (contents es) → AllByRecursion (λ row. columns_cmp (0 ∷ []) (row_of e) row ≡ Less) (map row_of es)
  unfolding value_cmp lib.Ieee.is_nan lib.Ieee.lt
  rows_above e [] one are up = tt
  rows_above e (d ∷ es) one are up =
      let less : slice_cmp nat_cmp (id_text e.content.id) (id_text d.content.id) ≡ Less = sym (slice_cmp-id_text e.content.id d.content.id one (All-head HasId d es are)) ∙ up.0 in
      (rw (first e, first d, less) refl, rows_above e es one (All-tail HasId d es are) up.1)

  -- the rows of resources in order rise
  pub rows_rise : (es : List Entry) → All HasId es → IsStrictlySortedBy id_cmp (contents es) → IsAscending (λ a b. columns_cmp (0 ∷ []) a b ≡ Less) (map row_of es)
  unfolding IsStrictlySortedBy
  rows_rise [] are up = tt
  rows_rise (e ∷ es) are up = (rows_above e es (All-head HasId e es are) (All-tail HasId e es are) up.0, rows_rise es (All-tail HasId e es are) up.1)

-- ---- the rows of members with a value

-- the row of a group, alone
abbrev group_row : Entry → Row
group_row e = Text (id_text e.content.id) ∷ []

not_later : (value : List ℕ) (vs : List (List ℕ)) → All (λ v. value ≢ v) vs → is_among value vs ≡ false
not_later value [] apart = refl
not_later value (v ∷ vs) apart =
    by_bool (bytes_eq value v)
    (λ t. absurd (All-head (λ v. value ≢ v) v vs apart ((bytes_eq-Decides value v).0 t)))
    (λ f. rw f (not_later value vs (All-tail (λ v. value ≢ v) v vs apart)))

one_group : (id value : List ℕ) (vs : List (List ℕ)) → AllPairs (λ v w. v ≢ w) vs → map group_alone (filter (has_text 0 value) (map (member_row id) vs)) ≡ cond (is_among value vs) ((Text (id_text id) ∷ []) ∷ []) []
one_group id value [] once = refl
one_group id value (v ∷ vs) once =
    let rest = one_group id value vs (λ i j d low high. once (suc i) (suc j) d (omega arith) (omega arith)) in
    let test : has_text 0 value (member_row id v) ≡ bytes_eq v value = is_eq-slice_cmp v value in
    by_bool (bytes_eq v value)
    (λ t.
    (let same : v ≡ value = (bytes_eq-Decides v value).0 t in
    let among : bytes_eq value v ≡ true = (bytes_eq-Decides value v).1 (sym same) in
    let none : is_among value vs ≡ false = not_later value vs (λ k d low e. once zero (suc k) d (omega arith) (omega arith) (same ∙ e)) in
    let nothing : map group_alone (filter (has_text 0 value) (map (member_row id) vs)) ≡ [] = rw none at rest in
    rw (test, t, among, nothing) refl))
    (λ f.
    (let out : bytes_eq value v ≡ false = by_bool (bytes_eq value v) (λ t. absurd (let c : false ≡ true = sym f ∙ (bytes_eq-Decides v value).1 (sym ((bytes_eq-Decides value v).0 t)) in cc)) (λ g. g) in
    rw (test, f, out) rest))

abbrev listing : List ℕ → Entry → Bool
listing value e = lists_value value e.content

-- they are those of the groups that list it
group_rows : (base value : List ℕ) (es : List Entry) → All (IsEntry base) es → map group_alone (filter (has_text 0 value) (flat_map member_rows es)) ≡ map group_row (filter (listing value) es)
group_rows base value [] sound = refl
group_rows base value (e ∷ es) sound =
    let is = (All-head (IsEntry base) e es sound).members in
    let rest = group_rows base value es (All-tail (IsEntry base) e es sound) in
    ap (map group_alone) (filter-append (has_text 0 value) (member_rows e) (flat_map member_rows es))
    ∙ map-append group_alone (filter (has_text 0 value) (member_rows e)) (filter (has_text 0 value) (flat_map member_rows es))
    ∙ (λ i. (one_group e.content.id value e.members is.once ∙ ap (λ b. cond b (group_row e ∷ []) []) (is.listed value)) i ++ rest i)
    ∙ by_bool (lists_value value e.content) (λ t. rw t refl) (λ f. rw f refl)

-- ---- groups with the ids

-- each resource is the one that is found by its id
found_each : (cs : List Content) → AreKeyed cs → All (λ c. find (has_id c.id) cs ≡ Some c) cs
found_each [] keyed = All-nil (λ c. find (has_id c.id) [] ≡ Some c)
found_each (c ∷ cs) keyed =
    All-cons (λ d. find (has_id d.id) (c ∷ cs) ≡ Some d) c cs
    (rw (tied_itself nat_list_cmp_total c.id) refl)
    (All-both (λ d. slice_cmp nat_cmp c.id d.id ≡ Less) (λ d. find (has_id d.id) cs ≡ Some d) (λ d. find (has_id d.id) (c ∷ cs) ≡ Some d)
    (λ d less found. rw (reversed c.id d.id Less less) found) cs (All-from_recursion (λ d. slice_cmp nat_cmp c.id d.id ≡ Less) cs (keyed_above c cs keyed)) (found_each cs (keyed_tail c cs keyed)))

one_same : (g d : Content) → only_of Group (Some d) ≡ Some g → (g ≡ d) × (is_of Group d ≡ true)
one_same g d h = go (is_of Group d) refl h
  where
    go : (b : Bool) → is_of Group d ≡ b → cond b (Some d) None ≡ Some g → (g ≡ d) × (is_of Group d ≡ true)
    go true e k = (let same : g ≡ d = cc in same, e)
    go false e k = absurd cc

module _ (store : Store) (keyed : AreKeyed store.resources) (ids : All (λ (c : Content). IsId c.id) store.resources) where
  -- groups with the ids of resources are these
  same_groups : (gs ds : List Content) → All (λ d. find (has_id d.id) store.resources ≡ Some d) ds → All (λ (d : Content). IsId d.id) ds → map id_value gs ≡ map id_value ds → All (IsGroupOf store) gs → (gs ≡ ds) × All (λ d. is_of Group d ≡ true) ds
  same_groups [] [] found are same kept = (refl, All-nil (λ d. is_of Group d ≡ true))
  same_groups [] (d ∷ ds) found are same kept = absurd cc
  same_groups (g ∷ gs) [] found are same kept = absurd cc
  same_groups (g ∷ gs) (d ∷ ds) found are same kept =
      let at : find (is_at Group g.id) store.resources ≡ Some g = All-head (IsGroupOf store) g gs kept in
      let text : id_text g.id ≡ id_text d.id = head same in
      let id : g.id ≡ d.id = id_text-injective g.id d.id (found_all (λ (c : Content). IsId c.id) (is_at Group g.id) store.resources g ids at) (All-head (λ (c : Content). IsId c.id) d ds are) text in
      let here : find (has_id g.id) store.resources ≡ Some d = ap (λ x. find (has_id x) store.resources) id ∙ All-head (λ c. find (has_id c.id) store.resources ≡ Some c) d ds found in
      let both = one_same g d (ap (only_of Group) (sym here) ∙ found_at Group g.id store.resources keyed ∙ at) in
      let rest = same_groups gs ds (All-tail (λ c. find (has_id c.id) store.resources ≡ Some c) d ds found) (All-tail (λ (c : Content). IsId c.id) d ds are) (tail same) (All-tail (IsGroupOf store) g gs kept) in
      (λ i. both.0 i ∷ rest.0 i, All-cons (λ c. is_of Group c ≡ true) d ds both.1 rest.1)
    where
      head : id_value g ∷ map id_value gs ≡ id_value d ∷ map id_value ds → id_text g.id ≡ id_text d.id
      head h = cc

      tail : id_value g ∷ map id_value gs ≡ id_value d ∷ map id_value ds → map id_value gs ≡ map id_value ds
      tail h = cc

only_groups : (value : List ℕ) (cs : List Content) → All (λ c. is_of Group c ≡ true) (filter (lists_value value) cs) → filter (is_group_with value) cs ≡ filter (lists_value value) cs
only_groups value [] all = refl
only_groups value (c ∷ cs) all = go (lists_value value c) refl all (only_groups value cs)
  where
    and_false : (b : Bool) → (b && false) ≡ false
    and_false true = refl
    and_false false = refl

    go : (b : Bool) → lists_value value c ≡ b → All (λ d. is_of Group d ≡ true) (cond b (c ∷ filter (lists_value value) cs) (filter (lists_value value) cs)) → (All (λ d. is_of Group d ≡ true) (filter (lists_value value) cs) → filter (is_group_with value) cs ≡ filter (lists_value value) cs)
        → filter (is_group_with value) (c ∷ cs) ≡ cond b (c ∷ filter (lists_value value) cs) (filter (lists_value value) cs)
    go true e h rest = rw (All-head (λ d. is_of Group d ≡ true) c _ h, e) (ap (λ (l : List Content). c ∷ l) (rest (All-tail (λ d. is_of Group d ≡ true) c _ h)))
    go false e h rest = rw (e, and_false (is_of Group c)) (rest h)

-- ---- the loop

pub groups_none : (store : Store) (s : State) → IsTrue s.is_open → AreGroups store [] s s []
groups_none store s opened = record {
  unchanged = (record { was_open = opened; is_open = opened; now_is = refl; committed_is = refl; mode = refl }, record { changes = refl; last_rowid = refl }, refl);
  ids = refl;
  kept = All-nil (IsGroupOf store);
}

pub groups_more : (store : Store) (rows : List Row) (row : Row) (old mid new : State) (gs : List Content) (g : Content) → AreGroups store rows old mid gs → AreGroups store (row ∷ []) mid new (g ∷ []) → AreGroups store (rows ++ row ∷ []) old new (gs ++ g ∷ [])
groups_more store rows row old mid new gs g before one = record {
  unchanged = unchanged_then old mid new before.unchanged one.unchanged;
  ids = map-append id_value gs (g ∷ []) ∙ (λ i. before.ids i ++ one.ids i) ∙ sym (map-append (λ r. column r 0) rows (row ∷ []));
  kept = All-append (IsGroupOf store) gs (g ∷ []) before.kept one.kept;
}

-- the group that is found by the id of a row
pub group_found : (id : List ℕ) (row : Row) (text : List ℕ) (old new : State) (g : Content) (store : Store) → column row 0 ≡ Text text → text ≡ id_text id → FindsById Group id store old new (Some g) → AreGroups store (row ∷ []) old new (g ∷ [])
group_found id row text old new g store cell is finds =
    let same : id ≡ g.id = (bytes_eq-Decides id g.id).0 (and_second (is_of Group g) (is_same_id id g.id) (found_passes (is_at Group id) store.resources g (sym finds.is))) in
    record {
      unchanged = finds.unchanged;
      ids = ap (λ (v : Value). v ∷ []) (sym (cell ∙ ap (λ t. Text t) (is ∙ ap id_text same)));
      kept = All-cons (IsGroupOf store) g [] (ap (λ x. find (is_at Group x) store.resources) (sym same) ∙ sym finds.is) (All-nil (IsGroupOf store));
    }

-- ---- the whole

-- what is told was told of a connection that was open
told_open : (old new : State) (rows : List Row) (values : Lists → List Row) → ((lists : Lists) → Holds old lists → Tells (0 ∷ []) (values lists) old new rows) → IsTrue old.is_open
told_open old new rows values tells = by_bool old.is_open (λ t. t) (λ f. (tells no_rows (shut_holds old no_rows f)).unchanged.0.was_open)

pub finds_groups : (base value : List ℕ) (old mid new : State) (rows : List Row) (gs : List Content)
    → ((lists : Lists) → Holds old lists → Tells (0 ∷ []) (map group_alone (filter (has_text 0 value) lists.member)) old mid rows)
    → ((store : Store) → StandsIn base mid store → IsTrue mid.is_open → AreGroups store rows mid new gs) → (store : Store) → StandsIn base old store → FindsGroups value store old new gs
finds_groups base value old mid new rows gs tells finds store stands = go (told_open old mid rows (λ lists. map group_alone (filter (has_text 0 value) lists.member)) tells)
  where
    go : IsTrue old.is_open → FindsGroups value store old new gs
    go t =
        let s = stands t in
        let es = s.entries in
        let told = tells (lists_of es store.audit) (λ _. s.tables) in
        let listed = filter (listing value) es in
        let it = finds store (stands_still base old mid store told.unchanged stands) told.unchanged.0.is_open in
        let listed_in : filter (lists_value value) store.resources ≡ contents listed = ap (filter (lists_value value)) (sym s.resources) ∙ filter-map (lists_value value) (λ (e : Entry). e.content) es in
        let are : All HasId listed = All-filter (listing value) HasId es (All-weaker (IsEntry base) HasId (λ e x. x.document.below.0.identified.0) es s.sound) in
        let up : IsStrictlySortedBy id_cmp (contents listed) = subst (IsStrictlySortedBy id_cmp) listed_in (IsStrictlySortedBy-filter id_cmp (lists_value value) store.resources s.keyed.ascending) in
        let values : map group_alone (filter (has_text 0 value) (flat_map member_rows es)) ≡ map group_row listed = group_rows base value es s.sound in
        let in_rows : rows ≡ map group_row listed = told_rising (0 ∷ []) (map group_row listed) rows old mid (rows_rise group_row (λ e. refl) listed are up) (subst (λ vs. Tells (0 ∷ []) vs old mid rows) values told) in
        let ids : map id_value gs ≡ map id_value (contents listed) = it.ids ∙ ap (map (λ (row : Row). column row 0)) in_rows ∙ map-map (λ (row : Row). column row 0) group_row listed ∙ sym (map-map id_value (λ (e : Entry). e.content) listed) in
        let here : All (λ d. find (has_id d.id) store.resources ≡ Some d) (contents listed) = subst (All (λ d. find (has_id d.id) store.resources ≡ Some d)) listed_in (All-filter (lists_value value) (λ d. find (has_id d.id) store.resources ≡ Some d) store.resources (found_each store.resources s.keyed)) in
        let all_ids : All (λ (c : Content). IsId c.id) store.resources = subst (All (λ (c : Content). IsId c.id)) s.resources (sound_ids base es s.sound) in
        let are_ids : All (λ (c : Content). IsId c.id) (contents listed) = All-map (λ (c : Content). IsId c.id) (λ (e : Entry). e.content) listed are in
        let both = same_groups store s.keyed all_ids gs (contents listed) here are_ids ids it.kept in
        record {
          is = both.0 ∙ sym listed_in ∙ sym (only_groups value store.resources (subst (All (λ c. is_of Group c ≡ true)) (sym listed_in) both.1));
          unchanged = unchanged_then old mid new told.unchanged it.unchanged;
        }

pub groups_rest : (base value : List ℕ) (old mid new : State) (rows : List Row) → ((lists : Lists) → Holds old lists → Tells (0 ∷ []) (map group_alone (filter (has_text 0 value) lists.member)) old mid rows)
    → ((store : Store) → StandsIn base mid store → IsTrue mid.is_open → Rests mid new) → (store : Store) → StandsIn base old store → Rests old new
groups_rest base value old mid new rows tells rests store stands =
    let opened = told_open old mid rows (λ lists. map group_alone (filter (has_text 0 value) lists.member)) tells in
    let s = stands opened in
    let same = (tells (lists_of s.entries store.audit) (λ _. s.tables)).unchanged in
    rests_then old mid new same (rests store (stands_still base old mid store same stands) same.0.is_open)
