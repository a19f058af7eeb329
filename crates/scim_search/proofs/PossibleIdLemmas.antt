-- The ids that are found by a text have those of all resources in which the text may be seen.
use Rattle.std.proofs.Common.{◌≡◌, refl, sym, ◌∙◌, ap, subst, ℕ, zero, suc, ◌+◌, ◌<◌, length, take, get_or, Bool, true, false, ◌||◌, cond, List, [], ◌∷◌, filter, slice_index_or, inl, inr, arith, true≢false, ◌++◌}
use Rattle.std.specs.Prelude.{not, All, AllPairs, Option, None, Some, find}
use Rattle.std.specs.List.{list_any, FoldsTo}
use Rattle.std.specs.BTreeSet.{BTreeSet}
use Rattle.std.specs.Ordering.{nat_cmp, is_eq}
use Rattle.std.specs.Cmp.Lexicographic.{slice_cmp}
use Rattle.std.proofs.lemmas.Bool.{cases_Bool, false_from_ne_true, or_right}
use Rattle.std.proofs.Math.Bool.{or-false, or_assoc}
use Rattle.std.proofs.lemmas.Cmp.{nat_list_cmp_total, tied_itself}
use Rattle.std.proofs.lemmas.Map.Lookups.{exact_bytes}
use Rattle.std.proofs.lemmas.List.Elements.{All-nil, All-cons, All-head, All-tail, All-weaker, All-filter, filter_passes}
use Rattle.std.proofs.lemmas.List.Folds.{list_any-append, list_any_more}
use denote.Enum.Bare.{same_true}
use Rattle.scim_schema.specs.declared.Kind.{Kind}
use Rattle.scim_schema.specs.declared.Kind.TheVariants.{User, Group}
use Rattle.scim_schema.specs.contracts.Kind.{the_type as the_kind}
use Rattle.scim_schema.specs.declared.Attribute.TheVariants.{Id}
use Rattle.scim_schema.specs.declared.Leaf.{Leaf}
use Rattle.scim_schema.specs.IndexedLeaves.{indexed_leaves}
use Rattle.scim_schema.specs.UniqueLeaves.{unique_leaves}
use Rattle.scim_schema.specs.Units.{is_same_leaf, simple}
use Rattle.scim_schema.proofs.Facts.{leaf_one}
use Rattle.scim_cell.specs.Content.{Content}
use Rattle.scim_cell.specs.Ids.{IsId, IsIdText, id_text}
use Rattle.scim_cell.specs.Kinds.{is_of, of_kind}
use Rattle.scim_cell.specs.Rows.{Row, rows}
use Rattle.scim_cell.proofs.Facts.{IsIdText-id_text, id_text-injective}
use Rattle.scim_value.specs.Members.{is_text, lists}
use Rattle.scim_value.specs.Resource.{IsResource, HasBase}
use Rattle.scim_value.specs.Uniqueness.{Name, AreApart}
use Rattle.scim_filter_texts.specs.declared.needs.NeededText.{NeededText}
use Rattle.scim_filter_texts.specs.Needed as needed
use Rattle.scim_filter_texts.proofs.Facts.{either}
use Rattle.scim_view.specs.View.{Viewer}
use Rattle.scim_view.specs.Groups.{with_groups}
use Rattle.scim_shelf.specs.declared.leaf_texts.LeafText.{LeafText}
use Rattle.scim_shelf.specs.Members.{is_value_of, value_in}
use Rattle.scim_shelf.specs.Stores.{Store, IsStore, has_name, has_some_text, is_at, is_group_with, those_at, those_found, with_some_text}
use Rattle.scim_search.specs.declared.possible_ids.IdGatherer.{IdGatherer}
use Rattle.scim_search.specs.declared.possible_ids.MemberGatherer.{MemberGatherer}
use Rattle.scim_search.specs.PossibleIds.{group_leaf, group_leaves, has_id, indexed_of, is_indexed, others_of, own_leaves, possible_leaves, Gathers, GathersSome, HasAll, HasFound, IsKept, TakesId, TakesMembers}
use Rattle.scim_search.specs.Walks.{AreCompared}
use Rattle.scim_search.proofs.GroupTextLemmas.{is_text_of, seen_group, swapped}
use Rattle.scim_search.proofs.LookupLemmas.{PassesOne, one_has_name, seen_id}
use Rattle.scim_search.proofs.NameLemmas.{NamesSeen, named, names_seen}
use Rattle.scim_search.proofs.SomeTextLemmas.{one_of_leaves, stored_some}
use Rattle.scim_search.proofs.StoreViews.{suffice}
use Rattle.scim_search.proofs.TextLemmas.{is_equal}
use Rattle.scim_search.proofs.WalkLemmas.{groups_found, groups_list}

-- ---- the resources of a kind

-- a resource of a kind in a store
pub record IsOwn (kind : Kind) (c : Content) : Type 0 where
  pub kind_is : c.kind ≡ kind
  pub sound : IsResource c

pub all_own : (base : List ℕ) (store : Store) → IsStore base store → (kind : Kind) → All (IsOwn kind) (of_kind kind store.resources)
all_own base store is kind k d lt =
    record {
      kind_is = same_true the_kind tt _ kind (filter_passes (is_of kind) store.resources k d lt);
      sound = (All-filter (is_of kind) (λ c. IsResource c × HasBase base c) store.resources is.sound k d lt).0;
    }

-- a set has all ids that are asked for if it has that of each resource of the kind that passes
pub has_each : (base : List ℕ) (store : Store) → IsStore base store → (kind : Kind) (passes : Content → Bool) (ids : BTreeSet (List ℕ))
    → ((v : Viewer) (c : Content) → IsOwn kind c → passes (with_groups v (of_kind Group store.resources) c) ≡ true → has_id ids c.id ≡ true)
    → HasAll kind store.resources passes ids
has_each base store is kind passes ids each v k d lt = each v _ (all_own base store is kind k d lt)

-- ---- by an id

-- a set to which an id was added has it, and what it had
pub added : (id : List ℕ) (old new : BTreeSet (List ℕ)) → ((i : List ℕ) → has_id new i ≡ cond (is_eq (slice_cmp nat_cmp id i)) true (has_id old i))
    → ((i : List ℕ) → has_id old i ≡ true → has_id new i ≡ true) × (has_id new id ≡ true)
added id old new updates = (
  λ i has. updates i ∙ ap (λ (b : Bool). cond (is_eq (slice_cmp nat_cmp id i)) true b) has ∙ either_way (is_eq (slice_cmp nat_cmp id i)),
  updates id ∙ ap (λ (b : Bool). cond b true (has_id old id)) (ap is_eq (tied_itself nat_list_cmp_total id)),
)
  where
    either_way : (b : Bool) → cond b true true ≡ true
    either_way true = refl
    either_way false = refl

pub by_id_text : (base : List ℕ) (store : Store) → IsStore base store → (kind : Kind) (text : List ℕ) (old new : BTreeSet (List ℕ)) → IsKept old new
    → ((id : List ℕ) → IsId id → text ≡ id_text id → has_id new id ≡ true) → Gathers kind store.resources (simple Id) text old new
by_id_text base store is kind text old new kept has = record {
  kept = kept;
  all = has_each base store is kind (λ p. needed.has_text (simple Id) text (rows p)) new (λ v c own seen. has c.id own.sound.identified.0 (sym (seen_id text v (of_kind Group store.resources) c own.sound seen)));
}

-- ---- by a unique name

-- of resources that are apart, the one that passes is found
found_one : (test : Content → Bool) (cs : List Content) → PassesOne test → AllPairs AreApart cs → All (λ c. test c ≡ true → find test cs ≡ Some c) cs
found_one test [] one apart k d lt = absurd (omega (arith, lt))
found_one test (e ∷ es) one apart zero d lt = λ t. rw t refl
found_one test (e ∷ es) one apart (suc k) d lt = λ t.
    let c : Content = slice_index_or es k d in
    let two : AreApart e c = apart zero (suc k) d (omega arith) (omega (arith, lt)) in
    let other : test e ≡ false = false_from_ne_true _ (λ same. true≢false (sym t ∙ one e c two same)) in
    rw other (found_one test es one (λ i j f h l. apart (suc i) (suc j) f (omega arith) (omega (arith, l))) k d (omega (arith, lt)) t)

pub by_name : (base : List ℕ) (store : Store) → IsStore base store → (kind : Kind) (leaf : Leaf) (text : List ℕ) (old new : BTreeSet (List ℕ)) (found : Option Content)
    → list_any (is_same_leaf leaf) (unique_leaves kind) ≡ true → IsKept old new → found ≡ find (has_name (named leaf text)) store.resources → HasFound new found
    → Gathers kind store.resources leaf text old new
by_name base store is kind leaf text old new found unique kept found_is has =
    let cs = store.resources in
    let name : Name = named leaf text in
    let seen : NamesSeen kind leaf = one_of_leaves (NamesSeen kind) leaf (unique_leaves kind) (names_seen kind) unique in
    let founds : All (λ c. has_name name c ≡ true → find (has_name name) cs ≡ Some c) (of_kind kind cs)
    = All-filter (is_of kind) (λ c. has_name name c ≡ true → find (has_name name) cs ≡ Some c) cs (found_one (has_name name) cs (one_has_name name) is.keyed.apart) in
    record {
      kept = kept;
      all = λ v k d lt shown.
          let own = all_own base store is kind k d lt in
          let c : Content = slice_index_or (of_kind kind cs) k d in
          let at : find (has_name name) cs ≡ Some c = founds k d lt (seen text v (of_kind Group cs) c own.kind_is own.sound shown) in
          subst (HasFound new) (found_is ∙ at) has;
    }

-- ---- by an indexed text

-- the visitor has the ids of the resources that it has taken
pub took_ids : (first : IdGatherer) (ds : List Content) (last : IdGatherer) → FoldsTo TakesId first ds last
    → ((id : List ℕ) → has_id first.ids id ≡ true → has_id last.ids id ≡ true) × All (λ d. has_id last.ids d.id ≡ true) ds
took_ids first [] last same = (λ id has. subst (λ (x : IdGatherer). has_id x.ids id ≡ true) same has, All-nil _)
took_ids first (d ∷ ds) last folds =
    let rest = took_ids folds.0 ds last folds.2 in
    let one = added d.id first.ids (folds.0).ids folds.1 in
    (λ id has. rest.0 id (one.0 id has), All-cons (λ (e : Content). has_id last.ids e.id ≡ true) d ds (rest.0 d.id one.1) rest.1)

-- what holds of those that pass holds of each that passes
each_passing : (test : Content → Bool) (P : Content → Type 0) (cs : List Content) → All P (filter test cs) → All (λ c. test c ≡ true → P c) cs
each_passing test P [] all = All-nil (λ c. test c ≡ true → P c)
each_passing test P (c ∷ cs) all =
    let Each : Content → Type 0 = λ e. test e ≡ true → P e in
    elim (cases_Bool (test c)) [
      | inl t ↦ (let own : All P (c ∷ filter test cs) = rw t at all in All-cons Each c cs (λ h. All-head P c (filter test cs) own) (each_passing test P cs (All-tail P c (filter test cs) own)))
      | inr n ↦ (let own : All P (filter test cs) = rw n at all in All-cons Each c cs (λ h. absurd (true≢false (sym h ∙ n))) (each_passing test P cs own))
    ]

pub by_indexed : (base : List ℕ) (store : Store) → IsStore base store → (kind : Kind) (needs : List NeededText) (texts : List LeafText) (first last : IdGatherer)
    → needed.AreAt (indexed_leaves kind) needs → AreCompared needs texts → FoldsTo TakesId first (with_some_text kind texts store.resources) last
    → GathersSome kind store.resources needs first.ids last.ids
by_indexed base store is kind needs texts first last indexed compared folds =
    let cs = store.resources in
    let took = took_ids first (with_some_text kind texts cs) last folds in
    let each = each_passing (has_some_text texts) (λ d. has_id last.ids d.id ≡ true) (of_kind kind cs) took.1 in
    record {
      kept = λ id valid has. took.0 id has;
      all = λ v k d lt shown.
          let own = all_own base store is kind k d lt in
          each k d lt (stored_some kind needs texts indexed compared v (of_kind Group cs) _ own.kind_is own.sound.part shown);
    }

-- ---- by a group

-- an element that passes
one_passing : (p : Content → Bool) (P : Content → Type 0) (cs : List Content) → All P cs → list_any p cs ≡ true → (c : Content) × P c × (p c ≡ true)
one_passing p P [] all e = cc
one_passing p P (c ∷ cs) all e = elim (cases_Bool (p c)) [
  | inl t ↦ (c, All-head P c cs all, t)
  | inr n ↦ one_passing p P cs (All-tail P c cs all) (rw n at e)
]

-- a group of the store that lists the id
record IsListing (cs : List Content) (id : List ℕ) (g : Content) : Type 0 where
  found : find (is_at Group g.id) cs ≡ Some g
  has_member : lists id g ≡ true
  valid : IsId g.id

listings : (base : List ℕ) (store : Store) → IsStore base store → (id : List ℕ) → All (IsListing store.resources id) (filter (is_group_with (id_text id)) store.resources)
listings base store is id k d lt =
    let test = is_group_with (id_text id) in
    record {
      found = groups_found base store is id k d lt;
      has_member = groups_list id store.resources k d lt;
      valid = (All-filter test (λ c. IsResource c × HasBase base c) store.resources is.sound k d lt).0.identified.0;
    }

-- a user in which a text is seen at `groups.value` is a member of the group whose id has this text
group_of : (base : List ℕ) (store : Store) → IsStore base store → (text : List ℕ) (v : Viewer) (c : Content) → IsOwn User c
    → needed.has_text group_leaf text (rows (with_groups v (of_kind Group store.resources) c)) ≡ true
    → (g : Content) × IsListing store.resources c.id g × (id_text g.id ≡ text)
group_of base store is text v c own seen =
    let hs = filter (is_group_with (id_text c.id)) store.resources in
    let some = seen_group text v hs c own.kind_is own.sound (subst (λ (p : Content). needed.has_text group_leaf text (rows p) ≡ true) (sym (suffice v base store c is)) seen) in
    let one = one_passing (λ (g : Content). is_text_of text g.id) (IsListing store.resources c.id) hs (listings base store is c.id) some in
    (one.0, one.1, exact_bytes (id_text (one.0).id) text (is_equal _ one.2))

-- no user is in a group whose id has a text that isn't one of an id
pub by_no_group : (base : List ℕ) (store : Store) → IsStore base store → (text : List ℕ) (ids : BTreeSet (List ℕ)) → (IsIdText text → ⊥) → Gathers User store.resources group_leaf text ids ids
by_no_group base store is text ids none = record {
  kept = λ id valid has. has;
  all = has_each base store is User (λ p. needed.has_text group_leaf text (rows p)) ids
      (λ v c own seen. (let one = group_of base store is text v c own seen in absurd (none (subst IsIdText one.2 (IsIdText-id_text (one.0).id)))));
}

-- the visitor has the ids of the members of the group that was found, if any
took_members : (first : MemberGatherer) (found : Option Content) (last : MemberGatherer) → FoldsTo TakesMembers first (those_found found) last
    → (id : List ℕ) → IsId id → (has_id first.ids id ≡ true → has_id last.ids id ≡ true) × ((g : Content) → found ≡ Some g → lists id g ≡ true → has_id last.ids id ≡ true)
took_members first None last same id valid = (λ has. subst (λ (x : MemberGatherer). has_id x.ids id ≡ true) same has, λ g e listed. cc)
took_members first (Some d) last folds id valid =
    let is : has_id last.ids id ≡ (has_id first.ids id || lists id d) = subst (λ (x : MemberGatherer). has_id x.ids id ≡ (has_id first.ids id || lists id d)) folds.2 (folds.1 id valid) in
    (λ has. is ∙ ap (λ (b : Bool). b || lists id d) has, λ g e listed. (let one : d ≡ g = cc in is ∙ ap (λ (h : Content). has_id first.ids id || lists id h) one ∙ ap (λ (b : Bool). has_id first.ids id || b) listed ∙ or_true (has_id first.ids id)))
  where
    or_true : (b : Bool) → (b || true) ≡ true
    or_true true = refl
    or_true false = refl

pub by_members : (base : List ℕ) (store : Store) → IsStore base store → (text id : List ℕ) → IsId id → text ≡ id_text id → (first last : MemberGatherer)
    → FoldsTo TakesMembers first (those_at Group id store.resources) last → Gathers User store.resources group_leaf text first.ids last.ids
by_members base store is text id valid same first last folds = record {
  kept = λ i valid_i. (took_members first (find (is_at Group id) store.resources) last folds i valid_i).0;
  all = has_each base store is User (λ p. needed.has_text group_leaf text (rows p)) last.ids
      (λ v c own seen.
      let one = group_of base store is text v c own seen in
      let g : Content = one.0 in
      let ids : id ≡ g.id = sym (id_text-injective g.id id (one.1).valid valid (one.2 ∙ same)) in
      let found : find (is_at Group id) store.resources ≡ Some g = ap (λ (i : List ℕ). find (is_at Group i) store.resources) ids ∙ (one.1).found in
      (took_members first (find (is_at Group id) store.resources) last folds c.id own.sound.identified.0).1 g found (one.1).has_member);
}

-- ---- by several texts

pub by_no_text : (kind : Kind) (cs : List Content) (ids : BTreeSet (List ℕ)) → GathersSome kind cs [] ids ids
by_no_text kind cs ids = record { kept = λ id valid has. has; all = λ v k d lt none. cc }

-- by some texts and then by others
pub by_both : (base : List ℕ) (store : Store) → IsStore base store → (kind : Kind) (ts us : List NeededText) (old mid new : BTreeSet (List ℕ))
    → GathersSome kind store.resources ts old mid → GathersSome kind store.resources us mid new → GathersSome kind store.resources (ts ++ us) old new
by_both base store is kind ts us old mid new first rest = record {
  kept = λ id valid has. rest.kept id valid (first.kept id valid has);
  all = λ v k d lt some.
      let own = all_own base store is kind k d lt in
      let c : Content = slice_index_or (of_kind kind store.resources) k d in
      let shown = rows (with_groups v (of_kind Group store.resources) c) in
      let either_way = sym (list_any-append (λ (t : NeededText). needed.has_text t.leaf t.text.now shown) ts us) ∙ some in
      elim (cases_Bool (needed.has_some_text ts shown)) [
        | inl yes' ↦ rest.kept c.id own.sound.identified.0 (first.all v k d lt yes')
        | inr no' ↦ rest.all v k d lt (rw no' at either_way)
      ];
}

-- if no texts are compared, none are needed
pub none_compared : (needs : List NeededText) → AreCompared needs [] → needs ≡ []
none_compared [] same = refl
none_compared (t ∷ ts) same = cc

-- by one text that isn't at an indexed leaf
pub by_other : (kind : Kind) (cs : List Content) (t : NeededText) (old new : BTreeSet (List ℕ)) → is_indexed kind t ≡ false → Gathers kind cs t.leaf t.text.now old new
    → GathersSome kind cs (others_of kind (t ∷ [])) old new
by_other kind cs t old new other one =
    let own : others_of kind (t ∷ []) ≡ t ∷ [] = rw other refl in
    subst (λ (ts : List NeededText). GathersSome kind cs ts old new) (sym own) (record { kept = one.kept; all = λ v k d lt some. one.all v k d lt (sym (or-false _) ∙ some) })

pub by_no_other : (kind : Kind) (cs : List Content) (t : NeededText) (ids : BTreeSet (List ℕ)) → is_indexed kind t ≡ true → GathersSome kind cs (others_of kind (t ∷ [])) ids ids
by_no_other kind cs t ids indexed =
    let none : others_of kind (t ∷ []) ≡ [] = rw indexed refl in
    subst (λ (ts : List NeededText). GathersSome kind cs ts ids ids) (sym none) (by_no_text kind cs ids)

-- what one of a list passes, one of those passes that pass another test, or one of the others
split_any : (p q : NeededText → Bool) (ts : List NeededText) → list_any p ts ≡ true → (list_any p (filter (λ t. not (q t)) ts) || list_any p (filter q ts)) ≡ true
split_any p q [] e = e
split_any p q (t ∷ ts) e =
    let others = list_any p (filter (λ (u : NeededText). not (q u)) ts) in
    let those = list_any p (filter q ts) in
    let some : (p t || (others || those)) ≡ true = either (p t) (list_any p ts) (p t) (others || those) (λ h. h) (split_any p q ts) e in
    elim (cases_Bool (q t)) [
      | inl yes' ↦ rw yes' (swapped others (p t) those some)
      | inr no' ↦ rw no' (or_assoc (p t) others those ∙ some)
    ]

-- by all texts: by those that aren't at indexed leaves, and then by those that are
pub by_all : (base : List ℕ) (store : Store) → IsStore base store → (kind : Kind) (ts : List NeededText) (old mid new : BTreeSet (List ℕ))
    → GathersSome kind store.resources (others_of kind ts) old mid → GathersSome kind store.resources (indexed_of kind ts) mid new
    → HasAll kind store.resources (λ p. needed.has_some_text ts (rows p)) new
by_all base store is kind ts old mid new others indexed v k d lt some =
    let both = by_both base store is kind (others_of kind ts) (indexed_of kind ts) old mid new others indexed in
    let shown = rows (with_groups v (of_kind Group store.resources) (slice_index_or (of_kind kind store.resources) k d)) in
    let has : NeededText → Bool = λ t. needed.has_text t.leaf t.text.now shown in
    both.all v k d lt (list_any-append has (others_of kind ts) (indexed_of kind ts) ∙ split_any has (is_indexed kind) ts some)

-- ---- the members of a group

-- the ids of members with one more, of which the `value` was read
pub member_more : (i : List ℕ) (members : List Row) (k : ℕ) (member : Row) (had old new found : Bool) → k < length members → member ≡ get_or members k member
    → is_text (id_text i) (value_in member) ≡ found → new ≡ (old || found) → old ≡ (had || is_value_of (id_text i) (take k members))
    → new ≡ (had || is_value_of (id_text i) (take (k + 1) members))
member_more i members k member had old new found inside is read more before =
    let some = is_value_of (id_text i) (take k members) in
    more ∙ ap (λ (b : Bool). b || found) before ∙ or_assoc had some found
    ∙ ap (λ (b : Bool). had || (some || b)) (sym read)
    ∙ sym (ap (λ (b : Bool). had || b)
    (list_any_more (λ (m : Row). is_text (id_text i) (value_in m)) members k member inside
    ∙ ap (λ (m : Row). some || is_text (id_text i) (value_in m)) (sym is)))

-- ---- the leaf of a text

-- texts at leaves by which a resource is looked up alone
pub at_possible : (kind : Kind) (ls : List Leaf) (ts : List NeededText) → ls ≡ own_leaves kind → needed.AreAt ls ts → needed.AreAt (possible_leaves kind) ts
at_possible kind ls ts same at =
    All-weaker (λ (t : NeededText). needed.is_at ls t ≡ true) (λ t. needed.is_at (possible_leaves kind) t ≡ true)
    (λ t here. list_any-append (is_same_leaf t.leaf) (group_leaves kind) (own_leaves kind)
    ∙ or_right (list_any (is_same_leaf t.leaf) (group_leaves kind)) _ (sym (ap (list_any (is_same_leaf t.leaf)) same) ∙ here)) ts at

-- the leaf of a text that is at none of the leaves by which a resource is looked up alone
pub other_leaf : (kind : Kind) (l : Leaf) → list_any (is_same_leaf l) (possible_leaves kind) ≡ true → is_same_leaf l (simple Id) ≡ false → list_any (is_same_leaf l) (unique_leaves kind) ≡ false
    → list_any (is_same_leaf l) (indexed_leaves kind) ≡ false → (kind ≡ User) × (l ≡ group_leaf)
other_leaf kind l at no_id no_unique no_indexed = which kind (sym (or-false _) ∙ (λ i. list_any (is_same_leaf l) (group_leaves kind) || sym none i) ∙ sym (list_any-append (is_same_leaf l) (group_leaves kind) (own_leaves kind)) ∙ at)
  where
    none : list_any (is_same_leaf l) (own_leaves kind) ≡ false
    none = (λ i. no_id i || list_any-append (is_same_leaf l) (unique_leaves kind) (indexed_leaves kind) i) ∙ (λ i. no_unique i || no_indexed i)

    which : (k : Kind) → list_any (is_same_leaf l) (group_leaves k) ≡ true → (k ≡ User) × (l ≡ group_leaf)
    which User e = (refl, leaf_one l group_leaf (sym (or-false _) ∙ e))
    which Group e = cc
