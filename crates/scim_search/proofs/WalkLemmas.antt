-- The page of a search that evaluates only some attributes has the same items as that of a search over whole resources.
use Rattle.std.proofs.Common.{◌≡◌, refl, sym, ◌∙◌, ap, subst, ℕ, zero, suc, true, false, List, [], ◌∷◌, ◌++◌, map, filter, slice_index_or, length, append_assoc, inl, inr, arith, true≢false}
use Rattle.std.specs.Prelude.{not, ◌&&◌, ◌==◌, All, AllPairs, Option, None, Some, find}
use Rattle.std.specs.List.{list_any}
use Rattle.std.proofs.Math.Path.{fun_ext}
use Rattle.std.proofs.lemmas.Bool.{cases_Bool, false_from_ne_true}
use Rattle.std.proofs.lemmas.Simd.{map-map}
use Rattle.std.proofs.lemmas.Slice.Eq.{bytes_eq-Decides}
use Rattle.std.proofs.lemmas.List.Elements.{All-head, All-tail, All-filter, All-weaker, filter_passes}
use denote.Enum.Bare.{sameb, same_true}
use denote.Ref.{Bor}
use Rattle.scim_schema.specs.declared.Attribute.{Attribute}
use Rattle.scim_schema.specs.declared.Attribute.TheVariants.{Id}
use Rattle.scim_schema.specs.declared.Kind.{Kind}
use Rattle.scim_schema.specs.declared.Leaf.{Leaf}
use Rattle.scim_schema.specs.declared.Kind.TheVariants.{Group}
use Rattle.scim_schema.specs.contracts.Kind.{the_type as the_kind}
use Rattle.scim_schema.specs.Units.{simple}
use Rattle.scim_cell.specs.Content.{Content, IsPart}
use Rattle.scim_cell.specs.Kinds.{is_of, of_kind}
use Rattle.scim_value.specs.Uniqueness.{AreApart}
use Rattle.scim_filter_grammar.specs.declared.tree.Filter.{Filter}
use Rattle.scim_policy.specs.declared.rules.Decision.{Decision}
use Rattle.scim_policy.specs.declared.patterns.Patterns.{Patterns}
use Rattle.scim_policy.specs.Decide.{decide}
use Rattle.scim_policy.specs.Patterns.{PatternRule, decided_for, decide_in, decisions_of, whole_decision}
use Rattle.scim_policy.specs.PatternTable.{last_decision, rules_in}
use Rattle.scim_value.specs.Changes.{restricted_part}
use Rattle.scim_cell.specs.declared.rows.Field.{Field}
use Rattle.scim_cell.specs.Rows.{Row, rows, restricted, content, IsSoundField, IsSoundRow}
use Rattle.scim_cell.proofs.Facts.{AreAlike, restricted_alike}
use Rattle.scim_value.proofs.Facts.{sound_part}
use Rattle.scim_filter.specs.Truth.{truth_in_value}
use Rattle.scim_schema.specs.Mutability.{is_write_only}
use Rattle.scim_schema.specs.declared.Unit.{Unit as AttributeUnit}
use Rattle.scim_schema.specs.contracts.Attribute.{the_type as the_attribute}
use Rattle.scim_view.specs.declared.views.MayBeSeenPlainlyOf.{MayBeSeenPlainlyOf}
use Rattle.scim_view.specs.declared.projection.Wanted.{Wanted}
use Rattle.scim_view.specs.declared.viewers.Viewer.{Viewer as ViewerInCode}
use Rattle.scim_view.specs.View.{Viewer, viewer_of, decision_in, read_in, sees, may_be_seen_of, visible_attributes}
use Rattle.scim_view.specs.Groups.{memberships, visible_with, with_groups, views, seen}
use Rattle.scim_query.specs.declared.queries.Query.{Query}
use Rattle.scim_query.specs.declared.queries.Page.{Page}
use Rattle.scim_query.specs.NamedAttributes.{attributes_of, names_groups, Alike}
use Rattle.scim_query.specs.PossibleMatches.{NeverMatches}
use Rattle.scim_query.specs.Pages.{is_match, matching, IsPage}
use Rattle.scim_query.proofs.Facts.{alike_pages, seen_alike}
use Rattle.scim_shelf.specs.Stores.{Store, IsStore, is_at, is_group_with}
use Rattle.scim_cell.specs.Ids.{id_text}
use Rattle.scim_value.specs.Members.{lists}
use Rattle.scim_schema.proofs.Facts.{and_first, and_second}
use Rattle.scim_search.specs.declared.read_patterns.ReadPatterns.{ReadPatterns}
use Rattle.scim_search.specs.declared.view_builders.ViewScope.TheVariants.{Named}
use Rattle.scim_search.specs.declared.view_builders.ViewBuilder.{ViewBuilder}
use Rattle.scim_search.specs.PatternCache.{AreOn}
use Rattle.scim_search.specs.ReadPatterns.{ArePatterns, AreFor}
use Rattle.std.proofs.lemmas.Option.{same_Some}
use Rattle.scim_search.specs.ViewBuilders.{made_of_all, IsViewBuilder}
use Rattle.scim_search.specs.declared.walks.Walk.{Walk}
use Rattle.scim_search.specs.declared.walks.WalkScope.TheVariants as scope
use Rattle.scim_search.specs.ShownItems.{SeenResource, item}
use Rattle.scim_search.specs.Walks.{is_walked, made_of_walk, walked}
use Rattle.scim_search.proofs.ApartLemmas.{none_at}
use Rattle.scim_search.proofs.StoreViews.{parts_of, made_map, made_views}

-- ---- the resources of a kind that the viewer sees

own_id : (kind : Kind) (c : Content) → is_of kind c ≡ true → is_at kind c.id c ≡ true
own_id kind c is = rw is ((bytes_eq-Decides c.id c.id).1 refl)

-- each resource of a kind is the one that a look-up of its id finds
pub found_each : (kind : Kind) (cs : List Content) → AllPairs AreApart cs → All (λ c. is_of kind c ≡ true → find (is_at kind c.id) cs ≡ Some c) cs
found_each kind [] apart k d lt = absurd (omega (arith, lt))
found_each kind (e ∷ es) apart zero d lt = λ is. rw (own_id kind e is) refl
found_each kind (e ∷ es) apart (suc k) d lt = λ is.
    let c : Content = slice_index_or es k d in
    let two : AreApart e c = apart zero (suc k) d (omega arith) (omega (arith, lt)) in
    let other : is_at kind c.id e ≡ false
    = false_from_ne_true _ (λ same. true≢false (sym (own_id kind c is) ∙ none_at kind c.id e c two same)) in
    rw other (found_each kind es (λ i j f h l. apart (suc i) (suc j) f (omega arith) (omega (arith, l))) k d (omega (arith, lt)) is)

-- each group that lists a resource is the one that a look-up of its id finds
pub groups_found : (base : List ℕ) (store : Store) → IsStore base store → (id : List ℕ)
    → All (λ c. find (is_at Group c.id) store.resources ≡ Some c) (filter (is_group_with (id_text id)) store.resources)
groups_found base store is id k d lt =
    let cs = store.resources in
    let Found : Content → Type 0 = λ c. find (is_at Group c.id) cs ≡ Some c in
    let founds : All (λ c. is_of Group c ≡ true → Found c) (filter (is_group_with (id_text id)) cs)
    = All-filter (is_group_with (id_text id)) (λ c. is_of Group c ≡ true → Found c) cs (found_each Group cs is.keyed.apart) in
    let c : Content = slice_index_or (filter (is_group_with (id_text id)) cs) k d in
    founds k d lt (and_first (is_of Group c) (lists id c) (filter_passes (is_group_with (id_text id)) cs k d lt))

pub groups_list : (id : List ℕ) (cs : List Content) → All (λ c. lists id c ≡ true) (filter (is_group_with (id_text id)) cs)
groups_list id cs k d lt =
    let c : Content = slice_index_or (filter (is_group_with (id_text id)) cs) k d in
    and_second (is_of Group c) (lists id c) (filter_passes (is_group_with (id_text id)) cs k d lt)

-- each resource of a kind is the one that a look-up of its id finds
pub kind_found : (base : List ℕ) (store : Store) → IsStore base store → (kind : Kind)
    → All (λ c. find (is_at kind c.id) store.resources ≡ Some c) (of_kind kind store.resources)
kind_found base store is kind k d lt =
    let cs = store.resources in
    All-filter (is_of kind) (λ c. is_of kind c ≡ true → find (is_at kind c.id) cs ≡ Some c) cs (found_each kind cs is.keyed.apart) k d lt (filter_passes (is_of kind) cs k d lt)

-- a search over all resources of the kind reads them all
pub all_walked : (cs : List Content) → cs ≡ filter (is_walked scope.WholeKind) cs
all_walked [] = refl
all_walked (c ∷ cs) = ap (λ (ds : List Content). c ∷ ds) (all_walked cs)

-- each resource that a search reads is the one that a look-up of its id finds
pub walked_found : (base : List ℕ) (store : Store) → IsStore base store → (walk : Walk)
    → All (λ c. find (is_at walk.kind c.id) store.resources ≡ Some c) (walked walk store.resources)
walked_found base store is walk = All-filter (is_walked walk.scope) (λ c. find (is_at walk.kind c.id) store.resources ≡ Some c) (of_kind walk.kind store.resources) (kind_found base store is walk.kind)

-- each resource that a search reads is of the kind
pub walked_kind : (walk : Walk) (cs : List Content) → All (λ c. c.kind ≡ walk.kind) (walked walk cs)
walked_kind walk cs k d lt =
    same_true the_kind tt _ walk.kind (All-filter (is_walked walk.scope) (λ c. is_of walk.kind c ≡ true) (of_kind walk.kind cs) (filter_passes (is_of walk.kind) cs) k d lt)

-- each resource that a search reads is a part
walked_parts : (base : List ℕ) (store : Store) → IsStore base store → (walk : Walk) → All IsPart (walked walk store.resources)
walked_parts base store is walk =
    All-filter (is_walked walk.scope) IsPart (of_kind walk.kind store.resources) (All-filter (is_of walk.kind) IsPart store.resources (parts_of base store is))

-- a resource that a search reads and the viewer sees: it is of the kind, and a look-up of its id finds it
record Known (v : Viewer) (kind : Kind) (cs : List Content) (c : Content) : Type 0 where
  part : IsPart c
  is_kind : c.kind ≡ kind
  seen : sees v c ≡ true
  found : find (is_at kind c.id) cs ≡ Some c

known_each : (v : Viewer) (walk : Walk) (base : List ℕ) (store : Store) → IsStore base store
    → All (Known v walk.kind store.resources) (filter (sees v) (walked walk store.resources))
known_each v walk base store is k d lt =
    let ds = walked walk store.resources in
    record {
      part = All-filter (sees v) IsPart ds (walked_parts base store is walk) k d lt;
      is_kind = All-filter (sees v) (λ c. c.kind ≡ walk.kind) ds (walked_kind walk store.resources) k d lt;
      seen = filter_passes (sees v) ds k d lt;
      found = All-filter (sees v) (λ c. find (is_at walk.kind c.id) store.resources ≡ Some c) ds (walked_found base store is walk) k d lt;
    }

module _ (v : Viewer) (kind : Kind) (cs : List Content) where
  -- a list of such resources as a list of `SeenResource`
  with_known : (ds : List Content) → All (Known v kind cs) ds → (xs : List (SeenResource v kind cs)) × (map (λ x. x.own) xs ≡ ds)
  with_known [] known = ([], refl)
  with_known (d ∷ ds) known =
      let first = All-head (Known v kind cs) d ds known in
      let rest = with_known ds (All-tail (Known v kind cs) d ds known) in (
        record { own = d; part = first.part; is_kind = first.is_kind; seen = first.seen; found = first.found } ∷ rest.0,
        ap (λ es. d ∷ es) rest.1,
      )

pub all_seen : (v : Viewer) (walk : Walk) (base : List ℕ) (store : Store) → IsStore base store
    → (xs : List (SeenResource v walk.kind store.resources)) × (map (λ x. x.own) xs ≡ filter (sees v) (walked walk store.resources))
all_seen v walk base store is = with_known v walk.kind store.resources _ (known_each v walk base store is)

-- ---- pages

-- the visible part of a resource with only the attributes that a query names
abbrev small : Viewer → Query → Content → Content
small v query c = visible_attributes (attributes_of query) (read_in v c) c

-- a query that doesn't name `groups` can't tell the visible part of its attributes from the whole one
pub alike_seen : (v : Viewer) (query : Query) (gs : List Content) (c : Content) → IsPart c → names_groups query ≡ false → Alike query (small v query c) (with_groups v gs c)
unfolding with_groups
alike_seen v query gs c part none = seen_alike query (read_in v c) v.base (seen v gs) c part none

module _ (v : Viewer) (walk : Walk) (gs : List Content) (query : Query) (base : List ℕ) (store : Store) (is : IsStore base store) (none : names_groups query ≡ false) where
  abbrev cs : List Content
  cs = walked walk store.resources

  abbrev small_of : SeenResource v walk.kind store.resources → Content
  small_of x = small v query x.own

  abbrev whole_of : SeenResource v walk.kind store.resources → Content
  whole_of x = with_groups v gs x.own

  -- the parts that are built from the resources that the viewer sees, as a list over these resources
  made_seen : (make : Content → Content) → made_of_all make v cs ≡ map (λ x. make x.own) (all_seen v walk base store is).0
  made_seen make =
      let xs = all_seen v walk base store is in
      made_map make v cs ∙ ap (map make) (sym xs.1) ∙ map-map make (λ (x : SeenResource v walk.kind store.resources). x.own) xs.0

  -- a page over parts with only the named attributes becomes the page of the view when its items become whole
  pub page_by_small : (found : Page) → IsPage (made_of_all (small v query) v cs) query found
      → (shown : List (SeenResource v walk.kind store.resources)) × (found.items.items ≡ map small_of shown)
      × ((page : Page) → page.total ≡ found.total → page.start ≡ found.start → page.items.items ≡ map whole_of shown → IsPage (views v gs cs) query page)
  page_by_small found paged =
      let xs = (all_seen v walk base store is).0 in
      let chosen = alike_pages query small_of whole_of (λ x. alike_seen v query gs x.own x.part none) xs found
      (subst (λ (ps : List Content). IsPage ps query found) (made_seen (small v query)) paged) in (
        chosen.0,
        chosen.1,
        λ page total start items.
            subst (λ (ps : List Content). IsPage ps query page) (sym (made_seen (with_groups v gs)) ∙ made_views v gs cs) (chosen.2 page total start items),
      )

-- a builder of named attributes is a view builder for any groups
pub named_sight : (viewer : Bor ViewerInCode) (attributes : Bor (List Attribute)) (patterns : Bor ReadPatterns) (builder : ViewBuilder) → ArePatterns (viewer_of viewer.now) patterns.now
    → builder ≡ record { viewer = viewer; patterns = patterns; scope = Named attributes } → IsViewBuilder [] builder
named_sight viewer attributes patterns builder are same = subst (IsViewBuilder []) (sym same) (record { patterns = are; index = tt })

-- the page over parts with only the attributes that a query names
pub named_page : (viewer : Bor ViewerInCode) (walk : Walk) (query : Query) (base : List ℕ) (store : Store) → IsStore base store → (attributes : Bor (List Attribute)) → attributes.now ≡ attributes_of query
    → names_groups query ≡ false → (found : Page) (patterns : Bor ReadPatterns) (builder : ViewBuilder) → ArePatterns (viewer_of viewer.now) patterns.now
    → builder ≡ record { viewer = viewer; patterns = patterns; scope = Named attributes }
    → (IsViewBuilder [] builder → IsPage (made_of_walk [] builder walk store.resources) query found)
    → (shown : List (SeenResource (viewer_of viewer.now) walk.kind store.resources)) × (found.items.items ≡ map (λ x. small (viewer_of viewer.now) query x.own) shown)
    × ((page : Page) → page.total ≡ found.total → page.start ≡ found.start → page.items.items ≡ map (λ x. with_groups (viewer_of viewer.now) (of_kind Group store.resources) x.own) shown
    → IsPage (views (viewer_of viewer.now) (of_kind Group store.resources) (walked walk store.resources)) query page)
named_page viewer walk query base store is attributes named none found patterns builder are same paged =
    let v = viewer_of viewer.now in
    let cs = walked walk store.resources in
    let known = named_sight viewer attributes patterns builder are same in
    let made_here : IsPage (made_of_all (λ (c : Content). visible_attributes attributes.now (read_in v c) c) v cs) query found
    = subst (λ (s : ViewBuilder). IsPage (made_of_walk [] s walk store.resources) query found) same (paged known) in
    page_by_small v walk (of_kind Group store.resources) query base store is none found
    (subst (λ (those : List Attribute). IsPage (made_of_all (λ (c : Content). visible_attributes those (read_in v c) c) v cs) query found) named made_here)

-- the parts have the ids of the resources
pub small_ids : (v : Viewer) (kind : Kind) (cs : List Content) (query : Query) (items : List Content) (shown : List (SeenResource v kind cs))
    → items ≡ map (λ x. small v query x.own) shown → map (λ p. p.id) items ≡ map (λ x. x.own.id) shown
unfolding visible_attributes
small_ids v kind cs query items shown same =
    ap (map (λ (p : Content). p.id)) same ∙ map-map (λ (p : Content). p.id) (λ (x : SeenResource v kind cs). small v query x.own) shown

pub empty_list : {X : Type 0} (xs : List X) → (length xs == 0) ≡ true → xs ≡ []
empty_list [] e = refl
empty_list (x ∷ xs) e = grind (arith, e)

-- a list of which nothing is made is empty, so nothing else is made of it
pub none_shown : {X Y : Type 0} (f g : X → Y) (xs : List X) → map f xs ≡ [] → map g xs ≡ []
none_shown f g [] e = refl
none_shown f g (x ∷ xs) e = cc

-- ---- items that are pushed one by one

module _ (v : Viewer) (wanted : Wanted) (kind : Kind) (cs gs : List Content) where
  abbrev own_ids : List (SeenResource v kind cs) → List (List ℕ)
  own_ids found = map (λ (x : SeenResource v kind cs). x.own.id) found

  abbrev own_items : List (SeenResource v kind cs) → List Content
  own_items found = map (λ (x : SeenResource v kind cs). item v wanted gs x.own) found

  -- the item for the first resource, then those for the others
  pub pushed_more : (Told : Type 0) (part : Content) (rest : List Content) (found : List (SeenResource v kind cs)) (old mid new : List Content)
      → map (λ (p : Content). p.id) (part ∷ rest) ≡ own_ids found
      → ((x : SeenResource v kind cs) → x.own.id ≡ part.id → Told × (mid ≡ old ++ item v wanted gs x.own ∷ []))
      → (Told → (xs : List (SeenResource v kind cs)) → map (λ (p : Content). p.id) rest ≡ own_ids xs → new ≡ mid ++ own_items xs)
      → new ≡ old ++ own_items found
  pushed_more Told part rest [] old mid new ids first later = cc
  pushed_more Told part rest (x ∷ xs) old mid new ids first later =
      let own : x.own.id ≡ part.id = cc in
      let others : map (λ (p : Content). p.id) rest ≡ own_ids xs = cc in
      let told = first x own in
      later told.0 xs others ∙ ap (λ (ps : List Content). ps ++ own_items xs) told.1 ∙ append_assoc old (item v wanted gs x.own ∷ []) (own_items xs)

-- ---- whether the viewer sees a resource, by the rules on its `id`

pub seen_by : (v : Viewer) (c : Content) (ps : Patterns) → AreFor v c ps → (whole_decision (decisions_of (rules_in ps (simple Id)))).allow ≡ sees v c
unfolding sees decide
seen_by v c ps are = ap (λ (rs : List PatternRule). (whole_decision (decisions_of rs)).allow) (are (simple Id))

-- ---- resources that can't match

-- if no resource with these patterns can match, one on which they are the viewer's patterns doesn't match
pub never_seen : (f : Option Filter) (ps : Patterns) (v : Viewer) (gs : List Content) (c : Content) → AreFor v c ps → NeverMatches f (decision_in (rules_in ps)) c
    → is_match f (with_groups v gs c) ≡ false
unfolding with_groups decide_in
never_seen f ps v gs c are never =
    subst (λ (rules : Leaf → List PatternRule). is_match f (visible_with (decision_in rules) (memberships v.base (seen v gs) c.id) c) ≡ false) (fun_ext are) (never v.base (seen v gs))

none_match : (f : Option Filter) (v : Viewer) (gs cs : List Content) → All (λ c. sees v c ≡ true → is_match f (with_groups v gs c) ≡ false) cs
    → [] ≡ matching f (views v gs cs)
none_match f v gs [] never = refl
none_match f v gs (c ∷ cs) never =
    let Never : Content → Type 0 = λ d. sees v d ≡ true → is_match f (with_groups v gs d) ≡ false in
    let rest = none_match f v gs cs (All-tail Never c cs never) in
    elim (cases_Bool (sees v c)) [
      | inl t ↦ rw t (rw (All-head Never c cs never t) rest)
      | inr u ↦ rw u rest
    ]

-- if no resource of the kind can match, nothing of the view matches
pub none_matches : (v : Viewer) (walk : Walk) (gs : List Content) (f : Option Filter) (base : List ℕ) (store : Store) → IsStore base store
    → ((c : Content) → IsPart c → c.kind ≡ walk.kind → sees v c ≡ true → is_match f (with_groups v gs c) ≡ false)
    → [] ≡ matching f (views v gs (walked walk store.resources))
none_matches v walk gs f base store is never =
    none_match f v gs (walked walk store.resources) (λ k d lt. never _ (walked_parts base store is walk k d lt) (walked_kind walk store.resources k d lt))

-- ---- cached patterns

-- the viewer's patterns on a resource that a look-up of an id finds are those on the resource with that id
pub on_found : (v : Viewer) (kind : Kind) (cs : List Content) (id : List ℕ) (c : Content) (ps : Patterns) → id ≡ c.id
    → find (is_at kind c.id) cs ≡ Some c → AreFor v c ps → AreOn v kind cs id ps
on_found v kind cs id c ps same found are e at =
    let one : Some c ≡ Some e = sym found ∙ ap (λ (i : List ℕ). find (is_at kind i) cs) (sym same) ∙ at in
    subst (λ (x : Content). AreFor v x ps) (same_Some c e one) are

-- ---- which attributes are visible

-- the attributes that are visible by the viewer's patterns on reading a resource
pub made_attributes : (attributes : List Attribute) (ps : Patterns) (v : Viewer) (c : Content) → AreFor v c ps → visible_attributes attributes (decision_in (rules_in ps)) c ≡ visible_attributes attributes (read_in v c) c
unfolding decide_in
made_attributes attributes ps v c are = ap (λ (rules : Leaf → List PatternRule). visible_attributes attributes (decision_in rules) c) (fun_ext are)

-- each leaf of these attributes has only the pattern of its last rule
abbrev pub ArePlainOn : List Attribute → Patterns → Type 0
ArePlainOn attributes ps = (l : Leaf) → list_any (sameb the_attribute l.attribute) attributes ≡ true → rules_in ps l ≡ record { decision = last_decision ps l; filters = None } ∷ []

-- then the last rules make the same fields visible as all rules
plain_field : (attributes : List Attribute) (ps : Patterns) (kind : Kind) (r : Row) (f : Field) → ArePlainOn attributes ps → IsSoundField kind r.unit f
    → may_be_seen_of attributes (λ q. last_decision ps) kind r f.leaf ≡ may_be_seen_of attributes (decision_in (rules_in ps)) kind r f.leaf
plain_field attributes ps kind r f plain sound = elim (cases_Bool (list_any (sameb the_attribute r.unit.attribute) attributes)) [
  | inl t ↦
      let own : list_any (sameb the_attribute f.leaf.attribute) attributes ≡ true = ap (λ (u : AttributeUnit). list_any (sameb the_attribute u.attribute) attributes) sound.0 ∙ t in
      let one : decision_in (rules_in ps) r f.leaf ≡ last_decision ps f.leaf = ap (decided_for (λ tree. truth_in_value tree r)) (plain f.leaf own) in
      rw t (ap (λ (d : Decision). not (is_write_only kind f.leaf) && d.allow) (sym one))
  | inr n ↦ rw n refl
]

plain_rows : (attributes : List Attribute) (ps : Patterns) (c : Content) → IsPart c → ArePlainOn attributes ps
    → restricted (may_be_seen_of attributes (λ q. last_decision ps) c.kind) (rows c) ≡ restricted (may_be_seen_of attributes (decision_in (rules_in ps)) c.kind) (rows c)
plain_rows attributes ps c part plain =
    let by_last = may_be_seen_of attributes (λ q. last_decision ps) c.kind in
    let by_all = may_be_seen_of attributes (decision_in (rules_in ps)) c.kind in
    restricted_alike by_last by_all (rows c)
    (All-weaker (IsSoundRow c.kind) (AreAlike by_last by_all)
    (λ r sound. All-weaker (IsSoundField c.kind r.unit) (λ (f : Field). by_last r f.leaf ≡ by_all r f.leaf) (λ f own. plain_field attributes ps c.kind r f plain own) r.fields sound.own) (rows c) (sound_part c part).own)

-- so the test of the last rules keeps the visible part with the named attributes
pub named_part : (test : MayBeSeenPlainlyOf) (attributes : Bor (List Attribute)) (kind : Kind) (patterns : Bor Patterns) (v : Viewer) (part c : Content)
    → test ≡ record { attributes = attributes; seen = record { kind = kind; patterns = patterns } } → kind ≡ c.kind → part ≡ c → IsPart c → ArePlainOn attributes.now patterns.now → AreFor v c patterns.now
    → restricted_part (may_be_seen_of test.attributes.now (λ q. last_decision test.seen.patterns.now) test.seen.kind) part ≡ visible_attributes attributes.now (read_in v c) c
unfolding visible_attributes
named_part test attributes kind patterns v part c is own same valid plain are =
    rw (is, own, same) (ap (content c.kind c.id) (plain_rows attributes.now patterns.now c valid plain)) ∙ made_attributes attributes.now patterns.now v c are
