-- A search over the resources that can match finds what a search over all finds.
use Rattle.std.proofs.Common.{◌≡◌, refl, sym, ◌∙◌, ap, subst, ℕ, zero, suc, Bool, true, false, List, [], ◌∷◌, ◌++◌, filter, length, ◌≤◌, inl, inr, arith}
use Rattle.std.specs.Prelude.{◌&&◌, All, AllPairs, Option, None, Some, IfSome, find}
use Rattle.std.specs.List.Sorted.{IsSorted}
use Rattle.std.specs.Ordering.{nat_cmp, is_eq}
use Rattle.std.specs.Cmp.Lexicographic.{slice_cmp}
use Rattle.std.proofs.lemmas.Map.Lookups.{exact_bytes}
use Rattle.std.proofs.lemmas.Bool.{cases_Bool, false_from_ne_true}
use Rattle.std.proofs.lemmas.Slice.Eq.{bytes_eq-Decides}
use Rattle.std.proofs.lemmas.List.Elements.{All-head, All-tail, All-weaker, All-filter, filter-append, filter_passes}
use denote.Enum.Bare.{same_true, true_same}
use Rattle.scim_schema.proofs.Facts.{and_second}
use Rattle.scim_schema.specs.declared.Kind.{Kind}
use Rattle.scim_schema.specs.contracts.Kind.{the_type as the_kind}
use Rattle.scim_schema.specs.declared.Attribute.TheVariants.{Id}
use Rattle.scim_schema.specs.Units.{simple}
use Rattle.scim_schema.specs.Characteristics.{is_case_exact}
use Rattle.scim_cell.specs.declared.atoms.Atom.{Atom}
use Rattle.scim_cell.specs.declared.atoms.Atom.TheVariants.{Text}
use Rattle.scim_cell.specs.Content.{Content}
use Rattle.scim_cell.specs.Equality.{is_same_id}
use Rattle.scim_cell.specs.Ids.{IsId, id_text}
use Rattle.scim_cell.proofs.Facts.{id_text-injective}
use Rattle.scim_cell.specs.Kinds.{is_of, of_kind}
use Rattle.scim_cell.specs.Order.{id_cmp}
use Rattle.scim_cell.specs.Rows.{rows}
use Rattle.scim_value.specs.Resource.{IsResource, HasBase}
use Rattle.scim_value.specs.Uniqueness.{Name, AreApart}
use Rattle.scim_filter_grammar.specs.declared.tree.Filter.{Filter}
use Rattle.scim_view.specs.View.{Viewer, sees}
use Rattle.scim_view.specs.Groups.{and_those, with_groups, view_with_groups, views}
use Rattle.scim_filter_grammar.specs.declared.tree.Literal.TheVariants as literal
use Rattle.scim_filter_grammar.specs.declared.tree.Operator.TheVariants.{Eq}
use Rattle.scim_filter.specs.Relation.{stands}
use Rattle.scim_filter_texts.specs.Needed as needed
use Rattle.scim_query.specs.Needed.{NeedsText}
use Rattle.scim_view.proofs.Facts.{and_those_append, seen_stands}
use Rattle.scim_query.specs.declared.queries.Query.{Query}
use Rattle.scim_query.specs.declared.queries.Page.{Page}
use Rattle.scim_query.specs.Pages.{is_match, matching, IsPage}
use Rattle.scim_shelf.specs.Stores.{Store, IsStore, has_name, is_at, those_at, those_found}
use Rattle.scim_search.specs.Lookups.{OnlyThose}
use Rattle.scim_search.proofs.ApartLemmas.{none_at, not_both}
use Rattle.scim_shelf.proofs.Facts.{filter_swap}
use Rattle.scim_search.proofs.TextLemmas.{is_equal}

-- of what is seen of a list, what is seen of its first resource comes first
first_apart : (f : Option Filter) (o : Option Content) (xs : List Content) → matching f (and_those o xs) ≡ matching f (and_those o []) ++ matching f xs
first_apart f o xs = ap (matching f) (and_those_append o [] xs) ∙ filter-append (is_match f) (and_those o []) xs

-- what is seen of a resource that doesn't match so doesn't match
none_matching : (f : Option Filter) (v : Viewer) (gs : List Content) (c : Content) → is_match f (with_groups v gs c) ≡ false → matching f (and_those (view_with_groups v gs c) []) ≡ []
none_matching f v gs c not' = elim (cases_Bool (sees v c)) [ inl t ↦ rw t (rw not' refl) | inr u ↦ rw u refl ]

-- the resources that can match are seen to match as all are
pub narrowed : (f : Option Filter) (v : Viewer) (gs : List Content) (passes : Content → Bool) (cs : List Content)
    → All (λ c. is_match f (with_groups v gs c) ≡ true → passes c ≡ true) cs → matching f (views v gs (filter passes cs)) ≡ matching f (views v gs cs)
narrowed f v gs passes [] only = refl
narrowed f v gs passes (c ∷ cs) only =
    let Only : Content → Type 0 = λ d. is_match f (with_groups v gs d) ≡ true → passes d ≡ true in
    let rest = narrowed f v gs passes cs (All-tail Only c cs only) in
    let all = first_apart f (view_with_groups v gs c) (views v gs cs) in
    elim (cases_Bool (passes c)) [
      | inl t ↦ rw t (first_apart f (view_with_groups v gs c) (views v gs (filter passes cs)) ∙ ap (λ (xs : List Content). matching f (and_those (view_with_groups v gs c) []) ++ xs) rest ∙ sym all)
      | inr u ↦
          let differs : is_match f (with_groups v gs c) ≡ false = false_from_ne_true _ (λ is. (let both : passes c ≡ true = All-head Only c cs only is in let contra : true ≡ false = sym both ∙ u in cc)) in
          rw u (rest ∙ sym (all ∙ ap (λ (xs : List Content). xs ++ matching f (views v gs cs)) (none_matching f v gs c differs)))
    ]

-- only the resources of a store that pass can match, whoever views them, and with whatever groups
pub possible : (kind : Kind) (f : Option Filter) (passes : Content → Bool) (v : Viewer) (gs : List Content) (base : List ℕ) (store : Store)
    → IsStore base store → OnlyThose kind f passes → All (λ c. is_match f (with_groups v gs c) ≡ true → passes c ≡ true) (of_kind kind store.resources)
possible kind f passes v gs base store is only =
    let cs = of_kind kind store.resources in
    let sound : All (λ c. IsResource c × HasBase base c) cs = All-filter (is_of kind) (λ c. IsResource c × HasBase base c) store.resources is.sound in
    let own : All (λ c. is_of kind c ≡ true) cs = filter_passes (is_of kind) store.resources in
    λ k c lt matches. only v gs _ (same_true the_kind tt _ kind (own k c lt)) (sound k c lt).0 matches

-- a page of a list is one of any list of which the same matches
pub page_of_matching : (xs ys : List Content) (query : Query) (page : Page) → matching query.filter xs ≡ matching query.filter ys → IsPage xs query page → IsPage ys query page
page_of_matching xs ys query page same is = record {
  total = rw (← same) is.total;
  start = is.start;
  sorted = is.sorted;
  is_sorted = rw (← same) is.is_sorted;
  items = is.items;
}

-- of resources that are apart one at most passes a test that no two do
none_passing : (test : Content → Bool) (cs : List Content) → All (λ c. test c ≡ false) cs → filter test cs ≡ []
none_passing test [] none = refl
none_passing test (c ∷ cs) none = rw (All-head (λ d. test d ≡ false) c cs none) (none_passing test cs (All-tail (λ d. test d ≡ false) c cs none))

-- whether of two resources that are apart one at most passes a test
abbrev pub PassesOne : (Content → Bool) → Type 0
PassesOne test = (c d : Content) → AreApart c d → test c ≡ true → test d ≡ false

only_one : (test : Content → Bool) (cs : List Content) → PassesOne test → AllPairs AreApart cs → filter test cs ≡ and_those (find test cs) []
only_one test [] one apart = refl
only_one test (c ∷ cs) one apart =
    let first : All (AreApart c) cs = λ k e h. apart zero (suc k) e (omega arith) (omega arith) in
    let rest : AllPairs AreApart cs = λ i j e h k. apart (suc i) (suc j) e (omega arith) (omega arith) in
    elim (cases_Bool (test c)) [
      | inl t ↦ rw t (ap (λ (xs : List Content). c ∷ xs) (none_passing test cs (All-weaker (AreApart c) (λ d. test d ≡ false) (λ d a. one c d a t) cs first)))
      | inr u ↦ rw u (only_one test cs one rest)
    ]

pub one_has_name : (name : Name) → PassesOne (has_name name)
one_has_name name c d apart has = false_from_ne_true (has_name name d) (not_both name c d apart has)

-- of the resources of a kind only the one that is found passes
pub found_of_kind : (kind : Kind) (test : Content → Bool) (cs : List Content) → PassesOne test → AllPairs AreApart cs
    → filter test (of_kind kind cs) ≡ of_kind kind (and_those (find test cs) [])
found_of_kind kind test cs one apart = filter_swap (is_of kind) test cs ∙ ap (of_kind kind) (only_one test cs one apart)

-- what passes one test and then another passes both
both_kept : (p q : Content → Bool) (cs : List Content) → filter q (filter p cs) ≡ filter (λ c. p c && q c) cs
both_kept p q [] = refl
both_kept p q (c ∷ cs) = grind (arith, both_kept p q cs)

found_alone : (o : Option Content) → those_found o ≡ and_those o []
found_alone None = refl
found_alone (Some c) = refl

-- of the resources of a kind, only the one that a look-up of an id finds has the id
pub found_with_id : (kind : Kind) (id : List ℕ) (base : List ℕ) (store : Store) → IsStore base store
    → those_at kind id store.resources ≡ filter (λ c. is_same_id id c.id) (of_kind kind store.resources)
found_with_id kind id base store is =
    let cs = store.resources in
    found_alone (find (is_at kind id) cs) ∙ sym (both_kept (is_of kind) (λ c. is_same_id id c.id) cs ∙ only_one (is_at kind id) cs (none_at kind id) is.keyed.apart)

-- what must be of the kind and have the id must have the id
pub only_by_id : (kind : Kind) (f : Option Filter) (id : List ℕ) → OnlyThose kind f (is_at kind id) → OnlyThose kind f (λ c. is_same_id id c.id)
only_by_id kind f id only v gs c own sound matches = and_second (is_of kind c) (is_same_id id c.id) (only v gs c own sound matches)

-- the page of the resources of a list that can match is that of the list
pub page_of_possible : (passes : Content → Bool) (v : Viewer) (gs cs : List Content) (query : Query) (page : Page)
    → All (λ c. is_match query.filter (with_groups v gs c) ≡ true → passes c ≡ true) cs
    → IsPage (views v gs (filter passes cs)) query page → IsPage (views v gs cs) query page
page_of_possible passes v gs cs query page only is =
    page_of_matching (views v gs (filter passes cs)) (views v gs cs) query page (narrowed query.filter v gs passes cs only) is

-- the page of the resources that can match is that of all
pub page_of_passing : (kind : Kind) (passes : Content → Bool) (v : Viewer) (gs : List Content) (base : List ℕ) (store : Store) (query : Query) (page : Page)
    → IsStore base store → OnlyThose kind query.filter passes
    → IsPage (views v gs (filter passes (of_kind kind store.resources))) query page → IsPage (views v gs (of_kind kind store.resources)) query page
page_of_passing kind passes v gs base store query page is only =
    page_of_possible passes v gs (of_kind kind store.resources) query page (possible kind query.filter passes v gs base store is only)

-- the page of what was found is that of all, where only that can match
pub page_found_of_all : (kind : Kind) (test : Content → Bool) (v : Viewer) (gs : List Content) (base : List ℕ) (store : Store) (query : Query) (found : Option Content) (page : Page)
    → IsStore base store → PassesOne test → OnlyThose kind query.filter test → found ≡ find test store.resources
    → IsPage (views v gs (of_kind kind (and_those found []))) query page → IsPage (views v gs (of_kind kind store.resources)) query page
page_found_of_all kind test v gs base store query found page is one only same paged =
    let those : of_kind kind (and_those found []) ≡ filter test (of_kind kind store.resources)
    = ap (λ (o : Option Content). of_kind kind (and_those o [])) same ∙ sym (found_of_kind kind test store.resources one is.keyed.apart) in
    page_of_passing kind test v gs base store query page is only (subst (λ (cs : List Content). IsPage (views v gs cs) query page) those paged)

-- one that is of another kind shows nothing
pub of_another_kind : (kind : Kind) (v : Viewer) (gs : List Content) (c : Content) → is_of kind c ≡ false → [] ≡ views v gs (of_kind kind (c ∷ []))
of_another_kind kind v gs c other = rw other refl

-- one of the kind is viewed as it is seen with its groups
pub of_own_kind : (kind : Kind) (v : Viewer) (gs : List Content) (c : Content) (part : Option Content) → is_of kind c ≡ true → part ≡ view_with_groups v gs c
    → and_those part [] ≡ views v gs (of_kind kind (c ∷ []))
of_own_kind kind v gs c part own same = rw own (ap (λ (o : Option Content). and_those o []) same)

-- a list of one is in order
pub one_in_order : (cs : List Content) → length cs ≤ 1 → IsSorted id_cmp cs
one_in_order cs few k d low high = absurd (omega arith)

-- the text that is seen at `id` is that of the resource's id
pub seen_id : (text : List ℕ) (v : Viewer) (gs : List Content) (c : Content) → IsResource c → needed.has_text (simple Id) text (rows (with_groups v gs c)) ≡ true → id_text c.id ≡ text
seen_id text v gs c sound has =
    let found = seen_stands (λ (a : Atom). stands (is_case_exact (simple Id)) Eq a (literal.Text text)) (simple Id) v gs c refl refl sound.part has in
    let atom : Text (id_text c.id) ≡ found.0 = (let both : Some (Text (id_text c.id)) ≡ Some found.0 = sym sound.identified.1 ∙ found.1 in cc) in
    let equal : is_eq (slice_cmp nat_cmp (id_text c.id) text) ≡ true = ap (λ (b : Atom). stands (is_case_exact (simple Id)) Eq b (literal.Text text)) atom ∙ found.2 in
    exact_bytes (id_text c.id) text (is_equal _ equal)

-- where no part matches in which the text of an id doesn't stand at `id`, only the resource with that id can match
pub id_by_text : (kind : Kind) (f : Option Filter) (text id : List ℕ) → NeedsText f (simple Id) text → text ≡ id_text id → IsId id → OnlyThose kind f (is_at kind id)
id_by_text kind f text id needs is valid v gs c own sound matches =
    let texts : id_text c.id ≡ id_text id = seen_id text v gs c sound (needs (with_groups v gs c) matches) ∙ is in
    let ids : c.id ≡ id = id_text-injective c.id id sound.identified.0 valid texts in
    let same : is_same_id id c.id ≡ true = (bytes_eq-Decides id c.id).1 (sym ids) in
    rw (true_same the_kind c.kind kind own) same

pub only_with_id : (f : Option Filter) (text : List ℕ) (o : Option (List ℕ)) → NeedsText f (simple Id) text → IfSome o (λ id. text ≡ id_text id) → IfSome o IsId
    → IfSome o (λ id. (kind : Kind) → OnlyThose kind f (is_at kind id))
only_with_id f text None needs is valid = tt
only_with_id f text (Some id) needs is valid = λ kind. id_by_text kind f text id needs is valid
