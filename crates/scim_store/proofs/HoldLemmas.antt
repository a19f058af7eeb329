-- What the code compares of the rows of one id is what is said of them.
use Rattle.std.proofs.Common.{◌≡◌, ◌≢◌, ℕ, zero, suc, refl, sym, ◌∙◌, ap, subst, Bool, true, false, List, [], ◌∷◌, get_or, map, filter, arith}
use Rattle.std.specs.Prelude.{AllPairs, Option, None, Some, IfSome, IsPermutation, IsUtf8}
use Rattle.std.specs.Option.{option_to_list}
use Rattle.std.specs.List.{flat_map, AllByRecursion, IsDistinct}
use Rattle.std.specs.List.Sorted.{IsStrictlySortedBy}
use Rattle.std.specs.Ordering.{nat_cmp, is_eq, is_lt, ordering_then, ordering_reverse}
use Rattle.std.specs.declared.cmp.Ordering.{Ordering}
use Rattle.std.specs.declared.cmp.Ordering.TheVariants.{Less, Equal, Greater}
use Rattle.std.specs.Cmp.Lexicographic.{slice_cmp, nat_list_eq_equiv}
use Rattle.std.specs.Str.{bytes_eq}
use Rattle.std.proofs.lemmas.Cmp.{tied_itself, nat_list_cmp_total}
use Rattle.std.proofs.lemmas.List.{append-nil, nil_from_length}
use Rattle.std.proofs.lemmas.List.Elements.{All-nil, All-cons, All-head, All-from_recursion, All-weaker, recursion_from_All}
use Rattle.std.proofs.lemmas.List.Kept.{AllPairs-cons}
use Rattle.std.proofs.lemmas.List.Sorted.{IsPermutation-sym, IsPermutation-trans, length_permutation, list_any-IsPermutation}
use Rattle.std.proofs.lemmas.Map.Keys.{sorted_head, sorted_tail, IsDistinct-IsPermutation}
use Rattle.std.proofs.lemmas.Map.Text.{is_eq-slice_cmp}
use Rattle.std.proofs.lemmas.Slice.Eq.{bytes_eq-Decides}
use Rattle.sqlite_trees.specs.Tree.{IsAscending}
use Rattle.sqlite_trees.proofs.ListLemmas.{IsPermutation-same, map-map, pull_back, ascending_from_map, ascending_weaker, ascending-filter}
use Rattle.sqlite.proofs.Callers.{one_permutation}
use Rattle.sqlite.specs.declared.types.Value.TheVariants.{Text}
use Rattle.sqlite.specs.Order.{Row, column, value_cmp}
use Rattle.sqlite_value.proofs.OrderLemmas.{value_cmp_total, value_cmp-Text}
use Rattle.scim_cell.specs.Ids.{id_text}
use Rattle.scim_shelf.proofs.Facts.{keyed_nil, ids_differ}
use Rattle.scim_store_tables.specs.declared.versions.Version.{Version}
use Rattle.scim_store_tables.specs.Lists.{secret_values}
use Rattle.scim_store_tables.specs.Reading.{DoNotFall, columns_cmp, owner_first, group_first}
use Rattle.scim_store_tables.proofs.Facts.{order_rising}
use Rattle.scim_store.specs.Damage.{Tables, IsEntryIn, AreThoseOf, HoldsAt, rows_at}
use Rattle.scim_store.specs.Owners.{is_of}
use Rattle.scim_store_rows.specs.Stands.{Entry, IsEntry, resource_row, name_rows, member_row, member_rows, secret_rows}
use Rattle.scim_store.specs.code.Damage.{owned_names, owned_member, owned_code, IsRowOf, HasRows, HasCode, AreOfOne}
use Rattle.scim_store.proofs.OrderLemmas.{ordered_rise, owned_permuted}
use Rattle.scim_store.proofs.SoundLemmas.{few_keyed}

-- the rows are those of one resource, or there are none
abbrev Fit : Version → List ℕ → List Row → List Row → List Row → List Row → Option Entry → Type 0
Fit version base resources names members secrets o = AreThoseOf version base (option_to_list o) (record { resources = resources; names = names; members = members; secrets = secrets })

-- the rows of the names of a resource, in order of attribute
names_of_one : (e : Entry) → IsPermutation (owned_names e.content) (map owner_first (flat_map name_rows (e ∷ [])))
names_of_one e = IsPermutation-trans _ _ _ (owned_permuted e) (IsPermutation-same _ _ (sym (ap (map owner_first) (append-nil (name_rows e)))))

members_of_one : (e : Entry) → map group_first (flat_map member_rows (e ∷ [])) ≡ map (owned_member (id_text e.content.id)) e.members
members_of_one e = ap (map group_first) (append-nil (member_rows e)) ∙ map-map group_first (member_row e.content.id) e.members

none_there : (rows : List Row) → IsPermutation rows [] → rows ≡ []
none_there rows same = nil_from_length rows (sym (length_permutation rows [] same))

-- the door code of the rows is in UTF-8
code_utf8 : (rows : List Row) (code : Option (List ℕ)) → HasCode rows code → IfSome code IsUtf8
code_utf8 [] code none = subst (λ (o : Option (List ℕ)). IfSome o IsUtf8) (sym none) tt
code_utf8 (row ∷ []) code one = subst (λ (o : Option (List ℕ)). IfSome o IsUtf8) (sym one.1) one.3
code_utf8 (row ∷ other ∷ rows) code none = absurd none

-- the rows of a door code in UTF-8 have it
has_code : (id : List ℕ) (code : Option (List ℕ)) → IfSome code IsUtf8 → HasCode (owned_code id code) code
has_code id None utf8 = refl
has_code id (Some text) utf8 = (text, refl, refl, utf8)

-- rows in any order of at most one door code
same_code : (id : List ℕ) (code : Option (List ℕ)) (rows : List Row) → IsPermutation rows (owned_code id code) → rows ≡ owned_code id code
same_code id None rows same = none_there rows same
same_code id (Some text) rows same = one_permutation (secret_values id text) rows (IsPermutation-sym _ _ same)

-- values in order are each there once
pub once_rising : (vs : List (List ℕ)) → IsStrictlySortedBy (slice_cmp nat_cmp) vs → AllPairs (λ v w. v ≢ w) vs
once_rising [] up = λ i j d h k. absurd (omega (arith, k))
once_rising (v ∷ vs) up =
    AllPairs-cons (λ x y. x ≢ y) v vs
    (All-weaker (λ w. slice_cmp nat_cmp v w ≡ Less) (λ w. v ≢ w) (λ w less. ids_differ v w less) vs (All-from_recursion (λ w. slice_cmp nat_cmp v w ≡ Less) vs (sorted_head (slice_cmp nat_cmp) v vs up)))
    (once_rising vs (sorted_tail (slice_cmp nat_cmp) v vs up))

-- what was compared holds of one resource, or of none
pub to_fit : (version : Version) (base : List ℕ) (resources names members secrets : List Row) → AreOfOne version base resources names members secrets → (o : Option Entry) × Fit version base resources names members secrets o
to_fit version base [] names members secrets of = (
  None,
  record {
    sound = All-nil (IsEntryIn version base);
    keyed = keyed_nil;
    resources = IsPermutation-same [] [] refl;
    names = IsPermutation-same names [] of.0;
    members = IsPermutation-same members [] of.1;
    secrets = IsPermutation-same secrets [] of.2;
  },
)
to_fit version base (row ∷ []) names members secrets of =
    (let c = of.0 in
    let code = of.1 in
    let row_of = of.3 in
    let has = of.4 in
    let e : Entry = record { content = c; document = row_of.document; members = has.values; door_code = code } in
    let entry : IsEntry base e = record { document = row_of.kept; utf8 = row_of.utf8; code_utf8 = code_utf8 secrets code of.2; members = record { once = once_rising has.values has.rising; listed = has.listed } } in (
      Some e,
      record {
        sound = All-cons (IsEntryIn version base) e [] (record { entry = entry; may = row_of.may }) (All-nil (IsEntryIn version base));
        keyed = few_keyed (Some e);
        resources = IsPermutation-same _ _ (ap (λ r. r ∷ []) row_of.row_is);
        names = IsPermutation-trans _ _ _ (IsPermutation-same _ _ has.named) (names_of_one e);
        members = IsPermutation-same _ _ (has.members_are ∙ sym (members_of_one e));
        secrets = IsPermutation-same _ _ (has.coded ∙ ap (owned_code (id_text c.id)) (sym row_of.kept.code) ∙ sym (append-nil (secret_rows e)));
      },
    ))
to_fit version base (row ∷ other ∷ rest) names members secrets of = absurd of

-- ---- and back

distinct_once : (vs : List (List ℕ)) → AllPairs (λ v w. v ≢ w) vs → IsDistinct bytes_eq vs
unfolding IsDistinct
distinct_once [] once = tt
distinct_once (v ∷ vs) once = (
  recursion_from_All (λ w. bytes_eq v w ≡ false) vs (λ k d low. differ (get_or vs k d) (once zero (suc k) d (omega arith) (omega arith))),
  distinct_once vs (λ i j d h k. once (suc i) (suc j) d (omega arith) (omega arith)),
)
  where
    differ : (w : List ℕ) → v ≢ w → bytes_eq v w ≡ false
    differ w apart = go (bytes_eq v w) refl
      where
        go : (b : Bool) → bytes_eq v w ≡ b → b ≡ false
        go true t = absurd (apart ((bytes_eq-Decides v w).0 t))
        go false f = refl

-- rows of members in order, each once, have their values in order
rise : (t : List ℕ) (vs : List (List ℕ)) → IsAscending (λ a b. is_lt (ordering_then (value_cmp (Text t) (Text t)) (ordering_then (value_cmp (Text b) (Text a)) Equal)) ≡ false) vs → IsDistinct bytes_eq vs → IsStrictlySortedBy (slice_cmp nat_cmp) vs
unfolding IsDistinct IsStrictlySortedBy
rise t [] up apart = tt
rise t (v ∷ vs) up apart = (each vs up.0 apart.0, rise t vs up.1 apart.1)
  where
    strictly : (w : List ℕ) (o : Ordering) → slice_cmp nat_cmp w v ≡ o → is_lt (ordering_then o Equal) ≡ false → bytes_eq v w ≡ false → slice_cmp nat_cmp v w ≡ Less
    strictly w Less e low f = absurd cc
    strictly w Equal e low f = (let back : slice_cmp nat_cmp v w ≡ Equal = nat_list_cmp_total.antisymm v w ∙ ap ordering_reverse e in let c : true ≡ false = sym (ap is_eq back) ∙ is_eq-slice_cmp v w ∙ f in absurd cc)
    strictly w Greater e low f = nat_list_cmp_total.antisymm v w ∙ ap ordering_reverse e

    each : (ws : List (List ℕ)) → AllByRecursion (λ w. is_lt (ordering_then (value_cmp (Text t) (Text t)) (ordering_then (value_cmp (Text w) (Text v)) Equal)) ≡ false) ws → AllByRecursion (λ w. bytes_eq v w ≡ false) ws → AllByRecursion (λ w. slice_cmp nat_cmp v w ≡ Less) ws
    each [] low f = tt
    each (w ∷ ws) low f =
        (strictly w (slice_cmp nat_cmp w v) refl ((λ i. is_lt (ordering_then (sym (tied_itself value_cmp_total (Text t)) i) (ordering_then (sym (value_cmp-Text w v) i) Equal))) ∙ low.0) f.0, each ws low.1 f.1)

pub from_fit : (version : Version) (base : List ℕ) (resources names members secrets : List Row) (o : Option Entry) → DoNotFall (0 ∷ 1 ∷ 2 ∷ []) names → DoNotFall (0 ∷ 1 ∷ []) members → Fit version base resources names members secrets o → AreOfOne version base resources names members secrets
from_fit version base resources names members secrets None falls up fit =
    subst (λ rs. AreOfOne version base rs names members secrets) (sym (none_there resources fit.resources)) (none_there names fit.names, none_there members fit.members, none_there secrets fit.secrets)
from_fit version base resources names members secrets (Some e) falls up fit =
    (let sound = All-head (IsEntryIn version base) e [] fit.sound in
    let t = id_text e.content.id in
    let one : resources ≡ resource_row e ∷ [] = one_permutation (resource_row e) resources (IsPermutation-sym _ _ fit.resources) in
    let named : names ≡ owned_names e.content =
    order_rising (0 ∷ 1 ∷ 2 ∷ []) (owned_names e.content) names (ordered_rise t e.content) (IsPermutation-trans _ _ _ (names_of_one e) (IsPermutation-sym _ _ fit.names)) falls in
    let pulled = pull_back (owned_member t) _ members (IsPermutation-sym _ _ fit.members) e.members (members_of_one e) in
    let rising = rise t pulled.0 (ascending_from_map _ (owned_member t) pulled.0 (subst (DoNotFall (0 ∷ 1 ∷ [])) pulled.2 up)) (IsDistinct-IsPermutation bytes_eq nat_list_eq_equiv.symm _ _ pulled.1 (distinct_once e.members sound.entry.members.once)) in
    let secret : secrets ≡ owned_code t e.door_code = same_code t e.door_code secrets (IsPermutation-trans _ _ _ fit.secrets (IsPermutation-same _ _ (append-nil (secret_rows e)))) in
    let coded : HasCode secrets e.door_code = subst (λ rs. HasCode rs e.door_code) (sym secret) (has_code t e.door_code sound.entry.code_utf8) in
    let row_of : IsRowOf version base (resource_row e) e.door_code e.content = record { document = e.document; row_is = refl; kept = sound.entry.document; utf8 = sound.entry.utf8; may = sound.may } in
    let has : HasRows e.content names members secrets = record {
      named = named;
      values = pulled.0;
      rising = rising;
      listed = λ v. sym (list_any-IsPermutation (bytes_eq v) _ _ pulled.1) ∙ sound.entry.members.listed v;
      members_are = pulled.2;
      coded = secret ∙ ap (owned_code t) sound.entry.document.code;
    } in
    subst (λ rs. AreOfOne version base rs names members secrets) (sym one) (e.content, e.door_code, coded, row_of, has))

-- rows in order of more columns are in order of the first
pub falls_less : (more : List ℕ) (rows : List Row) → DoNotFall (0 ∷ more) rows → DoNotFall (0 ∷ []) rows
falls_less more rows up = ascending_weaker (λ a b. is_lt (columns_cmp (0 ∷ more) b a) ≡ false) (λ a b. is_lt (columns_cmp (0 ∷ []) b a) ≡ false) (λ a b h. first (value_cmp (column b 0) (column a 0)) (columns_cmp more b a) h) rows up
  where
    first : (o p : Ordering) → is_lt (ordering_then o p) ≡ false → is_lt (ordering_then o Equal) ≡ false
    first Less p h = absurd cc
    first Equal p h = refl
    first Greater p h = refl

-- ---- the rows of an id

module _ (version : Version) (base : List ℕ) (tables : Tables) (id : List ℕ) (rows : Tables) (are : rows ≡ rows_at id tables) where
  pub holds_yes : AreOfOne version base rows.resources rows.names rows.members rows.secrets → HoldsAt version base tables id
  holds_yes of = (let fit = to_fit version base rows.resources rows.names rows.members rows.secrets of in (fit.0, subst (AreThoseOf version base (option_to_list fit.0)) are fit.1))

  pub holds_no : DoNotFall (0 ∷ 1 ∷ 2 ∷ []) tables.names → DoNotFall (0 ∷ 1 ∷ []) tables.members → HoldsAt version base tables id → AreOfOne version base rows.resources rows.names rows.members rows.secrets
  holds_no falls up at =
      from_fit version base rows.resources rows.names rows.members rows.secrets at.0
      (subst (DoNotFall (0 ∷ 1 ∷ 2 ∷ [])) (sym (ap (λ (t : Tables). t.names) are)) (ascending-filter _ (is_of id) tables.names falls))
      (subst (DoNotFall (0 ∷ 1 ∷ [])) (sym (ap (λ (t : Tables). t.members) are)) (ascending-filter _ (is_of id) tables.members up))
      (subst (AreThoseOf version base (option_to_list at.0)) (sym are) at.1)
