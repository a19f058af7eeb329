-- The rows of the resources of a store, where one of them is replaced.
use Rattle.std.proofs.Common.{◌≡◌, ◌≢◌, ℕ, zero, suc, ◌<◌, length, refl, sym, ◌∙◌, ap, subst, Bool, true, false, not, ◌&&◌, ◌||◌, cond, List, [], ◌∷◌, ◌++◌, map, filter, get_or, arith}
use Rattle.std.specs.Prelude.{All, AllPairs, IsPermutation, IsUtf8, Option, None, Some, IfSome, string_bytes}
use Rattle.std.specs.Option.{option_map, option_to_list}
use Rattle.std.specs.List.{flat_map}
use Rattle.std.specs.Ordering.{nat_cmp, is_eq}
use Rattle.std.specs.Cmp.Lexicographic.{slice_cmp}
use Rattle.std.proofs.lemmas.List.{append_assoc}
use Rattle.std.proofs.lemmas.List.Elements.{All-nil, All-cons, All-head, All-tail, All-append, recursion_from_All, filter-append}
use Rattle.std.proofs.lemmas.List.Folds.{list_any_at}
use Rattle.std.proofs.lemmas.List.Kept.{AllPairs-cons, AllPairs-filter}
use Rattle.std.proofs.lemmas.List.Sorted.{IsPermutation-trans, IsPermutation-append_left, IsPermutation-append_right}
use Rattle.std.proofs.lemmas.Grind.{flat_map-append}
use Rattle.std.proofs.lemmas.Str.{IsUtf8-string_bytes}
use Rattle.std.proofs.lemmas.Map.Text.{is_eq-slice_cmp}
use Rattle.std.proofs.lemmas.Slice.Eq.{bytes_eq-Decides}
use Rattle.std.specs.Str.{bytes_eq}
use Rattle.sqlite_trees.proofs.ListLemmas.{IsPermutation-same, IsPermutation-filter, IsPermutation-flat_map, filter_all}
use Rattle.sqlite.specs.Order.{Row}
use Rattle.scim_schema.proofs.Facts.{and_first}
use Rattle.scim_cell.specs.Ids.{IsId, id_text}
use Rattle.scim_store_tables.specs.Lists.{has_text, has_texts, secret_values}
use Rattle.scim_store_rows.specs.Stands.{Entry, is_among, resource_row, member_row}
use Rattle.scim_store_rows.proofs.Facts.{tied, ids_apart}
use Rattle.scim_store.specs.Edits.{is_member, is_secret, removes_code, rows_of_secret, TurnsCode}
use Rattle.scim_store.specs.declared.edits.SecretEdit.{SecretEdit}
use Rattle.scim_store.specs.declared.edits.SecretEdit.TheVariants.{Stays, Goes, Comes, Becomes}

-- ---- rows of one kind

rest_stays : (f : Entry → List Row) (stays : Row → Bool) (rest : List Entry) → All (λ e. All (λ r. stays r ≡ true) (f e)) rest → filter stays (flat_map f rest) ≡ flat_map f rest
rest_stays f stays [] all = refl
rest_stays f stays (e ∷ rest) all =
    filter-append stays (f e) (flat_map f rest)
    ∙ ap (λ (l : List Row). l ++ filter stays (flat_map f rest)) (filter_all stays (f e) (recursion_from_All (λ r. stays r ≡ true) (f e) (All-head (λ x. All (λ r. stays r ≡ true) (f x)) e rest all)))
    ∙ ap (λ (l : List Row). f e ++ l) (rest_stays f stays rest (All-tail (λ x. All (λ r. stays r ≡ true) (f x)) e rest all))

-- what comes and what stays of the rows are those of the resources of which one is replaced
pub replaced : (f : Entry → List Row) (stays : Row → Bool) (es one rest news all : List Entry) (come : List Row)
    → IsPermutation es (one ++ rest) → All (λ e. All (λ r. stays r ≡ true) (f e)) rest → IsPermutation (come ++ filter stays (flat_map f one)) (flat_map f news) → IsPermutation (news ++ rest) all
    → IsPermutation (come ++ filter stays (flat_map f es)) (flat_map f all)
replaced f stays es one rest news all come from keep new into =
    let left : filter stays (flat_map f (one ++ rest)) ≡ filter stays (flat_map f one) ++ flat_map f rest =
    ap (filter stays) (flat_map-append f one rest) ∙ filter-append stays (flat_map f one) (flat_map f rest) ∙ ap (λ (l : List Row). filter stays (flat_map f one) ++ l) (rest_stays f stays rest keep) in
    let moved : IsPermutation (come ++ filter stays (flat_map f es)) (come ++ filter stays (flat_map f (one ++ rest))) =
    IsPermutation-append_right come _ _ (IsPermutation-filter stays _ _ (IsPermutation-flat_map f _ _ from)) in
    let apart : come ++ filter stays (flat_map f (one ++ rest)) ≡ (come ++ filter stays (flat_map f one)) ++ flat_map f rest =
    ap (λ (l : List Row). come ++ l) left ∙ sym (append_assoc come (filter stays (flat_map f one)) (flat_map f rest)) in
    let whole : IsPermutation (come ++ filter stays (flat_map f (one ++ rest))) (flat_map f (news ++ rest)) =
    IsPermutation-trans _ _ _ (IsPermutation-same _ _ apart) (IsPermutation-trans _ _ _ (IsPermutation-append_left (flat_map f rest) _ _ new) (IsPermutation-same _ _ (sym (flat_map-append f news rest)))) in
    IsPermutation-trans _ _ _ moved (IsPermutation-trans _ _ _ whole (IsPermutation-flat_map f _ _ into))

-- ---- rows of resources

pub each_one : (f : Entry → Row) (es : List Entry) → map f es ≡ flat_map (λ e. f e ∷ []) es
each_one f [] = refl
each_one f (e ∷ es) = ap (λ (l : List Row). f e ∷ l) (each_one f es)

pub resource_goes : (id : List ℕ) (e : Entry) → e.content.id ≡ id → not (has_text 0 (id_text id) (resource_row e)) ≡ false
resource_goes id e same = ap not (ap (λ (x : List ℕ). is_eq (slice_cmp nat_cmp (id_text x) (id_text id))) same ∙ tied (id_text id))

pub resource_stays : (id : List ℕ) (e : Entry) → IsId e.content.id → IsId id → e.content.id ≢ id → not (has_text 0 (id_text id) (resource_row e)) ≡ true
resource_stays id e one two differ = ap not (ids_apart e.content.id id one two differ)

-- ---- members

or_false : (b : Bool) → (b || false) ≡ b
or_false true = refl
or_false false = refl

and_true : (b : Bool) → (b && true) ≡ b
and_true true = refl
and_true false = refl

and_false : (b : Bool) → (b && false) ≡ false
and_false true = refl
and_false false = refl

pub own_member : (id : List ℕ) (values : List (List ℕ)) (v : List ℕ) → is_member (id_text id) values (member_row id v) ≡ is_among v values
own_member id [] v = refl
own_member id (w ∷ values) v =
    let one : has_texts w (id_text id) (member_row id v) ≡ bytes_eq v w = ap (λ b. is_eq (slice_cmp nat_cmp v w) && b) (tied (id_text id)) ∙ and_true _ ∙ is_eq-slice_cmp v w in
    (λ i. one i || own_member id values v i)

pub other_member : (x id : List ℕ) (values : List (List ℕ)) (v : List ℕ) → is_eq (slice_cmp nat_cmp (id_text x) (id_text id)) ≡ false → is_member (id_text id) values (member_row x v) ≡ false
other_member x id [] v apart = refl
other_member x id (w ∷ values) v apart =
    let one : has_texts w (id_text id) (member_row x v) ≡ false = ap (λ b. is_eq (slice_cmp nat_cmp v w) && b) apart ∙ and_false _ in
    (λ i. one i || other_member x id values v apart i)

-- the values that stay where some go
abbrev pub staying : List (List ℕ) → List (List ℕ) → List (List ℕ)
staying gone values = filter (λ v. not (is_among v gone)) values

pub among_staying : (v : List ℕ) (gone values : List (List ℕ)) → is_among v (staying gone values) ≡ (is_among v values && not (is_among v gone))
among_staying v gone [] = refl
among_staying v gone (w ∷ values) = go (bytes_eq v w) (is_among w gone) refl refl (among_staying v gone values)
  where
    same_gone : bytes_eq v w ≡ true → is_among v gone ≡ is_among w gone
    same_gone t = ap (λ x. is_among x gone) ((bytes_eq-Decides v w).0 t)

    go : (a b : Bool) → bytes_eq v w ≡ a → is_among w gone ≡ b → is_among v (staying gone values) ≡ (is_among v values && not (is_among v gone))
        → is_among v (cond (not b) (w ∷ staying gone values) (staying gone values)) ≡ ((a || is_among v values) && not (is_among v gone))
    go true true e g rest = rest ∙ (let at : is_among v gone ≡ true = same_gone e ∙ g in rw at (and_false _))
    go true false e g rest = (let at : is_among v gone ≡ false = same_gone e ∙ g in rw (e, at) refl)
    go false true e g rest = rest
    go false false e g rest = rw e rest

-- no value is among none
pub none_among : (values : List (List ℕ)) → ((v : List ℕ) → is_among v values ≡ false) → values ≡ []
none_among [] none = refl
none_among (v ∷ values) none = (let here : bytes_eq v v ≡ true = (bytes_eq-Decides v v).1 refl in let no : (bytes_eq v v || is_among v values) ≡ false = none v in let c : true ≡ false = (rw here at no) in cc)

-- a value of a list is among them
at_among : (values : List (List ℕ)) (k : ℕ) (d : List ℕ) → k < length values → is_among (get_or values k d) values ≡ true
at_among values k d low = list_any_at (bytes_eq (get_or values k d)) values k d low ((bytes_eq-Decides (get_or values k d) (get_or values k d)).1 refl)

append_pairs : (R : List ℕ → List ℕ → Type 0) (xs ys : List (List ℕ)) → AllPairs R xs → AllPairs R ys → All (λ x. All (R x) ys) xs → AllPairs R (xs ++ ys)
append_pairs R [] ys one two across = two
append_pairs R (x ∷ xs) ys one two across =
    AllPairs-cons R x (xs ++ ys)
    (All-append (R x) xs ys (λ k d h. one zero (suc k) d (omega arith) (omega arith)) (All-head (λ y. All (R y) ys) x xs across))
    (append_pairs R xs ys (λ i j d h k. one (suc i) (suc j) d (omega arith) (omega arith)) two (All-tail (λ y. All (R y) ys) x xs across))

-- the values that come and those that stay are each there once
pub once_more : (come gone values : List (List ℕ)) → AllPairs (λ v w. v ≢ w) come → AllPairs (λ v w. v ≢ w) values → ((v : List ℕ) → is_among v come ≡ true → is_among v values ≡ false) → AllPairs (λ v w. v ≢ w) (come ++ staying gone values)
once_more come gone values one two new =
    append_pairs (λ v w. v ≢ w) come (staying gone values) one (AllPairs-filter (λ v w. v ≢ w) (λ v. not (is_among v gone)) values two)
    (λ k d low j e under same.
    (let x = get_or come k d in
    let out : is_among x values ≡ false = new x (at_among come k d low) in
    let in' : is_among x (staying gone values) ≡ true = ap (λ y. is_among y (staying gone values)) same ∙ at_among (staying gone values) j e under in
    let left : (is_among x values && not (is_among x gone)) ≡ true = sym (among_staying x gone values) ∙ in' in
    let c : true ≡ false = sym (and_first (is_among x values) (not (is_among x gone)) left) ∙ out in cc))

-- ---- door codes

-- the row of a door code that is there
abbrev pub code_rows : List ℕ → Option (List ℕ) → List Row
code_rows id code = option_to_list (option_map (secret_values (id_text id)) code)

-- the old door code, where its row stays
abbrev pub code_left : SecretEdit → Option (List ℕ) → Option (List ℕ)
code_left edit code = cond (removes_code edit) None code

pub secret_left : (id : List ℕ) (edit : SecretEdit) (code : Option (List ℕ)) → filter (λ r. not (is_secret (id_text id) edit r)) (code_rows id code) ≡ code_rows id (code_left edit code)
secret_left id edit code = go (removes_code edit) code
  where
    go : (b : Bool) (code : Option (List ℕ)) → filter (λ r. not (b && has_text 0 (id_text id) r)) (code_rows id code) ≡ code_rows id (cond b None code)
    go true None = refl
    go true (Some t) = ap (λ b. cond (not b) (secret_values (id_text id) t ∷ []) []) (tied (id_text id))
    go false None = refl
    go false (Some t) = refl

pub secret_stays : (x id : List ℕ) (edit : SecretEdit) (code : Option (List ℕ)) → is_eq (slice_cmp nat_cmp (id_text x) (id_text id)) ≡ false → All (λ r. not (is_secret (id_text id) edit r) ≡ true) (code_rows x code)
secret_stays x id edit None apart = All-nil _
secret_stays x id edit (Some t) apart =
    All-cons (λ r. not (is_secret (id_text id) edit r) ≡ true) (secret_values (id_text x) t) [] (ap (λ b. not (removes_code edit && b)) apart ∙ ap not (and_false (removes_code edit))) (All-nil _)

-- what comes and what stays are the new door code
pub turned : (id : List ℕ) (old new : Option (List ℕ)) (edit : SecretEdit) → TurnsCode old new edit → rows_of_secret (id_text id) edit ++ code_rows id (code_left edit old) ≡ code_rows id new
turned id old new Stays turns = ap (code_rows id) (sym turns)
turned id old new Goes turns = ap (code_rows id) (sym turns.1)
turned id old new (Comes code) turns = ap (λ o. secret_values (id_text id) (string_bytes code) ∷ code_rows id o) turns.0 ∙ ap (code_rows id) (sym turns.1)
turned id old new (Becomes code) turns = ap (code_rows id) (sym turns.1)

-- where there was none, what comes is the new one
pub first_turned : (id : List ℕ) (new : Option (List ℕ)) (edit : SecretEdit) → TurnsCode None new edit → rows_of_secret (id_text id) edit ≡ code_rows id new
first_turned id new Stays turns = ap (code_rows id) (sym turns)
first_turned id new Goes turns = absurd (turns.0 refl)
first_turned id new (Comes code) turns = ap (code_rows id) (sym turns.1)
first_turned id new (Becomes code) turns = absurd (turns.0 refl)

-- the new door code is in UTF-8
pub turned_utf8 : (old new : Option (List ℕ)) (edit : SecretEdit) → TurnsCode old new edit → IfSome old IsUtf8 → IfSome new IsUtf8
turned_utf8 old new Stays turns was = subst (λ o. IfSome o IsUtf8) (sym turns) was
turned_utf8 old new Goes turns was = subst (λ o. IfSome o IsUtf8) (sym turns.1) tt
turned_utf8 old new (Comes code) turns was = subst (λ o. IfSome o IsUtf8) (sym turns.1) (IsUtf8-string_bytes code)
turned_utf8 old new (Becomes code) turns was = subst (λ o. IfSome o IsUtf8) (sym turns.1) (IsUtf8-string_bytes code)
