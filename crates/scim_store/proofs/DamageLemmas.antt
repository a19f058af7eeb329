-- Judging the rows of the tables.
use Rattle.std.proofs.Common.{◌≡◌, ℤ, pos, ℕ, ◌+◌, ◌<◌, ◌≤◌, refl, sym, ◌∙◌, ap, subst, Bool, true, false, ◌&&◌, ◌||◌, List, [], ◌∷◌, ◌++◌, length, take, get_or, map, arith}
use Rattle.std.specs.Prelude.{Option, Some, None, IsUtf8}
use Rattle.std.proofs.lemmas.List.{take_more, take_all, map-append, length-map, get_or-map}
use Rattle.std.proofs.lemmas.Slice.Eq.{bytes_eq-Decides}
use Rattle.sqlite.specs.declared.types.Value.{Value}
use Rattle.sqlite.specs.declared.types.Value.TheVariants.{Null, Int, Real, Text, Blob}
use Rattle.sqlite.specs.Order.{Row, column}
use Rattle.scim_store_tables.specs.declared.versions.Version.{Version}
use Rattle.scim_store_tables.specs.Lists.{has_text, resource_values, secret_values}
use Rattle.scim_cell.specs.Content.{Content}
use Rattle.scim_cell.specs.Ids.{id_text}
use Rattle.scim_store_rows.specs.Audit.{kind_number}
use Rattle.scim_json.specs.Kept.{IsKept}
use Rattle.scim_json.proofs.Facts.{kept_parts_determine}
use Rattle.std.specs.Prelude.{nat_eq}
use Rattle.std.proofs.lemmas.Bool.Decides.{nat_tests, Decides-int_eq}
use Rattle.std.specs.Ordering.{int_eq, nat_cmp, is_eq, ordering_reverse}
use Rattle.std.specs.declared.cmp.Ordering.{Ordering}
use Rattle.std.specs.Str.{bytes_eq}
use Rattle.std.proofs.lemmas.Cmp.{nat_list_cmp_total}
use Rattle.std.proofs.lemmas.Map.Text.{is_eq-slice_cmp}
use Rattle.std.proofs.lemmas.Map.Keys.{sorted_head, sorted_tail}
use Rattle.std.proofs.lemmas.Map.Lookups.{exact_bytes}
use Rattle.scim_shelf.proofs.Facts.{by_bool}
use Rattle.scim_store_rows.specs.AuditBack.{ReadsBack}
use Rattle.scim_store_rows.specs.Stands.{is_among}
use Rattle.std.specs.List.{AllByRecursion}
use Rattle.std.specs.List.Sorted.{IsStrictlySortedBy}
use Rattle.std.specs.declared.cmp.Ordering.TheVariants.{Less, Equal, Greater}
use Rattle.std.specs.Cmp.Lexicographic.{slice_cmp}
use Rattle.scim_store.proofs.ValueLemmas.{texts_of}
use denote.Ref.{Bor}
use Rattle.scim_store.specs.code.Damage.{pair_of, triple_of, is_pair, is_triple, is_number, is_row, IsRowOf, HasRows, HasCode, AreOfOne}
use Rattle.scim_store_tables.proofs.Facts.{text_of}
use Rattle.scim_store_rows.proofs.Facts.{tied}

-- ---- rows of two or three texts

nat_eq_is : (m n : ℕ) → nat_eq m n ≡ true → m ≡ n
nat_eq_is m n h = grind (arith, nat_tests)

pub a_pair : (row : Row) (a b : List ℕ) → length row ≡ 2 → has_text 0 a row ≡ true → has_text 1 b row ≡ true → row ≡ Text a ∷ Text b ∷ []
a_pair [] a b long one two = absurd cc
a_pair (x ∷ []) a b long one two = absurd cc
a_pair (x ∷ y ∷ []) a b long one two = (λ i. text_of a x one i ∷ text_of b y two i ∷ [])
a_pair (x ∷ y ∷ z ∷ row) a b long one two = absurd (omega (arith, long))

pub a_triple : (row : Row) (a b c : List ℕ) → length row ≡ 3 → has_text 0 a row ≡ true → has_text 1 b row ≡ true → has_text 2 c row ≡ true → row ≡ Text a ∷ Text b ∷ Text c ∷ []
a_triple [] a b c long one two three = absurd cc
a_triple (x ∷ []) a b c long one two three = absurd cc
a_triple (x ∷ y ∷ []) a b c long one two three = absurd cc
a_triple (x ∷ y ∷ z ∷ []) a b c long one two three = (λ i. text_of a x one i ∷ text_of b y two i ∷ text_of c z three i ∷ [])
a_triple (x ∷ y ∷ z ∷ w ∷ row) a b c long one two three = absurd (omega (arith, long))

and_parts : (a b : Bool) → (a && b) ≡ true → (a ≡ true) × (b ≡ true)
and_parts true true h = (refl, refl)
and_parts true false h = absurd cc
and_parts false b h = absurd cc

pub pair_is : (a b : List ℕ) (row : Row) → is_pair a b row ≡ true → row ≡ pair_of a b
pair_is a b row h = (let one = and_parts _ _ h in let two = and_parts _ _ one.1 in a_pair row a b (nat_eq_is _ _ one.0) two.0 two.1)

pub pair_has : (a b : List ℕ) (row : Row) → row ≡ pair_of a b → is_pair a b row ≡ true
pair_has a b row is = rw is (λ i. tied a i && tied b i)

pub triple_is : (a b c : List ℕ) (row : Row) → is_triple a b c row ≡ true → row ≡ triple_of a b c
triple_is a b c row h = (let one = and_parts _ _ h in let two = and_parts _ _ one.1 in let three = and_parts _ _ two.1 in a_triple row a b c (nat_eq_is _ _ one.0) two.0 three.0 three.1)

pub triple_has : (a b c : List ℕ) (row : Row) → row ≡ triple_of a b c → is_triple a b c row ≡ true
triple_has a b c row is = rw is (λ i. tied a i && (tied b i && tied c i))

-- ---- rows that are compared in turn

-- one more row is the next image
pub images_more : {X : Type 0} (f : X → Row) (rows : List Row) (xs : List X) (k : ℕ) (row : Row) (x : X) → take k rows ≡ map f (take k xs) → k < length rows → k < length xs → row ≡ get_or rows k row → x ≡ get_or xs k x → row ≡ f x → take (k + 1) rows ≡ map f (take (k + 1) xs)
images_more f rows xs k row x so low under is at here =
    take_more rows k row low ∙ (λ i. so i ++ (sym is ∙ here) i ∷ []) ∙ sym (map-append f (take k xs) (x ∷ [])) ∙ ap (map f) (ap (λ y. take k xs ++ y ∷ []) at ∙ sym (take_more xs k x under))

pub images_all : {X : Type 0} (f : X → Row) (rows : List Row) (xs : List X) (k : ℕ) → take k rows ≡ map f (take k xs) → length rows ≤ k → length xs ≤ k → rows ≡ map f xs
images_all f rows xs k so low under = sym (take_all k rows low) ∙ so ∙ ap (map f) (take_all k xs under)

-- images in turn: the row at a place is the image of what stands there
pub image_at : {X : Type 0} (f : X → Row) (rows : List Row) (xs : List X) (k : ℕ) (row : Row) (x : X) → rows ≡ map f xs → k < length xs → row ≡ get_or rows k row → x ≡ get_or xs k x → row ≡ f x
image_at f rows xs k row x is low at there = at ∙ ap (λ rs. get_or rs k row) is ∙ get_or-map f xs k x row low ∙ ap f (sym there)

pub image_lengths : {X : Type 0} (f : X → Row) (rows : List Row) (xs : List X) → rows ≡ map f xs → length rows ≡ length xs
image_lengths f rows xs is = ap length is ∙ length-map xs f

-- ---- the row of a resource

int_one : (n m : ℤ) → int_eq n m ≡ true → n ≡ m
int_one n m h = (Decides-int_eq n m).0 h

int_itself : (n : ℤ) → int_eq n n ≡ true
int_itself n = (Decides-int_eq n n).1 refl

pub row_is : (id : List ℕ) (kind : ℕ) (document : List ℕ) (row : Row) → is_row id kind document row ≡ true → row ≡ resource_values id kind document
row_is id kind document row h = (let one = and_parts _ _ h in let two = and_parts _ _ one.1 in let three = and_parts _ _ two.1 in go row (nat_eq_is _ _ one.0) two.0 three.0 three.1)
  where
    number_is : (v : Value) → is_number kind v ≡ true → v ≡ Int (pos kind)
    number_is (Int n) t = ap (λ x. Int x) (int_one n (pos kind) t)
    number_is Null t = absurd cc
    number_is (Real x) t = absurd cc
    number_is (Text x) t = absurd cc
    number_is (Blob x) t = absurd cc

    go : (row : Row) → length row ≡ 3 → has_text 0 id row ≡ true → is_number kind (column row 1) ≡ true → has_text 2 document row ≡ true → row ≡ resource_values id kind document
    go [] long a b c = absurd cc
    go (x ∷ []) long a b c = absurd cc
    go (x ∷ y ∷ []) long a b c = absurd cc
    go (x ∷ y ∷ z ∷ []) long a b c = (λ i. text_of id x a i ∷ number_is y b i ∷ text_of document z c i ∷ [])
    go (x ∷ y ∷ z ∷ w ∷ more) long a b c = absurd (omega (arith, long))

pub row_has : (id : List ℕ) (kind : ℕ) (document : List ℕ) (row : Row) → row ≡ resource_values id kind document → is_row id kind document row ≡ true
row_has id kind document row is = rw is (λ i. tied id i && (int_itself (pos kind) i && tied document i))

pub same_text : (a b : List ℕ) (row : Row) (id : List ℕ) (kind : ℕ) → row ≡ resource_values id kind a → Text b ≡ column row 2 → a ≡ b
same_text a b row id kind is at = (let c : Text b ≡ Text a = at ∙ ap (λ r. column r 2) is in text_one (sym c))
  where
    text_one : {x y : List ℕ} → Text x ≡ Text y → x ≡ y
    text_one h = cc

-- the row of a resource with a door code is that of the one whose kept parts its document and the code are
pub the_one : (version : Version) (base text : List ℕ) (row : Row) (code : Option (List ℕ)) (r other : Content) → IsRowOf version base row code other → Text text ≡ column row 2 → IsKept base text code r → other ≡ r
the_one version base text row code r other of at reads =
    kept_parts_determine base text code other r (subst (λ (t : List ℕ). IsKept base t code other) (same_text of.document text row (id_text other.id) (kind_number other.kind) of.row_is at) of.kept) reads

pub no_other : (version : Version) (base text : List ℕ) (row : Row) (code : Option (List ℕ)) (r other : Content) → IsRowOf version base row code other → Text text ≡ column row 2 → IsKept base text code r → is_row (id_text r.id) (kind_number r.kind) text row ≡ true
no_other version base text row code r other of at reads =
    (let same = same_text of.document text row (id_text other.id) (kind_number other.kind) of.row_is at in
    let one : other ≡ r = the_one version base text row code r other of at reads in
    row_has (id_text r.id) (kind_number r.kind) text row (of.row_is ∙ (λ i. resource_values (id_text (one i).id) (kind_number (one i).kind) (same i))))

-- a row without a document in UTF-8 is of no resource
pub no_document : (version : Version) (base : List ℕ) (row : Row) (code : Option (List ℕ)) → ReadsBack IsUtf8 Text (column row 2) None → (c : Content) → IsRowOf version base row code c → ⊥
no_document version base row code none c of = none of.document of.utf8 (sym (ap (λ r. column r 2) of.row_is))

-- ---- values in order

pub texts_rise : (ts : List (Bor (List ℕ))) → IsStrictlySortedBy (λ (s t : Bor (List ℕ)). slice_cmp nat_cmp s.now t.now) ts → IsStrictlySortedBy (slice_cmp nat_cmp) (texts_of ts)
unfolding IsStrictlySortedBy
texts_rise [] up = tt
texts_rise (t ∷ ts) up = (above ts up.0, texts_rise ts up.1)
  where
    above : (us : List (Bor (List ℕ))) → AllByRecursion (λ (u : Bor (List ℕ)). slice_cmp nat_cmp t.now u.now ≡ Less) us → AllByRecursion (λ v. slice_cmp nat_cmp t.now v ≡ Less) (texts_of us)
    above [] h = tt
    above (u ∷ us) h = (h.0, above us h.1)

not_above : (v : List ℕ) (ys : List (List ℕ)) → AllByRecursion (λ y. slice_cmp nat_cmp v y ≡ Less) ys → is_among v ys ≡ false
not_above v [] up = refl
not_above v (y ∷ ys) up = (let out : bytes_eq v y ≡ false = sym (is_eq-slice_cmp v y) ∙ ap is_eq up.0 in let rest = not_above v ys up.1 in (λ i. out i || rest i))

above_too : (v w : List ℕ) (ys : List (List ℕ)) → slice_cmp nat_cmp v w ≡ Less → AllByRecursion (λ y. slice_cmp nat_cmp w y ≡ Less) ys → AllByRecursion (λ y. slice_cmp nat_cmp v y ≡ Less) ys
above_too v w [] low up = tt
above_too v w (y ∷ ys) low up = (nat_list_cmp_total.trans v w y low up.0, above_too v w ys low up.1)

in_front : (v : List ℕ) (vs : List (List ℕ)) → is_among v (v ∷ vs) ≡ true
in_front v vs = ap (λ b. b || is_among v vs) ((bytes_eq-Decides v v).1 refl)

-- values in order that are the same are the same list
pub same_rising : (xs ys : List (List ℕ)) → IsStrictlySortedBy (slice_cmp nat_cmp) xs → IsStrictlySortedBy (slice_cmp nat_cmp) ys → ((v : List ℕ) → is_among v xs ≡ is_among v ys) → xs ≡ ys
same_rising [] [] up vp same = refl
same_rising [] (y ∷ ys) up vp same = (let c : false ≡ true = same y ∙ in_front y ys in absurd cc)
same_rising (x ∷ xs) [] up vp same = (let c : true ≡ false = sym (in_front x xs) ∙ same x in absurd cc)
same_rising (x ∷ xs) (y ∷ ys) up vp same = go (slice_cmp nat_cmp x y) refl (same_rising xs ys (sorted_tail (slice_cmp nat_cmp) x xs up) (sorted_tail (slice_cmp nat_cmp) y ys vp))
  where
    over_x : AllByRecursion (λ z. slice_cmp nat_cmp x z ≡ Less) xs
    over_x = sorted_head (slice_cmp nat_cmp) x xs up

    over_y : AllByRecursion (λ z. slice_cmp nat_cmp y z ≡ Less) ys
    over_y = sorted_head (slice_cmp nat_cmp) y ys vp

    tails : x ≡ y → (v : List ℕ) → is_among v xs ≡ is_among v ys
    tails one v = by_bool (bytes_eq v x)
        (λ t. (let is : v ≡ x = (bytes_eq-Decides v x).0 t in
        ap (λ w. is_among w xs) is ∙ not_above x xs over_x ∙ sym (not_above y ys over_y) ∙ ap (λ w. is_among w ys) (sym (is ∙ one))))
        (λ f. (let g : bytes_eq v y ≡ false = ap (bytes_eq v) (sym one) ∙ f in
        (λ i. sym f i || is_among v xs) ∙ same v ∙ (λ i. g i || is_among v ys)))

    go : (o : Ordering) → slice_cmp nat_cmp x y ≡ o → (((v : List ℕ) → is_among v xs ≡ is_among v ys) → xs ≡ ys) → x ∷ xs ≡ y ∷ ys
    go Less e rest = (let c : true ≡ false = sym (in_front x xs) ∙ same x ∙ not_above x (y ∷ ys) (e, above_too x y ys e over_y) in absurd cc)
    go Equal e rest = (let one = exact_bytes x y e in let more = rest (tails one) in (λ i. one i ∷ more i))
    go Greater e rest =
        (let back : slice_cmp nat_cmp y x ≡ Less = nat_list_cmp_total.antisymm y x ∙ ap ordering_reverse e in
        let c : true ≡ false = sym (in_front y ys) ∙ sym (same y) ∙ not_above y (x ∷ xs) (back, above_too y x xs back over_x) in absurd cc)

-- ---- the rows of one resource

pub alone : (rows : List Row) (row : Row) → 1 ≤ length rows → length rows < 2 → row ≡ get_or rows 0 row → rows ≡ row ∷ []
alone [] row low high is = absurd (omega (arith, low))
alone (r ∷ []) row low high is = ap (λ x. x ∷ []) (sym is)
alone (r ∷ s ∷ rows) row low high is = absurd (omega (arith, high))

-- what isn't false is true
pub true_or : (b : Bool) → (b ≡ false → ⊥) → b ≡ true
true_or true never = refl
true_or false never = absurd (never refl)

-- ---- door codes

-- one row that is a pair, and no other
pub one_pair : (rows : List Row) (id text : List ℕ) (row : Row) → length rows ≡ 1 → row ≡ get_or rows 0 row → is_pair id text row ≡ true → rows ≡ secret_values id text ∷ []
one_pair [] id text row long at is = absurd cc
one_pair (r ∷ []) id text row long at is = ap (λ x. x ∷ []) (sym at ∙ pair_is id text row is)
one_pair (r ∷ s ∷ rows) id text row long at is = absurd (omega (arith, long))

pub pair_there : (rows : List Row) (id text : List ℕ) (row : Row) → row ≡ get_or rows 0 row → rows ≡ secret_values id text ∷ [] → is_pair id text row ≡ true
pair_there rows id text row at is = pair_has id text row (at ∙ ap (λ rs. get_or rs 0 row) is)

-- rows have one door code at most
pub one_code : (rows : List Row) (a b : Option (List ℕ)) → HasCode rows a → HasCode rows b → a ≡ b
one_code [] a b one two = one ∙ sym two
one_code (row ∷ []) a b one two = (let same : one.0 ≡ two.0 = text_one (sym one.2 ∙ two.2) in one.1 ∙ ap (λ (t : List ℕ). Some t) same ∙ sym two.1)
  where
    text_one : {x y : List ℕ} → Text x ≡ Text y → x ≡ y
    text_one h = cc
one_code (row ∷ other ∷ rows) a b one two = absurd one

-- ---- all rows of one resource

module _ (version : Version) (base : List ℕ) (row : Row) (resources names members secrets : List Row) (is : resources ≡ row ∷ []) where
  -- what is compared of one row
  one_of : AreOfOne version base resources names members secrets → AreOfOne version base (row ∷ []) names members secrets
  one_of all = subst (λ rs. AreOfOne version base rs names members secrets) is all

  pub one_yes : (c : Content) (code : Option (List ℕ)) → HasCode secrets code → IsRowOf version base row code c → HasRows c names members secrets → AreOfOne version base resources names members secrets
  one_yes c code coded of has = subst (λ rs. AreOfOne version base rs names members secrets) (sym is) (c, code, coded, of, has)

  -- the rows have a door code, or none
  pub one_coded : AreOfOne version base resources names members secrets → (code : Option (List ℕ)) × HasCode secrets code
  one_coded all = (let it = one_of all in (it.1, it.2))

  -- the resource whose row it is has the rows
  pub one_no : (c : Content) (code : Option (List ℕ)) → HasCode secrets code → IsRowOf version base row code c → AreOfOne version base resources names members secrets → HasRows c names members secrets
  one_no c code coded of all =
      (let it = one_of all in
      let there : IsRowOf version base row code it.0 = subst (λ (o : Option (List ℕ)). IsRowOf version base row o it.0) (one_code secrets it.1 code it.2 coded) it.3 in
      let text : Text of.document ≡ column row 2 = sym (ap (λ r. column r 2) of.row_is) in
      subst (λ d. HasRows d names members secrets) (the_one version base of.document row code c it.0 there text of.kept) it.4)

  pub one_none : (code : Option (List ℕ)) → HasCode secrets code → ((c : Content) → IsRowOf version base row code c → ⊥) → AreOfOne version base resources names members secrets → ⊥
  one_none code coded none all =
      (let it = one_of all in
      none it.0 (subst (λ (o : Option (List ℕ)). IsRowOf version base row o it.0) (one_code secrets it.1 code it.2 coded) it.3))
