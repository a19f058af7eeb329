-- The owner of a unique name, found by the name's row.
use Rattle.std.proofs.Common.{◌≡◌, ℕ, refl, sym, ◌∙◌, ap, subst, Bool, true, false, ◌&&◌, ◌||◌, cond, List, [], ◌∷◌, ◌++◌, map, filter}
use Rattle.std.specs.Prelude.{All, find, Option, None, Some, IfSome, IfOk, Result, Ok, Err, IsPermutation, IsTrue}
use Rattle.std.specs.Option.{option_map}
use Rattle.std.specs.List.{flat_map, list_any}
use Rattle.std.specs.Str.{bytes_eq}
use Rattle.std.proofs.lemmas.List.{nil_from_length}
use Rattle.std.proofs.lemmas.List.Elements.{All-nil, All-cons, All-head, All-tail, All-append, All-map, All-weaker, filter-append}
use Rattle.std.proofs.lemmas.List.Sorted.{All-permutation, length_permutation, IsPermutation-sym}
use Rattle.std.proofs.lemmas.Map.Text.{is_eq-slice_cmp}
use Rattle.sqlite.specs.declared.types.Value.TheVariants.{Text}
use Rattle.sqlite.specs.Order.{Row, column}
use Rattle.sqlite.specs.State.{State}
use Rattle.sqlite.proofs.Callers.{unchanged_then}
use Rattle.scim_schema.specs.declared.Kind.{Kind}
use Rattle.scim_schema.specs.declared.Kind.TheVariants.{User, Group}
use Rattle.scim_schema.specs.Names.{attribute_name}
use Rattle.scim_schema.specs.Units.{simple, is_same_leaf}
use Rattle.scim_schema.specs.UniqueLeaves.{unique_leaves}
use Rattle.scim_cell.specs.Content.{Content}
use Rattle.scim_cell.specs.Ids.{IsId, id_text}
use Rattle.scim_cell.proofs.Facts.{id_text-injective}
use Rattle.scim_value.specs.Uniqueness.{Name, unique_names}
use Rattle.scim_shelf.specs.Stores.{Store, AreKeyed, is_same_name, has_name}
use Rattle.scim_shelf.specs.Indexed.{has_id, has_in, only_of}
use Rattle.scim_shelf.proofs.Facts.{by_bool, is_same_name-Decides, found_unnamed, found_by_id, found_at}
use Rattle.scim_shelf.proofs.Facts.{keyed_apart, keyed_tail}
use Rattle.scim_store_tables.specs.Lists.{Lists, has_texts, no_rows}
use Rattle.scim_store_tables.specs.Reading.{Holds, Finds, IsTextOfFirst}
use Rattle.scim_store_rows.specs.Stands.{Entry, IsEntry, name_row, name_rows, lists_of}
use Rattle.scim_store_rows.specs.Finding.{StandsIn, FindsById, FindsOwner}
use Rattle.scim_store_rows.specs.code.Finding.{FindsOwnerId}
use Rattle.scim_store_rows.proofs.NameLemmas.{is_unique_leaf, IsNameLeaf, name_leaves_of, simple_names, simple_leaf, leaf_texts}
use Rattle.scim_store_rows.proofs.FindLemmas.{shut_holds, stands_still}

-- whether a row is that of the name, whoever has it
abbrev is_of_name : Name → Row → Bool
is_of_name n = has_texts (attribute_name n.leaf.attribute) n.text

abbrev pub contents : List Entry → List Content
contents es = map (λ (e : Entry). e.content) es

-- the row of a name passes just where it is the name
one_row : (n : Name) (id : List ℕ) (m : Name) → n.leaf ≡ simple n.leaf.attribute → m.leaf ≡ simple m.leaf.attribute → is_of_name n (name_row id m) ≡ is_same_name n m
one_row n id m one two = (λ i. leaf_texts m.leaf n.leaf two one i && is_eq-slice_cmp m.text n.text i) ∙ turned (is_same_leaf m.leaf n.leaf && bytes_eq m.text n.text) refl
  where
    turned : (b : Bool) → (is_same_leaf m.leaf n.leaf && bytes_eq m.text n.text) ≡ b → b ≡ is_same_name n m
    turned true t = (let same : m ≡ n = (is_same_name-Decides m n).0 t in sym ((is_same_name-Decides n m).1 (sym same)))
    turned false f =
        by_bool (is_same_name n m)
        (λ t. (let same : n ≡ m = (is_same_name-Decides n m).0 t in let c : false ≡ true = sym f ∙ (is_same_name-Decides m n).1 (sym same) in absurd cc))
        (λ g. sym g)

each_row : (n : Name) (id : List ℕ) (ms : List Name) → n.leaf ≡ simple n.leaf.attribute → All (λ (m : Name). m.leaf ≡ simple m.leaf.attribute) ms → list_any (is_of_name n) (map (name_row id) ms) ≡ list_any (is_same_name n) ms
each_row n id [] is are = refl
each_row n id (m ∷ ms) is are =
    let here : is_of_name n (name_row id m) ≡ is_same_name n m = one_row n id m is (All-head (λ (x : Name). x.leaf ≡ simple x.leaf.attribute) m ms are) in
    let rest = each_row n id ms is (All-tail (λ (x : Name). x.leaf ≡ simple x.leaf.attribute) m ms are) in
    (λ i. here i || rest i)

pub none_left : {X : Type 0} (p : X → Bool) (xs : List X) → list_any p xs ≡ false → filter p xs ≡ []
none_left p [] none = refl
none_left p (x ∷ xs) none = go (p x) none (none_left p xs)
  where
    go : (b : Bool) → (b || list_any p xs) ≡ false → (list_any p xs ≡ false → filter p xs ≡ []) → cond b (x ∷ filter p xs) (filter p xs) ≡ []
    go true h rest = (let c : true ≡ false = h in cc)
    go false h rest = rest h

some_left : {X : Type 0} (p : X → Bool) (xs : List X) → filter p xs ≡ [] → list_any p xs ≡ false
some_left p [] none = refl
some_left p (x ∷ xs) none = go (p x) none (some_left p xs)
  where
    go : (b : Bool) → cond b (x ∷ filter p xs) (filter p xs) ≡ [] → (filter p xs ≡ [] → list_any p xs ≡ false) → (b || list_any p xs) ≡ false
    go true h rest = absurd cc
    go false h rest = rest h

-- a row shows the id of the resource that is found by the name
abbrev ShowsFound : Name → List Content → Row → Type 0
ShowsFound n cs row = (c : Content) × (find (has_name n) cs ≡ Some c) × (column row 2 ≡ Text (id_text c.id))

pub found_passes : (p : Content → Bool) (cs : List Content) (c : Content) → find p cs ≡ Some c → p c ≡ true
found_passes p [] c is = absurd cc
found_passes p (d ∷ ds) c is = go (p d) refl is (found_passes p ds c)
  where
    go : (b : Bool) → p d ≡ b → cond b (Some d) (find p ds) ≡ Some c → (find p ds ≡ Some c → p c ≡ true) → p c ≡ true
    go true e h rest = (let same : d ≡ c = cc in ap p (sym same) ∙ e)
    go false e h rest = rest h

own_rows : (n : Name) (e : Entry) (ns : List Name) → All (λ row. column row 2 ≡ Text (id_text e.content.id)) (filter (is_of_name n) (map (name_row e.content.id) ns))
own_rows n e [] = All-nil _
own_rows n e (m ∷ ms) = go (is_of_name n (name_row e.content.id m)) (own_rows n e ms)
  where
    P : Row → Type 0
    P row = column row 2 ≡ Text (id_text e.content.id)

    go : (b : Bool) → All P (filter (is_of_name n) (map (name_row e.content.id) ms)) → All P (cond b (name_row e.content.id m ∷ filter (is_of_name n) (map (name_row e.content.id) ms)) (filter (is_of_name n) (map (name_row e.content.id) ms)))
    go true rest = All-cons P (name_row e.content.id m) _ refl rest
    go false rest = rest

rows_show : (n : Name) (es : List Entry) → n.leaf ≡ simple n.leaf.attribute → AreKeyed (contents es) → All (ShowsFound n (contents es)) (filter (is_of_name n) (flat_map name_rows es))
rows_show n [] is keyed = All-nil _
rows_show n (e ∷ es) is keyed =
    (let rest = rows_show n es is (keyed_tail e.content _ keyed) in
    subst (All (ShowsFound n (contents (e ∷ es)))) (sym (filter-append (is_of_name n) (name_rows e) (flat_map name_rows es)))
    (by_bool (has_name n e.content)
    (λ t.
    All-append (ShowsFound n (contents (e ∷ es))) (filter (is_of_name n) (name_rows e)) (filter (is_of_name n) (flat_map name_rows es))
    (All-weaker (λ row. column row 2 ≡ Text (id_text e.content.id)) (ShowsFound n (contents (e ∷ es))) (λ row h. (e.content, rw t refl, h)) _ (own_rows n e (unique_names e.content)))
    (All-weaker (ShowsFound n (contents es)) (ShowsFound n (contents (e ∷ es))) (λ row s. absurd (both t s.0 s.1)) _ rest))
    (λ f.
    (let none : filter (is_of_name n) (name_rows e) ≡ [] = none_left (is_of_name n) (name_rows e) (each_row n e.content.id (unique_names e.content) is (simple_names e.content) ∙ f) in
    rw none (All-weaker (ShowsFound n (contents es)) (ShowsFound n (contents (e ∷ es))) (λ row s. (s.0, rw f s.1, s.2)) _ rest)))))
  where
    both : has_name n e.content ≡ true → (c : Content) → find (has_name n) (contents es) ≡ Some c → ⊥
    both t c at =
        let no : has_in n (find (has_name n) (contents es)) ≡ false = found_unnamed n e.content (has_name n) (contents es) t (keyed_apart e.content _ keyed) in
        let at_c : has_name n c ≡ false = subst (λ (o : Option Content). has_in n o ≡ false) at no in
        let c : true ≡ false = sym (found_passes (has_name n) (contents es) c at) ∙ at_c in cc

none_has : (n : Name) (es : List Entry) → n.leaf ≡ simple n.leaf.attribute → filter (is_of_name n) (flat_map name_rows es) ≡ [] → find (has_name n) (contents es) ≡ None
none_has n [] is none = refl
none_has n (e ∷ es) is none =
    let parts : filter (is_of_name n) (name_rows e) ++ filter (is_of_name n) (flat_map name_rows es) ≡ [] = sym (filter-append (is_of_name n) (name_rows e) (flat_map name_rows es)) ∙ none in
    let here : has_name n e.content ≡ false = sym (each_row n e.content.id (unique_names e.content) is (simple_names e.content)) ∙ some_left (is_of_name n) (name_rows e) (left _ _ parts) in
    rw here (none_has n es is (right _ _ parts))
  where
    left : (xs ys : List Row) → xs ++ ys ≡ [] → xs ≡ []
    left [] ys h = refl
    left (x ∷ xs) ys h = absurd cc

    right : (xs ys : List Row) → xs ++ ys ≡ [] → ys ≡ []
    right [] ys h = h
    right (x ∷ xs) ys h = absurd cc

-- no resource has a name that stands at a leaf that isn't unique
no_owner : (n : Name) (cs : List Content) → is_unique_leaf n.leaf ≡ false → find (has_name n) cs ≡ None
no_owner n [] out = refl
no_owner n (c ∷ cs) out = rw (none (unique_names c) (name_leaves_of c)) (no_owner n cs out)
  where
    none : (ms : List Name) → All (λ (m : Name). IsNameLeaf m.leaf) ms → list_any (is_same_name n) ms ≡ false
    none [] are = refl
    none (m ∷ ms) are =
        by_bool (is_same_name n m)
        (λ t.
        (let leaf : n.leaf ≡ m.leaf = ap (λ (x : Name). x.leaf) ((is_same_name-Decides n m).0 t) in
        let c : true ≡ false = sym (All-head (λ (x : Name). IsNameLeaf x.leaf) m ms are).1 ∙ ap is_unique_leaf (sym leaf) ∙ out in absurd cc))
        (λ f. rw f (none ms (All-tail (λ (x : Name). IsNameLeaf x.leaf) m ms are)))

pub found_all : (P : Content → Type 0) (p : Content → Bool) (cs : List Content) (c : Content) → All P cs → find p cs ≡ Some c → P c
found_all P p [] c all is = absurd cc
found_all P p (d ∷ ds) c all is = go (p d) is (found_all P p ds c (All-tail P d ds all))
  where
    go : (b : Bool) → cond b (Some d) (find p ds) ≡ Some c → (find p ds ≡ Some c → P c) → P c
    go true h rest = (let same : d ≡ c = cc in subst P same (All-head P d ds all))
    go false h rest = rest h

pub sound_ids : (base : List ℕ) (es : List Entry) → All (IsEntry base) es → All (λ (c : Content). IsId c.id) (contents es)
sound_ids base es sound = All-map (λ (c : Content). IsId c.id) (λ (e : Entry). e.content) es (All-weaker (IsEntry base) (λ e. IsId e.content.id) (λ e s. s.document.below.0.identified.0) es sound)

-- the text that is found for a name at a unique leaf is that of its owner's id
owner_id : (base : List ℕ) (es : List Entry) (n : Name) (ordered : List Row) (text : Option (List ℕ)) (id : Option (List ℕ)) → AreKeyed (contents es) → All (IsEntry base) es → n.leaf ≡ simple n.leaf.attribute
    → IsPermutation (filter (is_of_name n) (flat_map name_rows es)) ordered → IsTextOfFirst 2 ordered text → IfSome id IsId → option_map id_text id ≡ text → id ≡ option_map (λ c. c.id) (find (has_name n) (contents es))
owner_id base es n [] text id keyed sound is same first is_id read =
    let none : find (has_name n) (contents es) ≡ None = none_has n es is (nil_from_length _ (length_permutation [] _ (IsPermutation-sym _ _ same))) in
    rw none (no_id id (read ∙ first))
  where
    no_id : (i : Option (List ℕ)) → option_map id_text i ≡ None → i ≡ None
    no_id None h = refl
    no_id (Some x) h = absurd cc
owner_id base es n (row ∷ more) text id keyed sound is same first is_id read =
    let shows = All-head (ShowsFound n (contents es)) row more (All-permutation (ShowsFound n (contents es)) _ (row ∷ more) same (rows_show n es is keyed)) in
    let here : first.0 ≡ id_text shows.0.id = text_one (sym first.2 ∙ shows.2) in
    rw shows.1 (the_id id is_id (read ∙ first.1) shows.0 (found_all (λ (c : Content). IsId c.id) (has_name n) (contents es) shows.0 (sound_ids base es sound) shows.1) here)
  where
    text_one : {a b : List ℕ} → Text a ≡ Text b → a ≡ b
    text_one h = cc

    the_id : (i : Option (List ℕ)) → IfSome i IsId → option_map id_text i ≡ Some first.0 → (c : Content) → IsId c.id → first.0 ≡ id_text c.id → i ≡ Some c.id
    the_id None h e c one here = absurd cc
    the_id (Some x) h e c one here = ap (λ y. Some y) (id_text-injective x c.id h one ((let t : id_text x ≡ first.0 = cc in t) ∙ here))

pub finds_owner_id : (base : List ℕ) (n : Name) (old new : State) (text id : Option (List ℕ)) → ((lists : Lists) → Holds old lists → Finds 2 (filter (has_texts (attribute_name n.leaf.attribute) n.text) lists.taken) old new text) → IfSome id IsId
    → (is_unique_leaf n.leaf ≡ true → option_map id_text id ≡ text) → (is_unique_leaf n.leaf ≡ false → id ≡ None)
    → (store : Store) → StandsIn base old store → FindsOwnerId n store old new id
finds_owner_id base n old new text id finds is_id unique other store stands =
    by_bool old.is_open
    (λ t.
    (let s = stands t in
    let it = finds (lists_of s.entries store.audit) (λ _. s.tables) in
    record {
      is =
          by_bool (is_unique_leaf n.leaf)
          (λ yes'. owner_id base s.entries n it.ordered text id (subst AreKeyed (sym s.resources) s.keyed) s.sound (simple_leaf n.leaf yes') it.same it.first is_id (unique yes') ∙ ap (λ cs. option_map (λ (c : Content). c.id) (find (has_name n) cs)) s.resources)
          (λ no'. other no' ∙ sym (ap (option_map (λ (c : Content). c.id)) (no_owner n store.resources no')));
      unchanged = it.unchanged;
    }))
    (λ f. (let c : true ≡ false = sym (finds no_rows (shut_holds old no_rows f)).unchanged.0.was_open ∙ f in cc))

-- a group has no unique name
no_names : (n : Name) (c : Content) → c.kind ≡ Group → has_name n c ≡ false
unfolding unique_leaves
no_names n c e = rw e refl

only_user : (n : Name) (c : Content) → has_name n c ≡ true → only_of User (Some c) ≡ Some c
only_user n c has = of_user c.kind refl
  where
    of_user : (k : Kind) → c.kind ≡ k → only_of User (Some c) ≡ Some c
    of_user User e = rw e refl
    of_user Group e = absurd (let h : false ≡ true = sym (no_names n c e) ∙ has in cc)

-- what is found by the id of the owner is the owner
pub finds_owner : (base : List ℕ) (n : Name) (id : List ℕ) (old mid new : State) (found : Option Content) → (store : Store) → StandsIn base old store → FindsOwnerId n store old mid (Some id)
    → ((store : Store) → StandsIn base mid store → FindsById User id store mid new found) → FindsOwner n store old new found
finds_owner base n id old mid new found store stands owner finds =
    let opened : IsTrue old.is_open = owner.unchanged.0.was_open in
    let keyed = (stands opened).keyed in
    let it = finds store (stands_still base old mid store owner.unchanged stands) in
    let same : find (has_id id) store.resources ≡ find (has_name n) store.resources = found_by_id (has_name n) id store.resources keyed (sym owner.is) in
    record {
      is = it.is ∙ sym (found_at User id store.resources keyed) ∙ ap (only_of User) same ∙ user (find (has_name n) store.resources) refl owner.is;
      unchanged = unchanged_then old mid new owner.unchanged it.unchanged;
    }
  where
    user : (o : Option Content) → find (has_name n) store.resources ≡ o → Some id ≡ option_map (λ (c : Content). c.id) o → only_of User o ≡ o
    user None e h = absurd cc
    user (Some c) e h = only_user n c (found_passes (has_name n) store.resources c e)

pub three_then : {T E X Y : Type 0} (r : Result T E) (P Q R U : T → Type 0) → ((x : T) → P x → (X → Q x) → (Y → R x) → U x) → IfOk r P → (X → IfOk r Q) → (Y → IfOk r R) → IfOk r U
three_then (Ok x) P Q R U f p q r = f x p q r
three_then (Err e) P Q R U f p q r = tt
