-- What is taken, as resources are added.
use Rattle.std.proofs.Common.{◌≡◌, ◌<◌, Bool, true, false, cond, List, [], ◌∷◌, ◌++◌, ℕ, zero, suc, map, length, inl, inr, refl, sym, ap, subst, ◌∙◌, arith}
use Rattle.std.specs.Prelude.{◌↔◌, ◌⊎◌, ◌||◌, string_bytes, slice_index_or, Contains, Any, All, IsTrue, Decides}
use Rattle.std.specs.List.{list_any}
use Rattle.std.specs.BTreeSet.{contains}
use Rattle.std.proofs.lemmas.Bool.{or_cases, or_left, or_right, both_ways, iff_false}
use Rattle.std.proofs.lemmas.Bool.Decides.{Decides-and, Decides-like}
use Rattle.std.proofs.lemmas.List.{length-map, get_or-map, get_or_default}
use Rattle.std.proofs.lemmas.List.Elements.{All-contains, Contains-append_left, Contains-push_cases}
use Rattle.std.proofs.lemmas.List.Folds.{Any-from_list_any, list_any_at}
use Rattle.std.proofs.lemmas.List.Quantifiers.{Any-push}
use Rattle.std.proofs.lemmas.Slice.Eq.{bytes_eq-Decides}
use Rattle.std.proofs.lemmas.Map.Text.{is_eq-slice_cmp}
use Rattle.scim_schema.proofs.Facts.{is_same_leaf-Decides}
use Rattle.scim_value.specs.declared.uniqueness.UniqueName.{UniqueName}
use Rattle.scim_cell.specs.Content.{Content}
use Rattle.scim_value.specs.Uniqueness.{Name, unique_names, AreApart, name_of}
use Rattle.scim_json.specs.declared.users_files.Taken.{Taken}
use Rattle.scim_value.specs.contracts.uniqueness.UniqueNamePartialEq.TheImpl as name_eq
use Rattle.scim_value.specs.contracts.uniqueness.UniqueNameOrd.TheImpl.Laws.{matches_eq-law}
use Rattle.scim_json.specs.code.Taken.{id_cmp, name_cmp, is_same_id, is_same_unique_name, Records}

-- two ids compare equal where they are one
pub is_same_id-Decides : (a b : List ℕ) → Decides (is_same_id a b) (a ≡ b)
is_same_id-Decides a b = rw (is_eq-slice_cmp a b) (bytes_eq-Decides a b)

-- two names compare equal where they are one
pub is_same_unique_name-Decides : (m n : UniqueName) → Decides (is_same_unique_name m n) (name_of m ≡ name_of n)
is_same_unique_name-Decides m n =
    subst (λ (b : Bool). Decides b (name_of m ≡ name_of n)) (matches_eq-law m n)
    (Decides-like ((name_eq.ghosts).eq m n) (λ w i. record { leaf = w.0 i; text = w.1 i }) (λ e. (ap (λ (a : Name). a.leaf) e, ap (λ (a : Name). a.text) e))
    (Decides-and _ _ (is_same_leaf-Decides m.leaf n.leaf) (bytes_eq-Decides (string_bytes m.text) (string_bytes n.text))))

-- some name compares equal where it is among the names
pub same_names-Decides : (q : UniqueName) (ns : List UniqueName) → Decides (list_any (is_same_unique_name q) ns) (Contains (map name_of ns) (name_of q))
same_names-Decides q ns = (
  λ e.
      let w = Any-from_list_any (is_same_unique_name q) ns e in
      let one : name_of q ≡ name_of w.1 = (is_same_unique_name-Decides q w.1).0 w.4 in
      let short : w.0 < length (map name_of ns) = rw (length-map ns name_of) w.2 in
      subst (λ (m : Name). Contains (map name_of ns) m) (sym one) (w.0, short, get_or-map name_of ns w.0 w.1 (name_of w.1) w.2 ∙ ap name_of w.3),
  λ w.
      let short : w.0 < length ns = rw (length-map ns name_of) at w.1 in
      list_any_at (is_same_unique_name q) ns w.0 q short ((is_same_unique_name-Decides q (slice_index_or ns w.0 q)).1 (sym (sym (get_or-map name_of ns w.0 q (name_of q) short) ∙ w.2))),
)

-- what holds of some element of a longer list
Any-push_cases : {X : Type 0} (P : X → Type 0) (xs : List X) (y : X) → Any P (xs ++ y ∷ []) → Any P xs ⊎ P y
Any-push_cases P xs y w = elim (Contains-push_cases xs y w.1 (w.0, w.2, w.3)) [ inl h ↦ inl (h.0, w.1, h.1, h.2, w.4) | inr e ↦ inr (subst P (sym e) w.4) ]

Any-push_left : {X : Type 0} (P : X → Type 0) (xs : List X) (y : X) → Any P xs → Any P (xs ++ y ∷ [])
Any-push_left P xs y w = let h = Contains-append_left xs (y ∷ []) w.1 (w.0, w.2, w.3) in (h.0, w.1, h.1, h.2, w.4)

-- a test for some element, with one element more
more : {X : Type 0} (P : X → Type 0) (xs : List X) (y : X) (old own now : Bool) → IsTrue old ↔ Any P xs → Decides own (P y) → now ≡ (old || own) → IsTrue now ↔ Any P (xs ++ y ∷ [])
more P xs y old own now before one e = (
  λ t. elim (or_cases old own (sym e ∙ t)) [ inl h ↦ Any-push_left P xs y (before.0 h) | inr h ↦ Any-push P xs y (one.0 h) ],
  λ w. e ∙ (elim (Any-push_cases P xs y w) as (λ _. (old || own) ≡ true) [ inl h ↦ or_left old own (before.1 h) | inr h ↦ or_right old own (one.1 h) ]),
)

-- what is among the values of a function is its value at some element
Any-from_map : {X Y : Type 0} (f : X → Y) (xs : List X) (y : Y) → Contains (map f xs) y → Any (λ x. f x ≡ y) xs
Any-from_map f [] y w = absurd (omega (arith, w.1))
Any-from_map f (x ∷ xs) y (zero, short, e) = (0, x, omega arith, refl, e)
Any-from_map f (x ∷ xs) y (suc k, short, e) = let h = Any-from_map f xs y (k, omega arith, e) in (suc h.0, h.1, omega (arith, h.2), h.3, h.4)

-- the value at an element is among the values
Contains-map : {X Y : Type 0} (f : X → Y) (xs : List X) (x : X) → Contains xs x → Contains (map f xs) (f x)
Contains-map f xs x w = (w.0, rw (length-map xs f) w.1, get_or-map f xs w.0 x (f x) w.1 ∙ ap f w.2)

-- an id that is taken now
one_more : (old own : Bool) → cond own true old ≡ (old || own)
one_more true true = refl
one_more true false = refl
one_more false true = refl
one_more false false = refl

module _ (taken : Taken) (cs : List Content) (kept : Records taken cs) (c : Content) (ns : List UniqueName) (named : map name_of ns ≡ unique_names c) where
  -- a name that is taken is one of theirs
  pub clash : list_any (contains name_cmp taken.names) ns ≡ true → All (λ b. AreApart b c) cs → ⊥
  clash e apart =
      let w = Any-from_list_any (contains name_cmp taken.names) ns e in
      let b = (kept.names w.1).0 w.4 in
      let own : Contains (unique_names c) (name_of w.1) = subst (λ (l : List Name). Contains l (name_of w.1)) named (Contains-map name_of ns w.1 (w.0, w.2, w.3)) in
      (All-contains (λ b. AreApart b c) cs b.1 apart (b.0, b.2, b.3)).names (name_of w.1) b.4 own

  -- an id that is taken is one of theirs
  pub id_clash : contains id_cmp taken.ids c.id ≡ true → All (λ b. AreApart b c) cs → ⊥
  id_clash e apart =
      let b = (kept.ids c.id).0 e in
      (All-contains (λ b. AreApart b c) cs b.1 apart (b.0, b.2, b.3)).ids b.4

  -- an id and names that are free are none of theirs
  pub free : list_any (contains name_cmp taken.names) ns ≡ false → contains id_cmp taken.ids c.id ≡ false → All (λ b. AreApart b c) cs
  free no_name no_id k d short =
      let b = slice_index_or cs k d in
      let there : slice_index_or cs k b ≡ b = get_or_default cs k b d short in
      record {
        ids = λ e. iff_false (kept.ids c.id) no_id (k, b, short, there, e);
        names = λ n its own.
            let w = Any-from_map name_of ns n (subst (λ (l : List Name). Contains l n) (sym named) own) in
            let is : contains name_cmp taken.names w.1 ≡ true = (kept.names w.1).1 (k, b, short, there, subst (λ (m : Name). Contains (unique_names b) m) (sym w.4) its) in
            both_ways _ no_name (list_any_at (contains name_cmp taken.names) ns w.0 w.1 w.2 (rw w.3 is));
      }

  -- with its id and its names, what is taken is that of one resource more
  pub added : (new : Taken) → ((id : List ℕ) → contains id_cmp new.ids id ≡ cond (is_same_id c.id id) true (contains id_cmp taken.ids id))
      → ((n : UniqueName) → contains name_cmp new.names n ≡ (contains name_cmp taken.names n || list_any (is_same_unique_name n) ns)) → Records new (cs ++ c ∷ [])
  added new ids names = record {
    ids = λ id. more (λ b. b.id ≡ id) cs c _ (is_same_id c.id id) _ (kept.ids id) (is_same_id-Decides c.id id) (ids id ∙ one_more _ (is_same_id c.id id));
    names = λ n.
        let own : Decides (list_any (is_same_unique_name n) ns) (Contains (unique_names c) (name_of n)) = subst (λ (l : List Name). Decides (list_any (is_same_unique_name n) ns) (Contains l (name_of n))) named (same_names-Decides n ns) in
        more (λ b. Contains (unique_names b) (name_of n)) cs c _ (list_any (is_same_unique_name n) ns) _ (kept.names n) own (names n);
  }
