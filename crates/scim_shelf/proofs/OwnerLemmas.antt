-- Whether the code has a name among others.
use Rattle.std.proofs.Common.{◌≡◌, ◌≢◌, refl, sym, ◌∙◌, ap, ℕ, Bool, true, false, ◌&&◌, ◌||◌, not, cond, List, [], ◌∷◌, map, take, drop}
use Rattle.std.specs.Prelude.{All, find, filter, nat_eq, Option, None, Some, is_none, Result, Ok, Err, OnErr}
use Rattle.std.specs.List.{list_any}
use Rattle.std.specs.Map.{lookup}
use Rattle.std.specs.Option.{option_map}
use Rattle.std.specs.Ordering.{is_eq}
use Rattle.std.specs.Cmp.Lexicographic.{bytes_decides, pointwise}
use Rattle.std.proofs.lemmas.List.{take-append-drop}
use Rattle.std.proofs.lemmas.List.Elements.{All-head, All-tail}
use Rattle.std.proofs.lemmas.List.Folds.{list_any-append}
use Rattle.scim_cell.specs.Content.{Content}
use Rattle.scim_value.specs.declared.uniqueness.UniqueName.{UniqueName}
use Rattle.scim_value.specs.contracts.uniqueness.UniqueNameOrd.TheImpl as name_ord
use Rattle.scim_value.specs.contracts.uniqueness.UniqueNameOrd.TheImpl.Laws as order
use Rattle.scim_value.specs.Uniqueness.{Name, name_of, unique_names, AreApart}
use Rattle.scim_shelf.specs.declared.collections.Collection.{Collection}
use Rattle.scim_shelf.specs.declared.owners.Owners.{Owners}
use Rattle.scim_shelf.specs.Collections.{IsCollection}
use Rattle.scim_shelf.specs.Stores.{is_same_name, has_name}
use Rattle.scim_shelf.specs.KindIds.{HasSameIds}
use Rattle.scim_shelf.specs.TextIndex.{HasSameNotes}
use Rattle.scim_shelf.specs.Owners.{is_alike, is_among, owner, AreUnowned, HasSameOwners}
use Rattle.scim_shelf.specs.Indexed.{names_of, has_in}
use Rattle.scim_shelf.proofs.NameLemmas.{by_bool, is_eq-Equal, is_same_name-Decides, is_same_name-flips, apart_names}

alike_same : (n q : UniqueName) → is_alike n q ≡ is_same_name (name_of n) (name_of q)
alike_same n q = refl

among_same : (q : UniqueName) (names : List UniqueName) → is_among q names ≡ list_any (is_same_name (name_of q)) (map name_of names)
among_same q [] = refl
among_same q (n ∷ names) = λ i. (alike_same n q ∙ is_same_name-flips (name_of n) (name_of q)) i || among_same q names i

-- the names of a resource are those that it has, and of one that was found those that it has
pub among_names : (q : UniqueName) (names : List UniqueName) (c : Content) → map name_of names ≡ unique_names c → is_among q names ≡ has_name (name_of q) c
among_names q names c h = among_same q names ∙ ap (list_any (is_same_name (name_of q))) h

found_names : (n : Name) (o : Option Content) → list_any (is_same_name n) (names_of o) ≡ has_in n o
found_names n None = refl
found_names n (Some c) = refl

pub among_found : (q : UniqueName) (names : List UniqueName) (o : Option Content) → map name_of names ≡ names_of o → is_among q names ≡ has_in (name_of q) o
among_found q names o h = among_same q names ∙ ap (list_any (is_same_name (name_of q))) h ∙ found_names (name_of q) o

-- names that are alike have the same leaf and text
pub alike_named : (n q : UniqueName) → is_alike n q ≡ true → name_of n ≡ name_of q
alike_named n q alike = (is_same_name-Decides (name_of n) (name_of q)).0 alike

pub among_alike : (n q : UniqueName) (names : List UniqueName) → is_alike n q ≡ true → is_among n names ≡ is_among q names
among_alike n q names alike =
    among_same n names ∙ ap (λ (m : Name). list_any (is_same_name m) (map name_of names)) (alike_named n q alike) ∙ sym (among_same q names)

-- the order of the index ties just the names that are alike
pub tied_alike : (n q : UniqueName) → is_eq ((name_ord.ghosts).cmp n q) ≡ is_alike n q
tied_alike n q = sym (order.matches_eq-law n q)

-- the order ties a copy of a name with what is alike to it
pub tied_copy : (copy n q : UniqueName) → name_of copy ≡ name_of n → is_eq ((name_ord.ghosts).cmp copy q) ≡ is_alike n q
tied_copy copy n q same = tied_alike copy q ∙ ap (λ (m : Name). is_same_name m (name_of q)) same

-- names that are alike have the same owner
pub same_owner : (owners : Owners) (n q : UniqueName) → is_alike n q ≡ true → owner owners n ≡ owner owners q
same_owner owners n q alike =
    let tied = is_eq-Equal ((name_ord.ghosts).cmp n q) (tied_alike n q ∙ alike) in
    λ i. lookup (λ (k : UniqueName). is_eq (order.total-law.congr n q k tied i)) owners.by_name.entries

and_false : (b : Bool) → (b && false) ≡ false
and_false true = refl
and_false false = refl

among_cond : (q n : UniqueName) (names : List UniqueName) (b : Bool)
    → is_among q (cond b (n ∷ names) names) ≡ cond b (is_alike n q || is_among q names) (is_among q names)
among_cond q n names true = refl
among_cond q n names false = refl

one_passed : (alike here there before after : Bool) → (alike ≡ true → here ≡ there) → after ≡ (before && there)
    → cond here (alike || after) after ≡ ((alike || before) && there)
one_passed true true there before after same rest = same refl
one_passed true false there before after same rest = rest ∙ ap (λ (b : Bool). before && b) (sym (same refl)) ∙ and_false before ∙ same refl
one_passed false true there before after same rest = rest
one_passed false false there before after same rest = rest

-- those of the names that pass a test, of which names that are alike pass both or none
pub among_filter : (q : UniqueName) (test : UniqueName → Bool) → ((n : UniqueName) → is_alike n q ≡ true → test n ≡ test q)
    → (names : List UniqueName) → is_among q (filter test names) ≡ (is_among q names && test q)
among_filter q test same [] = refl
among_filter q test same (n ∷ names) =
    among_cond q n (filter test names) (test n)
    ∙ one_passed (is_alike n q) (test n) (test q) (is_among q names) (is_among q (filter test names)) (same n) (among_filter q test same names)

and_right : (a b : Bool) → (a && b) ≡ true → b ≡ true
and_right true b h = h
and_right false b h = cc

none_is : {X : Type 0} (o : Option X) → is_none o ≡ true → o ≡ None
none_is None h = refl
none_is (Some x) h = cc

-- what holds of any error
pub on_err : {T E P : Type 0} (r : Result T E) → P → OnErr r P
on_err (Ok x) holds = tt
on_err (Err e) holds = holds

-- names chosen because they have no owner have none
pub chosen_unowned : (owners : Owners) (names chosen : List UniqueName)
    → ((q : UniqueName) → is_among q chosen ≡ (is_among q names && is_none (owner owners q))) → AreUnowned owners chosen
chosen_unowned owners names chosen are q among = none_is (owner owners q) (and_right (is_among q names) (is_none (owner owners q)) (sym (are q) ∙ among))

-- one of the first of some names is one of them
pub none_taken : (q : UniqueName) (names : List UniqueName) (k : ℕ) → is_among q names ≡ false → is_among q (take k names) ≡ false
none_taken q names k none =
    go (is_among q (take k names)) (is_among q (drop k names))
    (sym (list_any-append (λ (n : UniqueName). is_alike n q) (take k names) (drop k names)) ∙ ap (is_among q) (take-append-drop k names) ∙ none)
  where
    go : (first rest : Bool) → (first || rest) ≡ false → first ≡ false
    go true rest h = cc
    go false rest h = refl

-- where names are forgotten that had no owner, those that stay have the owners that they had
pub owners_back : (old mid new : Owners) (names : List UniqueName) → AreUnowned old names
    → ((q : UniqueName) → is_among q names ≡ false → owner mid q ≡ owner old q)
    → ((q : UniqueName) → owner new q ≡ cond (is_among q names) None (owner mid q)) → HasSameOwners old new
owners_back old mid new names unowned others left q =
    left q ∙ by_bool (is_among q names) (λ t. rw t (sym (unowned q t))) (λ f. rw f (others q f))

-- a collection with the resources, the owners and the notes of another
pub same_collection : (cs : List Content) (old new : Collection) → new.by_id.entries ≡ old.by_id.entries → HasSameIds old.kinds new.kinds
    → HasSameOwners old.owners new.owners → HasSameNotes old.texts new.texts → IsCollection cs old → IsCollection cs new
same_collection cs old new entries kinds owned noted h = record {
  resources = entries ∙ h.resources;
  keyed_apart = h.keyed_apart;
  kinds = λ k. kinds k ∙ h.kinds k;
  owners = λ q. owned q ∙ h.owners q;
  noted = λ q i. noted q i ∙ h.noted q i;
}

-- a name of a resource that has a place has no owner, or the resource's id
pub own_name : (n : Name) (c : Content) (cs : List Content) → All (λ d. d.id ≢ c.id → AreApart c d) cs → has_name n c ≡ true
    → cond (is_none (option_map (λ d. d.id) (find (has_name n) cs))) (Some c.id) (option_map (λ d. d.id) (find (has_name n) cs)) ≡ Some c.id
own_name n c [] place here = refl
own_name n c (d ∷ ds) place here = by_bool (has_name n d) (λ t. rw t (ap (λ (x : List ℕ). Some x) (same t))) (λ f. rw f (own_name n c ds (All-tail (λ (e : Content). e.id ≢ c.id → AreApart c e) d ds place) here))
  where
    same : has_name n d ≡ true → d.id ≡ c.id
    same t = by_bool (pointwise nat_eq d.id c.id)
        (λ e. (bytes_decides d.id c.id).0 e)
        (λ ne.
        let differ : d.id ≢ c.id = λ p. let no : true ≡ false = sym ((bytes_decides d.id c.id).1 p) ∙ ne in cc in
        let other : true ≡ false = sym t ∙ apart_names n c d (All-head (λ (e : Content). e.id ≢ c.id → AreApart c e) d ds place differ) here in cc)

-- the owner of a name when names come that had none and names go that aren't kept
pub owner_changed : (here had : Bool) (id : List ℕ) (o : Option (List ℕ)) → (here ≡ true → cond (is_none o) (Some id) o ≡ Some id)
    → cond (had && not here) None (cond (here && is_none o) (Some id) o) ≡ cond here (Some id) (cond had None o)
owner_changed true true id o own = own refl
owner_changed true false id o own = own refl
owner_changed false true id o own = refl
owner_changed false false id o own = refl
