-- Members by a key in any case, and the items of exports.
use Rattle.std.proofs.Common.{◌≡◌, refl, sym, ◌∙◌, ap, ap₂, ℕ, zero, suc, ◌+◌, ◌<◌, ◌≤◌, true, false, inl, inr, List, [], ◌∷◌, ◌++◌, length, get_or, take, map, arith, String, Global, string_bytes}
use Rattle.std.specs.Prelude.{Option, None, Some, codes, option_and_then}
use Rattle.std.proofs.lemmas.Bool.{cases_Bool}
use Rattle.std.proofs.lemmas.List.{map-append, take_more}
use Rattle.serde_json.specs.Data.{Data, null, boolean, number, string, array, object, Items, Members, no_members, member, depth, items_depth, members_depth}
use Rattle.serde_json.specs.Find.{as_array}
use Rattle.serde_json.specs.Read.{read}
use Rattle.serde_json.specs.View.{view, items_view, members_view}
use Rattle.serde_json.specs.declared.value.Value.{Value}
use Rattle.serde_json.proofs.Views.{Entry}
use Rattle.scim_text.specs.Names.{is_same_name}
use Rattle.scim_body.specs.BodyNames.{value_named, items_list}
use Rattle.scim_foreign_users.specs.Exports.{items_in}

-- ---- members

-- the first member whose key is the name
pub named_here : (name : List ℕ) (e : Entry) (es : List Entry) → is_same_name name (string_bytes e.0) ≡ true → value_named name (members_view (e ∷ es)) ≡ Some (view e.1)
named_here name e es t = rw t refl

-- a member with another key is passed
pub named_later : (name : List ℕ) (e : Entry) (es : List Entry) → is_same_name name (string_bytes e.0) ≡ false → value_named name (members_view (e ∷ es)) ≡ value_named name (members_view es)
named_later name e es f = rw f refl

-- ---- how deep they nest

-- a member nests no deeper than all
named_shallow : (name : List ℕ) (ms : Members) (d : Data) → value_named name ms ≡ Some d → depth d ≤ members_depth ms
named_shallow name no_members d h = cc
named_shallow name (member k e ms) d h = elim (cases_Bool (is_same_name name k)) [
  | inl t ↦ (let found : Some e ≡ Some d = rw t at h in let same : e ≡ d = cc in omega (arith, ap depth same))
  | inr f ↦ omega (arith, named_shallow name ms d (rw f at h))
]

-- the items of a list nest less deep than it
array_shallow : (d : Data) (ds : Items) → as_array d ≡ Some ds → items_depth ds ≤ depth d
array_shallow null ds h = cc
array_shallow (boolean b) ds h = cc
array_shallow (number n) ds h = cc
array_shallow (string s) ds h = cc
array_shallow (array es) ds h = let same : es ≡ ds = cc in omega (arith, ap items_depth same)
array_shallow (object ms) ds h = cc

listed_shallow : (o : Option Data) (ds : Items) (n : ℕ) → option_and_then as_array o ≡ Some ds → ((d : Data) → o ≡ Some d → depth d ≤ n) → items_depth ds ≤ n
listed_shallow None ds n h within = cc
listed_shallow (Some d) ds n h within = omega (arith, within d refl, array_shallow d ds h)

-- the items of an export nest no deeper than it
pub items_shallow : (d : Data) (ds : Items) (n : ℕ) → items_in d ≡ Some ds → depth d ≤ n → items_depth ds ≤ n
items_shallow null ds n h within = cc
items_shallow (boolean b) ds n h within = cc
items_shallow (number x) ds n h within = cc
items_shallow (string s) ds n h within = cc
items_shallow (array es) ds n h within = let same : es ≡ ds = cc in omega (arith, ap items_depth same)
items_shallow (object ms) ds n h within =
    listed_shallow (value_named (codes "Resources") ms) ds n h (λ d found. omega (arith, named_shallow (codes "Resources") ms d found, within))

-- an item nests no deeper than all
pub item_shallow : (vs : List Value) (i : ℕ) (v : Value) (n : ℕ) → items_depth (items_view vs) ≤ n → i < length vs → depth (view (get_or vs i v)) ≤ n
item_shallow [] i v n within low = absurd (omega arith)
item_shallow (w ∷ vs) zero v n within low = omega arith
item_shallow (w ∷ vs) (suc i) v n within low = item_shallow vs i v n (omega arith) (omega arith)

-- ---- their texts

-- the values of the items, in order
pub items_viewed : (vs : List Value) → map (λ d. Some d) (items_list (items_view vs)) ≡ map (λ v. Some (view v)) vs
items_viewed [] = refl
items_viewed (v ∷ vs) = ap (λ (l : List (Option Data)). Some (view v) ∷ l) (items_viewed vs)

-- one more text
pub text_more : (texts : List (String Global)) (text : String Global) (vs : List Value) (i : ℕ) (v : Value) → i < length vs → v ≡ get_or vs i v
    → map (λ t. read (string_bytes t)) texts ≡ map (λ w. Some (view w)) (take i vs) → read (string_bytes text) ≡ Some (view v)
    → map (λ t. read (string_bytes t)) (texts ++ text ∷ []) ≡ map (λ w. Some (view w)) (take (i + 1) vs)
text_more texts text vs i v low is so_far reads =
    let shown : Value → Option Data = λ w. Some (view w) in
    map-append (λ (t : String Global). read (string_bytes t)) texts (text ∷ [])
    ∙ ap₂ (λ (l r : List (Option Data)). l ++ r) so_far (ap (λ (d : Option Data). d ∷ []) reads)
    ∙ sym (map-append shown (take i vs) (v ∷ []))
    ∙ ap (map shown) (ap (λ (w : Value). take i vs ++ w ∷ []) is ∙ sym (take_more vs i v low))
