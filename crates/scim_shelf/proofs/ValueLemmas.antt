-- The values of members and the texts of values.
use Rattle.std.proofs.Common.{◌≡◌, refl, sym, ◌∙◌, ap, ℕ, ◌+◌, ◌<◌, ◌≤◌, Bool, true, false, ◌&&◌, ◌||◌, not, cond, List, length, take, drop, ◌-◌, get_or, arith}
use Rattle.std.specs.Prelude.{Option, string_bytes}
use Rattle.std.specs.Cmp.{decided}
use Rattle.std.specs.List.{list_any}
use Rattle.std.specs.BTreeSet.{BTreeSet, contains_by}
use Rattle.std.specs.BTreeMap.{is_at}
use Rattle.std.specs.declared.cmp.Ordering.{Ordering}
use Rattle.std.proofs.lemmas.List.{take_all, take_rest, take-append-drop, drop_more, nil_from_length}
use Rattle.std.proofs.lemmas.List.Folds.{list_any-append, list_any_more}
use Rattle.scim_schema.specs.declared.Leaf.{Leaf}
use Rattle.scim_schema.specs.IndexedLeaves.{indexed_leaves}
use Rattle.scim_schema.specs.Units.{is_same_leaf}
use Rattle.scim_schema.proofs.Facts.{is_same_leaf-Decides}
use Rattle.scim_cell.specs.Content.{Content}
use Rattle.scim_cell.specs.Rows.{Row, atom_in}
use Rattle.scim_value.specs.Members.{is_text}
use Rattle.scim_value.specs.declared.uniqueness.UniqueName.{UniqueName}
use Rattle.scim_shelf.specs.Members.{is_found, value_in, is_value_of}
use Rattle.scim_shelf.specs.Stores.{is_compared, has_text, has_text_in}
use Rattle.scim_shelf.specs.IndexedTexts.{is_indexed, is_under_at, is_under_at_in, is_under, is_under_in}
use Rattle.scim_shelf.proofs.NameLemmas.{by_bool}

-- the values of members with one more, of which the value was found, if it has one
pub value_more : (v : List ℕ) (members : List Row) (k : ℕ) (member : Row) (found : Option (List ℕ)) → k < length members → member ≡ get_or members k member
    → is_text v (value_in member) ≡ is_found v found → is_value_of v (take (k + 1) members) ≡ (is_value_of v (take k members) || is_found v found)
value_more v members k member found inside is text =
    list_any_more (λ (m : Row). is_text v (value_in m)) members k member inside
    ∙ ap (λ (m : Row). is_value_of v (take k members) || is_text v (value_in m)) (sym is)
    ∙ ap (λ (b : Bool). is_value_of v (take k members) || b) text

pub or_cond : (test b : Bool) → cond test true b ≡ (b || test)
or_cond true true = refl
or_cond true false = refl
or_cond false true = refl
or_cond false false = refl

pub or_false : (b : Bool) → (b || false) ≡ b
or_false true = refl
or_false false = refl

or_shared : (a b c : Bool) → (b || (a || c)) ≡ ((a || b) || (a || c))
or_shared true true c = refl
or_shared true false c = refl
or_shared false true c = refl
or_shared false false c = refl

-- the first values and the others have the texts of all
pub in_parts : (leaf : Leaf) (t : List ℕ) (vs : List Row) (k : ℕ) → (has_text_in leaf t (take k vs) || has_text_in leaf t (drop k vs)) ≡ has_text_in leaf t vs
in_parts leaf t vs k =
    sym (list_any-append (λ (r : Row). is_compared leaf t (atom_in leaf r.fields)) (take k vs) (drop k vs)) ∙ ap (has_text_in leaf t) (take-append-drop k vs)

-- where the first k of two lists of values have the same texts, what the others lack are texts of the values after k
pub beyond_shared : (leaf : Leaf) (t : List ℕ) (vs others : List Row) (k : ℕ) → has_text_in leaf t (take k others) ≡ has_text_in leaf t (take k vs)
    → (has_text_in leaf t (take (length vs - k) (drop k vs)) || has_text_in leaf t others) ≡ (has_text_in leaf t vs || has_text_in leaf t others)
beyond_shared leaf t vs others k same =
    let has = has_text_in leaf t in
    let theirs : (has (take k vs) || has (drop k others)) ≡ has others =
    ap (λ (b : Bool). b || has (drop k others)) (sym same) ∙ in_parts leaf t others k in
    (λ i. has (take_rest vs k i) || sym theirs i)
    ∙ or_shared (has (take k vs)) (has (drop k vs)) (has (drop k others))
    ∙ (λ i. in_parts leaf t vs k i || theirs i)

or_shared_after : (a b c : Bool) → (a || (c || b)) ≡ ((a || b) || (c || b))
or_shared_after true b c = refl
or_shared_after false true true = refl
or_shared_after false true false = refl
or_shared_after false false true = refl
or_shared_after false false false = refl

-- where two lists of values end with the same texts, what the others lack are texts of the values before
pub before_shared : (leaf : Leaf) (t : List ℕ) (vs others : List Row) (m n : ℕ) → has_text_in leaf t (drop n others) ≡ has_text_in leaf t (drop m vs)
    → (has_text_in leaf t (take m vs) || has_text_in leaf t others) ≡ (has_text_in leaf t vs || has_text_in leaf t others)
before_shared leaf t vs others m n same =
    let has = has_text_in leaf t in
    let theirs : (has (take n others) || has (drop m vs)) ≡ has others =
    ap (λ (b : Bool). has (take n others) || b) (sym same) ∙ in_parts leaf t others n in
    (λ i. has (take m vs) || sym theirs i)
    ∙ or_shared_after (has (take m vs)) (has (drop m vs)) (has (take n others))
    ∙ (λ i. in_parts leaf t vs m i || theirs i)

-- what some lack, more lack
pub widened : (a b r p : Bool) → (a || r) ≡ (b || r) → (a || (p || r)) ≡ (b || (p || r))
widened true true r p h = refl
widened true false r true h = refl
widened true false r false h = h
widened false true r true h = refl
widened false true r false h = h
widened false false r p h = refl

-- the last values with one more before them
pub text_before : (leaf : Leaf) (t : List ℕ) (vs : List Row) (s : ℕ) (value : Row) → s < length vs → value ≡ get_or vs (length vs - 1 - s) value
    → has_text_in leaf t (drop (length vs - (s + 1)) vs) ≡ (is_compared leaf t (atom_in leaf value.fields) || has_text_in leaf t (drop (length vs - s) vs))
text_before leaf t vs s value inside is =
    let at : length vs - 1 - s ≡ length vs - (s + 1) = omega (arith, inside) in
    let next : (length vs - (s + 1)) + 1 ≡ length vs - s = omega (arith, inside) in
    let first : get_or vs (length vs - (s + 1)) value ≡ value = ap (λ (n : ℕ). get_or vs n value) (sym at) ∙ sym is in
    ap (has_text_in leaf t) (drop_more vs (length vs - (s + 1)) value (omega (arith, inside)))
    ∙ (λ i. is_compared leaf t (atom_in leaf (first i).fields) || has_text_in leaf t (drop (next i) vs))

pub cond_not : (test b : Bool) → cond test false b ≡ (b && not test)
cond_not true true = refl
cond_not true false = refl
cond_not false true = refl
cond_not false false = refl

pub not_either : (o h f : Bool) → ((o && not h) && not f) ≡ (o && not (h || f))
not_either true true f = refl
not_either true false f = refl
not_either false h f = refl

none_left : (o h r : Bool) → false ≡ (o && not h) → false ≡ (o && not (h || r))
none_left true true r none = refl
none_left true false r none = cc
none_left false h r none = refl

-- an empty set without the first k of some values is without all of them
pub emptied : {X K : Type 0} (test : X → Bool) (xs : List X) (k : ℕ) (compare : K → Ordering) (left : BTreeSet K) (was : Bool) → length left.keys ≡ 0
    → contains_by compare left ≡ (was && not (list_any test (take k xs))) → contains_by compare left ≡ (was && not (list_any test xs))
emptied test xs k compare left was empty so_far =
    let none : contains_by compare left ≡ false = ap (list_any (is_at compare)) (nil_from_length left.keys empty) in
    none
    ∙ none_left was (list_any test (take k xs)) (list_any test (drop k xs)) (sym none ∙ so_far)
    ∙ ap (λ (b : Bool). was && not b) (sym (list_any-append test (take k xs) (drop k xs)) ∙ ap (list_any test) (take-append-drop k xs))

pub left_beyond : (a b n : Bool) → (a || n) ≡ (b || n) → (a && not n) ≡ (b && not n)
left_beyond true true n h = refl
left_beyond true false true h = refl
left_beyond true false false h = cc
left_beyond false true true h = refl
left_beyond false true false h = cc
left_beyond false false n h = refl

-- a test of a leaf is one of each leaf that is the same
pub at_leaf : (l m : Leaf) (test : Leaf → Bool) → (is_same_leaf l m && test l) ≡ (is_same_leaf l m && test m)
at_leaf l m test = by_bool (is_same_leaf l m) (λ same. rw same (ap test ((is_same_leaf-Decides l m).0 same))) (λ differs. rw differs refl)

-- values that, with what was found, have the texts of a resource have those of its texts that what was found lacks
pub beyond_at : (leaf : Leaf) (q : UniqueName) (values : List Row) (c : Content) (found : Option Content)
    → (has_text_in leaf (string_bytes q.text) values || is_under_at_in leaf (string_bytes q.text) found)
    ≡ (is_under_at leaf (string_bytes q.text) c || is_under_at_in leaf (string_bytes q.text) found)
    → (is_same_leaf leaf q.leaf && (has_text_in leaf (string_bytes q.text) values && not (is_under_in q found)))
    ≡ (is_same_leaf leaf q.leaf && (is_under q c && not (is_under_in q found)))
beyond_at leaf q values c found h =
    let t = string_bytes q.text in
    let has = has_text_in leaf t values in
    sym (at_leaf leaf q.leaf (λ (l : Leaf). has && not (is_under_at_in l t found)))
    ∙ ap (λ (b : Bool). is_same_leaf leaf q.leaf && b) (left_beyond has (is_under_at leaf t c) (is_under_at_in leaf t found) h)
    ∙ at_leaf leaf q.leaf (λ (l : Leaf). is_under_at l t c && not (is_under_at_in l t found))

either : (a b x : Bool) → ((a && x) || (b && x)) ≡ ((a || b) && x)
either true true true = refl
either true true false = refl
either true false true = refl
either true false false = refl
either false b x = refl

-- what holds at the leaves so far, or at one more leaf
pub leaf_more : (leaf : Leaf) (leaves : List Leaf) (k : ℕ) (d : Leaf) (x before after : Bool) → k < length leaves
    → before ≡ (list_any (λ l. is_same_leaf l leaf) (take k leaves) && x) → after ≡ (before || (is_same_leaf (get_or leaves k d) leaf && x))
    → after ≡ (list_any (λ l. is_same_leaf l leaf) (take (k + 1) leaves) && x)
leaf_more leaf leaves k d x before after inside so_far more =
    let test = λ (l : Leaf). is_same_leaf l leaf in
    more
    ∙ ap (λ (b : Bool). b || (test (get_or leaves k d) && x)) so_far
    ∙ either (list_any test (take k leaves)) (test (get_or leaves k d)) x
    ∙ ap (λ (b : Bool). b && x) (sym (list_any_more test leaves k d inside))

both_pass : (a b : Bool) → (a && (a && b)) ≡ (a && b)
both_pass true b = refl
both_pass false b = refl

-- a resource is indexed only under texts at the leaves of its kind
pub under_leaves : (q : UniqueName) (c : Content) (leaves : List Leaf) (k : ℕ) → length leaves ≤ k → leaves ≡ indexed_leaves c.kind
    → (list_any (λ l. is_same_leaf l q.leaf) (take k leaves) && is_under q c) ≡ is_under q c
under_leaves q c leaves k all is =
    (λ i. list_any (λ (l : Leaf). (decided is_same_leaf is_same_leaf-Decides).symm l q.leaf i) ((take_all k leaves all ∙ is) i) && is_under q c)
    ∙ both_pass (is_indexed c.kind q.leaf) (has_text q.leaf (string_bytes q.text) c)
