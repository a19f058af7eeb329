-- The documents of a list, as they are taken from its tokens item by item.
use Rattle.std.proofs.Common.{◌≡◌, ℕ, suc, ◌+◌, ◌-◌, ◌<◌, ◌≤◌, List, [], ◌∷◌, ◌++◌, length, Option, Some, None, inl, inr, option_map, option_and_then, refl, sym, ap, subst, ◌∙◌, arith, append-nil}
use Rattle.std.specs.Prelude.{Bool, true, false, All, ◌⊎◌, ◌≢◌, MatchBool}
use Rattle.std.proofs.lemmas.List.Elements.{All-push}
use Rattle.std.proofs.lemmas.List.Quantifiers.{all_pairs_push}
use Rattle.json.specs.Token.{Token}
use Rattle.json.specs.Lex.{tokens}
use Rattle.json.specs.Print.{print}
use Rattle.json.specs.Tree.{json_tokens, HasNumbers}
use Rattle.json.specs.Tree as tree
use Rattle.json.specs.Json as json
use Rattle.json.specs.Json.{parse_map, after_end_array, if_last}
use Rattle.json.proofs.Grammar.{items_end, items_fail, items_more, value-begin_array}
use Rattle.json.proofs.Printed.Tokens.{tokens-print}
use Rattle.json.proofs.Printed.Trees.{value-json_tokens, ArePrintable-json_tokens}
use Rattle.serde_json.specs.Data.{Data, Num, number, array, object, Items, no_items, item, Members, no_members}
use Rattle.serde_json.specs.Read.{of_json, of_items, of_members, number_of, converted, read, max_depth}
use Rattle.scim_cell.specs.Content.{Content}
use Rattle.scim_value.specs.Uniqueness.{AreApart}
use Rattle.scim_json.specs.PartData.{stored_data}
use Rattle.scim_json.specs.Stored.{IsResourceBelow}
use Rattle.scim_json.specs.Documents.{documents_and, IsDocumentsText, IsDamagedBeside, IsDamagedAt}
use Rattle.scim_json.specs.code.Listed.{item_depth, items_in, if_end, rest_of_list, IsItem, IsNoItem, IsInList, IsInNoList, HaveTaken}
use Rattle.scim_json.proofs.DocumentLemmas.{documents_and-push}

-- the value of what is printed of a value's tokens is that value
pub read-printed : (j : json.Json) → HasNumbers j → tree.depth j ≤ max_depth → read (print (json_tokens j)) ≡ of_json j
read-printed j numbers shallow =
    ap (λ ts. option_and_then of_json (option_and_then (λ p. if_last p.0 p.1) (json.value max_depth ts)))
    (tokens-print (json_tokens j) (ArePrintable-json_tokens j numbers) ∙ sym (append-nil (json_tokens j)))
    ∙ ap (λ o. option_and_then of_json (option_and_then (λ p. if_last p.0 p.1) o)) (value-json_tokens j max_depth [] shallow)

-- ---- items with what follows them

-- what is left of the tokens is the same where an item comes before
item_first : (d : Data) (r : List Token) (o : Option Items) → option_map (λ ds. (ds, r)) (option_map (item d) o) ≡ parse_map (item d) (option_map (λ ds. (ds, r)) o)
item_first d r None = refl
item_first d r (Some ds) = refl

-- an item and the others, as data
with_item : (j : json.Json) (d : Data) → of_json j ≡ Some d → (o : Option (json.Items × List Token)) → converted of_items (parse_map (json.item j) o) ≡ parse_map (item d) (converted of_items o)
with_item j d e None = refl
with_item j d e (Some p) = rw e (item_first d p.1 (of_items p.0))

-- an item that isn't data, and the others
without_item : (j : json.Json) → of_json j ≡ None → (o : Option (json.Items × List Token)) → converted of_items (parse_map (json.item j) o) ≡ None
without_item j e None = refl
without_item j e (Some p) = rw e refl

-- a document more before what is left
one_document_more : (cs : List Content) (c : Content) (o : Option (Items × List Token)) → parse_map (documents_and cs) (parse_map (item (stored_data c)) o) ≡ parse_map (documents_and (cs ++ c ∷ [])) o
one_document_more cs c None = refl
one_document_more cs c (Some p) = ap (λ ds. Some (ds, p.1)) (sym (documents_and-push cs c p.0))

none_before : (o : Option (Items × List Token)) → o ≡ parse_map (documents_and []) o
none_before None = refl
none_before (Some p) = refl

-- the items up to the end, if no token follows
abbrev ended : Option (Items × List Token) → Option Items
ended o = option_and_then (λ p. if_end p.0 p.1) o

ended_map : (f : Items → Items) (o : Option (Items × List Token)) → ended (parse_map f o) ≡ option_map f (ended o)
ended_map f None = refl
ended_map f (Some (ds, [])) = refl
ended_map f (Some (ds, t ∷ ts)) = refl

-- ---- the rest of a list

module _ (turns : ℕ) (left rest : List Token) where
  pub rest_end : length left ≤ turns → after_end_array left ≡ Some rest → rest_of_list turns left ≡ if_end no_items rest
  rest_end enough ends = ap (λ o. ended (converted of_items o)) (items_end (json.value item_depth) turns left rest enough ends)

  pub rest_fail : after_end_array left ≡ None → json.value item_depth left ≡ None → rest_of_list turns left ≡ None
  rest_fail going fails = ap (λ o. ended (converted of_items o)) (items_fail (json.value item_depth) turns left going fails)

  module _ (some : 0 < turns) (going : after_end_array left ≡ None) (j : json.Json) (reads : json.value item_depth left ≡ Some (j, rest)) where
    pub rest_bad : of_json j ≡ None → rest_of_list turns left ≡ None
    rest_bad e =
        ap (λ o. ended (converted of_items o)) (items_more (json.value item_depth) turns left rest j some going reads)
        ∙ ap ended (without_item j e (json.items (json.value item_depth) (turns - 1) rest))

    pub rest_more : (d : Data) → of_json j ≡ Some d → rest_of_list turns left ≡ option_map (item d) (rest_of_list (turns - 1) rest)
    rest_more d e =
        ap (λ o. ended (converted of_items o)) (items_more (json.value item_depth) turns left rest j some going reads)
        ∙ ap ended (with_item j d e (json.items (json.value item_depth) (turns - 1) rest))
        ∙ ended_map (item d) (items_in (turns - 1) rest)

-- the rest of a list is its items so far and those that are left
pub record Continues (turns : ℕ) (all left : List Token) : Type 0 where
  pub turns_left : ℕ
  pub enough : length left ≤ turns_left
  pub before : Items → Items
  pub same : rest_of_list turns all ≡ option_map before (rest_of_list turns_left left)

same_items : (o : Option Items) → o ≡ option_map (λ ds. ds) o
same_items None = refl
same_items (Some ds) = refl

pub continues_here : (turns : ℕ) (all : List Token) → length all ≤ turns → Continues turns all all
continues_here turns all enough = record { turns_left = turns; enough = enough; before = λ ds. ds; same = same_items _ }

one_before : (f : Items → Items) (d : Data) (o : Option Items) → option_map f (option_map (item d) o) ≡ option_map (λ ds. f (item d ds)) o
one_before f d None = refl
one_before f d (Some ds) = refl

-- where a value is read, there is a token
some_left : (ts : List Token) (p : json.Json × List Token) → json.value item_depth ts ≡ Some p → 0 < length ts
unfolding json.value
some_left [] p e = absurd (cc)
some_left (t ∷ ts) p e = omega arith

module _ (turns : ℕ) (all left : List Token) (h : Continues turns all left) where
  -- the tokens left are no rest of a list
  stops : rest_of_list h.turns_left left ≡ None → rest_of_list turns all ≡ None
  stops none = h.same ∙ ap (option_map h.before) none

  pub ends_whole : after_end_array left ≡ Some [] → (ds : Items) × (rest_of_list turns all ≡ Some ds)
  ends_whole ends = (h.before no_items, h.same ∙ ap (option_map h.before) (rest_end h.turns_left left [] h.enough ends))

  pub ends_early : (rest : List Token) → after_end_array left ≡ Some rest → rest ≢ [] → rest_of_list turns all ≡ None
  ends_early [] ends some = absurd (some refl)
  ends_early (t ∷ rest) ends some = stops (rest_end h.turns_left left (t ∷ rest) h.enough ends)

  module _ (going : after_end_array left ≡ None) where
    stops_here : json.value item_depth left ≡ None → rest_of_list turns all ≡ None
    stops_here fails = stops (rest_fail h.turns_left left [] going fails)

    -- no item with a value follows
    pub stops_at_item : IsNoItem left → rest_of_list turns all ≡ None
    stops_at_item (inl fails) = stops_here fails
    stops_at_item (inr bad) =
        let some = some_left left (bad.0, bad.1) bad.2 in
        stops (rest_bad h.turns_left left bad.1 (omega (arith, h.enough, some)) going bad.0 bad.2 bad.3)

    module _ (j : json.Json) (rest : List Token) (reads : json.value item_depth left ≡ Some (j, rest)) (less : length rest < length left) where
      pub goes_on : (d : Data) → of_json j ≡ Some d → Continues turns all rest
      goes_on d e = record {
        turns_left = h.turns_left - 1;
        enough = omega (arith, h.enough);
        before = λ ds. h.before (item d ds);
        same =
            h.same
            ∙ ap (option_map h.before) (rest_more h.turns_left left rest (omega (arith, h.enough)) going j reads d e)
            ∙ one_before h.before d (rest_of_list (h.turns_left - 1) rest);
      }

-- ---- the text

ended_none : (r : List Token) (o : Option Items) → option_map array o ≡ option_map array (ended (option_map (λ ds. (ds, [])) o))
ended_none r None = refl
ended_none r (Some ds) = refl

ended_some : (t : Token) (r : List Token) (o : Option Items) → None ≡ option_map array (ended (option_map (λ ds. (ds, t ∷ r)) o))
ended_some t r None = refl
ended_some t r (Some ds) = refl

read_of_items : (o : Option (json.Items × List Token)) → option_and_then of_json (option_and_then (λ p. if_last p.0 p.1) (parse_map json.array o)) ≡ option_map array (ended (converted of_items o))
read_of_items None = refl
read_of_items (Some (js, [])) = ended_none [] (of_items js)
read_of_items (Some (js, t ∷ ts)) = ended_some t ts (of_items js)

-- a text that begins as a list is read as its items
read_is_list : (text : List ℕ) (all : List Token) → tokens text ≡ Token.begin_array ∷ all → read text ≡ option_map array (rest_of_list (length all) all)
read_is_list text all first =
    ap (λ o. option_and_then of_json (option_and_then (λ p. if_last p.0 p.1) o)) (ap (json.value max_depth) first ∙ value-begin_array max_depth all (omega arith))
    ∙ read_of_items (json.items (json.value item_depth) (length all) all)

pub none_taken : (base : List ℕ) (all : List Token) → HaveTaken base all [] all
none_taken base all = record {
  below = record { below = λ k d short. absurd (omega arith); apart = λ i j d less short. absurd (omega arith) };
  turns = length all;
  enough = omega arith;
  reads = none_before _;
}

-- a text without a value is no list
pub no_list : (base text : List ℕ) → read text ≡ None → IsDamagedAt base text 0
no_list base text none ds some = absurd (cc)

module _ (base text : List ℕ) (all : List Token) (first : tokens text ≡ Token.begin_array ∷ all) (cs : List Content) (left : List Token) (h : HaveTaken base all cs left) where
  -- the value of the text, by the rest of the list
  read_rest : read text ≡ option_map array (option_map (documents_and cs) (rest_of_list h.turns left))
  read_rest = read_is_list text all first ∙ ap (option_map array) (ap ended h.reads ∙ ended_map (documents_and cs) (items_in h.turns left))

  -- the rest of the list isn't one
  rest_none : rest_of_list h.turns left ≡ None → IsDamagedAt base text 0
  rest_none none = no_list base text (read_rest ∙ ap (λ o. option_map array (option_map (documents_and cs) o)) none)

  -- the list ends here
  pub all_taken : after_end_array left ≡ Some [] → IsDocumentsText base text cs
  all_taken ends = (h.below, read_rest ∙ ap (λ o. option_map array (option_map (documents_and cs) o)) (rest_end h.turns left [] h.enough ends))

  -- the list ends here, and tokens follow
  pub more_follow : (rest : List Token) → after_end_array left ≡ Some rest → rest ≢ [] → IsDamagedAt base text 0
  more_follow [] ends some = absurd (some refl)
  more_follow (t ∷ rest) ends some = rest_none (rest_end h.turns left (t ∷ rest) h.enough ends)

  module _ (going : after_end_array left ≡ None) where
    -- no value follows
    pub no_value : json.value item_depth left ≡ None → IsDamagedAt base text 0
    no_value fails = rest_none (rest_fail h.turns left [] going fails)

    module _ (j : json.Json) (rest : List Token) (reads : json.value item_depth left ≡ Some (j, rest)) (less : length rest < length left) where
      some_turns : 0 < h.turns
      some_turns = omega (arith, h.enough)

      -- the next item is a document
      pub one_more : (c : Content) → of_json j ≡ Some (stored_data c) → IsResourceBelow base c → All (λ b. AreApart b c) cs → HaveTaken base all (cs ++ c ∷ []) rest
      one_more c is below apart = record {
        below = record { below = All-push (IsResourceBelow base) cs c h.below.below below; apart = all_pairs_push AreApart cs c h.below.apart apart };
        turns = h.turns - 1;
        enough = omega (arith, h.enough);
        reads =
            h.reads
            ∙ ap (λ o. parse_map (documents_and cs) (converted of_items o)) (items_more (json.value item_depth) h.turns left rest j some_turns going reads)
            ∙ ap (parse_map (documents_and cs)) (with_item j (stored_data c) is (json.items (json.value item_depth) (h.turns - 1) rest))
            ∙ one_document_more cs c (items_in (h.turns - 1) rest);
      }

      -- the next item isn't data, or the items after it aren't the rest of a list
      not_read : (o : Option Data) → of_json j ≡ o → IsInNoList j rest → rest_of_list h.turns left ≡ None
      not_read None e none = rest_bad h.turns left rest some_turns going j reads e
      not_read (Some d) e (inl none) = absurd (cc)
      not_read (Some d) e (inr none) =
          rest_more h.turns left rest some_turns going j reads d e ∙ ap (option_map (item d)) (none (h.turns - 1) (omega (arith, h.enough)))

      in_list : (n : ℕ) → n ≡ length cs + 1 → IsInList j rest → ((d : Data) → of_json j ≡ Some d → IsDamagedBeside base cs d) → IsDamagedAt base text n
      in_list n is_next within damaged =
          let next : suc (length cs) ≡ n = omega arith in
          let found = within.2 (h.turns - 1) (omega (arith, h.enough)) in
          subst (IsDamagedAt base text) next (
            cs,
            refl,
            record {
              before = h.below;
              value = within.0;
              later = found.0;
              reads =
                  read_rest
                  ∙ ap (λ o. option_map array (option_map (documents_and cs) o)) (rest_more h.turns left rest some_turns going j reads within.0 within.1 ∙ ap (option_map (item within.0)) found.1);
              damaged = damaged within.0 within.1;
            },
          )

      -- the next item isn't a document that may be on the same server
      pub damaged_next : (next n : ℕ) → next ≡ length cs + 1 → ((n ≡ next) × IsInList j rest) ⊎ ((n ≡ 0) × IsInNoList j rest) → ((d : Data) → of_json j ≡ Some d → IsDamagedBeside base cs d)
          → IsDamagedAt base text n
      damaged_next next n is_next (inl within) damaged = in_list n (within.0 ∙ is_next) within.1 damaged
      damaged_next next n is_next (inr none) damaged = subst (IsDamagedAt base text) (sym none.0) (rest_none (not_read (of_json j) refl none.1))

-- the rest of a list, if nothing follows its end
pub if_ends : (turns : ℕ) (all left rest : List Token) → Continues turns all left → after_end_array left ≡ Some rest → (is : Bool) → MatchBool is (rest ≡ []) (rest ≢ [])
    → MatchBool is ((ds : Items) × (rest_of_list turns all ≡ Some ds)) (rest_of_list turns all ≡ None)
if_ends turns all left rest h ends true none = ends_whole turns all left h (ends ∙ ap Some none)
if_ends turns all left rest h ends false some = ends_early turns all left h rest ends some

-- an item with a value follows
pub goes_on_with : (turns : ℕ) (all left rest : List Token) → Continues turns all left → after_end_array left ≡ None → length rest < length left → IsItem left rest → Continues turns all rest
goes_on_with turns all left rest h going less found = goes_on turns all left h going found.0 rest found.1 less found.2 found.3

-- ---- a text that doesn't begin as a list

no_array : (o : Option Members) (ds : Items) → option_map object o ≡ Some (array ds) → ⊥
no_array None ds e = absurd (cc)
no_array (Some ms) ds e = absurd (cc)

no_object : (o : Option (json.Members × List Token)) (ds : Items) → option_and_then of_json (option_and_then (λ p. if_last p.0 p.1) (parse_map json.object o)) ≡ Some (array ds) → ⊥
no_object None ds e = absurd (cc)
no_object (Some (ms, [])) ds e = no_array (of_members ms no_members) ds e
no_object (Some (ms, t ∷ ts)) ds e = absurd (cc)

no_number : (o : Option Num) (r : List Token) (ds : Items) → option_map number o ≡ Some (array ds) → ⊥
no_number None r ds e = absurd (cc)
no_number (Some n) r ds e = absurd (cc)

abbrev value_of : List Token → Option Data
value_of ts = option_and_then of_json (option_and_then (λ p. if_last p.0 p.1) (json.value max_depth ts))

-- tokens with a list as their value begin with its bracket
begins_list : (ts : List Token) (ds : Items) → value_of ts ≡ Some (array ds) → (rest : List Token) × (ts ≡ Token.begin_array ∷ rest)
unfolding json.value
begins_list [] ds e = absurd (cc)
begins_list (Token.begin_object ∷ ts) ds e = absurd (no_object (json.members (json.value item_depth) (length ts) ts) ds e)
begins_list (Token.end_object ∷ ts) ds e = absurd (cc)
begins_list (Token.begin_array ∷ ts) ds e = (ts, refl)
begins_list (Token.end_array ∷ ts) ds e = absurd (cc)
begins_list (Token.key s ∷ ts) ds e = absurd (cc)
begins_list (Token.string s ∷ []) ds e = absurd (cc)
begins_list (Token.string s ∷ t ∷ ts) ds e = absurd (cc)
begins_list (Token.number s ∷ []) ds e = absurd (no_number (number_of s) [] ds e)
begins_list (Token.number s ∷ t ∷ ts) ds e = absurd (cc)
begins_list (Token.boolean b ∷ []) ds e = absurd (cc)
begins_list (Token.boolean b ∷ t ∷ ts) ds e = absurd (cc)
begins_list (Token.null ∷ []) ds e = absurd (cc)
begins_list (Token.null ∷ t ∷ ts) ds e = absurd (cc)
begins_list (Token.bad ∷ ts) ds e = absurd (cc)

pub no_bracket : (base text : List ℕ) → ((rest : List Token) → tokens text ≡ Token.begin_array ∷ rest → ⊥) → IsDamagedAt base text 0
no_bracket base text other ds is = let begins = begins_list (tokens text) ds is in other begins.0 begins.1
