-- The resources that are made of items, and the text of a list of documents.
use Rattle.std.proofs.Common.{◌≡◌, refl, sym, ◌∙◌, ap, subst, subst₂, ℕ, suc, ◌+◌, ◌<◌, Bool, true, List, [], ◌∷◌, ◌++◌, length, get_or, take, drop, arith, add-one, append_assoc, String, Global, string_bytes}
use Rattle.std.specs.Prelude.{All, Some, Ok, Err, option_and_then, slice_get}
use Rattle.std.proofs.lemmas.Option.{slice_get-get_or}
use Rattle.std.proofs.lemmas.List.Elements.{All-nil, All-cons}
use Rattle.std.proofs.Math.Seq.{drop-cons}
use Rattle.std.proofs.lemmas.List.{append-nil, take_more}
use Rattle.json.specs.Lex.{tokens}
use Rattle.json.specs.Json as json
use Rattle.json.proofs.Printed.Tokens.{tokens-print}
use Rattle.json.proofs.Printed.Trees.{value-json_tokens, ArePrintable-json_tokens}
use Rattle.serde_json.specs.Data.{array, no_items}
use Rattle.serde_json.specs.Read.{read, of_json, max_depth}
use Rattle.serde_json.specs.Written.{compact_text, items_text, comma_if, outline}
use Rattle.serde_json.proofs.Texts.{print-outline}
use Rattle.scim_schema.specs.declared.json_keys.JsonForm.TheVariants.{Stored}
use Rattle.scim_text.specs.Failures.{IfBecause}
use Rattle.scim_text.specs.declared.memory.Failed.{Failed}
use Rattle.scim_text.specs.declared.memory.Failed.TheVariants as failed
use Rattle.scim_cell.specs.Content.{Content}
use Rattle.scim_json.specs.PartData.{stored_data}
use Rattle.scim_json.specs.Stored.{stored_text, IsResourceBelow}
use Rattle.scim_json.specs.Documents.{documents_and}
use Rattle.scim_json.specs.Tokens.{value_tokens}
use Rattle.scim_json.proofs.Facts.{IsKept, AreKept, AreKept-item, IsKept-array, data_of-IsKept}
use Rattle.scim_foreign_users.specs.declared.faults.RefusedItem.{RefusedItem}
use Rattle.scim_foreign_users.specs.Resources.{GivesResource}
use Rattle.scim_foreign_users.specs.UsersFiles.{AreMade, IsRefusedAt}

-- ---- resources

made_behind : (base : List ℕ) (now : ℕ) (items : List (String Global)) (ids : List (List ℕ)) (cs : List Content) (item : String Global) (id : List ℕ) (c : Content)
    → AreMade base now items ids cs → GivesResource base now id (read (string_bytes item)) (Ok c) → AreMade base now (items ++ item ∷ []) (ids ++ id ∷ []) (cs ++ c ∷ [])
made_behind base now [] [] [] item id c made one = (one, tt)
made_behind base now (x ∷ xs) (y ∷ ys) (z ∷ zs) item id c made one = (made.0, made_behind base now xs ys zs item id c made.1 one)
made_behind base now xs ys zs item id c made one = absurd made

-- one more resource is made, of the item at an index
pub made_more : (base : List ℕ) (now : ℕ) (items : List (String Global)) (ids : List (List ℕ)) (cs : List Content) (i : ℕ) (item : String Global) (id : List ℕ) (c : Content)
    → i < length items → i < length ids → item ≡ get_or items i item → id ≡ get_or ids i id
    → AreMade base now (take i items) (take i ids) cs → GivesResource base now id (read (string_bytes item)) (Ok c)
    → AreMade base now (take (i + 1) items) (take (i + 1) ids) (cs ++ c ∷ [])
made_more base now items ids cs i item id c low below item_is id_is made one =
    let items' : take i items ++ item ∷ [] ≡ take (i + 1) items = ap (λ (x : String Global). take i items ++ x ∷ []) item_is ∙ sym (take_more items i item low) in
    let ids' : take i ids ++ id ∷ [] ≡ take (i + 1) ids = ap (λ (x : List ℕ). take i ids ++ x ∷ []) id_is ∙ sym (take_more ids i id below) in
    subst₂ (λ (xs : List (String Global)) (ys : List (List ℕ)). AreMade base now xs ys (cs ++ c ∷ [])) items' ids' (made_behind base now (take i items) (take i ids) cs item id c made one)

-- the item at an index is refused, behind items of which resources are made
pub refused_at : (base : List ℕ) (now : ℕ) (items : List (String Global)) (ids : List (List ℕ)) (cs : List Content) (i : ℕ) (item : String Global) (fresh : List ℕ) (f : Failed RefusedItem)
    → length cs ≡ i → i < length items → i < length ids → item ≡ get_or items i item → fresh ≡ get_or ids i fresh
    → AreMade base now (take i items) (take i ids) cs
    → IfBecause (λ r. (r.number ≡ i + 1) × GivesResource base now fresh (read (string_bytes item)) (Err r.fault)) f
    → IfBecause (IsRefusedAt base now items ids) f
refused_at base now items ids cs i item fresh failed.NoMemory count low below item_is fresh_is made refused = tt
refused_at base now items ids cs i item fresh (failed.Because r) count low below item_is fresh_is made refused = record {
  before = cs;
  made = subst (λ (n : ℕ). AreMade base now (take n items) (take n ids) cs) (sym count) made;
  number = refused.0 ∙ ap (λ (n : ℕ). n + 1) (sym count);
  item = item;
  item_is = ap (slice_get items) count ∙ slice_get-get_or items i item low ∙ ap (λ (x : String Global). Some x) (sym item_is);
  fresh = fresh;
  fresh_is = ap (slice_get ids) count ∙ slice_get-get_or ids i fresh below ∙ ap (λ (x : List ℕ). Some x) (sym fresh_is);
  faulty = refused.1;
}

-- the resources that are made are below the base
pub made_below : (base : List ℕ) (now : ℕ) (items : List (String Global)) (ids : List (List ℕ)) (cs : List Content) → AreMade base now items ids cs → All (IsResourceBelow base) cs
made_below base now [] [] [] made = All-nil (IsResourceBelow base)
made_below base now (x ∷ xs) (y ∷ ys) (c ∷ cs) made = All-cons (IsResourceBelow base) c cs made.0.3 (made_below base now xs ys cs made.1)
made_below base now xs ys cs made = absurd made

-- ---- the text of a list

-- the resources from an index on: the one there, and the later ones
later_resources : (cs : List Content) (i : ℕ) (c : Content) → i < length cs → c ≡ get_or cs i c → drop i cs ≡ c ∷ drop (i + 1) cs
later_resources cs i c low is = rw add-one (drop-cons cs i c low ∙ ap (λ (d : Content). d ∷ drop (suc i) cs) (sym is))

regrouped : (a b c d : List ℕ) → a ++ (b ++ (c ++ d)) ≡ ((a ++ b) ++ c) ++ d
regrouped a b c d = sym (simp append_assoc)

-- the text behind a prefix: a separator and a document, and the text behind them
pub document_more : (text whole : List ℕ) (later : Bool) (cs : List Content) (i : ℕ) (c : Content) → i < length cs → c ≡ get_or cs i c
    → text ++ items_text later (documents_and (drop i cs) no_items) ≡ whole
    → ((text ++ comma_if later) ++ stored_text c) ++ items_text true (documents_and (drop (i + 1) cs) no_items) ≡ whole
document_more text whole later cs i c low is h =
    sym (regrouped text (comma_if later) (stored_text c) (items_text true (documents_and (drop (i + 1) cs) no_items)))
    ∙ ap (λ (ds : List Content). text ++ items_text later (documents_and ds no_items)) (sym (later_resources cs i c low is)) ∙ h

-- ---- the list is read back

document_kept : (c : Content) → IsKept 4 (stored_data c)
unfolding stored_data
document_kept c = data_of-IsKept Stored c

documents_kept : (cs : List Content) → AreKept 4 (documents_and cs no_items)
documents_kept [] = record { reads = refl; exact = refl; numbered = tt; shallow = omega arith }
documents_kept (c ∷ cs) = AreKept-item 4 (stored_data c) (documents_and cs no_items) (document_kept c) (documents_kept cs)

-- the list of documents is read as the documents
pub list_reads : (cs : List Content) → read (compact_text (array (documents_and cs no_items))) ≡ Some (array (documents_and cs no_items))
list_reads cs =
    let list = array (documents_and cs no_items) in
    let kept = IsKept-array 4 (documents_and cs no_items) (documents_kept cs) in
    let same : tokens (compact_text list) ≡ value_tokens list = ap tokens (sym (print-outline list)) ∙ tokens-print (value_tokens list) (ArePrintable-json_tokens (outline list) kept.numbered) in
    ap (λ o. option_and_then of_json (option_and_then (λ p. json.if_last p.0 p.1) o))
    (ap (json.value max_depth) (same ∙ sym (append-nil _)) ∙ value-json_tokens (outline list) max_depth [] (omega (arith, kept.shallow)))
    ∙ kept.reads
