-- Line feeds between the documents of a list and behind it change nothing of what is read.
use Rattle.std.proofs.Common.{◌≡◌, ℕ, List, [], ◌∷◌, ◌++◌, Bool, true, false, cond, ◌&&◌, Some, option_and_then, refl, sym, ap, ap₂, ◌∙◌, arith, append_assoc, append-nil}
use Rattle.std.specs.Prelude.{codes}
use Rattle.std.specs.List.{flat_map}
use Rattle.json.specs.Token.{Token, begin_object, end_object, begin_array, end_array, key, string, number, boolean, null, bad}
use Rattle.json.specs.Word.{ends_word, word}
use Rattle.json.specs.Lex.{Lexeme, token, comma, colon, string_token, lex, between, fresh, punctuate, tokens}
use Rattle.json.specs.Json as json
use Rattle.json.specs.Print.{escape, quoted, token_text, begins, ends, print_from, IsPrintable, ArePrintable}
use Rattle.json.proofs.Printed.Strings.{content-escape, lex-escape}
use Rattle.json.proofs.Printed.Numbers.{lex-number, in_word-ended}
use Rattle.json.proofs.Printed.Tokens.{tokens-print}
use Rattle.json.proofs.Printed.Trees.{value-json_tokens, ArePrintable-json_tokens}
use Rattle.serde_json.specs.Data.{array, no_items}
use Rattle.serde_json.specs.Read.{of_json, read, max_depth}
use Rattle.serde_json.specs.Written.{outline, compact_text, items_text}
use Rattle.serde_json.proofs.Texts.{print-outline}
use Rattle.scim_schema.specs.declared.json_keys.JsonForm.TheVariants.{Stored}
use Rattle.scim_cell.specs.Content.{Content}
use Rattle.scim_json.specs.PartData.{stored_data}
use Rattle.scim_json.specs.Stored.{stored_text}
use Rattle.scim_json.specs.Documents.{documents_and}
use Rattle.scim_json.specs.Tokens.{value_tokens}
use Rattle.scim_json.proofs.Facts.{IsKept, AreKept, AreKept-item, IsKept-array}
use Rattle.scim_json.proofs.Facts.{data_of-IsKept}
use Rattle.scim_command_database.specs.Exports.{documents_text}

-- ---- the lexemes of tokens, whatever stands behind them

abbrev token_lexemes : Token → List Lexeme
token_lexemes begin_object = token begin_object ∷ []
token_lexemes end_object = token end_object ∷ []
token_lexemes begin_array = token begin_array ∷ []
token_lexemes end_array = token end_array ∷ []
token_lexemes (key s) = token (string s) ∷ colon ∷ []
token_lexemes (string s) = token (string s) ∷ []
token_lexemes (number s) = token (number s) ∷ []
token_lexemes (boolean b) = token (boolean b) ∷ []
token_lexemes null = token null ∷ []
token_lexemes bad = []

abbrev lexemes : Bool → List Token → List Lexeme
lexemes later [] = []
lexemes later (t ∷ ts) = cond (later && begins t) (comma ∷ []) [] ++ (token_lexemes t ++ lexemes (ends t) ts)

-- after a value stands a comma, a closing bracket or what stands behind all
after_value_ends : (ts : List Token) (rest : List ℕ) → ends_word rest ≡ true → ends_word (print_from true ts ++ rest) ≡ true
unfolding print_from
after_value_ends [] rest ended = ended
after_value_ends (begin_object ∷ ts) rest ended = refl
after_value_ends (end_object ∷ ts) rest ended = refl
after_value_ends (begin_array ∷ ts) rest ended = refl
after_value_ends (end_array ∷ ts) rest ended = refl
after_value_ends (key s ∷ ts) rest ended = refl
after_value_ends (string s ∷ ts) rest ended = refl
after_value_ends (number s ∷ ts) rest ended = refl
after_value_ends (boolean b ∷ ts) rest ended = refl
after_value_ends (null ∷ ts) rest ended = refl
after_value_ends (bad ∷ ts) rest ended = refl

lex_quoted : (s rest : List ℕ) → lex between (quoted s ++ rest) ≡ token (string s) ∷ lex between rest
unfolding lex
lex_quoted s rest =
    ap (λ (l : List ℕ). lex between (34 ∷ l)) (append_assoc (escape s) (34 ∷ []) rest)
    ∙ ap₂ (λ o l. token (string_token o) ∷ l) (content-escape s rest) (lex-escape s rest)

lex_token : (t : Token) (rest : List ℕ) → IsPrintable t → (ends t ≡ true → ends_word rest ≡ true) → lex between (token_text t ++ rest) ≡ token_lexemes t ++ lex between rest
unfolding lex word
lex_token begin_object rest is ended = refl
lex_token end_object rest is ended = refl
lex_token begin_array rest is ended = refl
lex_token end_array rest is ended = refl
lex_token (key s) rest is ended = ap (lex between) (append_assoc (quoted s) (58 ∷ []) rest) ∙ lex_quoted s (58 ∷ rest)
lex_token (string s) rest is ended = lex_quoted s rest
lex_token (number s) rest is ended = lex-number s rest is (ended refl)
lex_token (boolean true) rest is ended = ap₂ (λ b l. token (cond b (boolean true) bad) ∷ l) (ended refl) (in_word-ended rest (ended refl))
lex_token (boolean false) rest is ended = ap₂ (λ b l. token (cond b (boolean false) bad) ∷ l) (ended refl) (in_word-ended rest (ended refl))
lex_token null rest is ended = ap₂ (λ b l. token (cond b null bad) ∷ l) (ended refl) (in_word-ended rest (ended refl))
lex_token bad rest is ended = absurd is

lex_separator : (b : Bool) (rest : List ℕ) → lex between (cond b (44 ∷ []) [] ++ rest) ≡ cond b (comma ∷ []) [] ++ lex between rest
unfolding lex
lex_separator true rest = refl
lex_separator false rest = refl

regroup : (a b c d : List ℕ) → (a ++ (b ++ c)) ++ d ≡ a ++ (b ++ (c ++ d))
regroup a b c d = simp append_assoc

lex_tokens : (later : Bool) (ts : List Token) (rest : List ℕ) → ArePrintable ts → ends_word rest ≡ true → lex between (print_from later ts ++ rest) ≡ lexemes later ts ++ lex between rest
unfolding print_from ArePrintable
lex_tokens later [] rest are ended = refl
lex_tokens later (t ∷ ts) rest are ended =
    let comma_here = cond (later && begins t) (comma ∷ []) [] in
    ap (lex between) (regroup (cond (later && begins t) (44 ∷ []) []) (token_text t) (print_from (ends t) ts) rest)
    ∙ lex_separator (later && begins t) (token_text t ++ (print_from (ends t) ts ++ rest))
    ∙ ap (λ (l : List Lexeme). comma_here ++ l)
    (lex_token t (print_from (ends t) ts ++ rest) are.0 (λ e. ap (λ (b : Bool). ends_word (print_from b ts ++ rest)) e ∙ after_value_ends ts rest ended)
    ∙ ap (λ (l : List Lexeme). token_lexemes t ++ l) (lex_tokens (ends t) ts rest are.1 ended))
    ∙ simp append_assoc

-- ---- documents

document_kept : (c : Content) → IsKept 4 (stored_data c)
unfolding stored_data
document_kept c = data_of-IsKept Stored c

abbrev document_lexemes : Content → List Lexeme
document_lexemes c = lexemes false (value_tokens (stored_data c))

lex_document : (c : Content) (rest : List ℕ) → ends_word rest ≡ true → lex between (stored_text c ++ rest) ≡ document_lexemes c ++ lex between rest
lex_document c rest ended =
    ap (λ (text : List ℕ). lex between (text ++ rest)) (sym (print-outline (stored_data c)))
    ∙ lex_tokens false (value_tokens (stored_data c)) rest (ArePrintable-json_tokens (outline (stored_data c)) (document_kept c).numbered) ended

-- the documents behind the first, with line feeds, and the list's end
abbrev spaced : List Content → List ℕ
spaced cs = flat_map (λ c. codes ",\n" ++ stored_text c) cs ++ codes "]\n"

-- the same without them
abbrev plain : List Content → List ℕ
plain cs = items_text true (documents_and cs no_items)

spaced_ends : (cs : List Content) → ends_word (spaced cs) ≡ true
spaced_ends [] = refl
spaced_ends (c ∷ cs) = refl

plain_ends : (cs : List Content) → ends_word (plain cs) ≡ true
plain_ends [] = refl
plain_ends (c ∷ cs) = refl

regroup_next : (a b c d : List ℕ) → ((a ++ b) ++ c) ++ d ≡ a ++ (b ++ (c ++ d))
regroup_next a b c d = simp append_assoc

-- a document and what stands behind it
document_same : (c : Content) (cs : List Content) → lex between (spaced cs) ≡ lex between (plain cs) → lex between (stored_text c ++ spaced cs) ≡ lex between (stored_text c ++ plain cs)
document_same c cs later =
    lex_document c (spaced cs) (spaced_ends cs) ∙ ap (λ (l : List Lexeme). document_lexemes c ++ l) later ∙ sym (lex_document c (plain cs) (plain_ends cs))

later_same : (cs : List Content) → lex between (spaced cs) ≡ lex between (plain cs)
unfolding lex
later_same [] = refl
later_same (c ∷ cs) =
    ap (lex between) (regroup_next (codes ",\n") (stored_text c) (flat_map (λ d. codes ",\n" ++ stored_text d) cs) (codes "]\n"))
    ∙ ap (λ (l : List Lexeme). comma ∷ l) (document_same c cs (later_same cs))

list_same : (cs : List Content) → lex between (documents_text cs) ≡ lex between (compact_text (array (documents_and cs no_items)))
unfolding lex
list_same [] = refl
list_same (c ∷ cs) =
    ap (lex between) (regroup_next (codes "[") (stored_text c) (flat_map (λ d. codes ",\n" ++ stored_text d) cs) (codes "]\n"))
    ∙ ap (λ (l : List Lexeme). token begin_array ∷ l) (document_same c cs (later_same cs))

documents_kept : (cs : List Content) → AreKept 4 (documents_and cs no_items)
documents_kept [] = record { reads = refl; exact = refl; numbered = tt; shallow = omega arith }
documents_kept (c ∷ cs) = AreKept-item 4 (stored_data c) (documents_and cs no_items) (document_kept c) (documents_kept cs)

-- the list without line feeds is read as the documents
plain_reads : (cs : List Content) → read (compact_text (array (documents_and cs no_items))) ≡ Some (array (documents_and cs no_items))
plain_reads cs =
    let list = array (documents_and cs no_items) in
    let kept = IsKept-array 4 (documents_and cs no_items) (documents_kept cs) in
    let same : tokens (compact_text list) ≡ value_tokens list = ap tokens (sym (print-outline list)) ∙ tokens-print (value_tokens list) (ArePrintable-json_tokens (outline list) kept.numbered) in
    ap (λ o. option_and_then of_json (option_and_then (λ p. json.if_last p.0 p.1) o))
    (ap (json.value max_depth) (same ∙ sym (append-nil _)) ∙ value-json_tokens (outline list) max_depth [] (omega (arith, kept.shallow)))
    ∙ kept.reads

-- so is the one with line feeds
pub documents_read : (cs : List Content) → read (documents_text cs) ≡ Some (array (documents_and cs no_items))
documents_read cs =
    ap (λ (ls : List Lexeme). option_and_then of_json (option_and_then (λ p. json.if_last p.0 p.1) (json.value max_depth (punctuate fresh ls)))) (list_same cs) ∙ plain_reads cs
