-- The clients in the lines of a token file are those of its entries.
use Rattle.std.proofs.Common.{◌≡◌, refl, sym, ap, ◌∙◌, ℕ, ◌+◌, List, [], ◌∷◌, ◌++◌, length, map, append_assoc, inl, inr}
use Rattle.std.specs.Prelude.{◌==◌, Option, None, Some, Result, Ok, Err, IfOk, filter_map}
use Rattle.std.specs.List.{after_first, before_first, cons_option, list_any, position_or_len, slice_split}
use Rattle.std.proofs.lemmas.Bool.{cases_Bool}
use Rattle.std.proofs.lemmas.List.{append-nil, map-append}
use Rattle.scim_schema.specs.declared.limits.TheConstants.{MOST_TOKENS}
use Rattle.scim_policy_file.specs.Paths.{is_client_name}
use Rattle.scim_token.specs.declared.faults.LineFault.{LineFault}
use Rattle.scim_token.specs.declared.faults.LineFault.TheVariants.{BadLine, BadName, Twice, TooMany}
use Rattle.scim_token.specs.declared.faults.TokenFault.{TokenFault}
use Rattle.scim_token.specs.TokenFile.{Entry, added, after_line, digest_in, entries_from, entries_in, entry_in, entry_with, has_digest, if_well, is_line_feed, is_space, list_with_entry, says_nothing}
use Rattle.scim_policy_warnings.specs.Clients.{distinct}
use Rattle.scim_policy_warnings.specs.Tokens.{token_clients}
use Rattle.scim_policy_warnings.specs.code.TokenLines.{before_space, client_in}

-- the clients of entries
abbrev clients_of : List Entry → List (List ℕ)
clients_of entries = map (λ (e : Entry). e.client) entries

-- the value of a result, or another
value_or : {X E : Type 0} → X → Result X E → X
value_or d (Ok x) = x
value_or d (Err f) = d

same_value : {X E : Type 0} (x y : X) → ◌≡◌ {A = Result X E} (Ok x) (Ok y) → x ≡ y
unfolding value_or
same_value x y e = ap (value_or x) e

-- ---- one line

with_digest : (client : List ℕ) (digest : Option (List ℕ)) (e : Entry) → entry_with client digest ≡ Ok e → client ≡ e.client
with_digest client None e is = cc
with_digest client (Some d) e is = ap (λ (x : Entry). x.client) (same_value _ e is)

-- the entry in a line has the client before the first space
entry_client : (line : List ℕ) (e : Entry) → entry_in line ≡ Ok e → before_space line ≡ Some e.client
entry_client line e is = elim (cases_Bool (position_or_len is_space line == length line)) [
  | inl t ↦ absurd (let bad : entry_in line ≡ Err BadLine = rw t refl in cc)
  | inr f ↦ elim (cases_Bool (is_client_name (before_first is_space line))) [
    | inl good ↦ (
        let with : entry_in line ≡ entry_with (before_first is_space line) (digest_in (after_first is_space line)) = rw (f, good) refl in
        let there : before_space line ≡ Some (before_first is_space line) = rw f refl in
        there ∙ ap (λ (t : List ℕ). Some t) (with_digest _ _ e (sym with ∙ is))
        )
    | inr bad ↦ absurd (let none : entry_in line ≡ Err BadName = rw (f, bad) refl in cc)
  ]
]

added_last : (known : List Entry) (e : Entry) (next : List Entry) → added known e ≡ Ok next → known ++ e ∷ [] ≡ next
added_last known e next is = elim (cases_Bool (list_any (has_digest e.digest) known)) [
  | inl t ↦ absurd (let twice : added known e ≡ Err Twice = rw t refl in cc)
  | inr f ↦ elim (cases_Bool (length known == MOST_TOKENS)) [
    | inl full ↦ absurd (let many : added known e ≡ Err TooMany = rw (f, full) refl in cc)
    | inr room ↦ (let last : added known e ≡ Ok (known ++ e ∷ []) = rw (f, room) refl in same_value _ next (sym last ∙ is))
  ]
]

-- ---- the clients after a line

-- a list of clients with one more behind it, if there is one
with_client : (known : List Entry) (r : Result Entry LineFault) (next : List Entry) (client : Option (List ℕ)) (rest : List (List ℕ)) → list_with_entry known r ≡ Ok next
    → ((e : Entry) → r ≡ Ok e → client ≡ Some e.client) → clients_of known ++ cons_option client rest ≡ clients_of next ++ rest
with_client known (Err f) next client rest is of = cc
with_client known (Ok e) next client rest is of =
    let last : clients_of next ≡ clients_of known ++ e.client ∷ [] = sym (ap clients_of (added_last known e next is)) ∙ map-append (λ (x : Entry). x.client) known (e ∷ []) in
    let one : clients_of known ++ cons_option client rest ≡ clients_of known ++ e.client ∷ rest = ap (λ (o : Option (List ℕ)). clients_of known ++ cons_option o rest) (of e refl) in
    one ∙ sym (append_assoc (clients_of known) (e.client ∷ []) rest) ∙ ap (λ (cs : List (List ℕ)). cs ++ rest) (sym last)

-- the clients known, and that of a line, are those known after it
line_client : (known : List Entry) (line : List ℕ) (next : List Entry) (rest : List (List ℕ)) → after_line known line ≡ Ok next
    → clients_of known ++ cons_option (client_in line) rest ≡ clients_of next ++ rest
line_client known line next rest is = elim (cases_Bool (says_nothing line)) [
  | inl t ↦ (
      let stays : after_line known line ≡ Ok known = rw t refl in
      let none : client_in line ≡ None = rw t refl in
      ap (λ (o : Option (List ℕ)). clients_of known ++ cons_option o rest) none ∙ ap (λ (es : List Entry). clients_of es ++ rest) (same_value known next (sym stays ∙ is))
      )
  | inr f ↦ (
      let reads : after_line known line ≡ list_with_entry known (entry_in line) = rw f refl in
      let has : client_in line ≡ before_space line = rw f refl in
      with_client known (entry_in line) next (client_in line) rest (sym reads ∙ is) (λ e own. has ∙ entry_client line e own)
      )
]

-- ---- all lines

well : (n : ℕ) (r : Result (List Entry) LineFault) (rest : List Entry → Result (List Entry) TokenFault) (entries : List Entry) → if_well n r rest ≡ Ok entries
    → (next : List Entry) × ((r ≡ Ok next) × (rest next ≡ Ok entries))
well n (Ok next) rest entries e = (next, (refl, e))
well n (Err f) rest entries e = cc

lines_clients : (n : ℕ) (known : List Entry) (lines : List (List ℕ)) (entries : List Entry) → entries_from n known lines ≡ Ok entries
    → clients_of known ++ filter_map client_in lines ≡ clients_of entries
unfolding entries_from
lines_clients n known [] entries e = append-nil (clients_of known) ∙ ap clients_of (same_value known entries e)
lines_clients n known (line ∷ lines) entries e =
    let step = well n (after_line known line) (λ next. entries_from (n + 1) next lines) entries e in
    line_client known line step.0 (filter_map client_in lines) step.1.0 ∙ lines_clients (n + 1) step.0 lines entries step.1.1

pub file_clients : (text : List ℕ) (entries : List Entry) → entries_in text ≡ Ok entries → filter_map client_in (slice_split is_line_feed text) ≡ clients_of entries
file_clients text entries e = lines_clients 1 [] (slice_split is_line_feed text) entries e

-- the distinct clients of the lines are those that have tokens
pub told : {V E : Type 0} (texts : V → List (List ℕ)) (text : List ℕ) (r : Result V E) → IfOk r (λ v. texts v ≡ distinct (filter_map client_in (slice_split is_line_feed text)))
    → IfOk r (λ v. (entries : List Entry) → entries_in text ≡ Ok entries → texts v ≡ token_clients entries)
told texts text (Ok v) is = λ entries e. is ∙ ap distinct (file_clients text entries e)
told texts text (Err f) is = tt
