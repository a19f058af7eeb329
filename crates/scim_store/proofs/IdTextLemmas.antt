-- The texts of ids in the tables.
use Rattle.std.proofs.Common.{◌≡◌, ℕ, ◌<◌, refl, sym, ◌∙◌, ap, subst, Bool, true, false, ◌||◌, inl, inr, List, [], ◌∷◌, ◌++◌, ◌+◌, length, take, get_or, slice_index, arith, cond}
use Rattle.std.specs.Prelude.{Option, None, Some, IfSome, IsSome, MatchBool}
use Rattle.std.proofs.Math.ListN.{get_or-eq_default}
use Rattle.std.proofs.lemmas.Bool.{cases_lt}
use Rattle.std.proofs.Math.Nat.{eq-or-lt_of_le}
use Rattle.std.proofs.lemmas.List.{get_or_default}
use Rattle.std.specs.Option.{is_some}
use Rattle.std.specs.List.{AllWithin}
use Rattle.std.specs.Str.{IsUtf8, bytes_eq}
use Rattle.std.specs.Ordering.{nat_cmp, is_eq}
use Rattle.std.specs.Cmp.Lexicographic.{slice_cmp}
use Rattle.std.proofs.lemmas.Str.{IsUtf8-from_ascii}
use Rattle.std.proofs.lemmas.Cmp.{tied_itself, nat_list_cmp_total}
use Rattle.std.proofs.lemmas.Map.Text.{is_eq-slice_cmp}
use Rattle.std.proofs.lemmas.Slice.Eq.{bytes_eq-Decides}
use Rattle.sqlite.specs.declared.types.Value.TheVariants.{Text}
use Rattle.sqlite.specs.Order.{Row, column}
use Rattle.scim_cell.specs.Ids.{IsId, IsIdText, IsLowerHexDigit, id_text}
use Rattle.scim_cell.proofs.Facts.{IsIdText-id_text, slice_cmp-id_text}
use Rattle.std.proofs.lemmas.List.{take_more}
use Rattle.std.proofs.lemmas.List.Folds.{list_any-append}
use Rattle.scim_store_tables.specs.Lists.{is_text}
use Rattle.scim_store_tables.proofs.Facts.{text_of}
use Rattle.scim_store.specs.Owners.{is_of, HasOwner, is_owner}

-- what may stand in the text of an id is ASCII: a hyphen, or a digit
ascii_at : (b : Bool) (c : ℕ) → MatchBool b (c ≡ 45) (IsLowerHexDigit c) → c < 128
ascii_at true c h = omega (arith, h)
ascii_at false c h = elim h [ inl d ↦ (let top = d.1 in omega (arith, top)) | inr l ↦ (let top = l.1 in omega (arith, top)) ]

pub id_text-utf8 : (id : List ℕ) → IsId id → IsUtf8 (id_text id)
id_text-utf8 id is = IsUtf8-from_ascii (id_text id) (λ i. elim (cases_lt i (length (id_text id))) [ inl low ↦ ascii_at _ (slice_index (id_text id) i) ((IsIdText-id_text id).characters i low) | inr high ↦ (let none : slice_index (id_text id) i ≡ 0 = get_or-eq_default (id_text id) 0 high in omega (arith, none)) ])

pub or_false : (b : Bool) → (b || false) ≡ b
or_false true = refl
or_false false = refl

-- a row is of an id just where its first column is the id's text
pub of_text : (id bytes : List ℕ) (row : Row) → Text bytes ≡ column row 0 → bytes ≡ id_text id → is_of id row ≡ true
of_text id bytes row at is = ap (is_text (id_text id)) (sym at) ∙ ap (λ t. is_eq (slice_cmp nat_cmp t (id_text id))) is ∙ ap is_eq (tied_itself nat_list_cmp_total (id_text id))

-- a text that is no UTF-8, or has not the form of an id's text, is the text of no id
pub no_text : (bytes : List ℕ) → ((id : List ℕ) → IsId id → bytes ≡ id_text id → ⊥) → (row : Row) → Text bytes ≡ column row 0 → (id : List ℕ) → IsId id → is_of id row ≡ false
no_text bytes none row at id is =
    ap (is_text (id_text id)) (sym at) ∙ is_eq-slice_cmp bytes (id_text id) ∙ differ (bytes_eq bytes (id_text id)) refl
  where
    differ : (b : Bool) → bytes_eq bytes (id_text id) ≡ b → b ≡ false
    differ true e = absurd (none id is ((bytes_eq-Decides bytes (id_text id)).0 e))
    differ false e = refl

pub of_some : (o : Option (List ℕ)) (bytes : List ℕ) (row : Row) → Text bytes ≡ column row 0 → IfSome o (λ id. bytes ≡ id_text id) → IfSome o (λ id. is_of id row ≡ true)
of_some None bytes row at h = tt
of_some (Some id) bytes row at h = of_text id bytes row at h

-- a row that is of an id is of another just where they are one
pub same_owner : (o id : List ℕ) (row : Row) → IsId o → IsId id → is_of o row ≡ true → is_of id row ≡ is_eq (slice_cmp nat_cmp o id)
same_owner o id row one two of =
    ap (is_text (id_text id)) (text_of (id_text o) (column row 0) of) ∙ ap is_eq (sym (slice_cmp-id_text o id one two))

-- one more row
pub owner_more : (id : List ℕ) (rows : List Row) (k : ℕ) (row : Row) → k < length rows → row ≡ get_or rows k row → is_owner (take (k + 1) rows) id ≡ (is_owner (take k rows) id || is_of id row)
owner_more id rows k row low is =
    ap (λ rs. is_owner rs id) (take_more rows k row low ∙ ap (λ r. take k rows ++ r ∷ []) (sym is))
    ∙ list_any-append (is_of id) (take k rows) (row ∷ []) ∙ ap (λ b. is_owner (take k rows) id || b) (or_false (is_of id row))

pub or_true : (b : Bool) (test : Bool) → cond test true b ≡ (b || test)
or_true true true = refl
or_true true false = refl
or_true false true = refl
or_true false false = refl

pub same_or : (old so here : Bool) → cond here true (old || so) ≡ (old || (so || here))
same_or true so true = refl
same_or true so false = refl
same_or false true true = refl
same_or false true false = refl
same_or false false true = refl
same_or false false false = refl

pub never_read : (o : Option (List ℕ)) → o ≡ None → IsSome o → ⊥
never_read None e h = cc
never_read (Some x) e h = absurd cc

pub IsIdText-id_text-of : (id : List ℕ) → IsId id → {text : List ℕ} → text ≡ id_text id → IsIdText text
IsIdText-id_text-of id is same = subst IsIdText (sym same) (IsIdText-id_text id)

-- an owner that is found
pub owner_there : (o : Option (List ℕ)) (row : Row) → IfSome o IsId → IfSome o (λ id. is_of id row ≡ true) → is_some o ≡ true → HasOwner row
owner_there None row one of there = absurd cc
owner_there (Some id) row one of there = (id, one, of)

pub owner_missing : (o : Option (List ℕ)) (row : Row) → (o ≡ None → (id : List ℕ) → IsId id → is_of id row ≡ false) → is_some o ≡ false → HasOwner row → ⊥
owner_missing None row none there (id, one, of) = (let c : true ≡ false = sym of ∙ none refl id one in cc)
owner_missing (Some x) row none there has = absurd cc

pub all_more : {X : Type 0} (P : X → Type 0) (xs : List X) (k : ℕ) (x : X) → AllWithin P xs 0 k → k < length xs → x ≡ get_or xs k x → P x → AllWithin P xs 0 (k + 1)
all_more P xs k x all low is here j d from to = elim (eq-or-lt_of_le {n = j} {m = k} (omega arith)) [ inl same ↦ subst P (is ∙ get_or_default xs k x d low ∙ ap (λ i. get_or xs i d) (sym same)) here | inr less ↦ all j d from less ]
