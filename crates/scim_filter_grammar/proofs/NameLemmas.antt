-- Names and URNs: their bytes, and how a word is cut into them.
use Rattle.std.proofs.Common.{◌≡◌, ℕ, zero, suc, ◌<◌, ◌≤◌, ◌-◌, Bool, true, false, cond, eqb, leb, List, [], ◌∷◌, ◌++◌, length, take, Option, Some, None, refl, sym, ap, subst, ◌∙◌, arith, inl, inr, ◌⊎◌, length-append}
use Rattle.std.specs.Prelude.{◌&&◌, ◌||◌, codes, nat_lt}
use Rattle.std.specs.List.{list_all}
use Rattle.std.specs.Char.{to_ascii_lowercase}
use Rattle.std.specs.Str.{IsAscii, IsUtf8}
use Rattle.std.proofs.lemmas.Bool.{eqb-true, ltb-true, lt-ltb, ltb-false, le-ltb, leb-true}
use Rattle.std.proofs.lemmas.Str.{IsUtf8-from_ascii}
use Rattle.std.proofs.Math.Seq.{take-append_seam}
use Rattle.scim_filter_grammar.specs.Bytes.{is_no_colon, front, is_word}
use Rattle.scim_filter_grammar.specs.code.Cuts.{names_from, names_in, urn_in}
use Rattle.scim_filter_grammar.specs.Names.{is_letter, is_name_byte, is_name, is_urn_byte, is_urn, path_text}
use Rattle.scim_filter_grammar.proofs.FrontLemmas.{both_true}
use Rattle.scim_filter_grammar.proofs.SpelledLemmas.{lowered, list_all_imp, list_all-map, not_at, name_bytes, name_case}

or_case : (P : Type 0) (a b : Bool) → a || b ≡ true → (a ≡ true → P) → (b ≡ true → P) → P
or_case P true b h f g = f refl
or_case P false b h f g = g h

abbrev is_ascii_byte : ℕ → Bool
is_ascii_byte b = nat_lt b 128

ascii_list : (bs : List ℕ) → list_all is_ascii_byte bs ≡ true → IsAscii bs
ascii_list [] h i = omega arith
ascii_list (b ∷ bs) h zero = ltb-true b 128 (both_true (is_ascii_byte b) (list_all is_ascii_byte bs) h).0
ascii_list (b ∷ bs) h (suc i) = ascii_list bs (both_true (is_ascii_byte b) (list_all is_ascii_byte bs) h).1 i

below : (b lo hi : ℕ) → hi < 128 → leb lo b && leb b hi ≡ true → b < 128
below b lo hi h e = let t = leb-true b hi (both_true (leb lo b) (leb b hi) e).1 in omega (arith, h, t)

letter_below : (b : ℕ) → is_letter b ≡ true → b < 128
letter_below b h = or_case (b < 128) (leb 65 b && leb b 90) (leb 97 b && leb b 122) h (λ e. below b 65 90 (omega arith) e) (λ e. below b 97 122 (omega arith) e)

same_below : (b c : ℕ) → c < 128 → eqb b c ≡ true → b < 128
same_below b c h e = let t : b ≡ c = eqb-true _ _ e in omega (arith, h, t)

name_byte_below : (b : ℕ) → is_name_byte b ≡ true → b < 128
name_byte_below b h =
    or_case (b < 128) (is_letter b || leb 48 b && leb b 57 || eqb b 36 || eqb b 45) (eqb b 95) h
    (λ h1. or_case (b < 128) (is_letter b || leb 48 b && leb b 57 || eqb b 36) (eqb b 45) h1
    (λ h2. or_case (b < 128) (is_letter b || leb 48 b && leb b 57) (eqb b 36) h2
    (λ h3. or_case (b < 128) (is_letter b) (leb 48 b && leb b 57) h3 (letter_below b) (λ e. below b 48 57 (omega arith) e))
    (same_below b 36 (omega arith))) (same_below b 45 (omega arith))) (same_below b 95 (omega arith))

urn_byte_below : (b : ℕ) → is_urn_byte b ≡ true → b < 128
urn_byte_below b h =
    or_case (b < 128) (is_name_byte b || eqb b 46) (eqb b 58) h
    (λ e. or_case (b < 128) (is_name_byte b) (eqb b 46) e (name_byte_below b) (same_below b 46 (omega arith)))
    (same_below b 58 (omega arith))

lower_below : (b : ℕ) → is_ascii_byte (to_ascii_lowercase b) ≡ true → is_ascii_byte b ≡ true
lower_below b h =
    let at : (v : Bool) → nat_lt b 128 ≡ v → v ≡ true =
    λ v. elim v as (λ w. nat_lt b 128 ≡ w → w ≡ true) [
      | true ↦ λ e. refl
      | false ↦ λ e.
          let high : 128 ≤ b = ltb-false b 128 e in
          let past_a : nat_lt b 65 ≡ false = le-ltb b 65 (omega (arith, high)) in
          let past_z : nat_lt b 91 ≡ false = le-ltb b 91 (omega (arith, high)) in
          let kept : to_ascii_lowercase b ≡ b = rw (past_a, past_z) refl in
          sym e ∙ ap is_ascii_byte (sym kept) ∙ h
    ]
    in at (nat_lt b 128) refl

pub name_utf8 : (name : List ℕ) → is_name name ≡ true → IsUtf8 name
name_utf8 name h = IsUtf8-from_ascii name (ascii_list name (name_case (list_all is_ascii_byte name ≡ true) name h
    (λ e. list_all_imp is_name_byte is_ascii_byte name (λ b k. lt-ltb b 128 (name_byte_below b k)) (name_bytes name e))
    (λ e. list_all_imp (λ b. is_ascii_byte (to_ascii_lowercase b)) is_ascii_byte name lower_below
    (list_all-map is_ascii_byte to_ascii_lowercase name ∙ ap (list_all is_ascii_byte) (lowered (codes "$ref") name e)))))

pub urn_utf8 : (urn : List ℕ) → is_urn urn ≡ true → IsUtf8 urn
urn_utf8 urn h =
    let each = both_true (is_word (codes "urn") (front is_no_colon urn)) (list_all is_urn_byte urn) h in
    IsUtf8-from_ascii urn (ascii_list urn (list_all_imp is_urn_byte is_ascii_byte urn (λ b k. lt-ltb b 128 (urn_byte_below b k)) each.1))

-- ---- the last colon

names_split : (names bs : List ℕ) → (names_from names bs ≡ names) ⊎ ((urn : List ℕ) × (bs ≡ urn ++ 58 ∷ names_from names bs))
names_split names [] = inl refl
names_split names (b ∷ bs) =
    let at : (v : Bool) → eqb b 58 ≡ v → (cond v (names_from bs bs) (names_from names bs) ≡ names) ⊎ ((urn : List ℕ) × (b ∷ bs ≡ urn ++ 58 ∷ cond v (names_from bs bs) (names_from names bs))) =
    λ v. elim v as (λ w. eqb b 58 ≡ w → (cond w (names_from bs bs) (names_from names bs) ≡ names) ⊎ ((urn : List ℕ) × (b ∷ bs ≡ urn ++ 58 ∷ cond w (names_from bs bs) (names_from names bs)))) [
      | true ↦ λ e. elim (names_split bs bs) [
        | inl k ↦ inr ([], ap (λ (x : ℕ). x ∷ bs) (eqb-true _ _ e) ∙ ap (λ (t : List ℕ). 58 ∷ t) (sym k))
        | inr k ↦ inr (b ∷ k.0, ap (λ (t : List ℕ). b ∷ t) k.1)
      ]
      | false ↦ λ e. elim (names_split names bs) [
        | inl k ↦ inl k
        | inr k ↦ inr (b ∷ k.0, ap (λ (t : List ℕ). b ∷ t) k.1)
      ]
    ]
    in at (eqb b 58) refl

urn_front : (urn names : List ℕ) → take (length (urn ++ 58 ∷ names) - length names - 1) (urn ++ 58 ∷ names) ≡ urn
urn_front urn names =
    let n : length (urn ++ 58 ∷ names) - length names - 1 ≡ length urn = omega (arith, length-append urn (58 ∷ names)) in
    ap (λ (k : ℕ). take k (urn ++ 58 ∷ names)) n ∙ take-append_seam urn (58 ∷ names)

pub urn_text : (word urn : List ℕ) → word ≡ urn ++ 58 ∷ names_in word → urn_in word ≡ Some urn
urn_text word urn h =
    let shorter : nat_lt (length (names_in word)) (length word) ≡ true = lt-ltb (length (names_in word)) (length word) (omega (arith, ap length h, length-append urn (58 ∷ names_in word))) in
    let cut : take (length word - length (names_in word) - 1) word ≡ urn =
    ap (λ (t : List ℕ). take (length t - length (names_in word) - 1) t) h ∙ urn_front urn (names_in word) in
    rw shorter (ap Some cut)

pub urn_none : (word : List ℕ) → names_in word ≡ word → urn_in word ≡ None
urn_none word h =
    let same : nat_lt (length (names_in word)) (length word) ≡ false = le-ltb (length (names_in word)) (length word) (omega (arith, ap length h)) in
    rw same refl

-- a word is what stands before the last colon and what is behind it
pub urn_split : (word : List ℕ) → word ≡ path_text (urn_in word) (names_in word)
urn_split word = elim (names_split word word) [
  | inl k ↦ subst (λ (o : Option (List ℕ)). word ≡ path_text o (names_in word)) (sym (urn_none word k)) (sym k)
  | inr k ↦ subst (λ (o : Option (List ℕ)). word ≡ path_text o (names_in word)) (sym (urn_text word k.0 k.1)) k.1
]

names_none : (names bs : List ℕ) → list_all is_no_colon bs ≡ true → names_from names bs ≡ names
names_none names [] h = refl
names_none names (b ∷ bs) h =
    let t = both_true (is_no_colon b) (list_all is_no_colon bs) h in
    let no : eqb b 58 ≡ false = not_at is_no_colon b 58 t.0 refl in
    rw no (names_none names bs t.1)

names_after : (names urn rest : List ℕ) → list_all is_no_colon rest ≡ true → names_from names (urn ++ 58 ∷ rest) ≡ rest
names_after names [] rest h = names_none rest rest h
names_after names (b ∷ bs) rest h =
    elim (eqb b 58) as (λ v. cond v (names_from (bs ++ 58 ∷ rest) (bs ++ 58 ∷ rest)) (names_from names (bs ++ 58 ∷ rest)) ≡ rest)
    [ true ↦ names_after (bs ++ 58 ∷ rest) bs rest h | false ↦ names_after names bs rest h ]

-- what is cut from the text of a path is what it was made of
pub names_again : (urn : Option (List ℕ)) (names : List ℕ) → list_all is_no_colon names ≡ true → names_in (path_text urn names) ≡ names
names_again None names h = names_none names names h
names_again (Some urn) names h = names_after (urn ++ 58 ∷ names) urn names h

pub urn_again : (urn : Option (List ℕ)) (names : List ℕ) → list_all is_no_colon names ≡ true → urn_in (path_text urn names) ≡ urn
urn_again None names h = urn_none names (names_none names names h)
urn_again (Some urn) names h =
    let back : names_in (urn ++ 58 ∷ names) ≡ names = names_after (urn ++ 58 ∷ names) urn names h in
    urn_text (urn ++ 58 ∷ names) urn (ap (λ (t : List ℕ). urn ++ 58 ∷ t) (sym back))
