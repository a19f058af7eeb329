-- Ids compare as their texts do.
use Rattle.std.proofs.Common.{◌≡◌, ℕ, zero, suc, ◌/◌, ◌%◌, ◌<◌, if◌then◌else◌, List, [], ◌∷◌, ◌++◌, length, slice_index, Ordering, inl, inr, arith, refl, sym, ap, ◌∙◌}
use Rattle.std.specs.Cmp.Lexicographic.{slice_cmp}
use Rattle.std.specs.Ordering.{nat_cmp, ordering_then}
use Rattle.std.specs.declared.cmp.Ordering.TheVariants.{Less, Equal, Greater}
use Rattle.std.proofs.lemmas.Bool.{cases_lt}
use Rattle.std.proofs.lemmas.Bool.Decides.{nat_tests}
use Rattle.std.proofs.lemmas.List.{get_or_default, get_or_past}
use Rattle.uuid.specs.Text.{by_index, digit_place, hex_digit, hyphen, is_hyphen_place, lower, nibble}
use Rattle.uuid.proofs.TextLemmas.{by_index_length, by_index_same}
use Rattle.scim_cell.specs.Ids.{IsId, id_text}

-- the order of two lists that `by_index` makes: the first place where they differ decides
abbrev first_of : ℕ → (ℕ → Ordering) → Ordering
first_of zero at = Equal
first_of (suc n) at = ordering_then (first_of n at) (at n)

then-Equal : (o : Ordering) → ordering_then o Equal ≡ o
then-Equal Less = refl
then-Equal Equal = refl
then-Equal Greater = refl

then-assoc : (o p q : Ordering) → ordering_then o (ordering_then p q) ≡ ordering_then (ordering_then o p) q
then-assoc Less p q = refl
then-assoc Equal p q = refl
then-assoc Greater p q = refl

slice_cmp-push : (xs ys : List ℕ) (x y : ℕ) → length xs ≡ length ys
    → slice_cmp nat_cmp (xs ++ x ∷ []) (ys ++ y ∷ []) ≡ ordering_then (slice_cmp nat_cmp xs ys) (nat_cmp x y)
slice_cmp-push [] [] x y same = then-Equal (nat_cmp x y)
slice_cmp-push [] (b ∷ ys) x y same = absurd (omega arith)
slice_cmp-push (a ∷ xs) [] x y same = absurd (omega arith)
slice_cmp-push (a ∷ xs) (b ∷ ys) x y same =
    ap (ordering_then (nat_cmp a b)) (slice_cmp-push xs ys x y (omega arith)) ∙ then-assoc (nat_cmp a b) (slice_cmp nat_cmp xs ys) (nat_cmp x y)

slice_cmp-by_index : (n : ℕ) (f g : ℕ → ℕ) → slice_cmp nat_cmp (by_index n f) (by_index n g) ≡ first_of n (λ k. nat_cmp (f k) (g k))
unfolding by_index
slice_cmp-by_index zero f g = refl
slice_cmp-by_index (suc n) f g =
    slice_cmp-push (by_index n f) (by_index n g) (f n) (g n) (by_index_length n f ∙ sym (by_index_length n g))
    ∙ ap (λ o. ordering_then o (nat_cmp (f n) (g n))) (slice_cmp-by_index n f g)

-- digits compare as the numbers that they stand for
digit_cmp : (d e : ℕ) → d < 16 → e < 16 → nat_cmp (hex_digit lower d) (hex_digit lower e) ≡ nat_cmp d e
digit_cmp d e first second = grind (arith, nat_tests)

-- bytes compare by their high halves, and then by their low ones
byte_cmp : (x y : ℕ) → x < 256 → y < 256 → ordering_then (nat_cmp (x / 16 % 16) (y / 16 % 16)) (nat_cmp (x % 16) (y % 16)) ≡ nat_cmp x y
byte_cmp x y first second = grind (arith, nat_tests)

-- two digits more of the texts, and a byte more of the ids
byte_step : (s t : Ordering) (x y : ℕ) → x < 256 → y < 256 → s ≡ t
    → ordering_then (ordering_then s (nat_cmp (hex_digit lower (x / 16 % 16)) (hex_digit lower (y / 16 % 16)))) (nat_cmp (hex_digit lower (x % 16)) (hex_digit lower (y % 16)))
    ≡ ordering_then t (nat_cmp x y)
byte_step s t x y first second before =
    let high = digit_cmp (x / 16 % 16) (y / 16 % 16) (omega arith) (omega arith) in
    let low = digit_cmp (x % 16) (y % 16) (omega arith) (omega arith) in
    rw (high, low, ← then-assoc, byte_cmp x y first second) (ap (λ o. ordering_then o (nat_cmp x y)) before)

-- the character at a place of an id's text
abbrev character : List ℕ → ℕ → ℕ
character id k = if is_hyphen_place k then hyphen else hex_digit lower (nibble id (digit_place k))

-- the order of two texts by their first characters, and of two ids by their first bytes
abbrev texts_to : (a b : List ℕ) → ℕ → Ordering
texts_to a b n = first_of n (λ k. nat_cmp (character a k) (character b k))

abbrev bytes_to : (a b : List ℕ) → ℕ → Ordering
bytes_to a b n = first_of n (λ k. nat_cmp (slice_index a k) (slice_index b k))

texts_as_bytes : (a b : List ℕ) → ((k : ℕ) → slice_index a k < 256) → ((k : ℕ) → slice_index b k < 256) → texts_to a b 36 ≡ bytes_to a b 16
texts_as_bytes a b small_a small_b =
    let byte_0 : texts_to a b 2 ≡ bytes_to a b 1 = byte_step Equal Equal (slice_index a 0) (slice_index b 0) (small_a 0) (small_b 0) refl in
    let byte_1 : texts_to a b 4 ≡ bytes_to a b 2 = byte_step _ _ (slice_index a 1) (slice_index b 1) (small_a 1) (small_b 1) byte_0 in
    let byte_2 : texts_to a b 6 ≡ bytes_to a b 3 = byte_step _ _ (slice_index a 2) (slice_index b 2) (small_a 2) (small_b 2) byte_1 in
    let byte_3 : texts_to a b 8 ≡ bytes_to a b 4 = byte_step _ _ (slice_index a 3) (slice_index b 3) (small_a 3) (small_b 3) byte_2 in
    let after_8 : texts_to a b 9 ≡ bytes_to a b 4 = then-Equal (texts_to a b 8) ∙ byte_3 in
    let byte_4 : texts_to a b 11 ≡ bytes_to a b 5 = byte_step _ _ (slice_index a 4) (slice_index b 4) (small_a 4) (small_b 4) after_8 in
    let byte_5 : texts_to a b 13 ≡ bytes_to a b 6 = byte_step _ _ (slice_index a 5) (slice_index b 5) (small_a 5) (small_b 5) byte_4 in
    let after_13 : texts_to a b 14 ≡ bytes_to a b 6 = then-Equal (texts_to a b 13) ∙ byte_5 in
    let byte_6 : texts_to a b 16 ≡ bytes_to a b 7 = byte_step _ _ (slice_index a 6) (slice_index b 6) (small_a 6) (small_b 6) after_13 in
    let byte_7 : texts_to a b 18 ≡ bytes_to a b 8 = byte_step _ _ (slice_index a 7) (slice_index b 7) (small_a 7) (small_b 7) byte_6 in
    let after_18 : texts_to a b 19 ≡ bytes_to a b 8 = then-Equal (texts_to a b 18) ∙ byte_7 in
    let byte_8 : texts_to a b 21 ≡ bytes_to a b 9 = byte_step _ _ (slice_index a 8) (slice_index b 8) (small_a 8) (small_b 8) after_18 in
    let byte_9 : texts_to a b 23 ≡ bytes_to a b 10 = byte_step _ _ (slice_index a 9) (slice_index b 9) (small_a 9) (small_b 9) byte_8 in
    let after_23 : texts_to a b 24 ≡ bytes_to a b 10 = then-Equal (texts_to a b 23) ∙ byte_9 in
    let byte_10 : texts_to a b 26 ≡ bytes_to a b 11 = byte_step _ _ (slice_index a 10) (slice_index b 10) (small_a 10) (small_b 10) after_23 in
    let byte_11 : texts_to a b 28 ≡ bytes_to a b 12 = byte_step _ _ (slice_index a 11) (slice_index b 11) (small_a 11) (small_b 11) byte_10 in
    let byte_12 : texts_to a b 30 ≡ bytes_to a b 13 = byte_step _ _ (slice_index a 12) (slice_index b 12) (small_a 12) (small_b 12) byte_11 in
    let byte_13 : texts_to a b 32 ≡ bytes_to a b 14 = byte_step _ _ (slice_index a 13) (slice_index b 13) (small_a 13) (small_b 13) byte_12 in
    let byte_14 : texts_to a b 34 ≡ bytes_to a b 15 = byte_step _ _ (slice_index a 14) (slice_index b 14) (small_a 14) (small_b 14) byte_13 in
    byte_step _ _ (slice_index a 15) (slice_index b 15) (small_a 15) (small_b 15) byte_14

-- a list of bytes, byte by byte
bytes_small : (id : List ℕ) → IsId id → (k : ℕ) → slice_index id k < 256
bytes_small id is_id k =
    elim (cases_lt k 16) [
      | inl within ↦ is_id.bytes k 0 (omega (arith, is_id.long))
      | inr past ↦ rw (get_or_past id k 0 (omega (arith, is_id.long))) (omega arith)
    ]

by_bytes : (id : List ℕ) → IsId id → id ≡ by_index 16 (slice_index id)
by_bytes id is_id = by_index_same id 16 (slice_index id) is_id.long (λ k d within. get_or_default id k d 0 (omega (arith, is_id.long)))

-- ids compare as their texts
pub slice_cmp-id_text : (a b : List ℕ) → IsId a → IsId b → slice_cmp nat_cmp a b ≡ slice_cmp nat_cmp (id_text a) (id_text b)
unfolding id_text
slice_cmp-id_text a b first second =
    let bytes : slice_cmp nat_cmp a b ≡ bytes_to a b 16 =
    (λ i. slice_cmp nat_cmp (by_bytes a first i) (by_bytes b second i)) ∙ slice_cmp-by_index 16 (slice_index a) (slice_index b) in
    let texts : slice_cmp nat_cmp (id_text a) (id_text b) ≡ texts_to a b 36 = slice_cmp-by_index 36 (character a) (character b) in
    bytes ∙ sym (texts_as_bytes a b (bytes_small a first) (bytes_small b second)) ∙ sym texts
