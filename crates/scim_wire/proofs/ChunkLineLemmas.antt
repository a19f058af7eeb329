-- What follows in a chunk line, one byte further.
use Rattle.std.proofs.Common.{◌≡◌, ◌↔◌, ℕ, ◌<◌, ◌≤◌, ◌+◌, ◌-◌, ◌*◌, ◌^◌, ◌⊎◌, Bool, true, false, ◌||◌, List, [], ◌∷◌, ◌++◌, length, refl, sym, ap, ◌∙◌, arith, inl, inr, IsTrue, Option, Some, None, subst}
use Rattle.std.proofs.Math.Nat.{pow-le-pow_right}
use Rattle.std.proofs.lemmas.List.{append-nil, append_assoc, length-append}
use Rattle.std.proofs.lemmas.List.Elements.{All-nil, All-cons, All-head, All-tail}
use Rattle.std.proofs.lemmas.Int.Digits.{digits_value-lt}
use Rattle.std.proofs.lemmas.Bool.Decides.{nat_tests}
use Rattle.std.specs.Char.{is_ascii_hexdigit, digit_value}
use Rattle.std.specs.Int.{is_in_range}
use Rattle.std.specs.Str.Parse.{AllDigits, digits_value, digits_value_after}
use Rattle.httparse.specs.Grammar.{is_ows, is_extension_byte, AllPass, print_extension, ChunkLine, print_chunk_line, IsChunkLine}
use Rattle.scim_wire.specs.declared.chunk_lines.LinePlace.{LinePlace}
use Rattle.scim_wire.specs.declared.chunk_lines.LinePlace.TheVariants.{Start, Digits, Pad, Extension, Return, End}
use Rattle.scim_wire.specs.declared.chunk_lines.LinePart.{LinePart}
use Rattle.scim_wire.specs.Chunked.{IsLineOf}
use Rattle.scim_wire.specs.code.ChunkLines.{IsRestOfExtension, IsRestOfPad, IsRestOfDigits, IsRestOfSize, IsFree, ByteLeads, GoesOn, least}

-- the same for texts of one size
pub with_size : {A B C : Type 0} → A ↔ B → (A × C) ↔ (B × C)
with_size both = (λ a. (both.0 a.0, a.1), λ b. (both.1 b.0, b.1))

-- ---- the extension

extension_byte : (b : ℕ) → (b ≡ 13 → ⊥) → (b ≡ 10 → ⊥) → IsTrue (is_extension_byte b)
extension_byte b no_return no_feed = grind (arith, nat_tests)

extension_first : (b : ℕ) (text : List ℕ) → IsRestOfExtension (b ∷ text)
    → ((b ≡ 13) × (text ≡ 10 ∷ [])) ⊎ (IsTrue (is_extension_byte b) × IsRestOfExtension text)
extension_first b text ([], all, split) = inl (cc, cc)
extension_first b text (c ∷ raw, all, split) =
    let same : b ≡ c = cc in
    inr (rw same (All-head (λ v. is_extension_byte v ≡ true) c raw all), (raw, All-tail (λ v. is_extension_byte v ≡ true) c raw all, cc))

extension_return : IsRestOfExtension (13 ∷ 10 ∷ [])
extension_return = ([], All-nil (λ v. is_extension_byte v ≡ true), refl)

extension_more : (b : ℕ) (text : List ℕ) → IsTrue (is_extension_byte b) → IsRestOfExtension text → IsRestOfExtension (b ∷ text)
extension_more b text is (raw, all, split) = (b ∷ raw, All-cons (λ v. is_extension_byte v ≡ true) b raw is all, ap (λ t. b ∷ t) split)

-- where CR leads in an extension
pub extension_at_return : (text : List ℕ) → IsRestOfExtension (13 ∷ text) ↔ (text ≡ 10 ∷ [])
extension_at_return text = (
  λ rest. elim (extension_first 13 text rest) [ inl found ↦ found.1 | inr found ↦ absurd (cc found.0) ],
  λ e. rw e extension_return,
)

-- LF leads nowhere
pub extension_at_feed : (text : List ℕ) → IsRestOfExtension (10 ∷ text) → ⊥
extension_at_feed text rest = elim (extension_first 10 text rest) [ inl found ↦ omega (arith, found.0) | inr found ↦ cc found.0 ]

-- any other byte belongs to the extension
pub extension_at_other : (b : ℕ) (text : List ℕ) → (b ≡ 13 → ⊥) → (b ≡ 10 → ⊥) → IsRestOfExtension (b ∷ text) ↔ IsRestOfExtension text
extension_at_other b text no_return no_feed = (
  λ rest. elim (extension_first b text rest) [ inl found ↦ absurd (no_return found.0) | inr found ↦ found.1 ],
  extension_more b text (extension_byte b no_return no_feed),
)

-- ---- after the digits

pad_first : (b : ℕ) (text : List ℕ) → IsRestOfPad (b ∷ text)
    → (IsTrue (is_ows b) × IsRestOfPad text) ⊎ (((b ≡ 59) × IsRestOfExtension text) ⊎ ((b ≡ 13) × (text ≡ 10 ∷ [])))
pad_first b text ([], None, all, is, split) = inr (inr (cc, cc))
pad_first b text ([], Some raw, all, is, split) = inr (inl (cc, (raw, is, cc)))
pad_first b text (c ∷ pad, extension, all, is, split) =
    let same : b ≡ c = cc in
    inl (rw same (All-head (λ v. is_ows v ≡ true) c pad all), (pad, extension, All-tail (λ v. is_ows v ≡ true) c pad all, is, cc))

pad_return : IsRestOfPad (13 ∷ 10 ∷ [])
pad_return = ([], None, All-nil (λ v. is_ows v ≡ true), tt, refl)

pad_semicolon : (text : List ℕ) → IsRestOfExtension text → IsRestOfPad (59 ∷ text)
pad_semicolon text (raw, all, split) = ([], Some raw, All-nil (λ v. is_ows v ≡ true), all, ap (λ t. 59 ∷ t) split)

pad_more : (b : ℕ) (text : List ℕ) → IsTrue (is_ows b) → IsRestOfPad text → IsRestOfPad (b ∷ text)
pad_more b text ows (pad, extension, all, is, split) = (b ∷ pad, extension, All-cons (λ v. is_ows v ≡ true) b pad ows all, is, ap (λ t. b ∷ t) split)

-- where a space or a tab leads after the digits
pub pad_at_ows : (b : ℕ) (text : List ℕ) → IsTrue (is_ows b) → IsRestOfPad (b ∷ text) ↔ IsRestOfPad text
pad_at_ows b text ows = (
  λ rest. elim (pad_first b text rest) [
    | inl found ↦ found.1
    | inr other ↦ elim other [ inl found ↦ absurd (cc (found.0, ows)) | inr found ↦ absurd (cc (found.0, ows)) ]
  ],
  pad_more b text ows,
)

-- where a semicolon does
pub pad_at_semicolon : (text : List ℕ) → IsRestOfPad (59 ∷ text) ↔ IsRestOfExtension text
pad_at_semicolon text = (
  λ rest. elim (pad_first 59 text rest) [
    | inl found ↦ absurd (cc found.0)
    | inr other ↦ elim other [ inl found ↦ found.1 | inr found ↦ absurd (omega (arith, found.0)) ]
  ],
  pad_semicolon text,
)

-- where CR does
pub pad_at_return : (text : List ℕ) → IsRestOfPad (13 ∷ text) ↔ (text ≡ 10 ∷ [])
pad_at_return text = (
  λ rest. elim (pad_first 13 text rest) [
    | inl found ↦ absurd (cc found.0)
    | inr other ↦ elim other [ inl found ↦ absurd (omega (arith, found.0)) | inr found ↦ found.1 ]
  ],
  λ e. rw e pad_return,
)

-- any other byte leads nowhere
pub pad_at_other : (b : ℕ) (text : List ℕ) → (IsTrue (is_ows b) → ⊥) → (b ≡ 59 → ⊥) → (b ≡ 13 → ⊥) → IsRestOfPad (b ∷ text) → ⊥
pad_at_other b text no_ows no_semicolon no_return rest = elim (pad_first b text rest) [
  | inl found ↦ no_ows found.0
  | inr other ↦ elim other [ inl found ↦ no_semicolon found.0 | inr found ↦ no_return found.0 ]
]

digit_no_ows : (b : ℕ) → is_ascii_hexdigit b ≡ true → is_ows b ≡ true → ⊥
digit_no_ows b digit ows = grind (arith, nat_tests)

digit_no_semicolon : (b : ℕ) → is_ascii_hexdigit b ≡ true → b ≡ 59 → ⊥
digit_no_semicolon b digit e = cc

digit_no_return : (b : ℕ) → is_ascii_hexdigit b ≡ true → b ≡ 13 → ⊥
digit_no_return b digit e = cc

-- a digit leads nowhere there
pad_at_digit : (b : ℕ) (text : List ℕ) → IsTrue (is_ascii_hexdigit b) → IsRestOfPad (b ∷ text) → ⊥
pad_at_digit b text digit = pad_at_other b text (digit_no_ows b digit) (digit_no_semicolon b digit) (digit_no_return b digit)

-- ---- the digits

-- the first byte of what follows in a size
digits_first : (most value size b : ℕ) (text : List ℕ) → IsRestOfDigits most value size (b ∷ text)
    → (IsTrue (is_ascii_hexdigit b) × (0 < most) × IsRestOfDigits (most - 1) (value * 16 + digit_value b) size text)
    ⊎ (IsRestOfPad (b ∷ text) × (size ≡ value))
digits_first most value size b text rest = by_digits rest.digits refl
  where
    by_digits : (digits : List ℕ) → rest.digits ≡ digits
        → (IsTrue (is_ascii_hexdigit b) × (0 < most) × IsRestOfDigits (most - 1) (value * 16 + digit_value b) size text)
        ⊎ (IsRestOfPad (b ∷ text) × (size ≡ value))
    by_digits [] is = inr (subst IsRestOfPad (sym (rest.split ∙ ap (λ l. l ++ rest.after) is)) rest.is_after, rest.gives ∙ ap (λ l. digits_value_after 16 value l) is)
    by_digits (c ∷ digits) is =
        let split : b ∷ text ≡ c ∷ (digits ++ rest.after) = rest.split ∙ ap (λ l. l ++ rest.after) is in
        let same : b ≡ c = cc split in
        let all : AllPass is_ascii_hexdigit (c ∷ digits) = subst (AllPass is_ascii_hexdigit) is rest.each in
        let few : length (c ∷ digits) ≤ most = subst (λ l. length l ≤ most) is rest.few in
        inl (
          rw same (All-head (λ v. is_ascii_hexdigit v ≡ true) c digits all),
          omega (arith, few),
          record {
            digits = digits;
            after = rest.after;
            split = cc split;
            each = All-tail (λ v. is_ascii_hexdigit v ≡ true) c digits all;
            few = omega (arith, few);
            gives = rest.gives ∙ ap (λ l. digits_value_after 16 value l) is ∙ ap (λ n. digits_value_after 16 (value * 16 + digit_value n) digits) (sym same);
            fits = rest.fits;
            is_after = rest.is_after;
          },
        )

digits_more : (most value size b : ℕ) (text : List ℕ) → IsTrue (is_ascii_hexdigit b) → 0 < most
    → IsRestOfDigits (most - 1) (value * 16 + digit_value b) size text → IsRestOfSize most value size (b ∷ text)
digits_more most value size b text digit some rest = (
  record {
    digits = b ∷ rest.digits;
    after = rest.after;
    split = ap (λ t. b ∷ t) rest.split;
    each = All-cons (λ v. is_ascii_hexdigit v ≡ true) b rest.digits digit rest.each;
    few = omega (arith, rest.few, some);
    gives = rest.gives;
    fits = rest.fits;
    is_after = rest.is_after;
  },
  omega arith,
)

digits_none : (most value size : ℕ) (text : List ℕ) → size < 2 ^ 64 → IsRestOfPad text → size ≡ value → IsRestOfDigits most value size text
digits_none most value size text fits after same = record {
  digits = [];
  after = text;
  split = refl;
  each = All-nil (λ v. is_ascii_hexdigit v ≡ true);
  few = omega arith;
  gives = same;
  fits = fits;
  is_after = after;
}

-- a digit leads to what follows it in the size
pub size_at_digit : (most value size b : ℕ) (text : List ℕ) → IsTrue (is_ascii_hexdigit b) → 0 < most
    → IsRestOfSize most value size (b ∷ text) ↔ IsRestOfDigits (most - 1) (value * 16 + digit_value b) size text
size_at_digit most value size b text digit some = (
  λ rest. elim (digits_first most value size b text rest.0) [ inl found ↦ found.2 | inr found ↦ absurd (pad_at_digit b text digit found.0) ],
  digits_more most value size b text digit some,
)

value_grows : (value : ℕ) (digits : List ℕ) → value ≤ digits_value_after 16 value digits
value_grows value [] = omega arith
value_grows value (c ∷ digits) = omega (arith, value_grows (value * 16 + digit_value c) digits)

-- the first byte of a size is a digit that may come, and the number fits
pub size_first : (most value size b : ℕ) (text : List ℕ) → IsRestOfSize most value size (b ∷ text)
    → IsTrue (is_ascii_hexdigit b) × (0 < most) × (value * 16 + digit_value b < 2 ^ 64)
size_first most value size b text (rest, some) = by_digits rest.digits refl
  where
    by_digits : (digits : List ℕ) → rest.digits ≡ digits → IsTrue (is_ascii_hexdigit b) × (0 < most) × (value * 16 + digit_value b < 2 ^ 64)
    by_digits [] is = absurd (omega (arith, some, ap length is))
    by_digits (c ∷ digits) is = elim (digits_first most value size b text rest) [
      | inl found ↦ (
        found.0,
        found.1,
        omega (arith, value_grows (value * 16 + digit_value b) found.2.digits, found.2.gives, found.2.fits),
      )
      | inr found ↦
          let split : b ∷ text ≡ c ∷ (digits ++ rest.after) = rest.split ∙ ap (λ l. l ++ rest.after) is in
          let same : b ≡ c = cc split in
          let digit = All-head (λ v. is_ascii_hexdigit v ≡ true) c digits (subst (AllPass is_ascii_hexdigit) is rest.each) in
          absurd (pad_at_digit b text (rw same digit) found.0)
    ]

-- a digit leads to the same with or without others before it
pub digits_at_digit : (most value size b : ℕ) (text : List ℕ) → IsTrue (is_ascii_hexdigit b)
    → IsRestOfDigits most value size (b ∷ text) ↔ IsRestOfSize most value size (b ∷ text)
digits_at_digit most value size b text digit = (
  λ rest. elim (digits_first most value size b text rest) [
    | inl found ↦ digits_more most value size b text digit found.1 found.2
    | inr found ↦ absurd (pad_at_digit b text digit found.0)
  ],
  λ rest. rest.0,
)

-- any other byte follows the size
pub digits_at_other : (most value size b : ℕ) (text : List ℕ) → value < 2 ^ 64 → (IsTrue (is_ascii_hexdigit b) → ⊥)
    → IsRestOfDigits most value size (b ∷ text) ↔ (IsRestOfPad (b ∷ text) × (size ≡ value))
digits_at_other most value size b text fits other = (
  λ rest. elim (digits_first most value size b text rest) [ inl found ↦ absurd (other found.0) | inr found ↦ found ],
  λ rest. digits_none most value size (b ∷ text) (omega (arith, fits, rest.1)) rest.0 rest.1,
)

-- ---- the whole line

one_holds : (x y : Bool) → (x || y) ≡ true → (x ≡ true) ⊎ (y ≡ true)
one_holds true y e = inl refl
one_holds false y e = inr e

in_range : (low high c : ℕ) → is_in_range low high c ≡ true → (low ≤ c) × (c ≤ high)
in_range low high c e = (grind (arith, nat_tests), grind (arith, nat_tests))

decimal_value : (c : ℕ) → 48 ≤ c → c ≤ 57 → digit_value c < 16
decimal_value c low high = grind (arith, nat_tests)

upper_value : (c : ℕ) → 65 ≤ c → c ≤ 70 → digit_value c < 16
upper_value c low high = grind (arith, nat_tests)

lower_value : (c : ℕ) → 97 ≤ c → c ≤ 102 → digit_value c < 16
lower_value c low high = grind (arith, nat_tests)

hex_value : (c : ℕ) → is_ascii_hexdigit c ≡ true → digit_value c < 16
hex_value c hex = elim (one_holds (is_in_range 48 57 c || is_in_range 65 70 c) (is_in_range 97 102 c) hex) [
  | inl first ↦ elim (one_holds (is_in_range 48 57 c) (is_in_range 65 70 c) first) [
    | inl is ↦ let range = in_range 48 57 c is in decimal_value c range.0 range.1
    | inr is ↦ let range = in_range 65 70 c is in upper_value c range.0 range.1
  ]
  | inr is ↦ let range = in_range 97 102 c is in lower_value c range.0 range.1
]

hex_digits : (digits : List ℕ) → AllPass is_ascii_hexdigit digits → AllDigits 16 digits
hex_digits [] all = tt
hex_digits (c ∷ digits) all =
    let hex : is_ascii_hexdigit c ≡ true = All-head (λ v. is_ascii_hexdigit v ≡ true) c digits all in
    (hex_value c hex, hex_digits digits (All-tail (λ v. is_ascii_hexdigit v ≡ true) c digits all))

-- the number of sixteen digits fits
sixteen_fit : (digits : List ℕ) → AllPass is_ascii_hexdigit digits → length digits ≤ 16 → digits_value 16 digits < 2 ^ 64
sixteen_fit digits all few = omega (arith, digits_value-lt 16 digits (hex_digits digits all), pow-le-pow_right {n = 16} (omega arith) few)

line_print : (l : ChunkLine) → print_chunk_line l ++ [] ≡ l.digits ++ (l.pad ++ (print_extension l.extension ++ 13 ∷ 10 ∷ []))
unfolding print_chunk_line
line_print l = simp (append_assoc, append-nil)

-- a line is what may follow at its start, within the limit
pub line_is : (size : ℕ) (text : List ℕ) → IsLineOf size text ↔ (IsRestOfSize 16 0 size text × (length text ≤ 1024))
line_is size text = (
  λ is.
      let l = is.line in
      let good : IsChunkLine l = is.reads.0 in (
        (
          record {
            digits = l.digits;
            after = l.pad ++ (print_extension l.extension ++ 13 ∷ 10 ∷ []);
            split = is.reads.1 ∙ line_print l;
            each = good.digits.2;
            few = good.digits.1;
            gives = is.gives;
            fits = omega (arith, is.gives, sixteen_fit l.digits good.digits.2 good.digits.1);
            is_after = (l.pad, l.extension, good.pad, good.extension, refl);
          },
          good.digits.0,
        ),
        is.short,
      ),
  λ found.
      let rest = found.0.0 in
      let l : ChunkLine = record { digits = rest.digits; pad = rest.is_after.0; extension = rest.is_after.1 } in
      let good : IsChunkLine l = record { digits = (found.0.1, rest.few, rest.each); pad = rest.is_after.2; extension = rest.is_after.3 } in
      record {
        line = l;
        reads = (good, rest.split ∙ ap (λ t. rest.digits ++ t) rest.is_after.4 ∙ sym (line_print l));
        gives = rest.gives;
        short = found.1;
      },
)

-- ---- what may come

size_zero : (most value : ℕ) → 0 < most → value * 16 < 2 ^ 64 → IsRestOfSize most value (value * 16 + 0) (48 ∷ 13 ∷ 10 ∷ [])
size_zero most value some fits =
    digits_more most value (value * 16 + 0) 48 (13 ∷ 10 ∷ []) refl some (digits_none (most - 1) (value * 16 + 0) (value * 16 + 0) (13 ∷ 10 ∷ []) (omega (arith, fits)) pad_return refl)

-- at the start of a line something may come
pub start_goes_on : (part : LinePart) → part ≡ record { place = Start; size = 0; digits = 16; bytes = 1024 } → GoesOn part
start_goes_on part is = subst GoesOn (sym is) (0, 48, 13 ∷ 10 ∷ [], (size_zero 16 0 (omega arith) (omega arith), omega arith))

-- elsewhere too, if there is room for the least, but at the end
pub goes_on : (part : LinePart) → (part.place ≡ Start → ⊥) → (part.place ≡ End → ⊥) → part.size < 2 ^ 64 → least part.place ≤ part.bytes → GoesOn part
goes_on part begun open_yet fits room = by_place part.place refl
  where
    by_place : (place : LinePlace) → place ≡ part.place → GoesOn part
    by_place Start is = absurd (begun (sym is))
    by_place Digits is = (part.size, 13, 10 ∷ [], (rw (sym is) (digits_none part.digits part.size part.size _ fits pad_return refl), omega (arith, ap least is, room)))
    by_place Pad is = (part.size, 13, 10 ∷ [], (rw (sym is) (pad_return, refl), omega (arith, ap least is, room)))
    by_place Extension is = (part.size, 13, 10 ∷ [], (rw (sym is) (extension_return, refl), omega (arith, ap least is, room)))
    by_place Return is = (part.size, 10, [], (rw (sym is) (refl, refl), omega (arith, ap least is, room)))
    by_place End is = absurd (open_yet (sym is))

-- what may follow is no shorter than the least
pub least_rest : (part : LinePart) (size : ℕ) (text : List ℕ) → IsFree part size text → least part.place ≤ length text
least_rest part size text free = by_place part.place refl
  where
    pad_length : (t : List ℕ) → IsRestOfPad t → 2 ≤ length t
    pad_length t (pad, extension, all, is, split) =
        omega (arith, ap length split, length-append pad (print_extension extension ++ 13 ∷ 10 ∷ []), length-append (print_extension extension) (13 ∷ 10 ∷ []))

    digits_length : (rest : IsRestOfDigits part.digits part.size size text) → length rest.digits + 2 ≤ length text
    digits_length rest = omega (arith, ap length rest.split, length-append rest.digits rest.after, pad_length rest.after rest.is_after)

    by_place : (place : LinePlace) → place ≡ part.place → least part.place ≤ length text
    by_place Start is = let rest = rw (sym is) at free in omega (arith, ap least is, digits_length rest.0, rest.1)
    by_place Digits is = let rest = rw (sym is) at free in omega (arith, ap least is, digits_length rest)
    by_place Pad is = let rest = rw (sym is) at free in omega (arith, ap least is, pad_length text rest.0)
    by_place Extension is =
        let rest = rw (sym is) at free in
        omega (arith, ap least is, ap length rest.0.2, length-append rest.0.0 (13 ∷ 10 ∷ []))
    by_place Return is = let rest = rw (sym is) at free in omega (arith, ap least is, ap length rest.0)
    by_place End is = omega (arith, ap least is)

-- what leads to a state for one kind of texts does for another with the same texts of this byte
pub leads_same : (Is As : ℕ → List ℕ → Type 0) (byte : ℕ) (result : Option LinePart)
    → ((size : ℕ) (text : List ℕ) → As size (byte ∷ text) ↔ Is size (byte ∷ text)) → ByteLeads Is byte result → ByteLeads As byte result
leads_same Is As byte None same leads = λ size text rest. leads size text ((same size text).0 rest)
leads_same Is As byte (Some next) same leads =
    (leads.0, λ size text. (λ rest. (leads.1 size text).0 ((same size text).0 rest), λ rest. (same size text).1 ((leads.1 size text).1 rest)))
