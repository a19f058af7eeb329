-- Rows of the audit that the tables can't tell apart have one line, and fit the same conditions.
use Rattle.std.proofs.Common.{◌≡◌, ℕ, zero, suc, ◌+◌, ◌-◌, ◌≤◌, max, min, List, [], ◌∷◌, ◌++◌, append_assoc, take, drop, length, refl, sym, ap, ◌∙◌, arith, Option, None, Some, Bool, true, false, length-take, length-append}
use Rattle.std.specs.Prelude.{◌==◌, ◌&&◌, codes, decimal, get_or, option_map, unwrap_or, if◌then◌else◌}
use Rattle.std.specs.List.{join_with_byte}
use Rattle.std.specs.Option.{option_copied}
use Rattle.std.proofs.lemmas.List.{drop-drop, drop-take}
use Rattle.sqlite.specs.declared.types.Value.TheVariants.{Text}
use Rattle.sqlite.specs.Values.{or_null}
use Rattle.serde_json.specs.Data.{number as number_value, string, object, no_members, member}
use Rattle.serde_json.specs.Written.{compact_text}
use Rattle.scim_schema.specs.declared.Kind.{Kind}
use Rattle.scim_schema.specs.declared.Kind.TheVariants.{User, Group}
use Rattle.scim_schema.specs.declared.Op.{Op}
use Rattle.scim_schema.specs.declared.Op.TheVariants.{Read, Create, Modify, Delete}
use Rattle.scim_schema.specs.Names.{op_name, kind_name}
use Rattle.scim_text.specs.Moments.{moment_text}
use Rattle.scim_cell.specs.Ids.{id_text}
use Rattle.scim_audit.specs.declared.refusals.Refusal.{Refusal}
use Rattle.scim_audit.specs.declared.refusals.Refusal.TheVariants.{BadHead, TooLarge, BadFraming, UnknownCoding, NoRoute, NotSupported, BadMethod, NoToken, Syntax, Filter, Path, MessageValue, NotFound, Denied, Mutability, NoTarget, ResultValue, Taken, Widens, IdInUse, Store as NoStore}
use Rattle.scim_audit.specs.declared.audit_rows.Decided.{Decided}
use Rattle.scim_audit.specs.declared.audit_rows.Decided.TheVariants.{Allow, Deny, Hidden, Absent, Refused}
use Rattle.scim_audit.specs.declared.audit_rows.AuditRow.{AuditRow}
use Rattle.scim_audit.specs.Refusals.{number_of}
use Rattle.scim_audit.specs.Rows.{decided_name, no_word, leaf_path, refusal_mark, rule_word, refusal_word, row_words, row_line}
use Rattle.scim_audit_listing.specs.declared.filters.AuditFilter.{AuditFilter}
use Rattle.scim_audit_listing.specs.declared.listings.LineFormat.{LineFormat}
use Rattle.scim_audit_listing.specs.declared.listings.LineFormat.TheVariants.{Words, Json}
use Rattle.scim_audit_listing.specs.Filters.{fits, has_refusal, is_of_client, is_since}
use Rattle.scim_audit_listing.specs.JsonRows.{number_data, row_data, text_data}
use Rattle.scim_audit_listing.specs.Listings.{Numbered, fitting, fitting_rows, line_text, lines}
use Rattle.scim_audit_listing.proofs.Facts.{fitting_block}
use Rattle.scim_shelf.specs.Stores.{Store}
use Rattle.scim_store_tables.specs.Audit.{number}
use Rattle.scim_store_rows.specs.Audit.{kind_number, op_number, decided_number, refusal_number, audit_row, audit_rows}
use Rattle.scim_store_rows.specs.Auditing.{AreRowsFrom}
use Rattle.scim_store_rows.proofs.Facts.{length-audit_rows}
use Rattle.scim_store_rows.proofs.Facts.{drop-audit_rows, take-audit_rows}

-- ---- each word follows from what the table keeps

kind_from : (kind : Kind) → kind_name kind ≡ get_or (kind_name User ∷ kind_name Group ∷ []) (kind_number kind) []
kind_from User = refl
kind_from Group = refl

op_from : (op : Op) → op_name op ≡ get_or (op_name Read ∷ op_name Create ∷ op_name Modify ∷ op_name Delete ∷ []) (op_number op) []
op_from Read = refl
op_from Create = refl
op_from Modify = refl
op_from Delete = refl

decided_from : (decided : Decided)
    → decided_name decided ≡ get_or (decided_name Allow ∷ decided_name Deny ∷ decided_name Hidden ∷ decided_name Absent ∷ decided_name Refused ∷ []) (decided_number decided) []
decided_from Allow = refl
decided_from Deny = refl
decided_from Hidden = refl
decided_from Absent = refl
decided_from Refused = refl

-- the mark of the refusal with a place among all
abbrev mark_at : ℕ → List ℕ
mark_at place = codes "F" ++ decimal (place + 1)

mark_from : (refusal : Refusal) → refusal_mark refusal ≡ mark_at (refusal_number refusal)
mark_from BadHead = refl
mark_from TooLarge = refl
mark_from BadFraming = refl
mark_from UnknownCoding = refl
mark_from NoRoute = refl
mark_from NotSupported = refl
mark_from (BadMethod methods) = refl
mark_from NoToken = refl
mark_from Syntax = refl
mark_from Filter = refl
mark_from Path = refl
mark_from MessageValue = refl
mark_from NotFound = refl
mark_from Denied = refl
mark_from Mutability = refl
mark_from NoTarget = refl
mark_from ResultValue = refl
mark_from Taken = refl
mark_from Widens = refl
mark_from IdInUse = refl
mark_from NoStore = refl

refusal_from : (refusal : Option Refusal) → refusal_word refusal ≡ unwrap_or (option_map mark_at (option_map refusal_number refusal)) no_word
refusal_from None = refl
refusal_from (Some refusal) = mark_from refusal

-- a text or a number that may be lacking is what the table has
text_kept : (a b : Option (List ℕ)) → or_null Text a ≡ or_null Text b → a ≡ b
text_kept None None same = refl
text_kept None (Some b) same = cc
text_kept (Some a) None same = cc
text_kept (Some a) (Some b) same = cc

number_kept : (a b : Option ℕ) → or_null number a ≡ or_null number b → a ≡ b
number_kept None None same = refl
number_kept None (Some b) same = cc
number_kept (Some a) None same = cc
number_kept (Some a) (Some b) same = cc

kind_same : (a b : Kind) → kind_number a ≡ kind_number b → kind_name a ≡ kind_name b
kind_same a b same = kind_from a ∙ ap (λ k. get_or (kind_name User ∷ kind_name Group ∷ []) k []) same ∙ sym (kind_from b)

op_same : (a b : Op) → op_number a ≡ op_number b → op_name a ≡ op_name b
op_same a b same = op_from a ∙ ap (λ k. get_or (op_name Read ∷ op_name Create ∷ op_name Modify ∷ op_name Delete ∷ []) k []) same ∙ sym (op_from b)

decided_same : (a b : Decided) → decided_number a ≡ decided_number b → decided_name a ≡ decided_name b
decided_same a b same =
    decided_from a ∙ ap (λ k. get_or (decided_name Allow ∷ decided_name Deny ∷ decided_name Hidden ∷ decided_name Absent ∷ decided_name Refused ∷ []) k []) same ∙ sym (decided_from b)

-- ---- lines

words_same : (n : ℕ) (a b : AuditRow) → audit_row n a ≡ audit_row n b → row_words n a ≡ row_words n b
words_same n a b same =
    let moment : a.moment ≡ b.moment = cc in
    let client : a.client ≡ b.client = cc in
    let op : op_number a.op ≡ op_number b.op = cc in
    let kind : kind_number a.kind ≡ kind_number b.kind = cc in
    let id = text_kept (option_map id_text a.id) (option_map id_text b.id) (cc) in
    let decided : decided_number a.decided ≡ decided_number b.decided = cc in
    let rule = number_kept a.rule b.rule (cc) in
    let leaf = text_kept (option_map leaf_path a.leaf) (option_map leaf_path b.leaf) (cc) in
    let refusal = number_kept (option_map refusal_number a.refusal) (option_map refusal_number b.refusal) (cc) in
    let op_is = op_same a.op b.op op in
    let kind_is = kind_same a.kind b.kind kind in
    let decided_is = decided_same a.decided b.decided decided in
    let refusal_is : refusal_word a.refusal ≡ refusal_word b.refusal = refusal_from a.refusal ∙ ap (λ places. unwrap_or (option_map mark_at places) no_word) refusal ∙ sym (refusal_from b.refusal) in
    (λ i. decimal n ∷ moment_text (moment i) ∷ client i ∷ op_is i ∷ kind_is i ∷ unwrap_or (id i) no_word ∷ decided_is i ∷ rule_word (rule i) ∷ unwrap_or (leaf i) no_word ∷ refusal_is i ∷ [])

line_same : (n : ℕ) (a b : AuditRow) → audit_row n a ≡ audit_row n b → row_line n a ≡ row_line n b
unfolding row_line
line_same n a b same = ap (join_with_byte 32) (words_same n a b same)

-- ---- JSON

marks_from : (refusal : Option Refusal) → option_map refusal_mark refusal ≡ option_map mark_at (option_map refusal_number refusal)
marks_from None = refl
marks_from (Some refusal) = ap Some (mark_from refusal)

data_same : (n : ℕ) (a b : AuditRow) → audit_row n a ≡ audit_row n b → row_data n a ≡ row_data n b
unfolding row_data
data_same n a b same =
    let moment : a.moment ≡ b.moment = cc in
    let client : a.client ≡ b.client = cc in
    let op : op_number a.op ≡ op_number b.op = cc in
    let kind : kind_number a.kind ≡ kind_number b.kind = cc in
    let id = text_kept (option_map id_text a.id) (option_map id_text b.id) (cc) in
    let decided : decided_number a.decided ≡ decided_number b.decided = cc in
    let rule = number_kept a.rule b.rule (cc) in
    let leaf = text_kept (option_map leaf_path a.leaf) (option_map leaf_path b.leaf) (cc) in
    let refusal = number_kept (option_map refusal_number a.refusal) (option_map refusal_number b.refusal) (cc) in
    let op_is = op_same a.op b.op op in
    let kind_is = kind_same a.kind b.kind kind in
    let decided_is = decided_same a.decided b.decided decided in
    let refusal_is : option_map refusal_mark a.refusal ≡ option_map refusal_mark b.refusal = marks_from a.refusal ∙ ap (option_map mark_at) refusal ∙ sym (marks_from b.refusal) in
    (λ i. object (member (codes "client") (string (client i)) (member (codes "decision") (string (decided_is i)) (member (codes "id") (text_data (id i)) (member (codes "kind") (string (kind_is i)) (member (codes "leaf") (text_data (leaf i))
    (member (codes "moment") (string (moment_text (moment i))) (member (codes "number") (number_data (Some n)) (member (codes "op") (string (op_is i)) (member (codes "refusal") (text_data (refusal_is i)) (member (codes "rule") (number_data (rule i)) no_members)))))))))))

text_same : (format : LineFormat) (n : ℕ) (a b : AuditRow) → audit_row n a ≡ audit_row n b → line_text format n a ≡ line_text format n b
text_same Words n a b same = line_same n a b same
text_same Json n a b same = ap compact_text (data_same n a b same)

-- ---- conditions

number_from : (refusal : Refusal) → number_of refusal ≡ refusal_number refusal + 1
number_from BadHead = refl
number_from TooLarge = refl
number_from BadFraming = refl
number_from UnknownCoding = refl
number_from NoRoute = refl
number_from NotSupported = refl
number_from (BadMethod methods) = refl
number_from NoToken = refl
number_from Syntax = refl
number_from Filter = refl
number_from Path = refl
number_from MessageValue = refl
number_from NotFound = refl
number_from Denied = refl
number_from Mutability = refl
number_from NoTarget = refl
number_from ResultValue = refl
number_from Taken = refl
number_from Widens = refl
number_from IdInUse = refl
number_from NoStore = refl

-- whether the refusal with a place among all has this number
abbrev has_place : Option ℕ → Option ℕ → Bool
has_place None place = true
has_place (Some n) None = false
has_place (Some n) (Some place) = place + 1 == n

place_from : (n : Option ℕ) (refusal : Option Refusal) → has_refusal n refusal ≡ has_place n (option_map refusal_number refusal)
place_from None refusal = refl
place_from (Some n) None = refl
place_from (Some n) (Some refusal) = ap (λ (k : ℕ). k == n) (number_from refusal)

fits_same : (which : AuditFilter) (n : ℕ) (a b : AuditRow) → audit_row n a ≡ audit_row n b → fits which a ≡ fits which b
fits_same which n a b same =
    let moment : a.moment ≡ b.moment = cc in
    let client : a.client ≡ b.client = cc in
    let refusal = number_kept (option_map refusal_number a.refusal) (option_map refusal_number b.refusal) (cc) in
    let refusal_is = place_from which.refusal a.refusal ∙ ap (has_place which.refusal) refusal ∙ sym (place_from which.refusal b.refusal) in
    (λ i. is_of_client (option_copied which.client) (client i) && is_since which.since (moment i) && refusal_is i)

-- ---- rows that the tables can't tell apart

module _ (which : AuditFilter) (format : LineFormat) where
  -- a line more in front of both, where a test passes
  line_more : (b : Bool) (m : ℕ) (x y : Numbered) (xs ys : List Numbered) → line_text format x.0 x.1 ≡ line_text format y.0 y.1 → ((k : ℕ) → lines format (take k xs) ≡ lines format (take k ys))
      → lines format (take m (if b then x ∷ xs else xs)) ≡ lines format (take m (if b then y ∷ ys else ys))
  line_more true zero x y xs ys line more = refl
  line_more true (suc m) x y xs ys line more = (λ i. line i ++ codes "\n" ++ more m i)
  line_more false m x y xs ys line more = more m

  alike_lines : (m n : ℕ) (rows own : List AuditRow) → audit_rows n rows ≡ audit_rows n own → lines format (take m (fitting_rows which n rows)) ≡ lines format (take m (fitting_rows which n own))
  alike_lines m n [] [] same = refl
  alike_lines m n [] (b ∷ own) same = cc
  alike_lines m n (a ∷ rows) [] same = cc
  alike_lines m n (a ∷ rows) (b ∷ own) same =
      let first : audit_row n a ≡ audit_row n b = cc in
      let rest : audit_rows (n + 1) rows ≡ audit_rows (n + 1) own = cc in
      line_more (fits which a) m (n, a) (n, b) (fitting_rows which (n + 1) rows) (fitting_rows which (n + 1) own) (text_same format n a b first) (λ k. alike_lines k (n + 1) rows own rest)
      ∙ ap (λ (t : Bool). lines format (take m (if t then (n, b) ∷ fitting_rows which (n + 1) own else fitting_rows which (n + 1) own))) (fits_same which n a b first)

  -- the lines of the first rows of two lists
  lines_split : (m : ℕ) (xs ys : List Numbered) → lines format (take m (xs ++ ys)) ≡ lines format (take m xs) ++ lines format (take (m - min m (length xs)) ys)
  lines_split zero xs ys = let none : 0 ≡ 0 - min 0 (length xs) = omega arith in ap (λ (k : ℕ). lines format (take k ys)) none
  lines_split (suc m) [] ys = let all : suc m ≡ suc m - min (suc m) 0 = omega arith in ap (λ (k : ℕ). lines format (take k ys)) all
  lines_split (suc m) (x ∷ xs) ys =
      let line = line_text format x.0 x.1 ++ codes "\n" in
      let left : m - min m (length xs) ≡ suc m - min (suc m) (suc (length xs)) = omega arith in
      ap (λ (t : List ℕ). line ++ t) (lines_split m xs ys)
      ∙ sym (append_assoc line (lines format (take m xs)) (lines format (take (m - min m (length xs)) ys)))
      ∙ ap (λ (k : ℕ). line ++ lines format (take m xs) ++ lines format (take k ys)) left

module _ (which : AuditFilter) where
  count_more : (b : Bool) (x y : Numbered) (xs ys : List Numbered) → length xs ≡ length ys → length (if b then x ∷ xs else xs) ≡ length (if b then y ∷ ys else ys)
  count_more true x y xs ys same = ap suc same
  count_more false x y xs ys same = same

  alike_count : (n : ℕ) (rows own : List AuditRow) → audit_rows n rows ≡ audit_rows n own → length (fitting_rows which n rows) ≡ length (fitting_rows which n own)
  alike_count n [] [] same = refl
  alike_count n [] (b ∷ own) same = cc
  alike_count n (a ∷ rows) [] same = cc
  alike_count n (a ∷ rows) (b ∷ own) same =
      let first : audit_row n a ≡ audit_row n b = cc in
      let rest : audit_rows (n + 1) rows ≡ audit_rows (n + 1) own = cc in
      count_more (fits which a) (n, a) (n, b) (fitting_rows which (n + 1) rows) (fitting_rows which (n + 1) own) (alike_count (n + 1) rows own rest)
      ∙ ap (λ (t : Bool). length (if t then (n, b) ∷ fitting_rows which (n + 1) own else fitting_rows which (n + 1) own)) (fits_same which n a b first)

-- ---- a block of the rows of a store

module _ (which : AuditFilter) (from count : ℕ) (store : Store) (rows : List AuditRow) (low : 1 ≤ from) (are : AreRowsFrom from count store rows) where
  -- the tables can't tell the rows that were read from the store's own
  read_own : audit_rows from rows ≡ audit_rows from (take count (drop (from - 1) store.audit))
  read_own =
      let there = drop (from - 1) store.audit in
      let first : from ≡ max from 1 = omega (arith, low) in
      ap (λ (n : ℕ). audit_rows n rows) first
      ∙ (are ∙ ap (take count) (drop-audit_rows 1 from (from - 1) store.audit (omega (arith, low))) ∙ take-audit_rows from count there)

  length_own : length rows ≡ length (take count (drop (from - 1) store.audit))
  length_own = sym (length-audit_rows from rows) ∙ ap length read_own ∙ length-audit_rows from (take count (drop (from - 1) store.audit))

  -- no more are read than asked for
  pub few_read : length rows ≤ count
  few_read = let long = length_own ∙ length-take count (drop (from - 1) store.audit) in omega (arith, long)

  -- the lines of the first rows that fit: those of the block, and those after it
  pub block_lines : (format : LineFormat) (n : ℕ) → lines format (take n (fitting which from store.audit)) ≡ lines format (take n (fitting_rows which from rows)) ++ lines format (take (n - min n (length (fitting_rows which from rows))) (fitting which (from + count) store.audit))
  block_lines format n =
      let own = fitting_rows which from (take count (drop (from - 1) store.audit)) in
      let rest = fitting which (from + count) store.audit in
      let same = alike_lines which format n from rows (take count (drop (from - 1) store.audit)) read_own in
      let long = alike_count which from rows (take count (drop (from - 1) store.audit)) read_own in
      ap (λ (xs : List Numbered). lines format (take n xs)) (fitting_block which store.audit from count low)
      ∙ lines_split which format n own rest
      ∙ (λ i. sym same i ++ lines format (take (n - min n (sym long i)) rest))

  -- how many fit: those of the block, and those after it
  pub block_count : length (fitting which from store.audit) ≡ length (fitting_rows which from rows) + length (fitting which (from + count) store.audit)
  block_count =
      let own = fitting_rows which from (take count (drop (from - 1) store.audit)) in
      let rest = fitting which (from + count) store.audit in
      let long = alike_count which from rows (take count (drop (from - 1) store.audit)) read_own in
      ap length (fitting_block which store.audit from count low) ∙ length-append own rest ∙ ap (λ (k : ℕ). k + length rest) (sym long)

  -- how many fit from a row of the block on
  pub block_from : (index : ℕ) → index ≤ length rows → length (fitting which (from + index) store.audit) ≡ length (fitting_rows which (from + index) (drop index rows)) + length (fitting which (from + count) store.audit)
  block_from index within =
      let there = drop (from - 1) store.audit in
      let few = few_read in
      let left = count - index in
      let all : count ≡ index + left = omega (arith, within, few) in
      let at : from + index - 1 ≡ from - 1 + index = omega (arith, low) in
      let later = drop index (take count there) in
      let later_is : later ≡ take left (drop (from + index - 1) store.audit) = ap (λ (k : ℕ). drop index (take k there)) all ∙ drop-take index left there ∙ ap (take left) (drop-drop index (from - 1) store.audit ∙ ap (λ (k : ℕ). drop k store.audit) (sym at)) in
      let rows_same : audit_rows (from + index) (drop index rows) ≡ audit_rows (from + index) later = sym (drop-audit_rows from (from + index) index rows refl) ∙ ap (drop index) read_own ∙ drop-audit_rows from (from + index) index (take count there) refl in
      let long = alike_count which (from + index) (drop index rows) later rows_same in
      let rest = fitting which (from + count) store.audit in
      let end : from + index + left ≡ from + count = omega (arith, all) in
      ap length (fitting_block which store.audit (from + index) left (omega (arith, low)))
      ∙ length-append (fitting_rows which (from + index) (take left (drop (from + index - 1) store.audit))) (fitting which (from + index + left) store.audit)
      ∙ (λ i. length (fitting_rows which (from + index) (sym later_is i)) + length (fitting which (end i) store.audit))
      ∙ ap (λ (k : ℕ). k + length rest) (sym long)
