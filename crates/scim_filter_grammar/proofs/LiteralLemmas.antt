-- JSON strings in front of bytes.
use Rattle.std.proofs.Common.{◌≡◌, ℕ, ◌-◌, Bool, true, false, cond, eqb, List, [], ◌∷◌, ◌++◌, length, drop, take, Option, Some, None, Ok, Err, refl, sym, ap, subst, ◌∙◌, arith, length-append}
use Rattle.std.specs.Prelude.{option_and_then, ok_or}
use Rattle.std.specs.Str.{IsUtf8, is_utf8}
use Rattle.std.proofs.lemmas.Str.{IsUtf8-from_is_utf8, is_utf8-from_IsUtf8}
use Rattle.std.proofs.Math.Seq.{take-append_seam}
use Rattle.serde_json.specs.Data.{Data, null, boolean, number, string, array, object}
use Rattle.serde_json.specs.Read.{read}
use Rattle.serde_json.specs.Find.{as_str}
use Rattle.scim_filter_grammar.specs.Bytes.{past_quote}
use Rattle.scim_filter_grammar.specs.Reading.{Syntax, string_of}
use Rattle.std.proofs.lemmas.List.{append-nil}
use Rattle.scim_filter_grammar.proofs.FrontLemmas.{chosen}

-- what stands in front of the quote that closes, with that quote
pub record Closes (bytes rest : List ℕ) : Type 0 where
  pub body : List ℕ
  pub whole : bytes ≡ body ++ rest
  pub closes : (more : List ℕ) → past_quote (body ++ more) ≡ Some more

closes_by : (b : ℕ) (bs rest : List ℕ) (c : Closes bs rest) → eqb b 34 ≡ false → eqb b 92 ≡ false → Closes (b ∷ bs) rest
closes_by b bs rest c h k = record { body = b ∷ c.body; whole = ap (λ (t : List ℕ). b ∷ t) c.whole; closes = λ more. rw (h, k) (c.closes more) }

closes_escaped : (b d : ℕ) (bs rest : List ℕ) (c : Closes bs rest) → eqb b 34 ≡ false → eqb b 92 ≡ true → Closes (b ∷ d ∷ bs) rest
closes_escaped b d bs rest c h k = record { body = b ∷ d ∷ c.body; whole = ap (λ (t : List ℕ). b ∷ d ∷ t) c.whole; closes = λ more. rw (h, k) (c.closes more) }

closes_now : (b : ℕ) (bs rest : List ℕ) → eqb b 34 ≡ true → bs ≡ rest → Closes (b ∷ bs) rest
closes_now b bs rest h e = record { body = b ∷ []; whole = ap (λ (t : List ℕ). b ∷ t) e; closes = λ more. rw h refl }

pub closes_at : (bytes rest : List ℕ) → past_quote bytes ≡ Some rest → Closes bytes rest
closes_at [] rest e = absurd cc
closes_at (b ∷ []) rest e =
    let at : (q s : Bool) → eqb b 34 ≡ q → eqb b 92 ≡ s → cond q (Some []) (cond s None None) ≡ Some rest → Closes (b ∷ []) rest =
    λ q. elim q as (λ v. (s : Bool) → eqb b 34 ≡ v → eqb b 92 ≡ s → cond v (Some []) (cond s None None) ≡ Some rest → Closes (b ∷ []) rest) [
      | true ↦ λ s h k f. let same : [] ≡ rest = cc in closes_now b [] rest h same
      | false ↦ λ s. elim s as (λ w. eqb b 34 ≡ false → eqb b 92 ≡ w → cond w None None ≡ Some rest → Closes (b ∷ []) rest) [ true ↦ λ h k f. absurd cc | false ↦ λ h k f. absurd cc ]
    ]
    in at (eqb b 34) (eqb b 92) refl refl e
closes_at (b ∷ d ∷ ds) rest e =
    let at : (q s : Bool) → eqb b 34 ≡ q → eqb b 92 ≡ s → cond q (Some (d ∷ ds)) (cond s (past_quote ds) (past_quote (d ∷ ds))) ≡ Some rest → Closes (b ∷ d ∷ ds) rest =
    λ q. elim q as (λ v. (s : Bool) → eqb b 34 ≡ v → eqb b 92 ≡ s → cond v (Some (d ∷ ds)) (cond s (past_quote ds) (past_quote (d ∷ ds))) ≡ Some rest → Closes (b ∷ d ∷ ds) rest) [
      | true ↦ λ s h k f. let same : d ∷ ds ≡ rest = cc in closes_now b (d ∷ ds) rest h same
      | false ↦ λ s. elim s as (λ w. eqb b 34 ≡ false → eqb b 92 ≡ w → cond w (past_quote ds) (past_quote (d ∷ ds)) ≡ Some rest → Closes (b ∷ d ∷ ds) rest) [
        | true ↦ λ h k f. closes_escaped b d ds rest (closes_at ds rest f) h k
        | false ↦ λ h k f. closes_by b (d ∷ ds) rest (closes_at (d ∷ ds) rest f) h k
      ]
    ]
    in at (eqb b 34) (eqb b 92) refl refl e

-- whatever stands behind a string, its quote closes it
pub closes_before : (body rest : List ℕ) → past_quote body ≡ Some [] → past_quote (body ++ rest) ≡ Some rest
closes_before body rest e =
    let c = closes_at body [] e in
    let same : c.body ≡ body = sym (append-nil c.body) ∙ sym c.whole in
    subst (λ (t : List ℕ). past_quote (t ++ rest) ≡ Some rest) same (c.closes rest)

-- a string that was cut from the front
pub record CutString (bytes rest : List ℕ) : Type 0 where
  pub body : List ℕ
  pub text_is : take (length bytes - length rest) bytes ≡ 34 ∷ body
  pub closes : past_quote body ≡ Some []
  pub whole : bytes ≡ take (length bytes - length rest) bytes ++ rest

pub seam : (a rest : List ℕ) → take (length (a ++ rest) - length rest) (a ++ rest) ≡ a
seam a rest = let n : length (a ++ rest) - length rest ≡ length a = omega (arith, length-append a rest) in ap (λ (k : ℕ). take k (a ++ rest)) n ∙ take-append_seam a rest

pub quote_cut : (bytes rest : List ℕ) → bytes ≡ 34 ∷ drop 1 bytes → past_quote (drop 1 bytes) ≡ Some rest → CutString bytes rest
quote_cut bytes rest first e =
    let c = closes_at (drop 1 bytes) rest e in
    let whole : bytes ≡ (34 ∷ c.body) ++ rest = first ∙ ap (λ (t : List ℕ). 34 ∷ t) c.whole in
    let cut : take (length bytes - length rest) bytes ≡ 34 ∷ c.body = ap (λ (t : List ℕ). take (length t - length rest) t) whole ∙ seam (34 ∷ c.body) rest in
    record { body = c.body; text_is = cut; closes = ap past_quote (sym (append-nil c.body)) ∙ c.closes []; whole = whole ∙ ap (λ (t : List ℕ). t ++ rest) (sym cut) }

data_string : (o : Option Data) (s : List ℕ) → ok_or (option_and_then as_str o) Syntax ≡ Ok s → o ≡ Some (string s)
data_string None s e = absurd cc
data_string (Some null) s e = absurd cc
data_string (Some (boolean b)) s e = absurd cc
data_string (Some (number n)) s e = absurd cc
data_string (Some (string t)) s e = let same : t ≡ s = cc in ap (λ (u : List ℕ). Some (string u)) same
data_string (Some (array ds)) s e = absurd cc
data_string (Some (object ms)) s e = absurd cc

pub string_means : (text s : List ℕ) → string_of text ≡ Ok s → IsUtf8 text × (read text ≡ Some (string s))
unfolding string_of
string_means text s e =
    chosen (IsUtf8 text × (read text ≡ Some (string s))) (is_utf8 text) (ok_or (option_and_then as_str (read text)) Syntax) (Err Syntax) (Ok s) e
    (λ h f. (IsUtf8-from_is_utf8 text h, data_string (read text) s f))
    (λ _ f. absurd cc)

pub string_ok : (text s : List ℕ) (d : Data) → IsUtf8 text → read text ≡ Some d → Some s ≡ as_str d → string_of text ≡ Ok s
unfolding string_of
string_ok text s d u r a = let e : is_utf8 text ≡ true = is_utf8-from_IsUtf8 text u in rw (e, r) (subst (λ (o : Option (List ℕ)). ok_or o Syntax ≡ Ok s) a refl)

pub string_err : (text : List ℕ) → (IsUtf8 text → read text ≡ None) → string_of text ≡ Err Syntax
unfolding string_of
string_err text h =
    let at : (v : Bool) → is_utf8 text ≡ v → cond v (ok_or (option_and_then as_str (read text)) Syntax) (Err Syntax) ≡ Err Syntax =
    λ v. elim v as (λ w. is_utf8 text ≡ w → cond w (ok_or (option_and_then as_str (read text)) Syntax) (Err Syntax) ≡ Err Syntax) [
      | true ↦ λ e. rw (h (IsUtf8-from_is_utf8 text e)) refl
      | false ↦ λ e. refl
    ]
    in at (is_utf8 text) refl
