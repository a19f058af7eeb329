-- What stands at the front of bytes, and what is behind it.
use Rattle.std.proofs.Common.{◌≡◌, ℕ, suc, ◌<◌, Bool, true, false, cond, eqb, List, [], ◌∷◌, ◌++◌, length, drop, Option, Some, None, Result, Ok, Err, refl, sym, ap, subst, ◌∙◌, append_assoc, arith, length-append}
use Rattle.std.specs.Prelude.{slice_index, option_and_then, ◌&&◌, not}
use Rattle.std.proofs.lemmas.Bool.{eqb-true}
use Rattle.scim_filter_grammar.specs.Reading.{Fault}
use Rattle.scim_filter_grammar.specs.Bytes.{is_space, is_word_byte, front, behind, is_word}
use Rattle.scim_filter_grammar.specs.code.Cuts.{past_gap, past_join}
use Rattle.scim_filter_grammar.specs.Grammar.{IsBlank, IsGap, IsJoin}
use Rattle.scim_filter_grammar.specs.Reading.{◌>>=◌}

-- the value of a step that did not fail
pub bind_ok : {A B : Type 0} (r : Result A Fault) (f : A → Result B Fault) (y : B) → (r >>= f) ≡ Ok y → (x : A) × (r ≡ Ok x) × (f x ≡ Ok y)
bind_ok (Ok x) f y e = (x, refl, e)
bind_ok (Err d) f y e = absurd cc

pub bind_same : {A B : Type 0} (r : Result A Fault) (f g : A → Result B Fault) → ((x : A) → r ≡ Ok x → f x ≡ g x) → (r >>= f) ≡ (r >>= g)
bind_same (Ok x) f g h = h x refl
bind_same (Err d) f g h = refl

-- a test with an Ok on one side
pub ok_if : {A : Type 0} (b : Bool) (d : Fault) (x y : A) → cond b (Ok x) (Err d) ≡ Ok y → (b ≡ true) × (x ≡ y)
ok_if true d x y e = (refl, cc)
ok_if false d x y e = absurd cc

pub some_if : {A : Type 0} (b : Bool) (x y : A) → cond b (Some x) None ≡ Some y → (b ≡ true) × (x ≡ y)
some_if true x y e = (refl, cc)
some_if false x y e = absurd cc

pub some_if_rest : {A : Type 0} (b : Bool) (o : Option A) (y : A) → cond b o None ≡ Some y → (b ≡ true) × (o ≡ Some y)
some_if_rest true o y e = (refl, e)
some_if_rest false o y e = absurd cc

pub chosen : {A : Type 0} (P : Type 0) (b : Bool) (x y z : A) → cond b x y ≡ z → (b ≡ true → x ≡ z → P) → (b ≡ false → y ≡ z → P) → P
chosen P true x y z e f g = f refl e
chosen P false x y z e f g = g refl e

pub front-behind : (p : ℕ → Bool) (bytes : List ℕ) → bytes ≡ front p bytes ++ behind p bytes
front-behind p [] = refl
front-behind p (b ∷ bs) = elim (p b) as (λ v. b ∷ bs ≡ cond v (b ∷ front p bs) [] ++ cond v (behind p bs) (b ∷ bs)) [ true ↦ ap (λ (t : List ℕ). b ∷ t) (front-behind p bs) | false ↦ refl ]

pub blank_front : (bytes : List ℕ) → IsBlank (front is_space bytes)
blank_front [] = tt
blank_front (b ∷ bs) =
    let at : (v : Bool) → eqb b 32 ≡ v → IsBlank (cond v (b ∷ front is_space bs) []) =
    λ v e. elim v as (λ w. eqb b 32 ≡ w → IsBlank (cond w (b ∷ front is_space bs) [])) [ true ↦ λ h. (eqb-true _ _ h, blank_front bs) | false ↦ λ h. tt ] e
    in at (eqb b 32) refl

-- one or more spaces that were passed
pub record PassesGap (bytes rest : List ℕ) : Type 0 where
  pub gap : List ℕ
  pub is_gap : IsGap gap
  pub whole : bytes ≡ gap ++ rest

pub gap_takes : (bytes rest : List ℕ) → past_gap bytes ≡ Some rest → PassesGap bytes rest
gap_takes [] rest e = absurd cc
gap_takes (b ∷ bs) rest e =
    let s = some_if (eqb b 32) (behind is_space bs) rest e in
    record { gap = b ∷ front is_space bs; is_gap = (eqb-true _ _ s.0, blank_front bs); whole = ap (λ (t : List ℕ). b ∷ t) (front-behind is_space bs ∙ ap (λ (t : List ℕ). front is_space bs ++ t) s.1) }

-- a keyword with spaces on both sides that was passed
pub record PassesJoin (keyword bytes rest : List ℕ) : Type 0 where
  pub join : List ℕ
  pub is_join : IsJoin keyword join
  pub whole : bytes ≡ join ++ rest

option_then : {A B : Type 0} (o : Option A) (f : A → Option B) (y : B) → option_and_then f o ≡ Some y → (x : A) × (o ≡ Some x) × (f x ≡ Some y)
option_then (Some x) f y e = (x, refl, e)
option_then None f y e = absurd cc

pub join_takes : (keyword bytes rest : List ℕ) → past_join keyword bytes ≡ Some rest → PassesJoin keyword bytes rest
join_takes keyword bytes rest e =
    let o = option_then (past_gap bytes) (λ r. cond (is_word keyword (front is_word_byte r)) (past_gap (behind is_word_byte r)) None) rest e in
    let r = o.0 in
    let w = front is_word_byte r in
    let s = some_if_rest (is_word keyword w) (past_gap (behind is_word_byte r)) rest o.2 in
    let a = gap_takes bytes r o.1 in
    let b = gap_takes (behind is_word_byte r) rest s.1 in
    let parts : bytes ≡ a.gap ++ (w ++ (b.gap ++ rest)) = a.whole ∙ ap (λ (t : List ℕ). a.gap ++ t) (front-behind is_word_byte r ∙ ap (λ (t : List ℕ). w ++ t) b.whole) in
    let regroup : (a.gap ++ (w ++ b.gap)) ++ rest ≡ a.gap ++ (w ++ (b.gap ++ rest)) = simp append_assoc in
    record { join = a.gap ++ (w ++ b.gap); is_join = record { before = a.gap; word = w; after = b.gap; before_gap = a.is_gap; word_is = s.0; after_gap = b.is_gap; whole = refl }; whole = parts ∙ sym regroup }

gap_length : (gap : List ℕ) → IsGap gap → 0 < length gap
gap_length [] g = absurd g
gap_length (b ∷ bs) g = omega arith

pub join_shorter : (keyword bytes rest : List ℕ) → past_join keyword bytes ≡ Some rest → length rest < length bytes
join_shorter keyword bytes rest e =
    let p = join_takes keyword bytes rest e in
    let j = p.is_join in
    omega (arith, ap length p.whole, length-append p.join rest, ap length j.whole, length-append j.before (j.word ++ j.after), gap_length j.before j.before_gap)

-- a byte that a test found in front
pub first_is : (bytes : List ℕ) (c : ℕ) → eqb (slice_index bytes 0) (suc c) ≡ true → bytes ≡ suc c ∷ drop 1 bytes
first_is [] c e = let h : 0 ≡ suc c = eqb-true _ _ e in absurd (omega arith)
first_is (b ∷ bs) c e = ap (λ (x : ℕ). x ∷ bs) (eqb-true _ _ e)

-- the first byte that fails a test
pub behind_first : (p : ℕ → Bool) (bytes : List ℕ) (b : ℕ) (bs : List ℕ) → behind p bytes ≡ b ∷ bs → p b ≡ false
behind_first p [] b bs e = absurd cc
behind_first p (c ∷ cs) b bs e =
    let at : (v : Bool) → p c ≡ v → cond v (behind p cs) (c ∷ cs) ≡ b ∷ bs → p b ≡ false =
    λ v h. elim v as (λ w. p c ≡ w → cond w (behind p cs) (c ∷ cs) ≡ b ∷ bs → p b ≡ false) [ true ↦ λ _ f. behind_first p cs b bs f | false ↦ λ g f. let same : c ≡ b = cc in subst (λ x. p x ≡ false) same g ] h
    in at (p c) refl e

pub both_true : (a b : Bool) → a && b ≡ true → (a ≡ true) × (b ≡ true)
both_true true b e = (refl, e)
both_true false b e = absurd cc

pub not_true : (a : Bool) → not a ≡ true → a ≡ false
not_true true e = absurd cc
not_true false e = refl

pub not_false : (a : Bool) → not a ≡ false → a ≡ true
not_false true e = refl
not_false false e = absurd cc
