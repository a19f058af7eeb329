-- What is spelled is at the front of bytes, and what follows it is behind.
use Rattle.std.proofs.Common.{◌≡◌, ℕ, Bool, true, false, eqb, List, [], ◌∷◌, ◌++◌, Some, None, refl, sym, ap, subst, ◌∙◌, append_assoc}
use Rattle.std.specs.Prelude.{slice_index, ◌&&◌, ◌||◌, map, codes}
use Rattle.std.specs.List.{list_all}
use Rattle.std.specs.Char.{to_ascii_lowercase}
use Rattle.std.specs.Str.{bytes_eq}
use Rattle.std.proofs.lemmas.Bool.{eqb-true, false≢true}
use Rattle.std.proofs.lemmas.Slice.Eq.{bytes_eq-Decides}
use Rattle.scim_filter_grammar.specs.Bytes.{is_space, is_word_byte, front, behind, is_word}
use Rattle.scim_filter_grammar.specs.code.Cuts.{is_no_dot, past_gap, past_join}
use Rattle.scim_filter_grammar.specs.Grammar.{IsBlank, IsGap, IsJoin}
use Rattle.scim_filter_grammar.specs.Literals.{IsWord}
use Rattle.scim_filter_grammar.specs.Names.{is_letter, is_name_byte, is_plain_name, is_name}
use Rattle.scim_filter_grammar.proofs.FrontLemmas.{both_true}

-- nothing, or a byte that fails the test
abbrev pub StopsAt : (ℕ → Bool) → List ℕ → Type 0
StopsAt p [] = Unit {0}
StopsAt p (b ∷ bs) = p b ≡ false

pub front_again : (p : ℕ → Bool) (a rest : List ℕ) → list_all p a ≡ true → StopsAt p rest → front p (a ++ rest) ≡ a
front_again p [] [] h s = refl
front_again p [] (b ∷ bs) h s = rw s refl
front_again p (x ∷ a) rest h s = let t = both_true (p x) (list_all p a) h in let e : p x ≡ true = t.0 in rw e (ap (λ (r : List ℕ). x ∷ r) (front_again p a rest t.1 s))

pub behind_again : (p : ℕ → Bool) (a rest : List ℕ) → list_all p a ≡ true → StopsAt p rest → behind p (a ++ rest) ≡ rest
behind_again p [] [] h s = refl
behind_again p [] (b ∷ bs) h s = rw s refl
behind_again p (x ∷ a) rest h s = let t = both_true (p x) (list_all p a) h in let e : p x ≡ true = t.0 in rw e (behind_again p a rest t.1 s)

pub blank_all : (s : List ℕ) → IsBlank s → list_all is_space s ≡ true
blank_all [] h = refl
blank_all (b ∷ bs) h = rw (h.0) (blank_all bs h.1)

pub blank_again : (s rest : List ℕ) → IsBlank s → StopsAt is_space rest → behind is_space (s ++ rest) ≡ rest
blank_again s rest h stops = behind_again is_space s rest (blank_all s h) stops

pub gap_again : (g rest : List ℕ) → IsGap g → StopsAt is_space rest → past_gap (g ++ rest) ≡ Some rest
gap_again [] rest h stops = absurd h
gap_again (b ∷ bs) rest h stops = rw (h.0) (ap Some (blank_again bs rest h.1 stops))

pub gap_parts : (g rest : List ℕ) → IsGap g → StopsAt is_word_byte (g ++ rest)
gap_parts [] rest h = absurd h
gap_parts (b ∷ bs) rest h = rw (h.0) refl

pub gap_first : (g rest : List ℕ) → IsGap g → slice_index (g ++ rest) 0 ≡ 32
gap_first [] rest h = absurd h
gap_first (b ∷ bs) rest h = h.0

pub blank_parts : (s : List ℕ) (c : ℕ) (rest : List ℕ) → IsBlank s → is_word_byte c ≡ false → StopsAt is_word_byte (s ++ c ∷ rest)
blank_parts [] c rest h e = e
blank_parts (b ∷ bs) c rest h e = rw (h.0) refl

-- ---- words

pub lowered : (keyword text : List ℕ) → IsWord keyword text → map to_ascii_lowercase text ≡ map to_ascii_lowercase keyword
lowered keyword text h = (bytes_eq-Decides (map to_ascii_lowercase text) (map to_ascii_lowercase keyword)).0 h

-- a word that is one keyword is no other
pub other_word : (keyword other text : List ℕ) → IsWord keyword text → bytes_eq (map to_ascii_lowercase keyword) (map to_ascii_lowercase other) ≡ false → is_word other text ≡ false
other_word keyword other text h differ = rw (lowered keyword text h) differ

pub list_all_imp : (p q : ℕ → Bool) (a : List ℕ) → ((b : ℕ) → p b ≡ true → q b ≡ true) → list_all p a ≡ true → list_all q a ≡ true
list_all_imp p q [] h e = refl
list_all_imp p q (x ∷ a) h e = let t = both_true (p x) (list_all p a) e in let qx : q x ≡ true = h x t.0 in rw qx (list_all_imp p q a h t.1)

pub list_all-map : (q : ℕ → Bool) (f : ℕ → ℕ) (a : List ℕ) → list_all (λ b. q (f b)) a ≡ list_all q (map f a)
list_all-map q f [] = refl
list_all-map q f (x ∷ a) = ap (λ v. q (f x) && v) (list_all-map q f a)

pub not_at : (p : ℕ → Bool) (b c : ℕ) → p b ≡ true → p c ≡ false → eqb b c ≡ false
not_at p b c h k =
    let at : (v : Bool) → eqb b c ≡ v → v ≡ false =
    λ v. elim v as (λ w. eqb b c ≡ w → w ≡ false) [ true ↦ λ e. absurd (false≢true (sym k ∙ ap p (sym (eqb-true _ _ e)) ∙ h)) | false ↦ λ e. refl ]
    in at (eqb b c) refl

pub word_byte : (p : ℕ → Bool) (b : ℕ) → p b ≡ true → p 32 ≡ false → p 34 ≡ false → p 40 ≡ false → p 41 ≡ false → p 91 ≡ false → p 93 ≡ false → is_word_byte b ≡ true
word_byte p b h a1 a2 a3 a4 a5 a6 = rw (not_at p b 32 h a1, not_at p b 34 h a2, not_at p b 40 h a3, not_at p b 41 h a4, not_at p b 91 h a5, not_at p b 93 h a6) refl

pub no_dot_byte : (p : ℕ → Bool) (b : ℕ) → p b ≡ true → p 46 ≡ false → is_no_dot b ≡ true
no_dot_byte p b h a = rw (not_at p b 46 h a) refl

-- the bytes of a keyword in any case
pub word_bytes : (keyword text : List ℕ) → IsWord keyword text → list_all is_word_byte (map to_ascii_lowercase keyword) ≡ true → list_all is_word_byte text ≡ true
word_bytes keyword text h k =
    list_all_imp (λ b. is_word_byte (to_ascii_lowercase b)) is_word_byte text (λ b e. word_byte (λ c. is_word_byte (to_ascii_lowercase c)) b e refl refl refl refl refl refl)
    (list_all-map is_word_byte to_ascii_lowercase text ∙ ap (list_all is_word_byte) (lowered keyword text h) ∙ k)

word_no_dot : (keyword text : List ℕ) → IsWord keyword text → list_all is_no_dot (map to_ascii_lowercase keyword) ≡ true → list_all is_no_dot text ≡ true
word_no_dot keyword text h k =
    list_all_imp (λ b. is_no_dot (to_ascii_lowercase b)) is_no_dot text (λ b e. no_dot_byte (λ c. is_no_dot (to_ascii_lowercase c)) b e refl)
    (list_all-map is_no_dot to_ascii_lowercase text ∙ ap (list_all is_no_dot) (lowered keyword text h) ∙ k)

-- a run of word bytes that isn't empty
pub record IsRun (text : List ℕ) : Type 0 where
  pub first : ℕ
  pub others : List ℕ
  pub whole : text ≡ first ∷ others
  pub each : list_all is_word_byte text ≡ true

pub run_of : (text : List ℕ) → list_all is_word_byte text ≡ true → (text ≡ [] → ⊥) → IsRun text
run_of [] h k = absurd (k refl)
run_of (b ∷ bs) h k = record { first = b; others = bs; whole = refl; each = h }

pub word_run : (keyword text : List ℕ) → IsWord keyword text → list_all is_word_byte (map to_ascii_lowercase keyword) ≡ true → ([] ≡ map to_ascii_lowercase keyword → ⊥) → IsRun text
word_run keyword text h k full = run_of text (word_bytes keyword text h k) (λ e. full (ap (map to_ascii_lowercase) (sym e) ∙ lowered keyword text h))

-- begins with a byte that is no space
pub record Opens (text : List ℕ) : Type 0 where
  pub first : ℕ
  pub others : List ℕ
  pub whole : text ≡ first ∷ others
  pub is_open : is_space first ≡ false

pub opens_more : (a b : List ℕ) → Opens a → Opens (a ++ b)
opens_more a b o = record { first = o.first; others = o.others ++ b; whole = ap (λ (t : List ℕ). t ++ b) o.whole; is_open = o.is_open }

pub opens_stops : (a rest : List ℕ) → Opens a → StopsAt is_space (a ++ rest)
opens_stops a rest o = subst (λ t. StopsAt is_space (t ++ rest)) (sym o.whole) o.is_open

pub run_first : (text : List ℕ) (r : IsRun text) → is_word_byte r.first ≡ true
run_first text r = let e : list_all is_word_byte (r.first ∷ r.others) ≡ true = ap (list_all is_word_byte) (sym r.whole) ∙ r.each in (both_true (is_word_byte r.first) (list_all is_word_byte r.others) e).0

pub run_opens : (text : List ℕ) → IsRun text → Opens text
run_opens text r = record { first = r.first; others = r.others; whole = r.whole; is_open = not_at is_word_byte r.first 32 (run_first text r) refl }

-- the first byte of a run is no bracket
pub run_no_bracket : (text rest : List ℕ) → IsRun text → eqb (slice_index (text ++ rest) 0) 40 ≡ false
run_no_bracket text rest r = subst (λ (t : List ℕ). eqb (slice_index (t ++ rest) 0) 40 ≡ false) (sym r.whole) (not_at is_word_byte r.first 40 (run_first text r) refl)

-- ---- names

pub name_bytes : (name : List ℕ) → is_plain_name name ≡ true → list_all is_name_byte name ≡ true
name_bytes [] h = absurd (false≢true h)
name_bytes (b ∷ bs) h = let t = both_true (is_letter b) (list_all is_name_byte bs) h in let l : is_letter b ≡ true = t.0 in rw l t.1

pub name_case : (P : Type 0) (name : List ℕ) → is_name name ≡ true → (is_plain_name name ≡ true → P) → (IsWord (codes "$ref") name → P) → P
name_case P name h f g =
    let at : (v : Bool) → is_plain_name name ≡ v → v || is_word (codes "$ref") name ≡ true → P =
    λ v. elim v as (λ w. is_plain_name name ≡ w → w || is_word (codes "$ref") name ≡ true → P) [ true ↦ λ e _. f e | false ↦ λ _ k. g k ]
    in at (is_plain_name name) refl h

pub name_word : (name : List ℕ) → is_name name ≡ true → list_all is_word_byte name ≡ true
name_word name h = name_case (list_all is_word_byte name ≡ true) name h
    (λ e. list_all_imp is_name_byte is_word_byte name (λ b k. word_byte is_name_byte b k refl refl refl refl refl refl) (name_bytes name e))
    (λ e. word_bytes (codes "$ref") name e refl)

pub name_no_dot : (name : List ℕ) → is_name name ≡ true → list_all is_no_dot name ≡ true
name_no_dot name h = name_case (list_all is_no_dot name ≡ true) name h
    (λ e. list_all_imp is_name_byte is_no_dot name (λ b k. no_dot_byte is_name_byte b k refl) (name_bytes name e))
    (λ e. word_no_dot (codes "$ref") name e refl)

pub name_full : (name : List ℕ) → is_name name ≡ true → name ≡ [] → ⊥
name_full name h e = false≢true (ap is_name (sym e) ∙ h)

-- ---- joins

pub join_again : (keyword join rest : List ℕ) → IsJoin keyword join → list_all is_word_byte (map to_ascii_lowercase keyword) ≡ true → ([] ≡ map to_ascii_lowercase keyword → ⊥) → StopsAt is_space rest → past_join keyword (join ++ rest) ≡ Some rest
join_again keyword join rest j k full stops =
    let run = word_run keyword j.word j.word_is k full in
    let regroup : join ++ rest ≡ j.before ++ (j.word ++ (j.after ++ rest)) = ap (λ (t : List ℕ). t ++ rest) j.whole ∙ simp append_assoc in
    let tail = j.word ++ (j.after ++ rest) in
    let gap : past_gap (j.before ++ tail) ≡ Some tail = gap_again j.before tail j.before_gap (opens_stops j.word (j.after ++ rest) (run_opens j.word run)) in
    let word : front is_word_byte tail ≡ j.word = front_again is_word_byte j.word (j.after ++ rest) run.each (gap_parts j.after rest j.after_gap) in
    let after : behind is_word_byte tail ≡ j.after ++ rest = behind_again is_word_byte j.word (j.after ++ rest) run.each (gap_parts j.after rest j.after_gap) in
    let is : is_word keyword j.word ≡ true = j.word_is in
    ap (past_join keyword) regroup ∙ rw (gap, word, is, after) (gap_again j.after rest j.after_gap stops)

-- another keyword joins nothing here
pub join_other : (keyword other join rest : List ℕ) → IsJoin keyword join → list_all is_word_byte (map to_ascii_lowercase keyword) ≡ true → ([] ≡ map to_ascii_lowercase keyword → ⊥) → bytes_eq (map to_ascii_lowercase keyword) (map to_ascii_lowercase other) ≡ false → past_join other (join ++ rest) ≡ None
join_other keyword other join rest j k full differ =
    let run = word_run keyword j.word j.word_is k full in
    let regroup : join ++ rest ≡ j.before ++ (j.word ++ (j.after ++ rest)) = ap (λ (t : List ℕ). t ++ rest) j.whole ∙ simp append_assoc in
    let tail = j.word ++ (j.after ++ rest) in
    let gap : past_gap (j.before ++ tail) ≡ Some tail = gap_again j.before tail j.before_gap (opens_stops j.word (j.after ++ rest) (run_opens j.word run)) in
    let word : front is_word_byte tail ≡ j.word = front_again is_word_byte j.word (j.after ++ rest) run.each (gap_parts j.after rest j.after_gap) in
    let is : is_word other j.word ≡ false = other_word keyword other j.word j.word_is differ in
    ap (past_join other) regroup ∙ rw (gap, word, is) refl

pub join_parts : (keyword join rest : List ℕ) → IsJoin keyword join → StopsAt is_word_byte (join ++ rest)
join_parts keyword join rest j =
    let regroup : join ++ rest ≡ j.before ++ (j.word ++ (j.after ++ rest)) = ap (λ (t : List ℕ). t ++ rest) j.whole ∙ simp append_assoc in
    subst (StopsAt is_word_byte) (sym regroup) (gap_parts j.before (j.word ++ (j.after ++ rest)) j.before_gap)

-- nor does any before a bracket that closes
pub close_no_join : (keyword s : List ℕ) (c : ℕ) (rest : List ℕ) → IsBlank s → is_word_byte c ≡ false → is_space c ≡ false → is_word keyword [] ≡ false → past_join keyword (s ++ c ∷ rest) ≡ None
close_no_join keyword [] c rest h k n e = rw n refl
close_no_join keyword (b ∷ bs) c rest h k n e =
    let skipped : behind is_space (bs ++ c ∷ rest) ≡ c ∷ rest = blank_again bs (c ∷ rest) h.1 n in
    rw (h.0, skipped, k, e) refl
