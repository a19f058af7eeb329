-- What is spelled is read, unless it nests too deep.
use Rattle.std.proofs.Common.{◌≡◌, ℕ, zero, suc, ◌<◌, Bool, true, false, eqb, List, [], ◌∷◌, ◌++◌, drop, Option, Some, None, Result, Ok, Err, refl, sym, ap, subst, ◌∙◌, append_assoc, arith, inl, inr, ◌⊎◌}
use Rattle.std.specs.Prelude.{slice_index, ◌&&◌, codes}
use Rattle.std.specs.List.{list_all}
use Rattle.std.specs.Char.{to_ascii_lowercase}
use Rattle.std.proofs.lemmas.List.{append-nil}
use Rattle.std.proofs.lemmas.List.Folds.{list_all-append}
use Rattle.scim_filter_grammar.specs.Reading.{Fault}
use Rattle.scim_filter_grammar.specs.Reading.{Syntax, TooDeep}
use Rattle.scim_filter_grammar.specs.declared.tree.Operator.{Operator}
use Rattle.scim_filter_grammar.specs.declared.tree.Operator.TheVariants.{Eq, Ne, Co, Sw, Ew, Gt, Ge, Lt, Le}
use Rattle.scim_filter_grammar.specs.declared.tree.Literal.{Literal}
use Rattle.scim_filter_grammar.specs.declared.tree.AttributePath.{AttributePath}
use Rattle.scim_schema.specs.declared.Kind.{Kind}
use Rattle.scim_filter_grammar.specs.declared.tree.Meant.{Meant}
use Rattle.scim_filter_grammar.specs.declared.tree.Scope.{Scope}
use Rattle.scim_filter_grammar.specs.declared.tree.Scope.TheVariants.{Attributes, SubAttributes}
use Rattle.scim_filter_grammar.specs.Literals.{IsWord, IsLiteral}
use Rattle.scim_filter_grammar.specs.Names.{IsPath, IsPassed, is_name_byte, is_name, is_urn_byte, is_urn, fits_scope, names_text, path_text}
use Rattle.scim_filter_grammar.specs.Tree.{Tree, Or, And, Not, Present, Compare, Values, attribute_meant}
use Rattle.scim_filter_grammar.specs.Bytes.{is_space, is_word_byte, front, behind, is_word, is_no_colon}
use Rattle.scim_filter_grammar.specs.code.Cuts.{is_no_dot, past_join, names_in, urn_in}
use Rattle.scim_filter_grammar.specs.Grammar.{IsBlank, IsGap, spelled, Encloses, Level, Disjunction, Conjunction, Term, IsFilter, Spells, one_conjunction, either, one_term, both, group, negation, presence, comparison, values}
use Rattle.scim_filter_grammar.specs.Reading.{◌>>=◌, Read, Reader, urn_of, name_of, sub_of, path_with, path_of, operator_of, listed_at, closing_at, enclosed_at, relation_at, mapped, behind_path_at, worded_at, term_at, joined_at, conjunction_at, disjunction_at, filter_at, ended, all_of}
use Rattle.scim_filter_grammar.proofs.SpelledLemmas.{list_all_imp, list_all-map, word_byte, not_at, name_bytes, name_case, StopsAt, front_again, behind_again, blank_again, gap_again, gap_parts, gap_first, blank_parts, lowered, other_word, IsRun, run_of, word_run, word_bytes, Opens, opens_more, opens_stops, run_opens, run_no_bracket, name_word, name_no_dot, name_full, join_again, join_other, join_parts, close_no_join}
use Rattle.scim_filter_grammar.proofs.FrontLemmas.{bind_ok, front-behind, blank_front, both_true}
use Rattle.scim_filter_grammar.proofs.TakeLemmas.{ok_is, disjunction_takes, filter_takes}
use Rattle.scim_filter_grammar.proofs.NameLemmas.{names_again, urn_again}
use Rattle.scim_filter_grammar.proofs.LiteralAgainLemmas.{literal_again, literal_opens}
use Rattle.scim_filter_grammar.proofs.StepLemmas.{conjunction-step, disjunction-step}

-- reading gives x, or stops at brackets nested deeper than d where x nests n deep
abbrev pub Reads : {A : Type 0} → ℕ → ℕ → Result A Fault → A → Type 0
Reads n d r x = (r ≡ Ok x) ⊎ ((d < n) × (r ≡ Err TooDeep))

pub reads_then : {A B : Type 0} (n d : ℕ) (r : Result A Fault) (f : A → Result B Fault) (x : A) (y : B) → Reads n d r x → Reads n d (f x) y → Reads n d (r >>= f) y
reads_then n d r f x y (inl e) h = subst (λ q. Reads n d (q >>= f) y) (sym e) h
reads_then n d r f x y (inr p) h = inr (p.0, ap (λ q. q >>= f) p.1)

reads_mapped : (n d : ℕ) (f : Tree → Tree) (r : Read Tree) (x : Tree × List ℕ) → Reads n d r x → Reads n d (mapped f r) (f x.0, x.1)
reads_mapped n d f r x h = reads_then n d r (λ z. Ok (f z.0, z.1)) x (f x.0, x.1) h (inl refl)

-- ---- leaves

-- ---- the bytes of a path

name_no_colon : (name : List ℕ) → is_name name ≡ true → list_all is_no_colon name ≡ true
name_no_colon name h = name_case (list_all is_no_colon name ≡ true) name h
    (λ e. list_all_imp is_name_byte is_no_colon name (λ b k. no_colon_byte is_name_byte b k refl) (name_bytes name e))
    (λ e. list_all_imp (λ b. is_no_colon (to_ascii_lowercase b)) is_no_colon name (λ b k. no_colon_byte (λ c. is_no_colon (to_ascii_lowercase c)) b k refl)
    (list_all-map is_no_colon to_ascii_lowercase name ∙ ap (list_all is_no_colon) (lowered (codes "$ref") name e)))
  where
    no_colon_byte : (p : ℕ → Bool) (b : ℕ) → p b ≡ true → p 58 ≡ false → is_no_colon b ≡ true
    no_colon_byte p b h a = rw (not_at p b 58 h a) refl

all_append : (p : ℕ → Bool) (a b : List ℕ) → list_all p a ≡ true → list_all p b ≡ true → list_all p (a ++ b) ≡ true
all_append p a b h k = list_all-append p a b ∙ rw (h, k) refl

names_no_colon : (name : List ℕ) (sub : Option (List ℕ)) → is_name name ≡ true → IsPassed is_name sub → list_all is_no_colon (names_text name sub) ≡ true
names_no_colon name None h k = name_no_colon name h
names_no_colon name (Some sub) h k = all_append is_no_colon name (46 ∷ sub) (name_no_colon name h) (name_no_colon sub k)

names_word : (name : List ℕ) (sub : Option (List ℕ)) → is_name name ≡ true → IsPassed is_name sub → list_all is_word_byte (names_text name sub) ≡ true
names_word name None h k = name_word name h
names_word name (Some sub) h k = all_append is_word_byte name (46 ∷ sub) (name_word name h) (name_word sub k)

urn_word : (urn : List ℕ) → is_urn urn ≡ true → list_all is_word_byte urn ≡ true
urn_word urn h =
    let each = both_true (is_word (codes "urn") (front is_no_colon urn)) (list_all is_urn_byte urn) h in
    list_all_imp is_urn_byte is_word_byte urn (λ b k. word_byte is_urn_byte b k refl refl refl refl refl refl) each.1

path_word : (urn : Option (List ℕ)) (names : List ℕ) → IsPassed is_urn urn → list_all is_word_byte names ≡ true → list_all is_word_byte (path_text urn names) ≡ true
path_word None names h k = k
path_word (Some urn) names h k = all_append is_word_byte urn (58 ∷ names) (urn_word urn h) k

names_full : (name : List ℕ) (sub : Option (List ℕ)) → is_name name ≡ true → names_text name sub ≡ [] → ⊥
names_full name None h e = name_full name h e
names_full [] (Some sub) h e = absurd cc
names_full (b ∷ bs) (Some sub) h e = absurd cc

path_full : (urn : Option (List ℕ)) (names : List ℕ) → (names ≡ [] → ⊥) → path_text urn names ≡ [] → ⊥
path_full None names h e = h e
path_full (Some []) names h e = absurd cc
path_full (Some (b ∷ bs)) names h e = absurd cc

pub path_run : (i : Scope) (text : List ℕ) (path : AttributePath) → IsPath i text path → IsRun text
path_run i text path h =
    subst IsRun (sym h.whole) (run_of (path_text path.urn (names_text path.name path.sub_name))
    (path_word path.urn (names_text path.name path.sub_name) h.urn_is (names_word path.name path.sub_name h.name_is h.sub_is))
    (path_full path.urn (names_text path.name path.sub_name) (names_full path.name path.sub_name h.name_is)))

all_of_front : (p : ℕ → Bool) (a : List ℕ) → list_all p a ≡ true → front p a ≡ a
all_of_front p a h = ap (front p) (sym (append-nil a)) ∙ front_again p a [] h tt

all_of_behind : (p : ℕ → Bool) (a : List ℕ) → list_all p a ≡ true → behind p a ≡ []
all_of_behind p a h = ap (behind p) (sym (append-nil a)) ∙ behind_again p a [] h tt

urn_reads : (urn : Option (List ℕ)) → IsPassed is_urn urn → urn_of urn ≡ Ok urn
unfolding urn_of
urn_reads None h = refl
urn_reads (Some urn) h = let e : is_urn urn ≡ true = h in rw e refl

pub name_reads : (name : List ℕ) → is_name name ≡ true → name_of name ≡ Ok name
unfolding name_of
name_reads name h = rw h refl

names_front : (name : List ℕ) (sub : Option (List ℕ)) → is_name name ≡ true → front is_no_dot (names_text name sub) ≡ name
names_front name None h = all_of_front is_no_dot name (name_no_dot name h)
names_front name (Some sub) h = front_again is_no_dot name (46 ∷ sub) (name_no_dot name h) refl

sub_reads : (name : List ℕ) (sub : Option (List ℕ)) → is_name name ≡ true → IsPassed is_name sub → sub_of (behind is_no_dot (names_text name sub)) ≡ Ok sub
unfolding sub_of
sub_reads name None h k = rw (all_of_behind is_no_dot name (name_no_dot name h)) refl
sub_reads name (Some sub) h k = rw (behind_again is_no_dot name (46 ∷ sub) (name_no_dot name h) refl, name_reads sub k) refl

abbrev read_path : AttributePath → Result AttributePath Fault
read_path path = Ok path

pub path_again : (i : Scope) (text : List ℕ) (path : AttributePath) → IsPath i text path → path_of i text ≡ Ok path
unfolding path_of
path_again i text path h =
    let names = names_text path.name path.sub_name in
    let none = names_no_colon path.name path.sub_name h.name_is h.sub_is in
    let cut : names_in text ≡ names = ap names_in h.whole ∙ names_again path.urn names none in
    let urn : urn_in text ≡ path.urn = ap urn_in h.whole ∙ urn_again path.urn names none in
    let fits : fits_scope i path.urn path.sub_name ≡ true = h.fits in
    let made : path_with i path.urn path.name path.sub_name ≡ read_path path = rw fits (subst (λ (m : Meant). read_path (record { urn = path.urn; name = path.name; sub_name = path.sub_name; meant = m }) ≡ read_path path) h.leads refl) in
    subst (λ (o : Option (List ℕ)). (urn_of o >>= λ u. name_of (front is_no_dot (names_in text)) >>= λ n. sub_of (behind is_no_dot (names_in text)) >>= λ s. path_with i u n s) ≡ Ok path) (sym urn)
    (subst (λ (w : List ℕ). (urn_of path.urn >>= λ u. name_of (front is_no_dot w) >>= λ n. sub_of (behind is_no_dot w) >>= λ s. path_with i u n s) ≡ Ok path) (sym cut)
    (rw (urn_reads path.urn h.urn_is, names_front path.name path.sub_name h.name_is, name_reads path.name h.name_is, sub_reads path.name path.sub_name h.name_is h.sub_is) made))

operator_again : (op : Operator) (w : List ℕ) → IsWord (spelled op) w → operator_of w ≡ Ok op
unfolding operator_of
operator_again Eq w h = rw (lowered (codes "eq") w h) refl
operator_again Ne w h = rw (lowered (codes "ne") w h) refl
operator_again Co w h = rw (lowered (codes "co") w h) refl
operator_again Sw w h = rw (lowered (codes "sw") w h) refl
operator_again Ew w h = rw (lowered (codes "ew") w h) refl
operator_again Gt w h = rw (lowered (codes "gt") w h) refl
operator_again Ge w h = rw (lowered (codes "ge") w h) refl
operator_again Lt w h = rw (lowered (codes "lt") w h) refl
operator_again Le w h = rw (lowered (codes "le") w h) refl

pub operator_run : (op : Operator) (w : List ℕ) → IsWord (spelled op) w → IsRun w
operator_run Eq w h = word_run (codes "eq") w h refl (λ e. absurd cc)
operator_run Ne w h = word_run (codes "ne") w h refl (λ e. absurd cc)
operator_run Co w h = word_run (codes "co") w h refl (λ e. absurd cc)
operator_run Sw w h = word_run (codes "sw") w h refl (λ e. absurd cc)
operator_run Ew w h = word_run (codes "ew") w h refl (λ e. absurd cc)
operator_run Gt w h = word_run (codes "gt") w h refl (λ e. absurd cc)
operator_run Ge w h = word_run (codes "ge") w h refl (λ e. absurd cc)
operator_run Lt w h = word_run (codes "lt") w h refl (λ e. absurd cc)
operator_run Le w h = word_run (codes "le") w h refl (λ e. absurd cc)

operator_not_pr : (op : Operator) (w : List ℕ) → IsWord (spelled op) w → is_word (codes "pr") w ≡ false
operator_not_pr Eq w h = other_word (codes "eq") (codes "pr") w h refl
operator_not_pr Ne w h = other_word (codes "ne") (codes "pr") w h refl
operator_not_pr Co w h = other_word (codes "co") (codes "pr") w h refl
operator_not_pr Sw w h = other_word (codes "sw") (codes "pr") w h refl
operator_not_pr Ew w h = other_word (codes "ew") (codes "pr") w h refl
operator_not_pr Gt w h = other_word (codes "gt") (codes "pr") w h refl
operator_not_pr Ge w h = other_word (codes "ge") (codes "pr") w h refl
operator_not_pr Lt w h = other_word (codes "lt") (codes "pr") w h refl
operator_not_pr Le w h = other_word (codes "le") (codes "pr") w h refl

-- ---- what stands behind a path

pr_again : (path : AttributePath) (w rest : List ℕ) → IsWord (codes "pr") w → StopsAt is_word_byte rest → relation_at path (w ++ rest) ≡ Ok (Present path, rest)
unfolding relation_at
pr_again path w rest h stops =
    let each = word_bytes (codes "pr") w h refl in
    let is : is_word (codes "pr") w ≡ true = h in
    rw (front_again is_word_byte w rest each stops, behind_again is_word_byte w rest each stops, is) refl

compared_again : (path : AttributePath) (op : Operator) (x : Literal) (w h l rest : List ℕ) → IsWord (spelled op) w → IsGap h → IsLiteral l x → StopsAt is_word_byte rest → relation_at path (w ++ (h ++ (l ++ rest))) ≡ Ok (Compare path op x, rest)
unfolding relation_at
compared_again path op x w h l rest is_op is_gap is_literal stops =
    let run = operator_run op w is_op in
    let tail = h ++ (l ++ rest) in
    let parts = gap_parts h (l ++ rest) is_gap in
    rw (front_again is_word_byte w tail run.each parts, behind_again is_word_byte w tail run.each parts, operator_not_pr op w is_op, operator_again op w is_op, gap_again h (l ++ rest) is_gap (opens_stops l rest (literal_opens l x is_literal)), literal_again l rest x is_literal stops) refl

-- behind a path and a gap
behind_gap_again : (filter : Scope → Reader) (i : Scope) (path : AttributePath) (g tail : List ℕ) (y : Tree × List ℕ) → IsGap g → StopsAt is_space tail → relation_at path tail ≡ Ok y → behind_path_at filter i path (g ++ tail) ≡ Ok y
unfolding behind_path_at
behind_gap_again filter i path g tail y is_gap stops e = rw (gap_first g tail is_gap, gap_again g tail is_gap stops) e

-- a path, and what stands behind it, which begins with no bracket "("
worded_again : (filter : Scope → Reader) (i : Scope) (path : AttributePath) (p tail : List ℕ) → IsPath i p path → StopsAt is_word_byte tail → eqb (slice_index (behind is_space tail) 0) 40 ≡ false
    → term_at filter i (p ++ tail) ≡ behind_path_at filter i path tail
unfolding term_at worded_at
worded_again filter i path p tail is_path stops no_bracket =
    let run = path_run i p path is_path in
    let none : (b : Bool) → b && false ≡ false = λ b. elim b as (λ v. v && false ≡ false) [ true ↦ refl | false ↦ refl ] in
    rw (run_no_bracket p tail run, front_again is_word_byte p tail run.each stops, behind_again is_word_byte p tail run.each stops, no_bracket, none (is_word (codes "not") p), path_again i p path is_path) refl

-- ---- brackets

record InnerAgain (i : Scope) (n : ℕ) (a : List ℕ) (t : Tree) : Type 0 where
  opens : Opens a
  reads : (d : ℕ) (rest : List ℕ) → StopsAt is_word_byte rest → past_join (codes "and") rest ≡ None → past_join (codes "or") rest ≡ None → Reads n d (disjunction_at (filter_at d) i (a ++ rest)) (t, rest)

enclosed_again : (i : Scope) (n d o c : ℕ) (a text rest : List ℕ) (t : Tree) → InnerAgain i n a t → Encloses o c a text → is_word_byte c ≡ false → is_space c ≡ false → eqb c c ≡ true → Reads (suc n) d (enclosed_at c (filter_at d i) (drop 1 (text ++ rest))) (t, rest)
unfolding enclosed_at filter_at
enclosed_again i n d o c a text rest t inner enc no_word no_space same =
    let tail = enc.after ++ c ∷ rest in
    let regroup : drop 1 (text ++ rest) ≡ enc.before ++ (a ++ tail) = ap (λ (x : List ℕ). drop 1 (x ++ rest)) enc.whole ∙ simp append_assoc in
    let skipped : behind is_space (enc.before ++ (a ++ tail)) ≡ a ++ tail = blank_again enc.before (a ++ tail) enc.before_blank (opens_stops a tail inner.opens) in
    let closed : closing_at c t (behind is_space tail) ≡ Ok (t, rest) = rw (blank_again enc.after (c ∷ rest) enc.after_blank no_space, same) refl in
    let inside : (k : ℕ) → Reads (suc n) k (filter_at k i (a ++ tail)) (t, tail) =
    λ k. elim k as (λ m. Reads (suc n) m (filter_at m i (a ++ tail)) (t, tail)) [
      | zero ↦ inr (omega arith, refl)
      | suc m ↦ deeper n m (disjunction_at (filter_at m) i (a ++ tail)) (t, tail) (inner.reads m tail (blank_parts enc.after c rest enc.after_blank no_word) (close_no_join (codes "and") enc.after c rest enc.after_blank no_word no_space refl) (close_no_join (codes "or") enc.after c rest enc.after_blank no_word no_space refl))
    ] in
    subst (λ (bytes : List ℕ). Reads (suc n) d (enclosed_at c (filter_at d i) bytes) (t, rest)) (sym regroup)
    (subst (λ (bytes : List ℕ). Reads (suc n) d (filter_at d i bytes >>= λ x. closing_at c x.0 (behind is_space x.1)) (t, rest)) (sym skipped)
    (reads_then (suc n) d (filter_at d i (a ++ tail)) (λ x. closing_at c x.0 (behind is_space x.1)) (t, tail) (t, rest) (inside d) (inl closed)))
  where
    deeper : {A : Type 0} (n d : ℕ) (r : Result A Fault) (x : A) → Reads n d r x → Reads (suc n) (suc d) r x
    deeper n d r x (inl e) = inl e
    deeper n d r x (inr p) = inr (omega (arith, p.0), p.1)

opens : {i : Scope} {l : Level} {n : ℕ} {a : List ℕ} {t : Tree} → Spells i l n a t → Opens a
opens (one_conjunction s) = opens s
opens (either {a = a} {w = w} {b = b} s j u) = opens_more a (w ++ b) (opens s)
opens (one_term s) = opens s
opens (both {a = a} {w = w} {b = b} s j u) = opens_more a (w ++ b) (opens s)
opens (group {a = a} s enc) = record { first = 40; others = enc.before ++ (a ++ (enc.after ++ 41 ∷ [])); whole = enc.whole; is_open = refl }
opens (negation {text = text} w s is_word is_blank u enc) = opens_more w (s ++ text) (run_opens w (word_run (codes "not") w is_word refl (λ e. absurd cc)))
opens (presence {i = i} {path = path} p g w is_path is_gap is_word) = opens_more p (g ++ w) (run_opens p (path_run i p path is_path))
opens (comparison {i = i} {path = path} p g w h l is_path is_gap is_op is_gap2 is_literal) = opens_more p (g ++ (w ++ (h ++ l))) (run_opens p (path_run i p path is_path))
opens (values {kind = kind} {text = text} {path = path} p is_path u enc) = opens_more p text (run_opens p (path_run (Attributes kind) p path is_path))

-- what may follow a text of each level
abbrev Stops : Level → List ℕ → Type 0
Stops Term rest = StopsAt is_word_byte rest
Stops Conjunction rest = StopsAt is_word_byte rest × (past_join (codes "and") rest ≡ None)
Stops Disjunction rest = StopsAt is_word_byte rest × (past_join (codes "and") rest ≡ None) × (past_join (codes "or") rest ≡ None)

abbrev reader : Level → ℕ → Scope → Reader
reader Term d i = term_at (filter_at d) i
reader Conjunction d i = conjunction_at (filter_at d) i
reader Disjunction d i = disjunction_at (filter_at d) i

-- an item alone, and an item with more behind a keyword
joined_none : (n d : ℕ) (item others : Reader) (keyword : List ℕ) (join : Tree → Tree → Tree) (bytes : List ℕ) (x : Tree × List ℕ) → Reads n d (item bytes) x → past_join keyword x.1 ≡ None
    → Reads n d (item bytes >>= λ z. joined_at others join z (past_join keyword z.1)) x
joined_none n d item others keyword join bytes x h e = reads_then n d (item bytes) (λ z. joined_at others join z (past_join keyword z.1)) x x h (inl (rw e refl))

joined_more : (n d : ℕ) (item others : Reader) (keyword : List ℕ) (join : Tree → Tree → Tree) (bytes rest : List ℕ) (x y : Tree × List ℕ) → Reads n d (item bytes) x → past_join keyword x.1 ≡ Some rest → Reads n d (others rest) y
    → Reads n d (item bytes >>= λ z. joined_at others join z (past_join keyword z.1)) (join x.0 y.0, y.1)
joined_more n d item others keyword join bytes rest x y h e k =
    reads_then n d (item bytes) (λ z. joined_at others join z (past_join keyword z.1)) x (join x.0 y.0, y.1) h
    (subst (λ o. Reads n d (joined_at others join x o) (join x.0 y.0, y.1)) (sym e) (reads_mapped n d (join x.0) (others rest) y k))

gap_skipped : (g rest : List ℕ) → IsGap g → StopsAt is_space rest → behind is_space (g ++ rest) ≡ rest
gap_skipped [] rest h stops = absurd h
gap_skipped (b ∷ bs) rest h stops = rw (h.0) (blank_again bs rest h.1 stops)

pub encloses_first : (o c : ℕ) (a text rest : List ℕ) → Encloses o c a text → text ++ rest ≡ o ∷ drop 1 (text ++ rest)
encloses_first o c a text rest enc = subst (λ (t : List ℕ). t ++ rest ≡ o ∷ drop 1 (t ++ rest)) (sym enc.whole) refl

group_reads : (i : Scope) (n d : ℕ) (a text rest : List ℕ) (t : Tree) → Encloses 40 41 a text → Reads (suc n) d (enclosed_at 41 (filter_at d i) (drop 1 (text ++ rest))) (t, rest) → Reads (suc n) d (term_at (filter_at d) i (text ++ rest)) (t, rest)
unfolding term_at
group_reads i n d a text rest t enc h = subst (λ bytes. Reads (suc n) d (term_at (filter_at d) i bytes) (t, rest)) (sym (encloses_first 40 41 a text rest enc)) h

negation_reads : (i : Scope) (n d : ℕ) (a w s text rest : List ℕ) (t : Tree) → IsWord (codes "not") w → IsBlank s → Encloses 40 41 a text → Reads (suc n) d (enclosed_at 41 (filter_at d i) (drop 1 (text ++ rest))) (t, rest) → Reads (suc n) d (term_at (filter_at d) i ((w ++ (s ++ text)) ++ rest)) (Not t, rest)
unfolding term_at worded_at
negation_reads i n d a w s text rest t is_not is_blank enc h =
    let run = word_run (codes "not") w is_not refl (λ e. absurd cc) in
    let inner = drop 1 (text ++ rest) in
    let first : text ++ rest ≡ 40 ∷ inner = encloses_first 40 41 a text rest enc in
    let regroup : (w ++ (s ++ text)) ++ rest ≡ w ++ (s ++ 40 ∷ inner) = simp append_assoc (ap (λ (x : List ℕ). w ++ (s ++ x)) first) in
    let stops : StopsAt is_word_byte (s ++ 40 ∷ inner) = blank_parts s 40 inner is_blank refl in
    let is : is_word (codes "not") w ≡ true = is_not in
    let reads : term_at (filter_at d) i (w ++ (s ++ 40 ∷ inner)) ≡ mapped Not (enclosed_at 41 (filter_at d i) inner) =
    rw (run_no_bracket w (s ++ 40 ∷ inner) run, front_again is_word_byte w (s ++ 40 ∷ inner) run.each stops, behind_again is_word_byte w (s ++ 40 ∷ inner) run.each stops, blank_again s (40 ∷ inner) is_blank refl, is) refl in
    subst (λ bytes. Reads (suc n) d (term_at (filter_at d) i bytes) (Not t, rest)) (sym regroup)
    (subst (λ r. Reads (suc n) d r (Not t, rest)) (sym reads) (reads_mapped (suc n) d Not (enclosed_at 41 (filter_at d i) inner) (t, rest) h))

listed_is : (filter : Scope → Reader) (kind : Kind) (path : AttributePath) (inner : List ℕ) → behind_path_at filter (Attributes kind) path (91 ∷ inner) ≡ mapped (Values path) (enclosed_at 93 (filter (SubAttributes (attribute_meant path.meant))) inner)
unfolding behind_path_at listed_at
listed_is filter kind path inner = refl

values_reads : (kind : Kind) (n d : ℕ) (p a text rest : List ℕ) (path : AttributePath) (t : Tree) → IsPath (Attributes kind) p path → Encloses 91 93 a text → Reads (suc n) d (enclosed_at 93 (filter_at d (SubAttributes (attribute_meant path.meant))) (drop 1 (text ++ rest))) (t, rest) → Reads (suc n) d (term_at (filter_at d) (Attributes kind) ((p ++ text) ++ rest)) (Values path t, rest)
values_reads kind n d p a text rest path t is_path enc h =
    let inner = drop 1 (text ++ rest) in
    let within = SubAttributes (attribute_meant path.meant) in
    let first : text ++ rest ≡ 91 ∷ inner = encloses_first 91 93 a text rest enc in
    let regroup : (p ++ text) ++ rest ≡ p ++ 91 ∷ inner = append_assoc p text rest ∙ ap (λ (x : List ℕ). p ++ x) first in
    let reads : term_at (filter_at d) (Attributes kind) (p ++ 91 ∷ inner) ≡ mapped (Values path) (enclosed_at 93 (filter_at d within) inner) = worded_again (filter_at d) (Attributes kind) path p (91 ∷ inner) is_path refl refl ∙ listed_is (filter_at d) kind path inner in
    subst (λ bytes. Reads (suc n) d (term_at (filter_at d) (Attributes kind) bytes) (Values path t, rest)) (sym regroup)
    (subst (λ r. Reads (suc n) d r (Values path t, rest)) (sym reads) (reads_mapped (suc n) d (Values path) (enclosed_at 93 (filter_at d within) inner) (t, rest) h))

pub again : {i : Scope} {l : Level} {n : ℕ} {a : List ℕ} {t : Tree} → Spells i l n a t → (d : ℕ) (rest : List ℕ) → Stops l rest → Reads n d (reader l d i (a ++ rest)) (t, rest)
again (one_conjunction {i = i} {n = n} {a = a} {t = t} s) d rest stops =
    subst (λ r. Reads n d r (t, rest)) (sym (disjunction-step d i (a ++ rest)))
    (joined_none n d (conjunction_at (filter_at d) i) (disjunction_at (filter_at d) i) (codes "or") Or (a ++ rest) (t, rest) (again s d rest (stops.0, stops.1)) stops.2)
again (either {i = i} {n = n} {a = a} {w = w} {b = b} {t = t} {u = u} s j o) d rest stops =
    let next : StopsAt is_space (b ++ rest) = opens_stops b rest (opens o) in
    let behind_a = w ++ (b ++ rest) in
    let regroup : (a ++ (w ++ b)) ++ rest ≡ a ++ behind_a = simp append_assoc in
    let first = again s d behind_a (join_parts (codes "or") w (b ++ rest) j, join_other (codes "or") (codes "and") w (b ++ rest) j refl (λ e. absurd cc) refl) in
    let second = again o d rest stops in
    subst (λ bytes. Reads n d (disjunction_at (filter_at d) i bytes) (Or t u, rest)) (sym regroup)
    (subst (λ r. Reads n d r (Or t u, rest)) (sym (disjunction-step d i (a ++ behind_a)))
    (joined_more n d (conjunction_at (filter_at d) i) (disjunction_at (filter_at d) i) (codes "or") Or (a ++ behind_a) (b ++ rest) (t, behind_a) (u, rest) first (join_again (codes "or") w (b ++ rest) j refl (λ e. absurd cc) next) second))
again (one_term {i = i} {n = n} {a = a} {t = t} s) d rest stops =
    subst (λ r. Reads n d r (t, rest)) (sym (conjunction-step d i (a ++ rest)))
    (joined_none n d (term_at (filter_at d) i) (conjunction_at (filter_at d) i) (codes "and") And (a ++ rest) (t, rest) (again s d rest stops.0) stops.1)
again (both {i = i} {n = n} {a = a} {w = w} {b = b} {t = t} {u = u} s j o) d rest stops =
    let next : StopsAt is_space (b ++ rest) = opens_stops b rest (opens o) in
    let behind_a = w ++ (b ++ rest) in
    let regroup : (a ++ (w ++ b)) ++ rest ≡ a ++ behind_a = simp append_assoc in
    let first = again s d behind_a (join_parts (codes "and") w (b ++ rest) j) in
    let second = again o d rest stops in
    subst (λ bytes. Reads n d (conjunction_at (filter_at d) i bytes) (And t u, rest)) (sym regroup)
    (subst (λ r. Reads n d r (And t u, rest)) (sym (conjunction-step d i (a ++ behind_a)))
    (joined_more n d (term_at (filter_at d) i) (conjunction_at (filter_at d) i) (codes "and") And (a ++ behind_a) (b ++ rest) (t, behind_a) (u, rest) first (join_again (codes "and") w (b ++ rest) j refl (λ e. absurd cc) next) second))
again (group {i = i} {n = n} {a = a} {text = text} {t = t} s enc) d rest stops =
    let inner : InnerAgain i n a t = record { opens = opens s; reads = λ e more p q r. again s e more (p, q, r) } in
    group_reads i n d a text rest t enc (enclosed_again i n d 40 41 a text rest t inner enc refl refl refl)
again (negation {i = i} {n = n} {a = a} {text = text} {t = t} w s is_word is_blank o enc) d rest stops =
    let inner : InnerAgain i n a t = record { opens = opens o; reads = λ e more p q r. again o e more (p, q, r) } in
    negation_reads i n d a w s text rest t is_word is_blank enc (enclosed_again i n d 40 41 a text rest t inner enc refl refl refl)
again (presence {i = i} {n = n} {path = path} p g w is_path is_gap is_pr) d rest stops =
    let run = word_run (codes "pr") w is_pr refl (λ e. absurd cc) in
    let tail = g ++ (w ++ rest) in
    let skipped : behind is_space tail ≡ w ++ rest = gap_skipped g (w ++ rest) is_gap (opens_stops w rest (run_opens w run)) in
    let no_bracket : eqb (slice_index (behind is_space tail) 0) 40 ≡ false = rw skipped (run_no_bracket w rest run) in
    let regroup : (p ++ (g ++ w)) ++ rest ≡ p ++ tail = simp append_assoc in
    inl (ap (term_at (filter_at d) i) regroup ∙ worded_again (filter_at d) i path p tail is_path (gap_parts g (w ++ rest) is_gap) no_bracket ∙ behind_gap_again (filter_at d) i path g (w ++ rest) (Present path, rest) is_gap (opens_stops w rest (run_opens w run)) (pr_again path w rest is_pr stops))
again (comparison {i = i} {n = n} {path = path} {op = op} {x = x} p g w h l is_path is_gap is_op is_gap2 is_literal) d rest stops =
    let run = operator_run op w is_op in
    let words = w ++ (h ++ (l ++ rest)) in
    let tail = g ++ words in
    let starts : StopsAt is_space words = opens_stops w (h ++ (l ++ rest)) (run_opens w run) in
    let skipped : behind is_space tail ≡ words = gap_skipped g words is_gap starts in
    let no_bracket : eqb (slice_index (behind is_space tail) 0) 40 ≡ false = rw skipped (run_no_bracket w (h ++ (l ++ rest)) run) in
    let regroup : (p ++ (g ++ (w ++ (h ++ l)))) ++ rest ≡ p ++ tail = simp append_assoc in
    inl (ap (term_at (filter_at d) i) regroup ∙ worded_again (filter_at d) i path p tail is_path (gap_parts g words is_gap) no_bracket ∙ behind_gap_again (filter_at d) i path g words (Compare path op x, rest) is_gap starts (compared_again path op x w h l rest is_op is_gap2 is_literal stops))
again (values {kind = kind} {n = n} {a = a} {text = text} {path = path} {t = t} p is_path o enc) d rest stops =
    let within = SubAttributes (attribute_meant path.meant) in
    let inner : InnerAgain within n a t = record { opens = opens o; reads = λ e more p q r. again o e more (p, q, r) } in
    values_reads kind n d p a text rest path t is_path enc (enclosed_again within n d 91 93 a text rest t inner enc refl refl refl)

-- the brackets of a value path, behind its name
pub values_again : (kind : Kind) (n d : ℕ) (a text rest : List ℕ) (path : AttributePath) (t : Tree) → Spells (SubAttributes (attribute_meant path.meant)) Disjunction n a t → Encloses 91 93 a text
    → Reads (suc n) d (listed_at (filter_at d) (Attributes kind) path (drop 1 (text ++ rest))) (Values path t, rest)
unfolding listed_at
values_again kind n d a text rest path t o enc =
    let within = SubAttributes (attribute_meant path.meant) in
    let inner : InnerAgain within n a t = record { opens = opens o; reads = λ e more p q r. again o e more (p, q, r) } in
    reads_mapped (suc n) d (Values path) (enclosed_at 93 (filter_at d within) (drop 1 (text ++ rest))) (t, rest) (enclosed_again within n d 91 93 a text rest t inner enc refl refl refl)

-- ---- a whole text

pub all_takes : (kind : Kind) (bytes : List ℕ) (t : Tree) → all_of (Attributes kind) bytes ≡ Ok t → IsFilter kind 32 bytes t
unfolding all_of filter_at
all_takes kind bytes t e =
    let b = bind_ok (filter_at 33 (Attributes kind) (behind is_space bytes)) (λ x. ended x.0 (behind is_space x.1)) t e in
    let took = disjunction_takes (filter_at 32) (Attributes kind) 32 (behind is_space bytes) b.0 (filter_takes 32) b.1 in
    let last : (rest : List ℕ) → ended b.0.0 rest ≡ Ok t → (b.0.0 ≡ t) × (rest ≡ []) = λ rest. elim rest as (λ r. ended b.0.0 r ≡ Ok t → (b.0.0 ≡ t) × (r ≡ [])) [ [] ↦ λ f. (ok_is b.0.0 t f, refl) | x ∷ xs ↦ λ f. absurd cc ] in
    let done = last (behind is_space b.0.1) b.2 in
    record {
      before = front is_space bytes;
      inner = took.text;
      after = front is_space b.0.1;
      before_blank = blank_front bytes;
      spells = subst (λ u. Spells (Attributes kind) Disjunction 32 took.text u) done.0 took.spells;
      after_blank = blank_front b.0.1;
      whole = front-behind is_space bytes ∙ ap (λ (r : List ℕ). front is_space bytes ++ r) (took.whole ∙ ap (λ (r : List ℕ). took.text ++ r) (front-behind is_space b.0.1 ∙ ap (λ (r : List ℕ). front is_space b.0.1 ++ r) done.1 ∙ append-nil (front is_space b.0.1)));
    }

pub all_again : (kind : Kind) (n : ℕ) (bytes : List ℕ) (t : Tree) → IsFilter kind n bytes t → Reads n 32 (all_of (Attributes kind) bytes) t
unfolding all_of filter_at
all_again kind n bytes t h =
    let skipped : behind is_space bytes ≡ h.inner ++ h.after = ap (behind is_space) h.whole ∙ blank_again h.before (h.inner ++ h.after) h.before_blank (opens_stops h.inner h.after (opens h.spells)) in
    let rest : behind is_space h.after ≡ [] = ap (behind is_space) (sym (append-nil h.after)) ∙ blank_again h.after [] h.after_blank tt in
    let parts : (s : List ℕ) → IsBlank s → StopsAt is_word_byte s × (past_join (codes "and") s ≡ None) × (past_join (codes "or") s ≡ None) = λ s k. blank_ends s k in
    let e = parts h.after h.after_blank in
    let reads = again h.spells 32 h.after (e.0, e.1, e.2) in
    let last : ended t (behind is_space h.after) ≡ Ok t = rw rest refl in
    subst (λ (b : List ℕ). Reads n 32 (disjunction_at (filter_at 32) (Attributes kind) b >>= λ x. ended x.0 (behind is_space x.1)) t) (sym skipped)
    (reads_then n 32 (disjunction_at (filter_at 32) (Attributes kind) (h.inner ++ h.after)) (λ x. ended x.0 (behind is_space x.1)) (t, h.after) t reads (inl last))
  where
    blank_ends : (s : List ℕ) → IsBlank s → StopsAt is_word_byte s × (past_join (codes "and") s ≡ None) × (past_join (codes "or") s ≡ None)
    blank_ends [] k = (tt, refl, refl)
    blank_ends (b ∷ bs) k =
        let skipped : behind is_space bs ≡ [] = ap (behind is_space) (sym (append-nil bs)) ∙ blank_again bs [] k.1 tt in
        (rw (k.0) refl, rw (k.0, skipped) refl, rw (k.0, skipped) refl)

pub is_read : (kind : Kind) (bytes : List ℕ) (t : Tree) → IsFilter kind 32 bytes t → all_of (Attributes kind) bytes ≡ Ok t
is_read kind bytes t h = elim (all_again kind 32 bytes t h) [ inl e ↦ e | inr p ↦ absurd (omega (arith, p.0)) ]

abbrev failed : Fault → Result Tree Fault
failed f = Err f

pub no_filter : (kind : Kind) (n : ℕ) (bytes : List ℕ) (t : Tree) → all_of (Attributes kind) bytes ≡ Err Syntax → IsFilter kind n bytes t → ⊥
no_filter kind n bytes t e h = elim (all_again kind n bytes t h) [ inl f ↦ absurd (let no : failed Syntax ≡ Ok t = sym e ∙ f in cc) | inr p ↦ absurd (let no : failed Syntax ≡ failed TooDeep = sym e ∙ p.1 in cc) ]

pub not_within : (kind : Kind) (bytes : List ℕ) (t : Tree) → all_of (Attributes kind) bytes ≡ Err TooDeep → IsFilter kind 32 bytes t → ⊥
not_within kind bytes t e h = absurd (let no : failed TooDeep ≡ Ok t = sym e ∙ is_read kind bytes t h in cc)
