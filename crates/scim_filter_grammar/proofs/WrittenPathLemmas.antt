-- The path of a change: what is read is spelled so, and what is spelled is read.
use Rattle.std.proofs.Common.{◌≡◌, ◌≤◌, ◌+◌, ℕ, suc, false, cond, append-nil, append_assoc, eqb, length, List, [], ◌∷◌, ◌++◌, drop, Option, Some, None, Result, Ok, Err, slice_index, refl, sym, ap, subst, ◌∙◌, arith, inl, inr}
use Rattle.std.specs.Prelude.{option_map, MatchOption}
use Rattle.std.specs.Result.{result_ok}
use Rattle.scim_schema.specs.declared.Kind.{Kind}
use Rattle.scim_schema.specs.declared.limits.TheConstants.{LONGEST_FILTER}
use Rattle.scim_filter_grammar.specs.declared.tree.Meant.{Meant}
use Rattle.scim_filter_grammar.specs.declared.tree.AttributePath.{AttributePath}
use Rattle.scim_filter_grammar.specs.declared.tree.Scope.TheVariants.{Attributes, SubAttributes}
use Rattle.scim_filter_grammar.specs.Bytes.{is_empty, lone_word, is_space, is_word_byte, front, behind}
use Rattle.scim_filter_grammar.specs.Names.{IsPath, IsPassed, is_name, names_text}
use Rattle.scim_filter_grammar.specs.Grammar.{IsBlank}
use Rattle.scim_filter_grammar.specs.Tree.{Tree, Values, attribute_meant}
use Rattle.scim_filter_grammar.specs.Reading.{Fault, ◌>>=◌, name_of, path_of, listed_at, enclosed_at, filter_at}
use Rattle.scim_filter_grammar.specs.Spelled.{OnePathIsSpelled}
use Rattle.scim_filter_grammar.specs.WrittenPaths.{Written, Plain, Filtered, SpellsPath, plain, filtered, IsWritten}
use Rattle.scim_filter_grammar.specs.PathReading.{nothing_left, ended_at, sub_at, filtered_at, behind_names_at, written_at}
use Rattle.scim_filter_grammar.proofs.FrontLemmas.{bind_ok, chosen, front-behind, blank_front, first_is}
use Rattle.scim_filter_grammar.proofs.SpelledLemmas.{StopsAt, front_again, behind_again, blank_again, Opens, opens_more, opens_stops, run_opens, name_word}
use Rattle.scim_filter_grammar.proofs.TakeLemmas.{ok_is, mapped_ok, name_takes, path_takes, enclosed_takes, filter_takes}
use Rattle.scim_filter_grammar.proofs.AgainLemmas.{Reads, reads_then, path_again, path_run, name_reads, encloses_first, values_again}

-- ---- what is read is spelled so

-- a path in front, and nothing but spaces behind it
pub record TakesPath (kind : Kind) (bytes : List ℕ) (w : Written) : Type 0 where
  pub text : List ℕ
  pub after : List ℕ
  pub spells : SpellsPath kind 32 text w
  pub after_blank : IsBlank after
  pub whole : bytes ≡ text ++ after

ended_takes : (w v : Written) (bytes : List ℕ) → ended_at w bytes ≡ Ok v → (w ≡ v) × IsBlank bytes
unfolding ended_at
ended_takes w v bytes e =
    let last : (rest : List ℕ) → nothing_left w rest ≡ Ok v → (w ≡ v) × (rest ≡ []) = λ rest. elim rest as (λ r. nothing_left w r ≡ Ok v → (w ≡ v) × (r ≡ [])) [ [] ↦ λ f. (ok_is w v f, refl) | x ∷ xs ↦ λ f. absurd cc ] in
    let done = last (behind is_space bytes) e in
    let whole : bytes ≡ front is_space bytes = front-behind is_space bytes ∙ ap (λ (r : List ℕ). front is_space bytes ++ r) done.1 ∙ append-nil (front is_space bytes) in
    (done.0, subst IsBlank (sym whole) (blank_front bytes))

-- the name of a sub-attribute behind a value path, or none
record TakesSubName (tree : Tree) (bytes : List ℕ) (w : Written) : Type 0 where
  sub : Option (List ℕ)
  after : List ℕ
  passed : IsPassed is_name sub
  is : Filtered tree sub ≡ w
  after_blank : IsBlank after
  joins : (a : List ℕ) → a ++ bytes ≡ names_text a sub ++ after

sub_name_takes : (tree : Tree) (bytes : List ℕ) (w : Written) → sub_at tree bytes ≡ Ok w → TakesSubName tree bytes w
unfolding sub_at
sub_name_takes tree bytes w e =
    let rest = drop 1 bytes in
    let after = behind is_word_byte rest in
    let named = name_of (front is_word_byte rest) >>= λ name. ended_at (Filtered tree (Some name)) after in
    chosen (TakesSubName tree bytes w) (eqb (slice_index bytes 0) 46) named (ended_at (Filtered tree None) bytes) (Ok w) e
    (λ h f.
    let b = bind_ok (name_of (front is_word_byte rest)) (λ name. ended_at (Filtered tree (Some name)) after) w f in
    let is = name_takes (front is_word_byte rest) b.0 b.1 in
    let done = ended_takes (Filtered tree (Some b.0)) w after b.2 in
    let parts : bytes ≡ 46 ∷ (b.0 ++ after) = first_is bytes 45 h ∙ ap (λ (t : List ℕ). 46 ∷ t) (front-behind is_word_byte rest ∙ ap (λ (t : List ℕ). t ++ after) is.0) in
    record { sub = Some b.0; after = after; passed = is.1; is = done.0; after_blank = done.1; joins = λ a. ap (λ (t : List ℕ). a ++ t) parts ∙ sym (append_assoc a (46 ∷ b.0) after) })
    (λ _ f.
    let done = ended_takes (Filtered tree None) w bytes f in
    record { sub = None; after = bytes; passed = tt; is = done.0; after_blank = done.1; joins = λ a. refl })

filtered_takes : (kind : Kind) (path : AttributePath) (bytes : List ℕ) (w : Written) → bytes ≡ 91 ∷ drop 1 bytes → filtered_at 32 kind path (drop 1 bytes) ≡ Ok w → (p : List ℕ) → IsPath (Attributes kind) p path → TakesPath kind (p ++ bytes) w
unfolding filtered_at listed_at
filtered_takes kind path bytes w first e p is_path =
    let within = SubAttributes (attribute_meant path.meant) in
    let b = bind_ok (listed_at (filter_at 32) (Attributes kind) path (drop 1 bytes)) (λ x. sub_at x.0 x.1) w e in
    let m = mapped_ok (Values path) (enclosed_at 93 (filter_at 32 within) (drop 1 bytes)) b.0 b.1 in
    let t = enclosed_takes (filter_at 32) within 32 91 93 (drop 1 bytes) m.0 (filter_takes 32) m.1 in
    let s = sub_name_takes b.0.0 b.0.1 w b.2 in
    let tree : Values path m.0.0 ≡ b.0.0 = ap (λ (z : Tree × List ℕ). z.0) m.2 in
    let rest : m.0.1 ≡ b.0.1 = ap (λ (z : Tree × List ℕ). z.1) m.2 in
    let written : Filtered (Values path m.0.0) s.sub ≡ w = ap (λ (z : Tree). Filtered z s.sub) tree ∙ s.is in
    let spells : SpellsPath kind 32 (p ++ names_text t.text s.sub) (Filtered (Values path m.0.0) s.sub) =
    subst (λ k. SpellsPath kind k (p ++ names_text t.text s.sub) (Filtered (Values path m.0.0) s.sub)) (sym t.is_depth) (filtered p is_path t.spells t.encloses s.passed) in
    let parts : bytes ≡ names_text t.text s.sub ++ s.after = first ∙ t.whole ∙ ap (λ (r : List ℕ). t.text ++ r) rest ∙ s.joins t.text in
    record {
      text = p ++ names_text t.text s.sub;
      after = s.after;
      spells = subst (λ z. SpellsPath kind 32 (p ++ names_text t.text s.sub) z) written spells;
      after_blank = s.after_blank;
      whole = ap (λ (r : List ℕ). p ++ r) parts ∙ sym (append_assoc p (names_text t.text s.sub) s.after);
    }

pub written_takes : (kind : Kind) (bytes : List ℕ) (w : Written) → written_at 32 kind bytes ≡ Ok w → TakesPath kind bytes w
unfolding written_at behind_names_at
written_takes kind bytes w e =
    let word = front is_word_byte bytes in
    let after = behind is_word_byte bytes in
    let a = bind_ok (path_of (Attributes kind) word) (λ path. behind_names_at 32 kind path after) w e in
    let is_path = path_takes (Attributes kind) word a.0 a.1 in
    let whole : bytes ≡ word ++ after = front-behind is_word_byte bytes in
    chosen (TakesPath kind bytes w) (eqb (slice_index after 0) 91) (filtered_at 32 kind a.0 (drop 1 after)) (ended_at (Plain a.0) after) (Ok w) a.2
    (λ h f. subst (λ (b : List ℕ). TakesPath kind b w) (sym whole) (filtered_takes kind a.0 after w (first_is after 90 h) f word is_path))
    (λ _ f.
    let done = ended_takes (Plain a.0) w after f in
    record { text = word; after = after; spells = subst (λ z. SpellsPath kind 32 word z) done.0 (plain is_path); after_blank = done.1; whole = whole })

-- ---- what is spelled is read

blank_stops : (s : List ℕ) → IsBlank s → StopsAt is_word_byte s
blank_stops [] h = tt
blank_stops (b ∷ bs) h = rw (h.0) refl

blank_begins : (s : List ℕ) (c : ℕ) → IsBlank s → eqb 0 c ≡ false → eqb 32 c ≡ false → eqb (slice_index s 0) c ≡ false
blank_begins [] c h e f = e
blank_begins (b ∷ bs) c h e f = rw (h.0) f

ended_again : (w : Written) (s : List ℕ) → IsBlank s → ended_at w s ≡ Ok w
unfolding ended_at
ended_again w s h =
    let skipped : behind is_space s ≡ [] = ap (behind is_space) (sym (append-nil s)) ∙ blank_again s [] h tt in
    rw skipped refl

-- what stands behind the bracket that closes a value path
abbrev behind_bracket : Option (List ℕ) → List ℕ → List ℕ
behind_bracket None after = after
behind_bracket (Some name) after = 46 ∷ (name ++ after)

bracket_parts : (a : List ℕ) (sub : Option (List ℕ)) (after : List ℕ) → names_text a sub ++ after ≡ a ++ behind_bracket sub after
bracket_parts a None after = refl
bracket_parts a (Some name) after = append_assoc a (46 ∷ name) after

sub_name_again : (tree : Tree) (sub : Option (List ℕ)) (after : List ℕ) → IsPassed is_name sub → IsBlank after → sub_at tree (behind_bracket sub after) ≡ Ok (Filtered tree sub)
unfolding sub_at
sub_name_again tree None after passed h =
    let no_dot : eqb (slice_index after 0) 46 ≡ false = blank_begins after 46 h refl refl in
    rw (no_dot, ended_again (Filtered tree None) after h) refl
sub_name_again tree (Some name) after passed h =
    let each = name_word name passed in
    let stops = blank_stops after h in
    rw (front_again is_word_byte name after each stops, behind_again is_word_byte name after each stops, name_reads name passed, ended_again (Filtered tree (Some name)) after h) refl

names_again_at : (d : ℕ) (kind : Kind) (path : AttributePath) (p rest : List ℕ) → IsPath (Attributes kind) p path → StopsAt is_word_byte rest → written_at d kind (p ++ rest) ≡ behind_names_at d kind path rest
unfolding written_at
names_again_at d kind path p rest is_path stops =
    let run = path_run (Attributes kind) p path is_path in
    rw (front_again is_word_byte p rest run.each stops, behind_again is_word_byte p rest run.each stops, path_again (Attributes kind) p path is_path) refl

pub written_again : (kind : Kind) {n : ℕ} {text : List ℕ} {w : Written} → SpellsPath kind n text w → (d : ℕ) (after : List ℕ) → IsBlank after → Reads n d (written_at d kind (text ++ after)) w
unfolding behind_names_at filtered_at
written_again kind (plain {text = text} {path = path} is_path) d after h =
    let no_bracket : eqb (slice_index after 0) 91 ≡ false = blank_begins after 91 h refl refl in
    inl (names_again_at d kind path text after is_path (blank_stops after h) ∙ rw (no_bracket, ended_again (Plain path) after h) refl)
written_again kind (filtered {n = n} {a = a} {enclosed = enclosed} {path = path} {t = t} {sub = sub} p is_path o enc passed) d after h =
    let rest = behind_bracket sub after in
    let bracket = drop 1 (enclosed ++ rest) in
    let first : enclosed ++ rest ≡ 91 ∷ bracket = encloses_first 91 93 a enclosed rest enc in
    let regroup : (p ++ names_text enclosed sub) ++ after ≡ p ++ 91 ∷ bracket = append_assoc p (names_text enclosed sub) after ∙ ap (λ (x : List ℕ). p ++ x) (bracket_parts enclosed sub after ∙ first) in
    let reads : written_at d kind ((p ++ names_text enclosed sub) ++ after) ≡ (listed_at (filter_at d) (Attributes kind) path bracket >>= λ x. sub_at x.0 x.1) =
    ap (written_at d kind) regroup ∙ names_again_at d kind path p (91 ∷ bracket) is_path refl in
    subst (λ r. Reads (suc n) d r (Filtered (Values path t) sub)) (sym reads)
    (reads_then (suc n) d (listed_at (filter_at d) (Attributes kind) path bracket) (λ x. sub_at x.0 x.1) (Values path t, rest) (Filtered (Values path t) sub) (values_again kind n d a enclosed rest path t o enc) (inl (sub_name_again (Values path t) sub after passed h)))

-- ---- a whole text

pub whole_takes : (kind : Kind) (bytes : List ℕ) (w : Written) → written_at 32 kind (behind is_space bytes) ≡ Ok w → IsWritten kind 32 bytes w
whole_takes kind bytes w e =
    let took = written_takes kind (behind is_space bytes) w e in
    record {
      before = front is_space bytes;
      inner = took.text;
      after = took.after;
      before_blank = blank_front bytes;
      spells = took.spells;
      after_blank = took.after_blank;
      whole = front-behind is_space bytes ∙ ap (λ (r : List ℕ). front is_space bytes ++ r) took.whole;
    }

path_opens : (kind : Kind) {n : ℕ} {text : List ℕ} {w : Written} → SpellsPath kind n text w → Opens text
path_opens kind (plain {text = text} {path = path} is_path) = run_opens text (path_run (Attributes kind) text path is_path)
path_opens kind (filtered {enclosed = enclosed} {path = path} {sub = sub} p is_path o enc passed) = opens_more p (names_text enclosed sub) (run_opens p (path_run (Attributes kind) p path is_path))

whole_reads : (kind : Kind) (n d : ℕ) (bytes : List ℕ) (w : Written) → IsWritten kind n bytes w → Reads n d (written_at d kind (behind is_space bytes)) w
whole_reads kind n d bytes w h =
    let skipped : behind is_space bytes ≡ h.inner ++ h.after = ap (behind is_space) h.whole ∙ blank_again h.before (h.inner ++ h.after) h.before_blank (opens_stops h.inner h.after (path_opens kind h.spells)) in
    subst (λ (b : List ℕ). Reads n d (written_at d kind b) w) (sym skipped) (written_again kind h.spells d h.after h.after_blank)

-- brackets that may be nested deep enough are all read
deep_enough : (kind : Kind) (n d : ℕ) (bytes : List ℕ) (w : Written) → n ≤ d → IsWritten kind n bytes w → written_at d kind (behind is_space bytes) ≡ Ok w
deep_enough kind n d bytes w fits h = elim (whole_reads kind n d bytes w h) [ inl e ↦ e | inr p ↦ absurd (omega (arith, fits, p.0)) ]

pub whole_again : (kind : Kind) (bytes : List ℕ) (w : Written) → IsWritten kind 32 bytes w → written_at 32 kind (behind is_space bytes) ≡ Ok w
whole_again kind bytes w h = deep_enough kind 32 32 bytes w (omega arith) h

pub one_path_is_spelled : OnePathIsSpelled
one_path_is_spelled kind text m n v w h k =
    let one = deep_enough kind m (m + n) text v (omega arith) h in
    let other = deep_enough kind n (m + n) text w (omega arith) k in
    ok_is v w (sym one ∙ other)

pub not_written : (kind : Kind) (bytes : List ℕ) (f : Fault) (w : Written) → written_at 32 kind (behind is_space bytes) ≡ Err f → IsWritten kind 32 bytes w → ⊥
not_written kind bytes f w e h = absurd (let no : fault f ≡ Ok w = sym e ∙ whole_again kind bytes w h in cc)
  where
    fault : Fault → Result Written Fault
    fault f = Err f

-- ---- a path of names alone

-- the word of a text, and what is behind it
abbrev pub word_in : List ℕ → List ℕ
word_in bytes = front is_word_byte (behind is_space bytes)

abbrev pub behind_word_in : List ℕ → List ℕ
behind_word_in bytes = behind is_space (behind is_word_byte (behind is_space bytes))

blank_of : (s : List ℕ) → behind is_space s ≡ [] → IsBlank s
blank_of s e = subst IsBlank (sym (front-behind is_space s ∙ ap (λ (r : List ℕ). front is_space s ++ r) e ∙ append-nil (front is_space s))) (blank_front s)

pub plain_takes : (kind : Kind) (bytes : List ℕ) (path : AttributePath) → behind_word_in bytes ≡ [] → path_of (Attributes kind) (word_in bytes) ≡ Ok path → IsWritten kind 0 bytes (Plain path)
plain_takes kind bytes path none e = record {
  before = front is_space bytes;
  inner = word_in bytes;
  after = behind is_word_byte (behind is_space bytes);
  before_blank = blank_front bytes;
  spells = plain (path_takes (Attributes kind) (word_in bytes) path e);
  after_blank = blank_of (behind is_word_byte (behind is_space bytes)) none;
  whole = front-behind is_space bytes ∙ ap (λ (r : List ℕ). front is_space bytes ++ r) (front-behind is_word_byte (behind is_space bytes));
}

spelled_path : {kind : Kind} {n : ℕ} {text : List ℕ} {path : AttributePath} → SpellsPath kind n text (Plain path) → IsPath (Attributes kind) text path
spelled_path (plain is_path) = is_path

-- the text of a path is cut into its word and spaces
pub record IsCut (kind : Kind) (bytes : List ℕ) (path : AttributePath) : Type 0 where
  pub none_left : behind_word_in bytes ≡ []
  pub reads : path_of (Attributes kind) (word_in bytes) ≡ Ok path

pub plain_again : (kind : Kind) (n : ℕ) (bytes : List ℕ) (path : AttributePath) → IsWritten kind n bytes (Plain path) → IsCut kind bytes path
plain_again kind n bytes path h =
    let is_path = spelled_path h.spells in
    let run = path_run (Attributes kind) h.inner path is_path in
    let stops = blank_stops h.after h.after_blank in
    let skipped : behind is_space bytes ≡ h.inner ++ h.after = ap (behind is_space) h.whole ∙ blank_again h.before (h.inner ++ h.after) h.before_blank (opens_stops h.inner h.after (run_opens h.inner run)) in
    let word : word_in bytes ≡ h.inner = ap (front is_word_byte) skipped ∙ front_again is_word_byte h.inner h.after run.each stops in
    let rest : behind is_word_byte (behind is_space bytes) ≡ h.after = ap (behind is_word_byte) skipped ∙ behind_again is_word_byte h.inner h.after run.each stops in
    record {
      none_left = ap (behind is_space) rest ∙ ap (behind is_space) (sym (append-nil h.after)) ∙ blank_again h.after [] h.after_blank tt;
      reads = ap (path_of (Attributes kind)) word ∙ path_again (Attributes kind) h.inner path is_path;
    }

-- what the one path names that a text spells within the limit, if it spells one
abbrev pub NamesAlone : Kind → List ℕ → Option Meant → Type 0
NamesAlone kind bytes m =
    MatchOption m ((path : AttributePath) → length bytes ≤ LONGEST_FILTER → ¬ (IsWritten kind 0 bytes (Plain path)))
    (λ n. (path : AttributePath) × (length bytes ≤ LONGEST_FILTER) × IsWritten kind 0 bytes (Plain path) × (path.meant ≡ n))

-- where a text has one word alone, that word is the path
pub lone_parts : (bytes w : List ℕ) → lone_word bytes ≡ Some w → (behind_word_in bytes ≡ []) × (word_in bytes ≡ w)
lone_parts bytes w e = at (behind_word_in bytes) refl e
  where
    at : (rest : List ℕ) → behind_word_in bytes ≡ rest → cond (is_empty rest) (Some (word_in bytes)) None ≡ Some w → (behind_word_in bytes ≡ []) × (word_in bytes ≡ w)
    at [] h f = (h, cc)
    at (b ∷ bs) h f = absurd cc

pub named_alone : (kind : Kind) (bytes w : List ℕ) → length bytes ≤ LONGEST_FILTER → lone_word bytes ≡ Some w → NamesAlone kind bytes (option_map (λ (path : AttributePath). path.meant) (result_ok (path_of (Attributes kind) w)))
named_alone kind bytes w short is =
    let parts = lone_parts bytes w is in
    let at : (r : Result AttributePath Fault) → path_of (Attributes kind) (word_in bytes) ≡ r → NamesAlone kind bytes (option_map (λ (path : AttributePath). path.meant) (result_ok r)) =
    λ r. elim r as (λ s. path_of (Attributes kind) (word_in bytes) ≡ s → NamesAlone kind bytes (option_map (λ (path : AttributePath). path.meant) (result_ok s))) [
      | Ok p ↦ λ e. (p, short, plain_takes kind bytes p parts.0 e, refl)
      | Err f ↦ λ e path _ h. absurd (let no : fault_of f ≡ Ok path = sym e ∙ (plain_again kind 0 bytes path h).reads in cc)
    ]
    in subst (λ (v : List ℕ). NamesAlone kind bytes (option_map (λ (path : AttributePath). path.meant) (result_ok (path_of (Attributes kind) v)))) parts.1 (at (path_of (Attributes kind) (word_in bytes)) refl)
  where
    fault_of : Fault → Result AttributePath Fault
    fault_of f = Err f

pub not_alone : (kind : Kind) (bytes : List ℕ) (path : AttributePath) → lone_word bytes ≡ None → IsWritten kind 0 bytes (Plain path) → ⊥
not_alone kind bytes path e h =
    let cut = plain_again kind 0 bytes path h in
    let one : lone_word bytes ≡ Some (word_in bytes) = rw (cut.none_left) refl in
    absurd (let no : None ≡ Some (word_in bytes) = sym e ∙ one in cc)
