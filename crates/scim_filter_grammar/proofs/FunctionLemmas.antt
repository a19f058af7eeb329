-- The functions that give what a text spells say what the grammar says.
use Rattle.std.proofs.Common.{◌≡◌, ◌≤◌, ◌<◌, ℕ, Bool, true, false, cond, List, length, Option, Some, None, Result, Ok, Err, refl, sym, ap, ◌∙◌, arith}
use Rattle.std.specs.Prelude.{nat_le, option_and_then}
use Rattle.std.specs.Result.{result_ok}
use Rattle.std.proofs.lemmas.Bool.{leb-true, le-leb}
use Rattle.scim_schema.specs.declared.Kind.{Kind}
use Rattle.scim_filter_grammar.specs.declared.tree.AttributePath.{AttributePath}
use Rattle.scim_filter_grammar.specs.declared.tree.Scope.TheVariants.{Attributes}
use Rattle.scim_filter_grammar.specs.Bytes.{lone_word}
use Rattle.scim_filter_grammar.specs.Grammar.{IsFilter}
use Rattle.scim_schema.specs.declared.limits.TheConstants.{LONGEST_FILTER}
use Rattle.scim_filter_grammar.specs.Reading.{Fault, path_of, all_of}
use Rattle.scim_filter_grammar.specs.Tree.{Tree}
use Rattle.scim_filter_grammar.specs.Types.{fits}
use Rattle.scim_filter_grammar.specs.WrittenPaths.{IsWritten, Plain}
use Rattle.scim_filter_grammar.specs.Spelled.{fitting, filter_in, path_in, FiltersAreSpelled, PathsAreSpelled}
use Rattle.scim_filter_grammar.proofs.AgainLemmas.{all_takes, is_read}
use Rattle.scim_filter_grammar.proofs.WrittenPathLemmas.{word_in, plain_takes, plain_again, lone_parts}

-- ---- filters

fitting_some : (o : Option Tree) (t : Tree) → fitting o ≡ Some t → (o ≡ Some t) × (fits t ≡ true)
fitting_some None t e = absurd cc
fitting_some (Some u) t e = at (fits u) refl e
  where
    at : (b : Bool) → fits u ≡ b → cond b (Some u) None ≡ Some t → (Some u ≡ Some t) × (fits t ≡ true)
    at true h f = (f, (let same : u ≡ t = cc in ap fits (sym same) ∙ h))
    at false h f = absurd cc

ok_some : {A : Type 0} (r : Result A Fault) (x : A) → result_ok r ≡ Some x → r ≡ Ok x
ok_some (Ok y) x e = cc
ok_some (Err f) x e = absurd cc

within : {A : Type 0} (b : Bool) (o : Option A) (x : A) → cond b o None ≡ Some x → (b ≡ true) × (o ≡ Some x)
within true o x e = (refl, e)
within false o x e = absurd cc

pub filter_in-spelled : (kind : Kind) (text : List ℕ) (t : Tree) → filter_in kind text ≡ Some t → (length text ≤ LONGEST_FILTER) × IsFilter kind 32 text t × (fits t ≡ true)
unfolding filter_in
filter_in-spelled kind text t e =
    let a = within (nat_le (length text) LONGEST_FILTER) (fitting (result_ok (all_of (Attributes kind) text))) t e in
    let b = fitting_some (result_ok (all_of (Attributes kind) text)) t a.1 in
    (leb-true (length text) LONGEST_FILTER a.0, all_takes kind text t (ok_some (all_of (Attributes kind) text) t b.0), b.1)

pub spelled-filter_in : (kind : Kind) (text : List ℕ) (t : Tree) → length text ≤ LONGEST_FILTER → IsFilter kind 32 text t → fits t ≡ true → filter_in kind text ≡ Some t
unfolding filter_in
spelled-filter_in kind text t short h typed = rw (le-leb (length text) LONGEST_FILTER short, is_read kind text t h, typed) refl

pub filters_are_spelled : FiltersAreSpelled
filters_are_spelled kind text t = (filter_in-spelled kind text t, λ h. spelled-filter_in kind text t h.0 h.1 h.2)

-- where nothing is spelled, the function gives nothing
pub none_spelled : (kind : Kind) (text : List ℕ) → ((t : Tree) → length text ≤ LONGEST_FILTER → IsFilter kind 32 text t → fits t ≡ true → ⊥) → filter_in kind text ≡ None
none_spelled kind text none =
    let at : (o : Option Tree) → filter_in kind text ≡ o → o ≡ None = λ o. elim o as (λ p. filter_in kind text ≡ p → p ≡ None) [
      | None ↦ λ e. refl
      | Some t ↦ λ e. absurd (let h = filter_in-spelled kind text t e in none t h.0 h.1 h.2)
    ] in
    at (filter_in kind text) refl

-- ---- paths

path_takes_alone : (kind : Kind) (text : List ℕ) (path : AttributePath) (o : Option (List ℕ)) → lone_word text ≡ o → option_and_then (λ word. result_ok (path_of (Attributes kind) word)) o ≡ Some path → IsWritten kind 0 text (Plain path)
path_takes_alone kind text path None h e = absurd cc
path_takes_alone kind text path (Some w) h e =
    let parts = lone_parts text w h in
    plain_takes kind text path parts.0 (ap (path_of (Attributes kind)) parts.1 ∙ ok_some (path_of (Attributes kind) w) path e)

pub path_in-spelled : (kind : Kind) (text : List ℕ) (path : AttributePath) → path_in kind text ≡ Some path → (length text ≤ LONGEST_FILTER) × IsWritten kind 0 text (Plain path)
unfolding path_in
path_in-spelled kind text path e =
    let a = within (nat_le (length text) LONGEST_FILTER) (option_and_then (λ word. result_ok (path_of (Attributes kind) word)) (lone_word text)) path e in
    (leb-true (length text) LONGEST_FILTER a.0, path_takes_alone kind text path (lone_word text) refl a.1)

pub spelled-path_in : (kind : Kind) (text : List ℕ) (path : AttributePath) → length text ≤ LONGEST_FILTER → IsWritten kind 0 text (Plain path) → path_in kind text ≡ Some path
unfolding path_in
spelled-path_in kind text path short h =
    let cut = plain_again kind 0 text path h in
    let one : lone_word text ≡ Some (word_in text) = rw (cut.none_left) refl in
    rw (le-leb (length text) LONGEST_FILTER short, one, cut.reads) refl

pub paths_are_spelled : PathsAreSpelled
paths_are_spelled kind text path = (path_in-spelled kind text path, λ h. spelled-path_in kind text path h.0 h.1)

-- the path in a text that has one word alone, in one that hasn't, and in one that is too long
pub path_in-word : (kind : Kind) (text w : List ℕ) → length text ≤ LONGEST_FILTER → lone_word text ≡ Some w → path_in kind text ≡ result_ok (path_of (Attributes kind) w)
unfolding path_in
path_in-word kind text w short e = rw (le-leb (length text) LONGEST_FILTER short, e) refl

pub path_in-none : (kind : Kind) (text : List ℕ) → length text ≤ LONGEST_FILTER → lone_word text ≡ None → path_in kind text ≡ None
unfolding path_in
path_in-none kind text short e = rw (le-leb (length text) LONGEST_FILTER short, e) refl

pub path_in-long : (kind : Kind) (text : List ℕ) → LONGEST_FILTER < length text → path_in kind text ≡ None
path_in-long kind text long =
    let at : (o : Option AttributePath) → path_in kind text ≡ o → o ≡ None = λ o. elim o as (λ p. path_in kind text ≡ p → p ≡ None) [
      | None ↦ λ e. refl
      | Some path ↦ λ e. absurd (let short = (path_in-spelled kind text path e).0 in omega (arith, long, short))
    ] in
    at (path_in kind text) refl
