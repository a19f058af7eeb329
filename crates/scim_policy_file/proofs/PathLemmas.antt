-- What the entries of `paths` name, and the fault of the first faulty one.
use Rattle.std.proofs.Common.{◌≡◌, refl, sym, ap, ◌∙◌, ℕ, zero, suc, ◌+◌, ◌<◌, arith, Bool, true, false, ◌&&◌, List, [], ◌∷◌, ◌++◌, append_assoc, length, get_or, map, take, drop, Option, None, Some, Ok, Err, Vec, Bor}
use native.Mathlib.Numerals.{unary_clauses}
use Rattle.std.specs.Prelude.{filter_map, is_some, option_and_then, option_to_list, slice_get, if◌then◌else◌}
use Rattle.std.specs.List.{list_all, cons_option}
use Rattle.std.specs.declared.alloc.Global.{Global}
use Rattle.std.proofs.lemmas.List.{at_drop_more, map-append, take_more}
use Rattle.std.proofs.lemmas.List.Elements.{filter_map-append}
use Rattle.scim_schema.specs.declared.Kind.{Kind}
use Rattle.scim_schema.specs.declared.Op.{Op}
use Rattle.scim_policy_file.specs.declared.faults.Cause.{Cause}
use Rattle.scim_policy_file.specs.declared.faults.Cause.TheVariants.{Name, ValueFilter}
use Rattle.scim_policy_file.specs.declared.versions.FileVersion.{FileVersion}
use Rattle.scim_policy_file.specs.declared.rule_paths.RulePath.{RulePath}
use Rattle.scim_policy_file.specs.declared.rule_paths.Standing.{Standing}
use Rattle.scim_policy_file.specs.declared.rule_paths.Standing.TheVariants.{Allowed, Refused}
use Rattle.scim_policy_file.specs.Paths.{path_named, is_allowed, fault_of, fault_in, or_first}
use Rattle.scim_policy_file.specs.code.Standings.{standing_of, standings_on, columns_on, fault_with, fault_at, faults_from, first_of}
use Rattle.scim_policy_file.specs.code.Written.{text_at}

-- ---- one entry more

as_list : {X : Type 0} (o : Option X) → cons_option o [] ≡ option_to_list o
as_list None = refl
as_list (Some x) = refl

of_one : {X Y : Type 0} (g : X → Option Y) (o : Option X) → filter_map g (cons_option o []) ≡ option_to_list (option_and_then g o)
of_one g None = refl
of_one g (Some x) = as_list (g x)

texts_more : (texts : List (Bor (List ℕ))) (i : ℕ) (d : Bor (List ℕ)) → i < length texts → map text_at (take (i + 1) texts) ≡ map text_at (take i texts) ++ text_at (get_or texts i d) ∷ []
texts_more texts i d less = ap (map text_at) (take_more texts i d less) ∙ map-append text_at (take i texts) (get_or texts i d ∷ [])

-- two filters one after the other, over a list with one element more
pub given_more : {X Y Z : Type 0} (f : X → Option Y) (g : Y → Option Z) (xs : List X) (x : X) → filter_map g (filter_map f (xs ++ x ∷ [])) ≡ filter_map g (filter_map f xs) ++ option_to_list (option_and_then g (f x))
given_more f g xs x =
    ap (filter_map g) (filter_map-append f xs (x ∷ []))
    ∙ filter_map-append g (filter_map f xs) (filter_map f (x ∷ []))
    ∙ ap (λ ys. filter_map g (filter_map f xs) ++ ys) (of_one g (f x))

-- the same of texts up to an index
pub entries_more : {Y Z : Type 0} (f : List ℕ → Option Y) (g : Y → Option Z) (texts : List (Bor (List ℕ))) (i : ℕ) (d : Bor (List ℕ)) (done : List Z) → i < length texts
    → done ≡ filter_map g (filter_map f (map text_at (take i texts)))
    → done ++ option_to_list (option_and_then g (f (text_at (get_or texts i d)))) ≡ filter_map g (filter_map f (map text_at (take (i + 1) texts)))
entries_more f g texts i d done less is =
    ap (λ zs. zs ++ option_to_list (option_and_then g (f (text_at (get_or texts i d))))) is
    ∙ sym (given_more f g (map text_at (take i texts)) (text_at (get_or texts i d)))
    ∙ ap (λ ts. filter_map g (filter_map f ts)) (sym (texts_more texts i d less))

-- the standings of texts up to an index
pub standings_more : (f : List ℕ → Standing) (before done : List Standing) (texts : List (Bor (List ℕ))) (i : ℕ) (d : Bor (List ℕ)) → i < length texts
    → done ≡ before ++ map f (map text_at (take i texts))
    → done ++ f (text_at (get_or texts i d)) ∷ [] ≡ before ++ map f (map text_at (take (i + 1) texts))
standings_more f before done texts i d less is =
    let t = text_at (get_or texts i d) in
    let more : map f (map text_at (take i texts)) ++ f t ∷ [] ≡ map f (map text_at (take (i + 1) texts)) =
    sym (map-append f (map text_at (take i texts)) (t ∷ [])) ∙ ap (map f) (sym (texts_more texts i d less)) in
    ap (λ ss. ss ++ f t ∷ []) is ∙ append_assoc before (map f (map text_at (take i texts))) (f t ∷ []) ∙ ap (λ ss. before ++ ss) more

-- ---- the fault of an entry

-- whether an entry is faulty whose paths on some kinds are allowed
abbrev judged : List Op → List RulePath → Option Cause
judged ops ps = if list_all (is_allowed ops) ps then None else Some ValueFilter

if_allowed : (b all : Bool) (rest : List (Option Standing)) → fault_with None rest ≡ (if all then None else Some ValueFilter)
    → fault_with None (Some (if b then Allowed else Refused) ∷ rest) ≡ (if b && all then None else Some ValueFilter)
if_allowed true all rest h = h
if_allowed false all rest h = refl

on_kind_more : (ops : List Op) (o : Option RulePath) (ps : List RulePath) (rest : List (Option Standing)) → fault_with None rest ≡ judged ops ps
    → fault_with None (Some (standing_of ops o) ∷ rest) ≡ judged ops (cons_option o ps)
on_kind_more ops None ps rest h = h
on_kind_more ops (Some p) ps rest h = if_allowed (is_allowed ops p) (list_all (is_allowed ops) ps) rest h

known_fault : (ops : List Op) (f : Kind → Option RulePath) (kinds : List Kind) → fault_with None (map (λ k. Some (standing_of ops (f k))) kinds) ≡ judged ops (filter_map f kinds)
known_fault ops f [] = refl
known_fault ops f (k ∷ kinds) = on_kind_more ops (f k) (filter_map f kinds) (map (λ k. Some (standing_of ops (f k))) kinds) (known_fault ops f kinds)

first_allowed : (b all : Bool) (rest : List (Option Standing)) → fault_with None rest ≡ (if all then None else Some ValueFilter)
    → fault_with (Some Name) (Some (if b then Allowed else Refused) ∷ rest) ≡ (if b && all then None else Some ValueFilter)
first_allowed true all rest h = h
first_allowed false all rest h = refl

on_first_kind : (ops : List Op) (o : Option RulePath) (ps : List RulePath) (rest : List (Option Standing)) → fault_with None rest ≡ judged ops ps → fault_with (Some Name) rest ≡ fault_of ops ps
    → fault_with (Some Name) (Some (standing_of ops o) ∷ rest) ≡ fault_of ops (cons_option o ps)
on_first_kind ops None ps rest known first = first
on_first_kind ops (Some p) ps rest known first = first_allowed (is_allowed ops p) (list_all (is_allowed ops) ps) rest known

-- the fault of an entry, from what it names on each kind
entry_fault : (ops : List Op) (f : Kind → Option RulePath) (kinds : List Kind) → fault_with (Some Name) (map (λ k. Some (standing_of ops (f k))) kinds) ≡ fault_of ops (filter_map f kinds)
entry_fault ops f [] = refl
entry_fault ops f (k ∷ kinds) = on_first_kind ops (f k) (filter_map f kinds) (map (λ k. Some (standing_of ops (f k))) kinds) (known_fault ops f kinds) (entry_fault ops f kinds)

-- ---- the faults of all entries

-- what the entry at an index is
at_index : (f : List ℕ → Standing) (texts : List (List ℕ)) (i : ℕ) (t : List ℕ) (more : List (List ℕ)) → drop i texts ≡ t ∷ more → slice_get (map f texts) i ≡ Some (f t)
at_index f [] zero t more e = cc
at_index f [] (suc i) t more e = cc
at_index f (x ∷ xs) zero t more e = cc
at_index f (x ∷ xs) (suc i) t more e = at_index f xs i t more e

-- what it is on each kind
on_kinds : (version : FileVersion) (ops : List Op) (texts : List (List ℕ)) (i : ℕ) (t : List ℕ) (more : List (List ℕ)) → drop i texts ≡ t ∷ more → (kinds : List Kind)
    → map (λ column. slice_get column i) (columns_on version ops kinds texts) ≡ map (λ k. Some (standing_of ops (path_named version t k))) kinds
on_kinds version ops texts i t more e [] = refl
on_kinds version ops texts i t more e (k ∷ kinds) =
    let own : slice_get (standings_on version ops texts k) i ≡ Some (standing_of ops (path_named version t k)) = at_index (λ t. standing_of ops (path_named version t k)) texts i t more e in
    let rest = on_kinds version ops texts i t more e kinds in
    cc

-- its fault
fault_is : (version : FileVersion) (ops : List Op) (kinds : List Kind) (texts : List (List ℕ)) (i : ℕ) (t : List ℕ) (more : List (List ℕ)) → drop i texts ≡ t ∷ more
    → fault_at i (columns_on version ops kinds texts) ≡ fault_in version ops kinds t
fault_is version ops kinds texts i t more e =
    ap (fault_with (Some Name)) (on_kinds version ops texts i t more e kinds) ∙ entry_fault ops (path_named version t) kinds

drop_next : (texts : List (List ℕ)) (i : ℕ) (t : List ℕ) (more : List (List ℕ)) → drop i texts ≡ t ∷ more → drop (i + 1) texts ≡ more
drop_next [] zero t more e = cc
drop_next [] (suc i) t more e = cc
drop_next (x ∷ xs) zero t more e = cc
drop_next (x ∷ xs) (suc i) t more e = simp unary_clauses (simp unary_clauses at (drop_next xs i t more e))

faults_left : (version : FileVersion) (ops : List Op) (kinds : List Kind) (texts : List (List ℕ)) (i : ℕ) (left : List (List ℕ)) → drop i texts ≡ left
    → faults_from i (columns_on version ops kinds texts) left ≡ filter_map (fault_in version ops kinds) left
faults_left version ops kinds texts i [] e = refl
faults_left version ops kinds texts i (t ∷ more) e =
    let own = fault_is version ops kinds texts i t more e in
    let rest = faults_left version ops kinds texts (i + 1) more (drop_next texts i t more e) in
    cc

-- the faults that the standings tell are those of the entries
pub faults_are : (version : FileVersion) (ops : List Op) (kinds : List Kind) (texts : List (List ℕ))
    → faults_from 0 (columns_on version ops kinds texts) texts ≡ filter_map (fault_in version ops kinds) texts
faults_are version ops kinds texts = faults_left version ops kinds texts 0 texts refl

-- ---- the loops over columns and entries

-- the column at an index is the next to be asked
pub column_next : (fault : Option Cause) (place i : ℕ) (columns : List (Vec Standing Global)) (d : Vec Standing Global) (s : Option Standing) → i < length columns → d ≡ get_or columns i d → s ≡ slice_get d.items place
    → fault_with fault (map (λ column. slice_get column place) (map (λ c. c.items) (drop i columns))) ≡ fault_with fault (s ∷ map (λ column. slice_get column place) (map (λ c. c.items) (drop (i + 1) columns)))
column_next fault place i columns d s less item at =
    let rest = map (λ column. slice_get column place) (map (λ (c : Vec Standing Global). c.items) (drop (i + 1) columns)) in
    at_drop_more (λ (cs : List (Vec Standing Global)). fault_with fault (map (λ column. slice_get column place) (map (λ c. c.items) cs))) columns i d less
    ∙ ap (λ (c : Vec Standing Global). fault_with fault (slice_get c.items place ∷ rest)) (sym item)
    ∙ ap (λ (o : Option Standing). fault_with fault (o ∷ rest)) (sym at)

-- the entry at an index is the next to be asked
pub entry_next : (columns : List (List Standing)) (place : ℕ) (texts : List (Bor (List ℕ))) (i : ℕ) → i < length texts
    → faults_from place columns (map text_at (drop i texts)) ≡ cons_option (fault_at place columns) (faults_from (place + 1) columns (map text_at (drop (i + 1) texts)))
entry_next columns place [] i less = absurd (omega (arith, less))
entry_next columns place (t ∷ texts) zero less = refl
entry_next columns place (t ∷ texts) (suc i) less = simp unary_clauses (simp unary_clauses at (entry_next columns place texts i (omega (arith, less))))

pub found_first : (o : Option Cause) (rest : List Cause) → is_some o ≡ true → first_of (cons_option o rest) ≡ o
found_first None rest is = cc
found_first (Some cause) rest is = refl

pub found_later : (o : Option Cause) (rest : List Cause) → is_some o ≡ false → first_of (cons_option o rest) ≡ first_of rest
found_later None rest is = refl
found_later (Some cause) rest is = cc

pub first_tells : {X : Type 0} (x : X) (causes : List Cause) (cause : Cause) → first_of causes ≡ Some cause → or_first x causes ≡ Err cause
first_tells x [] cause is = cc
first_tells x (other ∷ more) cause is = cc

pub none_tells : {X : Type 0} (x : X) (causes : List Cause) → first_of causes ≡ None → or_first x causes ≡ Ok x
none_tells x [] is = refl
none_tells x (cause ∷ more) is = cc
