-- What one walk over the rules decides for several operations, and what is looked for in it.
use Rattle.std.proofs.Common.{◌≡◌, refl, sym, subst, ap, ◌∙◌, ℕ, ◌+◌, ◌<◌, ◌≤◌, Bool, true, false, List, [], ◌∷◌, ◌++◌, length, get_or, drop, inl, inr}
use Rattle.std.specs.Prelude.{Option, Some, None, ◌&&◌, not, is_some, find, filter, map, if◌then◌else◌}
use Rattle.std.specs.List.{list_any, flat_map}
use Rattle.std.specs.Option.{option_or}
use Rattle.std.proofs.Math.ListN.{drop_of_length-le}
use Rattle.std.proofs.lemmas.Bool.{cases_Bool}
use Rattle.std.proofs.lemmas.List.{at_drop_more}
use Rattle.std.proofs.lemmas.List.Folds.{find-append}
use denote.Enum.Bare.{sameb}
use Rattle.scim_schema.specs.declared.Kind.{Kind}
use Rattle.scim_schema.specs.declared.Op.{Op}
use Rattle.scim_schema.specs.declared.Op.TheVariants.{Read, Modify, Delete}
use Rattle.scim_schema.specs.declared.Leaf.{Leaf}
use Rattle.scim_schema.specs.declared.Unit.{Unit as AttributeUnit}
use Rattle.scim_schema.specs.Units.{unit_of, is_same_unit}
use Rattle.scim_schema.specs.contracts.Kind.{the_type as the_kind}
use Rattle.scim_schema.specs.contracts.Op.{the_type as the_op}
use Rattle.scim_cell.specs.Content.{Content}
use Rattle.scim_policy.specs.declared.rules.Decision.{Decision}
use Rattle.scim_policy.specs.declared.decisions.Decisions.{Decisions}
use Rattle.scim_policy.specs.declared.patterns.Patterns.{Patterns}
use Rattle.scim_policy.specs.declared.access_rights.Rights.{Rights}
use Rattle.scim_policy.specs.Rules.{Rule}
use Rattle.scim_policy.specs.Fits.{names, is_reading, is_target_met, speaks_of, paths_on}
use Rattle.scim_policy.specs.Decide.{decide}
use Rattle.scim_policy.specs.Patterns.{decisions_of, pattern_rules, whole_decision}
use Rattle.scim_policy.specs.PatternTable.{access_in, reading_rules_in, rules_in}
use Rattle.scim_policy.specs.Table.{or_else, decided, decision}
use Rattle.scim_policy.specs.Access.{Access, access, needed}
use Rattle.scim_policy.specs.Opened.{first}
use Rattle.scim_policy.specs.code.Walk.{by_paths, by_rule, by_rules, by_op, is_for, Adds}
use Rattle.scim_policy.specs.code.PatternWalk.{AddsIf, AddsRule}
use Rattle.scim_policy.proofs.PatternLemmas.{PolicyWalked, policy_start, policy_rule, policy_past, policy_end, policy_whole}
use Rattle.scim_policy.proofs.RuleLemmas.{all_decide, decide_other, rules_step}
use Rattle.scim_policy.proofs.TableLemmas.{or_none, all_known}

-- a table says, with what the rules from the i-th on decide, from 0, what all rules decide
abbrev pub Goes : List ℕ → Op → Content → List Rule → ℕ → Decisions → Type 0
Goes client op c rs i now = (l : Leaf) → or_else (decided now l) (by_rules client op c l (i + 1) (drop i rs)) ≡ by_rules client op c l 1 rs

swapped : (a b d : Bool) → a && (b && d) ≡ b && (a && d)
swapped true b d = refl
swapped false true d = refl
swapped false false d = refl

and_true : (a : Bool) → a && true ≡ a
and_true true = refl
and_true false = refl

and_false : (a : Bool) → a && false ≡ false
and_false true = refl
and_false false = refl

-- a rule speaks of the client, the operation and the resource where it is for the operation, and for the others
pub speaks_apart : (client : List ℕ) (op : Op) (c : Content) (r : Rule) → speaks_of client op c r ≡ list_any (sameb the_op op) r.ops && is_for client c r
unfolding speaks_of
speaks_apart client op c r =
    swapped (list_any (names client) r.clients) (list_any (sameb the_op op) r.ops) (list_any (sameb the_kind c.kind) r.kinds && is_target_met c r)

-- what a rule decides that is for the client and the resource
pub spoken_for : (client : List ℕ) (op : Op) (c : Content) (l : Leaf) (n : ℕ) (r : Rule) → is_for client c r ≡ true → by_rule client op c l n r ≡ by_op op c.kind n r l
spoken_for client op c l n r ours =
    let is_op = list_any (sameb the_op op) r.ops in
    let decides = by_paths (paths_on c.kind r.paths) (record { rule = n; allow = r.allow }) l in
    ap (λ (b : Bool). if b then decides else None) (speaks_apart client op c r ∙ ap (λ (b : Bool). is_op && b) ours ∙ and_true is_op)

-- one that isn't decides nothing
pub silent : (client : List ℕ) (op : Op) (c : Content) (l : Leaf) (n : ℕ) (r : Rule) → is_for client c r ≡ false → by_rule client op c l n r ≡ None
silent client op c l n r other =
    let is_op = list_any (sameb the_op op) r.ops in
    let decides = by_paths (paths_on c.kind r.paths) (record { rule = n; allow = r.allow }) l in
    ap (λ (b : Bool). if b then decides else None) (speaks_apart client op c r ∙ ap (λ (b : Bool). is_op && b) other ∙ and_false is_op)

-- a table to which it is added, for an operation
pub adds_ours : (client : List ℕ) (op : Op) (c : Content) (kind : Kind) (n : ℕ) (r : Rule) (old new : Decisions) → is_for client c r ≡ true → kind ≡ c.kind → Adds (by_op op kind n r) old new → Adds (λ l. by_rule client op c l n r) old new
adds_ours client op c kind n r old new ours same added l =
    added l
    ∙ ap (λ (k : Kind). or_else (decided old l) (by_op op k n r l)) same
    ∙ ap (λ (o : Option Decision). or_else (decided old l) o) (sym (spoken_for client op c l n r ours))

-- a table to which a rule for others adds nothing
pub adds_other : (client : List ℕ) (op : Op) (c : Content) (n : ℕ) (r : Rule) (old : Decisions) → is_for client c r ≡ false → Adds (λ l. by_rule client op c l n r) old old
adds_other client op c n r old other l =
    sym (ap (λ (o : Option Decision). or_else (decided old l) o) (silent client op c l n r other) ∙ or_none (decided old l))

-- a table in which nothing is decided
pub goes_start : (client : List ℕ) (op : Op) (c : Content) (rs : List Rule) (now : Decisions) → ((l : Leaf) → decided now l ≡ None) → Goes client op c rs 0 now
goes_start client op c rs now none l = ap (λ (o : Option Decision). or_else o (by_rules client op c l 1 rs)) (none l)

-- where a rule is added, the rules behind it are left
pub goes_on : (client : List ℕ) (op : Op) (c : Content) (rs : List Rule) (i n : ℕ) (r : Rule) (now new : Decisions) → i < length rs → r ≡ get_or rs i r → n ≡ i → Adds (λ l. by_rule client op c l (n + 1) r) now new → Goes client op c rs i now → Goes client op c rs (i + 1) new
goes_on client op c rs i n r now new less there numbered added goes l =
    rules_step client op c l rs i (i + 1) r (decided now l) (decided new l) less there
    (added l ∙ ap (λ (k : ℕ). or_else (decided now l) (by_rule client op c l (k + 1) r)) numbered)
    ∙ goes l

-- where each leaf is decided, the rules that are left decide nothing
pub goes_whole : (client : List ℕ) (op : Op) (c : Content) (rs : List Rule) (i : ℕ) (now : Decisions) → is_reading op ≡ false → is_some now.rest ≡ true → Goes client op c rs i now → (l : Leaf) → decision now l ≡ decide rs client op c l
goes_whole client op c rs i now other full goes l =
    all_decide now client op c rs (λ (m : Leaf). None) (λ m. refl) (λ m. sym (all_known now m _ full) ∙ goes m) l
    ∙ sym (decide_other rs client op c l other)

-- where no rules are left
pub goes_end : (client : List ℕ) (op : Op) (c : Content) (rs : List Rule) (i : ℕ) (now : Decisions) → is_reading op ≡ false → length rs ≤ i → Goes client op c rs i now → (l : Leaf) → decision now l ≡ decide rs client op c l
goes_end client op c rs i now other end goes l =
    let gone : drop i rs ≡ [] = drop_of_length-le rs end in
    all_decide now client op c rs (λ (m : Leaf). None) (λ m. refl)
    (λ m. sym (or_none (decided now m)) ∙ sym (ap (λ (qs : List Rule). or_else (decided now m) (by_rules client op c m (i + 1) qs)) gone) ∙ goes m) l
    ∙ sym (decide_other rs client op c l other)

-- three tests that all hold
pub all_three : (a b d : Bool) → a && (b && d) ≡ true → (a ≡ true) × (b ≡ true) × (d ≡ true)
all_three true true true e = (refl, refl, refl)
all_three false b d e = cc
all_three true false d e = cc
all_three true true false e = cc

-- a table of patterns to which a rule that is for the client and the resource is added, if it is for reading
pub adds_reading : (client : List ℕ) (c : Content) (kind : Kind) (r : Rule) (d : Decision) (old new : Patterns) → is_for client c r ≡ true → kind ≡ c.kind → AddsIf (list_any (sameb the_op Read) r.ops) kind r d old new → AddsIf (speaks_of client Read c r) c.kind r d old new
adds_reading client c kind r d old new ours same adds =
    let speaks : list_any (sameb the_op Read) r.ops ≡ speaks_of client Read c r =
    sym (speaks_apart client Read c r ∙ ap (λ (b : Bool). list_any (sameb the_op Read) r.ops && b) ours ∙ and_true (list_any (sameb the_op Read) r.ops)) in
    record {
      added = λ reads. subst (λ (k : Kind). AddsRule k r d old new) same (adds.added (speaks ∙ reads));
      same = λ other. adds.same (speaks ∙ other);
    }

-- one to which a rule for others adds nothing
pub adds_no_reading : (client : List ℕ) (c : Content) (r : Rule) (d : Decision) (old : Patterns) → is_for client c r ≡ false → AddsIf (speaks_of client Read c r) c.kind r d old old
adds_no_reading client c r d old other =
    let silent : speaks_of client Read c r ≡ false =
    speaks_apart client Read c r ∙ ap (λ (b : Bool). list_any (sameb the_op Read) r.ops && b) other ∙ and_false (list_any (sameb the_op Read) r.ops) in
    record { added = λ reads. absurd (let both : true ≡ false = sym reads ∙ silent in cc); same = λ _. refl }

-- with one more rule of a policy
pub reads_on : (client : List ℕ) (c : Content) (rs : List Rule) (i n : ℕ) (r : Rule) (now new : Patterns) → i < length rs → r ≡ get_or rs i r → n ≡ i → AddsIf (speaks_of client Read c r) c.kind r (record { rule = n + 1; allow = r.allow }) now new → PolicyWalked client c rs i now → PolicyWalked client c rs (i + 1) new
reads_on client c rs i n r now new less there numbered adds walked = elim (cases_Bool (speaks_of client Read c r)) [
  | inl speaks ↦ policy_rule client c c.kind rs i n r now new less there numbered refl speaks (adds.added speaks) walked
  | inr silent ↦ subst (PolicyWalked client c rs (i + 1)) (sym (adds.same silent)) (policy_past client c rs i r now less there silent walked)
]

-- ---- the rights on a resource

-- rights to which the first rules of a policy were added
pub record RightsWalked (client : List ℕ) (c : Content) (rs : List Rule) (i : ℕ) (r : Rights) : Type 0 where
  pub read : PolicyWalked client c rs i r.read
  pub modify : Goes client Modify c rs i r.modify
  pub delete : Goes client Delete c rs i r.delete

-- rights that say what the policy decides
pub record AreRights (client : List ℕ) (c : Content) (rs : List Rule) (r : Rights) : Type 0 where
  pub access : access_in r ≡ access rs client c
  pub reading : (l : Leaf) → reading_rules_in r l ≡ pattern_rules rs client c l

all_rights : (client : List ℕ) (c : Content) (rs : List Rule) (r : Rights) → ((l : Leaf) → rules_in r.read l ≡ pattern_rules rs client c l)
    → ((l : Leaf) → decision r.modify l ≡ decide rs client Modify c l) → ((l : Leaf) → decision r.delete l ≡ decide rs client Delete c l) → AreRights client c rs r
unfolding decide
all_rights client c rs r read modify delete = record {
  access = λ i. record {
    read = λ l. whole_decision (decisions_of (read l i));
    patterns = λ l. decisions_of (read l i);
    modify = λ l. modify l i;
    delete = λ l. delete l i;
  };
  reading = read;
}

pub rights_start : (client : List ℕ) (c : Content) (rs : List Rule) (r : Rights) → ((l : Leaf) → decided r.read.last l ≡ None) → r.read.partial.items ≡ []
    → ((l : Leaf) → decided r.modify l ≡ None) → ((l : Leaf) → decided r.delete l ≡ None) → RightsWalked client c rs 0 r
rights_start client c rs r last partial modify delete = record {
  read = policy_start client c rs r.read last partial;
  modify = goes_start client Modify c rs r.modify modify;
  delete = goes_start client Delete c rs r.delete delete;
}

pub rights_rule : (client : List ℕ) (c : Content) (rs : List Rule) (i n : ℕ) (r : Rule) (now new : Rights) → i < length rs → r ≡ get_or rs i r → n ≡ i
    → AddsIf (speaks_of client Read c r) c.kind r (record { rule = n + 1; allow = r.allow }) now.read new.read
    → Adds (λ l. by_rule client Modify c l (n + 1) r) now.modify new.modify → Adds (λ l. by_rule client Delete c l (n + 1) r) now.delete new.delete
    → RightsWalked client c rs i now → RightsWalked client c rs (i + 1) new
rights_rule client c rs i n r now new less there numbered read modify delete walked = record {
  read = reads_on client c rs i n r now.read new.read less there numbered read walked.read;
  modify = goes_on client Modify c rs i n r now.modify new.modify less there numbered modify walked.modify;
  delete = goes_on client Delete c rs i n r now.delete new.delete less there numbered delete walked.delete;
}

-- where each leaf is decided for each operation
pub rights_whole : (client : List ℕ) (c : Content) (rs : List Rule) (i : ℕ) (r : Rights) → is_some r.read.last.rest && (is_some r.modify.rest && is_some r.delete.rest) ≡ true
    → RightsWalked client c rs i r → AreRights client c rs r
rights_whole client c rs i r full walked =
    let each = all_three (is_some r.read.last.rest) (is_some r.modify.rest) (is_some r.delete.rest) full in
    all_rights client c rs r
    (policy_whole client c rs i r.read each.0 walked.read)
    (goes_whole client Modify c rs i r.modify refl each.1 walked.modify)
    (goes_whole client Delete c rs i r.delete refl each.2 walked.delete)

-- where no rules are left
pub rights_end : (client : List ℕ) (c : Content) (rs : List Rule) (i : ℕ) (r : Rights) → length rs ≤ i → RightsWalked client c rs i r → AreRights client c rs r
rights_end client c rs i r end walked =
    all_rights client c rs r
    (policy_end client c rs i r.read end walked.read)
    (goes_end client Modify c rs i r.modify refl end walked.modify)
    (goes_end client Delete c rs i r.delete refl end walked.delete)

-- ---- what is looked for

-- what is denied first at the leaves of a unit among these
abbrev pub denied_at : Kind → Access → AttributeUnit → List Leaf → Option (Leaf × Decision)
denied_at kind a u ls = find (λ (d : Leaf × Decision). not d.1.allow) (flat_map (needed kind a) (filter (λ l. is_same_unit (unit_of l) u) ls))

-- what is opened first at these leaves
abbrev pub opened_at : Op → (Leaf → Decision) → (Leaf → Decision) → List Leaf → Option (Op × Leaf × Decision)
opened_at op before after ls = first (map (λ l. (op, l, after l)) (filter (λ l. (after l).allow && not (before l).allow) ls))

or_found : (o p : Option (Leaf × Decision)) → is_some o ≡ true → option_or o p ≡ o
or_found None p e = cc
or_found (Some d) p e = refl

or_missed : (o p : Option (Leaf × Decision)) → is_some o ≡ false → option_or o p ≡ p
or_missed None p e = refl
or_missed (Some d) p e = cc

-- at a leaf of the unit and those behind it
denied_own : (kind : Kind) (a : Access) (u : AttributeUnit) (l : Leaf) (ls : List Leaf) → is_same_unit (unit_of l) u ≡ true → denied_at kind a u (l ∷ ls) ≡ option_or (find (λ (d : Leaf × Decision). not d.1.allow) (needed kind a l)) (denied_at kind a u ls)
denied_own kind a u l ls own =
    let denies : Leaf × Decision → Bool = λ d. not d.1.allow in
    let more : List Leaf = filter (λ (m : Leaf). is_same_unit (unit_of m) u) ls in
    ap (λ (b : Bool). find denies (flat_map (needed kind a) (if b then l ∷ more else more))) own
    ∙ find-append denies (needed kind a l) (flat_map (needed kind a) more)

-- at another leaf and those behind it
denied_apart : (kind : Kind) (a : Access) (u : AttributeUnit) (l : Leaf) (ls : List Leaf) → is_same_unit (unit_of l) u ≡ false → denied_at kind a u (l ∷ ls) ≡ denied_at kind a u ls
denied_apart kind a u l ls apart =
    let denies : Leaf × Decision → Bool = λ d. not d.1.allow in
    let more : List Leaf = filter (λ (m : Leaf). is_same_unit (unit_of m) u) ls in
    ap (λ (b : Bool). find denies (flat_map (needed kind a) (if b then l ∷ more else more))) apart

-- where a leaf of the unit is denied, it is the first of those from it on
pub denied_found : (kind : Kind) (a : Access) (u : AttributeUnit) (ls : List Leaf) (i : ℕ) (d : Leaf) (o : Option (Leaf × Decision)) → i < length ls → is_same_unit (unit_of (get_or ls i d)) u ≡ true → o ≡ find (λ (e : Leaf × Decision). not e.1.allow) (needed kind a (get_or ls i d)) → is_some o ≡ true → denied_at kind a u (drop i ls) ≡ o
denied_found kind a u ls i d o less own is found =
    at_drop_more (denied_at kind a u) ls i d less
    ∙ denied_own kind a u (get_or ls i d) (drop (i + 1) ls) own
    ∙ ap (λ (p : Option (Leaf × Decision)). option_or p (denied_at kind a u (drop (i + 1) ls))) (sym is)
    ∙ or_found o _ found

-- where it isn't denied, those behind it decide
pub denied_missed : (kind : Kind) (a : Access) (u : AttributeUnit) (ls : List Leaf) (i : ℕ) (d : Leaf) (o : Option (Leaf × Decision)) → i < length ls → is_same_unit (unit_of (get_or ls i d)) u ≡ true → o ≡ find (λ (e : Leaf × Decision). not e.1.allow) (needed kind a (get_or ls i d)) → is_some o ≡ false → denied_at kind a u (drop (i + 1) ls) ≡ denied_at kind a u (drop i ls)
denied_missed kind a u ls i d o less own is missed =
    sym (at_drop_more (denied_at kind a u) ls i d less
    ∙ denied_own kind a u (get_or ls i d) (drop (i + 1) ls) own
    ∙ ap (λ (p : Option (Leaf × Decision)). option_or p (denied_at kind a u (drop (i + 1) ls))) (sym is)
    ∙ or_missed o _ missed)

-- so they do behind a leaf of another unit
pub denied_beside : (kind : Kind) (a : Access) (u : AttributeUnit) (ls : List Leaf) (i : ℕ) (d : Leaf) → i < length ls → is_same_unit (unit_of (get_or ls i d)) u ≡ false → denied_at kind a u (drop (i + 1) ls) ≡ denied_at kind a u (drop i ls)
denied_beside kind a u ls i d less apart =
    sym (at_drop_more (denied_at kind a u) ls i d less ∙ denied_apart kind a u (get_or ls i d) (drop (i + 1) ls) apart)

-- the first of two lists: that of the one, or where it is empty that of the other
pub first_here : {X : Type 0} (xs ys : List X) (x : X) → first xs ≡ Some x → first (xs ++ ys) ≡ Some x
first_here [] ys x e = cc
first_here (y ∷ xs) ys x e = e

pub first_behind : {X : Type 0} (xs ys : List X) → first xs ≡ None → first (xs ++ ys) ≡ first ys
first_behind [] ys e = refl
first_behind (x ∷ xs) ys e = cc
