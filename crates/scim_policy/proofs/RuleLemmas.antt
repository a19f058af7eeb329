-- What rules decide one after another is what the first that fits and covers the leaf at all values decides.
use Rattle.std.proofs.Common.{◌≡◌, refl, sym, ap, ◌∙◌, ℕ, ◌+◌, Bool, true, false, List, [], ◌∷◌, length, get_or, drop, ◌<◌, inl, inr}
use Rattle.std.specs.Prelude.{Option, None, ◌&&◌, filter}
use Rattle.std.specs.List.{list_any, enumerate_from}
use Rattle.std.proofs.lemmas.Bool.{cases_Bool}
use Rattle.std.proofs.lemmas.List.{at_drop_more}
use denote.Enum.Bare.{sameb}
use Rattle.scim_schema.specs.declared.Op.{Op}
use Rattle.scim_schema.specs.declared.Op.TheVariants.{Create, Read, Modify, Delete}
use Rattle.scim_schema.specs.declared.Leaf.{Leaf}
use Rattle.scim_schema.specs.contracts.Kind.{the_type as the_kind}
use Rattle.scim_schema.specs.contracts.Op.{the_type as the_op}
use Rattle.scim_cell.specs.Content.{Content}
use Rattle.scim_policy.specs.declared.rules.Decision.{Decision}
use Rattle.scim_policy.specs.declared.decisions.Decisions.{Decisions}
use Rattle.scim_policy.specs.Rules.{Rule}
use Rattle.scim_policy.specs.Fits.{covers_in, paths_on, is_about, is_reading, is_target_met, names, speaks_of, fits_wholly, first_of, decide_wholly}
use Rattle.scim_policy.specs.Decide.{decide}
use Rattle.scim_policy.specs.Patterns.{pattern, whole_decision}
use Rattle.scim_policy.specs.Table.{or_else, or_denied, decided, decision}
use Rattle.scim_policy.specs.code.Walk.{by_paths, by_rule, by_rules}
use Rattle.scim_policy.proofs.TableLemmas.{or_or}

-- reading is decided by the pattern
pub decide_reading : (policy : List Rule) (client : List ℕ) (op : Op) (c : Content) (l : Leaf) → is_reading op ≡ true → decide policy client op c l ≡ whole_decision (pattern policy client c l)
unfolding decide
decide_reading policy client Create c l reads = cc
decide_reading policy client Read c l reads = refl
decide_reading policy client Modify c l reads = cc
decide_reading policy client Delete c l reads = cc

-- any other operation by the first rule that fits
pub decide_other : (policy : List Rule) (client : List ℕ) (op : Op) (c : Content) (l : Leaf) → is_reading op ≡ false → decide policy client op c l ≡ decide_wholly policy client op c l
unfolding decide
decide_other policy client Create c l other = refl
decide_other policy client Read c l other = cc
decide_other policy client Modify c l other = refl
decide_other policy client Delete c l other = refl

grouped : (a b d e : Bool) → a && (b && (d && e)) ≡ (a && (b && d)) && e
grouped true true d e = refl
grouped true false d e = refl
grouped false b d e = refl

-- a rule speaks of the client, the operation and the resource if it is about them and the resource's kind, and its
-- target is met
pub speaks_grouped : (client : List ℕ) (op : Op) (c : Content) (r : Rule) → speaks_of client op c r ≡ is_about client op c.kind r && is_target_met c r
unfolding speaks_of
speaks_grouped client op c r =
    grouped (list_any (names client) r.clients) (list_any (sameb the_op op) r.ops) (list_any (sameb the_kind c.kind) r.kinds) (is_target_met c r)

-- the first of numbered rules that decides is the first that fits and covers the leaf at all values
pub first_decides : (client : List ℕ) (op : Op) (c : Content) (l : Leaf) (n : ℕ) (rs : List Rule) → or_denied (by_rules client op c l n rs) ≡ first_of (filter (λ (numbered : ℕ × Rule). fits_wholly client op c l numbered.1) (enumerate_from n rs))
first_decides client op c l n [] = refl
first_decides client op c l n (r ∷ rs) =
    let ih = first_decides client op c l (n + 1) rs in
    elim (cases_Bool (speaks_of client op c r)) [
      | inl speaks ↦ elim (cases_Bool (covers_in c l r)) [
        | inl covered ↦ rw (speaks, covered) refl
        | inr apart ↦ rw (speaks, apart) ih
      ]
      | inr silent ↦ rw silent ih
    ]

-- a table to which all rules were added, from 1, says what the first that fits decides
pub all_decide : (ds : Decisions) (client : List ℕ) (op : Op) (c : Content) (rs : List Rule) (before : Leaf → Option Decision) → ((l : Leaf) → before l ≡ None) → ((l : Leaf) → decided ds l ≡ or_else (before l) (by_rules client op c l 1 rs)) → (l : Leaf) → decision ds l ≡ decide_wholly rs client op c l
unfolding decision decide_wholly
all_decide ds client op c rs before none all l =
    let e : decided ds l ≡ by_rules client op c l 1 rs = all l ∙ ap (λ (o : Option Decision). or_else o (by_rules client op c l 1 rs)) (none l) in
    ap or_denied e ∙ first_decides client op c l 1 rs

-- what a rule decides that speaks of the client, the operation and the resource
pub spoken : (client : List ℕ) (op : Op) (c : Content) (l : Leaf) (n : ℕ) (r : Rule) → speaks_of client op c r ≡ true → by_rule client op c l n r ≡ by_paths (paths_on c.kind r.paths) (record { rule = n; allow = r.allow }) l
spoken client op c l n r speaks = rw speaks refl

-- what one rule decides and those behind it
pub rules_step : (client : List ℕ) (op : Op) (c : Content) (l : Leaf) (rs : List Rule) (i n : ℕ) (r : Rule) (before after : Option Decision) → i < length rs → r ≡ get_or rs i r → after ≡ or_else before (by_rule client op c l n r) → or_else after (by_rules client op c l (n + 1) (drop (i + 1) rs)) ≡ or_else before (by_rules client op c l n (drop i rs))
rules_step client op c l rs i n r before after less there step =
    let rest = by_rules client op c l (n + 1) (drop (i + 1) rs) in
    let e : by_rules client op c l n (drop i rs) ≡ or_else (by_rule client op c l n r) rest =
    at_drop_more (λ (qs : List Rule). by_rules client op c l n qs) rs i r less ∙ ap (λ (q : Rule). or_else (by_rule client op c l n q) rest) (sym there) in
    ap (λ (o : Option Decision). or_else o rest) step ∙ or_or before _ _ ∙ ap (or_else before) (sym e)
