-- What a table of decisions says after a change.
use Rattle.std.proofs.Common.{◌≡◌, refl, sym, ap, ◌∙◌, ℕ, zero, suc, ◌+◌, ◌<◌, Bool, true, false, List, [], ◌∷◌, ◌++◌, length, get_or, drop, inl, inr, arith}
use Rattle.std.proofs.Math.ListN.{set}
use Rattle.std.specs.Prelude.{Option, Some, None, is_some, if◌then◌else◌, ◌&&◌}
use Rattle.std.specs.Option.{option_eq}
use Rattle.std.proofs.lemmas.Bool.{cases_Bool}
use Rattle.std.proofs.lemmas.List.{at_drop_more}
use denote.Enum.Bare.{sameb, true_same, tag_one}
use denote.Enum.Declared.{tag_of}
use Rattle.scim_schema.specs.declared.Attribute.{Attribute}
use Rattle.scim_schema.specs.declared.SubAttribute.{SubAttribute}
use Rattle.scim_schema.specs.contracts.Attribute.{the_type as the_attribute}
use Rattle.scim_schema.specs.contracts.SubAttribute.{the_type as the_sub_attribute}
use Rattle.scim_schema.specs.declared.Leaf.{Leaf}
use Rattle.scim_schema.proofs.Facts.{attribute_one, sub_attribute_one}
use Rattle.scim_policy.specs.declared.rules.Decision.{Decision}
use Rattle.scim_policy.specs.declared.rules.PolicyPath.{PolicyPath}
use Rattle.scim_policy.specs.declared.rules.PolicyPath.TheVariants.{SubAttribute as SubAttributePath}
use Rattle.scim_policy.specs.declared.decisions.AttributeDecisions.{AttributeDecisions}
use Rattle.scim_policy.specs.declared.decisions.Decisions.{Decisions}
use Rattle.scim_policy.specs.Fits.{covers}
use Rattle.scim_policy.specs.Table.{or_else, at_sub_attribute, in_attribute, in_attributes, decided}
use Rattle.scim_policy.specs.code.Walk.{by_path, by_paths, by_name}

pub or_none : (o : Option Decision) → or_else o None ≡ o
or_none None = refl
or_none (Some d) = refl

pub or_or : (o p q : Option Decision) → or_else (or_else o p) q ≡ or_else o (or_else p q)
or_or None p q = refl
or_or (Some d) p q = refl

-- the entry at its number
pub at_entry : (n : ℕ) (sub : Option SubAttribute) (es : List AttributeDecisions) (d : AttributeDecisions) → n < length es → in_attributes n sub es ≡ in_attribute sub (get_or es n d)
at_entry n sub [] d h = absurd (omega arith)
at_entry zero sub (e ∷ es) d h = refl
at_entry (suc n) sub (e ∷ es) d h = at_entry n sub es d (omega arith)

-- no entry at a number beyond the last
pub at_no_entry : (n : ℕ) (sub : Option SubAttribute) (es : List AttributeDecisions) → (n < length es → ⊥) → in_attributes n sub es ≡ None
at_no_entry n sub [] h = refl
at_no_entry zero sub (e ∷ es) h = absurd (h (omega arith))
at_no_entry (suc n) sub (e ∷ es) h = at_no_entry n sub es (λ less. h (omega (arith, less)))

-- an entry that decides nothing changes nothing
pub pushed : (n : ℕ) (sub : Option SubAttribute) (es : List AttributeDecisions) (e : AttributeDecisions) → in_attribute sub e ≡ None → in_attributes n sub (es ++ e ∷ []) ≡ in_attributes n sub es
pushed zero sub [] e none = none
pushed (suc n) sub [] e none = refl
pushed zero sub (f ∷ es) e none = refl
pushed (suc n) sub (f ∷ es) e none = pushed n sub es e none

-- an entry that is written is read at its number, and the others stay
pub written : (k : ℕ) (sub : Option SubAttribute) (es : List AttributeDecisions) (e : AttributeDecisions) → k < length es → in_attributes k sub (set es k e) ≡ in_attribute sub e
written k sub [] e h = absurd (omega arith)
written zero sub (f ∷ es) e h = refl
written (suc k) sub (f ∷ es) e h = written k sub es e (omega arith)

pub others_stay : (n k : ℕ) (sub : Option SubAttribute) (es : List AttributeDecisions) (e : AttributeDecisions) → (n ≡ k → ⊥) → in_attributes n sub (set es k e) ≡ in_attributes n sub es
others_stay n k sub [] e other = refl
others_stay zero zero sub (f ∷ es) e other = absurd (other refl)
others_stay (suc n) zero sub (f ∷ es) e other = refl
others_stay zero (suc k) sub (f ∷ es) e other = refl
others_stay (suc n) (suc k) sub (f ∷ es) e other = others_stay n k sub es e (λ same. other (ap (λ (m : ℕ). suc m) same))

nested : (p q : Bool) (d : Decision) → (if p && q then Some d else None) ≡ (if p then (if q then Some d else None) else None)
nested true q d = refl
nested false q d = refl

-- what is decided where there is no decision on the rest
pub decided_alone : (ds : Decisions) (l : Leaf) → ds.rest ≡ None → decided ds l ≡ in_attributes (tag_of the_attribute l.attribute) l.sub_attribute ds.attributes.items
unfolding decided
decided_alone ds l none =
    let own = in_attributes (tag_of the_attribute l.attribute) l.sub_attribute ds.attributes.items in
    ap (λ (o : Option Decision). or_else own o) none ∙ or_none own

-- where the entry of an attribute is written, what it adds is decided of the attribute's leaves
pub entry_written : (es fs : List AttributeDecisions) (e old : AttributeDecisions) (a b : Attribute) (adds : Option SubAttribute → Option Decision) (sub : Option SubAttribute) → tag_of the_attribute a < length fs → ((n : ℕ) (s : Option SubAttribute) → in_attributes n s fs ≡ in_attributes n s es) → old ≡ get_or fs (tag_of the_attribute a) old → ((s : Option SubAttribute) → in_attribute s e ≡ or_else (in_attribute s old) (adds s)) → in_attributes (tag_of the_attribute b) sub (set fs (tag_of the_attribute a) e) ≡ or_else (in_attributes (tag_of the_attribute b) sub es) (if sameb the_attribute b a then adds sub else None)
entry_written es fs e old a b adds sub long same there new = elim (cases_Bool (sameb the_attribute b a)) [
  | inl one ↦ (
      let t : tag_of the_attribute b ≡ tag_of the_attribute a = ap (λ (x : Attribute). tag_of the_attribute x) (attribute_one b a one) in
      let before : in_attribute sub old ≡ in_attributes (tag_of the_attribute a) sub es =
      ap (λ (x : AttributeDecisions). in_attribute sub x) there ∙ sym (at_entry (tag_of the_attribute a) sub fs old long) ∙ same (tag_of the_attribute a) sub in
      rw (one, t) (written (tag_of the_attribute a) sub fs e long ∙ new sub ∙ ap (λ (o : Option Decision). or_else o (adds sub)) before)
      )
  | inr two ↦ (
      let other : tag_of the_attribute b ≡ tag_of the_attribute a → ⊥ = λ t. (let s : sameb the_attribute b a ≡ true = true_same the_attribute b a (tag_one the_attribute tt b a t) in cc) in
      rw two (others_stay (tag_of the_attribute b) (tag_of the_attribute a) sub fs e other ∙ same (tag_of the_attribute b) sub ∙ sym (or_none _))
      )
]

-- the same of the whole table
pub decided_written : (before after : Decisions) (fs : List AttributeDecisions) (e old : AttributeDecisions) (a : Attribute) (adds : Option SubAttribute → Option Decision) (l : Leaf) → before.rest ≡ None → after.rest ≡ before.rest → after.attributes.items ≡ set fs (tag_of the_attribute a) e → tag_of the_attribute a < length fs → ((n : ℕ) (s : Option SubAttribute) → in_attributes n s fs ≡ in_attributes n s before.attributes.items) → old ≡ get_or fs (tag_of the_attribute a) old → ((s : Option SubAttribute) → in_attribute s e ≡ or_else (in_attribute s old) (adds s)) → decided after l ≡ or_else (decided before l) (if sameb the_attribute l.attribute a then adds l.sub_attribute else None)
decided_written before after fs e old a adds l none rest items long same there new =
    let own = entry_written before.attributes.items fs e old a l.attribute adds l.sub_attribute long same there new in
    decided_alone after l (rest ∙ none)
    ∙ ap (λ (es : List AttributeDecisions). in_attributes (tag_of the_attribute l.attribute) l.sub_attribute es) items
    ∙ own
    ∙ ap (λ (o : Option Decision). or_else o (if sameb the_attribute l.attribute a then adds l.sub_attribute else None)) (sym (decided_alone before l none))

-- what a sub-attribute's path decides, by its attribute and its name
pub by_path_name : (a : Attribute) (b : SubAttribute) (d : Decision) (l : Leaf) → by_path (SubAttributePath a b) d l ≡ (if sameb the_attribute l.attribute a then by_name b d l.sub_attribute else None)
by_path_name a b d l = nested (sameb the_attribute l.attribute a) (option_eq (sameb the_sub_attribute) l.sub_attribute (Some b)) d

same_back : (a b : SubAttribute) → sameb the_sub_attribute a b ≡ sameb the_sub_attribute b a
same_back a b = elim (cases_Bool (sameb the_sub_attribute a b)) [
  | inl one ↦ one ∙ sym (true_same the_sub_attribute b a (sym (sub_attribute_one a b one)))
  | inr two ↦ elim (cases_Bool (sameb the_sub_attribute b a)) [
    | inl one ↦ (let s : sameb the_sub_attribute a b ≡ true = true_same the_sub_attribute a b (sym (sub_attribute_one b a one)) in cc)
    | inr both ↦ two ∙ sym both
  ]
]

alone_pushed : (s b : SubAttribute) (d : Decision) (pairs : List (SubAttribute × Decision)) → at_sub_attribute s (pairs ++ (b, d) ∷ []) ≡ or_else (at_sub_attribute s pairs) (if sameb the_sub_attribute b s then Some d else None)
alone_pushed s b d [] = refl
alone_pushed s b d (pair ∷ more) = elim (cases_Bool (sameb the_sub_attribute pair.0 s)) [
  | inl one ↦ rw one refl
  | inr two ↦ rw two (alone_pushed s b d more)
]

second_none : (o p : Option Decision) → or_else o p ≡ None → p ≡ None
second_none None p e = e
second_none (Some d) p e = cc

-- a sub-attribute that isn't decided yet
pub name_added : (old new : AttributeDecisions) (b : SubAttribute) (d : Decision) → in_attribute (Some b) old ≡ None → new.sub_attributes.items ≡ old.sub_attributes.items ++ (b, d) ∷ [] → new.whole ≡ old.whole → (sub : Option SubAttribute) → in_attribute sub new ≡ or_else (in_attribute sub old) (by_name b d sub)
name_added old new b d none items whole None = whole ∙ sym (or_none old.whole)
name_added old new b d none items whole (Some s) =
    let w : old.whole ≡ None = second_none (at_sub_attribute b old.sub_attributes.items) old.whole none in
    let own : at_sub_attribute s new.sub_attributes.items ≡ or_else (at_sub_attribute s old.sub_attributes.items) (by_name b d (Some s)) =
    ap (at_sub_attribute s) items ∙ alone_pushed s b d old.sub_attributes.items ∙ ap (λ (t : Bool). or_else (at_sub_attribute s old.sub_attributes.items) (if t then Some d else None)) (same_back b s) in
    let after : in_attribute (Some s) new ≡ at_sub_attribute s new.sub_attributes.items =
    ap (λ (o : Option Decision). or_else (at_sub_attribute s new.sub_attributes.items) o) (whole ∙ w) ∙ or_none _ in
    let before : in_attribute (Some s) old ≡ at_sub_attribute s old.sub_attributes.items =
    ap (λ (o : Option Decision). or_else (at_sub_attribute s old.sub_attributes.items) o) w ∙ or_none _ in
    after ∙ own ∙ ap (λ (o : Option Decision). or_else o (by_name b d (Some s))) (sym before)

some_stays : (o p : Option Decision) → is_some o ≡ true → or_else o p ≡ o
some_stays None p e = cc
some_stays (Some d) p e = refl

some_of_second : (o p : Option Decision) → is_some p ≡ true → is_some (or_else o p) ≡ true
some_of_second None p e = e
some_of_second (Some d) p e = refl

-- where the rest is decided, each leaf is
pub rest_all : (ds : Decisions) (l : Leaf) → is_some ds.rest ≡ true → is_some (decided ds l) ≡ true
unfolding decided
rest_all ds l e = some_of_second (in_attributes (tag_of the_attribute l.attribute) l.sub_attribute ds.attributes.items) ds.rest e

-- where the rest is decided, no more is added
pub all_known : (ds : Decisions) (l : Leaf) (o : Option Decision) → is_some ds.rest ≡ true → or_else (decided ds l) o ≡ decided ds l
all_known ds l o e = some_stays (decided ds l) o (rest_all ds l e)

-- a decision on the rest
pub rest_decided : (before after : Decisions) (d : Decision) (l : Leaf) → before.rest ≡ None → after.rest ≡ Some d → after.attributes.items ≡ before.attributes.items → decided after l ≡ or_else (decided before l) (Some d)
unfolding decided
rest_decided before after d l none rest items =
    let own = in_attributes (tag_of the_attribute l.attribute) l.sub_attribute before.attributes.items in
    ap (λ (es : List AttributeDecisions). or_else (in_attributes (tag_of the_attribute l.attribute) l.sub_attribute es) after.rest) items
    ∙ ap (λ (o : Option Decision). or_else own o) rest
    ∙ ap (λ (o : Option Decision). or_else o (Some d)) (sym (decided_alone before l none))

pub none_of : (o : Option Decision) → is_some o ≡ false → o ≡ None
none_of None e = refl
none_of (Some d) e = cc

first_path : (l : Leaf) (p : PolicyPath) (ps : List PolicyPath) (d : Decision) → by_paths (p ∷ ps) d l ≡ or_else (by_path p d l) (by_paths ps d l)
first_path l p ps d = elim (cases_Bool (covers l p)) [
  | inl one ↦ rw one refl
  | inr two ↦ rw two refl
]

-- what one path decides and those behind it
pub paths_step : (ps : List PolicyPath) (i : ℕ) (x : PolicyPath) (d : Decision) (l : Leaf) (before after : Option Decision) → i < length ps → after ≡ or_else before (by_path (get_or ps i x) d l) → or_else after (by_paths (drop (i + 1) ps) d l) ≡ or_else before (by_paths (drop i ps) d l)
paths_step ps i x d l before after less step =
    let e : by_paths (drop i ps) d l ≡ or_else (by_path (get_or ps i x) d l) (by_paths (drop (i + 1) ps) d l) =
    at_drop_more (λ (qs : List PolicyPath). by_paths qs d l) ps i x less ∙ first_path l (get_or ps i x) (drop (i + 1) ps) d in
    ap (λ (o : Option Decision). or_else o (by_paths (drop (i + 1) ps) d l)) step ∙ or_or before _ _ ∙ ap (or_else before) (sym e)

-- an entry with nothing in it decides nothing
pub empty_entry : (sub : Option SubAttribute) (e : AttributeDecisions) → e.sub_attributes.items ≡ [] → e.whole ≡ None → in_attribute sub e ≡ None
empty_entry None e items whole = whole
empty_entry (Some b) e items whole = ap (λ (pairs : List (SubAttribute × Decision)). or_else (at_sub_attribute b pairs) e.whole) items ∙ whole
