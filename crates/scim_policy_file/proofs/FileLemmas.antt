-- What the rules of a file say.
use Rattle.std.proofs.Common.{◌≡◌, refl, sym, ap, ◌∙◌, ℕ, ◌+◌, ◌<◌, List, [], ◌∷◌, ◌++◌, append_assoc, length, get_or, map, drop, Ok, Err}
use Rattle.std.proofs.lemmas.List.{at_drop_more}
use Rattle.std.specs.declared.alloc.Global.{Global}
use Rattle.json.specs.Value.{value_view}
use Rattle.json.specs.declared.value.Value.{Value}
use Rattle.scim_policy.specs.Rules.{Rule}
use Rattle.scim_policy_file.specs.declared.versions.FileVersion.{FileVersion}
use Rattle.scim_policy_file.specs.File.{Says, rule_of, and_then, rules_from}

-- what more rules say, after some
abbrev pub after : List Rule → Says (List Rule) → Says (List Rule)
after rs (Err f) = Err f
after rs (Ok more) = Ok (rs ++ more)

-- the rules before the i-th, with what those from it on say, are what all say
abbrev pub AreRead : FileVersion → List Rule → ℕ → List (Value Global) → Type 0
AreRead version rs i values = after rs (rules_from version (i + 1) (map value_view (drop i values))) ≡ rules_from version 1 (map value_view values)

after_more : (rs : List Rule) (r : Rule) (rest : Says (List Rule)) → after (rs ++ r ∷ []) rest ≡ after rs (and_then (Ok r) rest)
after_more rs r (Err f) = refl
after_more rs r (Ok more) = ap (λ (all : List Rule). Ok all) (append_assoc rs (r ∷ []) more)

-- one rule more is read
pub read_more : (version : FileVersion) (rs : List Rule) (i n : ℕ) (values : List (Value Global)) (v : Value Global) (r : Rule) → i < length values → v ≡ get_or values i v → n ≡ i → rule_of version (n + 1) (value_view v) ≡ Ok r → AreRead version rs i values → AreRead version (rs ++ r ∷ []) (i + 1) values
read_more version rs i n values v r less there at says read =
    let own : rule_of version (i + 1) (value_view (get_or values i v)) ≡ Ok r = ap (λ (w : Value Global). rule_of version (i + 1) (value_view w)) (sym there) ∙ ap (λ (k : ℕ). rule_of version (k + 1) (value_view v)) (sym at) ∙ says in
    let rest = rules_from version (i + 1 + 1) (map value_view (drop (i + 1) values)) in
    after_more rs r rest
    ∙ ap (λ (o : Says Rule). after rs (and_then o rest)) (sym own)
    ∙ ap (after rs) (sym (at_drop_more (λ (qs : List (Value Global)). rules_from version (i + 1) (map value_view qs)) values i v less))
    ∙ read
