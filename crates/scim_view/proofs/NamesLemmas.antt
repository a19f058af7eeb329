-- What is named, as texts are added.
use Rattle.std.proofs.Common.{◌≡◌, ◌∙◌, ◌<◌, ◌+◌, refl, sym, ap, ℕ, Bool, true, false, cond, List, length, get_or, take}
use Rattle.std.specs.Prelude.{◌||◌, Option, None, Some}
use Rattle.std.specs.List.{list_any}
use Rattle.std.proofs.lemmas.List.Folds.{list_any_more}
use Rattle.scim_schema.specs.declared.schema_urns.Schema.{Schema}
use Rattle.scim_schema.specs.Schemas.{is_same_schema}
use Rattle.scim_view.specs.Names.{is_there}

-- of three tests the second holds of one thing more
second_cases : (a old e own : Bool) → (a || (cond own true old || e)) ≡ ((a || (old || e)) || own)
second_cases true old e own = refl
second_cases false true e true = refl
second_cases false true e false = refl
second_cases false false true true = refl
second_cases false false true false = refl
second_cases false false false true = refl
second_cases false false false false = refl

pub second_more : (a old e own now : Bool) → now ≡ cond own true old → (a || (now || e)) ≡ ((a || (old || e)) || own)
second_more a old e own now h = rw h (second_cases a old e own)

-- of three tests the third holds of one thing more
third_cases : (a s old own : Bool) → (a || (s || cond own true old)) ≡ ((a || (s || old)) || own)
third_cases true s old own = refl
third_cases false true old own = refl
third_cases false false true true = refl
third_cases false false true false = refl
third_cases false false false true = refl
third_cases false false false false = refl

-- of nothing more
pub no_more : (b : Bool) → b ≡ (b || false)
no_more true = refl
no_more false = refl

-- an extension is named more
pub third_more : (a s : Bool) (o : Option Schema) (old now : Schema → Bool) (x : Schema) → ((q : Schema) → now q ≡ cond (is_same_schema x q) true (old q))
    → (a || (s || is_there now o)) ≡ ((a || (s || is_there old o)) || is_there (is_same_schema x) o)
third_more a s None old now x h = no_more (a || (s || false))
third_more a s (Some q) old now x h = rw (h q) (third_cases a s (old q) (is_same_schema x q))

-- what is named by one text more, and by another one
pub both_more : (old one two now : Bool) → now ≡ ((old || one) || two) → now ≡ (old || (one || two))
both_more true one two now h = h
both_more false one two now h = h

-- what some text names, with one text more
pub text_more : {X : Type 0} (names : X → Bool) (ts : List X) (i : ℕ) (d : X) (old now : Bool) → i < length ts → now ≡ (old || names (get_or ts i d)) → old ≡ list_any names (take i ts)
    → now ≡ list_any names (take (i + 1) ts)
text_more names ts i d old now short more before = more ∙ ap (λ b. b || names (get_or ts i d)) before ∙ sym (list_any_more names ts i d short)
