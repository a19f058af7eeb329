-- The shapes of JSON values.
use Rattle.std.proofs.Common.{◌≡◌, ◌∙◌, refl, ap, ℕ, Bool, true, false, ◌&&◌, List, [], ◌∷◌, length, map, eqb, Option, None, Some, codes}
use Rattle.std.specs.Prelude.{is_some, option_and_then, option_map, if◌then◌else◌}
use Rattle.std.specs.declared.alloc.Global.{Global}
use Rattle.json.specs.Json.{Json, Members}
use Rattle.json.specs.Find.{get, as_array, as_object}
use Rattle.json.specs.Value.{value_view, items_of, items_view}
use Rattle.json.specs.declared.value.Value.{Value}
use Rattle.scim_policy_file.specs.File.{listed, filled, has_only, object_of_only, items_in, integer_in, parts_in, file_keys, file_parts, rule_keys, rule_fields, rule_texts, allow_in, texts_at, target_in}

-- ---- arrays

-- the items of an array of a list are the list
listed_items : (ds : List Json) → listed (items_of ds) ≡ ds
listed_items [] = refl
listed_items (d ∷ ds) = ap (λ (es : List Json). d ∷ es) (listed_items ds)

filled_items : (vs : List (Value Global)) → eqb (length vs) 0 ≡ false → filled (map value_view vs) ≡ Some (map value_view vs)
filled_items [] h = cc
filled_items (v ∷ vs) h = refl

-- the items of an array that isn't empty
pub items_there : (d : Json) (vs : List (Value Global)) → as_array d ≡ Some (items_view vs) → eqb (length vs) 0 ≡ false → items_in d ≡ Some (map value_view vs)
items_there d vs array full = rw (array, listed_items (map value_view vs)) (filled_items vs full)

-- ---- objects

if_named : {X : Type 0} (f : Json → Option X) (d : Json) (b : Bool) → is_some (option_and_then f (if b then Some d else None)) ≡ (is_some (if b then Some d else None) && is_some (f d))
if_named f d true = refl
if_named f d false = refl

if_object : {X : Type 0} (f : Json → Option X) (d : Json) (words : List (List ℕ)) (o : Option Members) → is_some (option_and_then f (option_and_then (λ ms. if has_only words ms then Some d else None) o)) ≡ (is_some (option_and_then (λ ms. if has_only words ms then Some d else None) o) && is_some (f d))
if_object f d words None = refl
if_object f d words (Some ms) = if_named f d (has_only words ms)

some_map : {X Y : Type 0} (f : X → Y) (o : Option X) → is_some (option_map f o) ≡ is_some o
some_map f None = refl
some_map f (Some x) = refl

some_then : {X Y : Type 0} (f : X → Option Y) (b : Bool) (o : Option X) → ((x : X) → is_some (f x) ≡ b) → is_some (option_and_then f o) ≡ (is_some o && b)
some_then f b None h = refl
some_then f b (Some x) h = h x

-- the parts of a file are there if it has only the keys of a file, and a value of the right type at each
pub file_shape : (d : Json) → is_some (file_parts d) ≡ (is_some (object_of_only file_keys d) && (is_some (option_and_then integer_in (get (codes "version") d)) && is_some (option_and_then items_in (get (codes "rules") d))))
unfolding file_parts
file_shape d =
    if_object parts_in d file_keys (as_object d)
    ∙ ap (λ (b : Bool). is_some (object_of_only file_keys d) && b) (some_then _ _ (option_and_then integer_in (get (codes "version") d)) (λ version. some_map _ (option_and_then items_in (get (codes "rules") d))))

fields_shape : (d : Json) → is_some (rule_fields d) ≡ (is_some (allow_in d) && (is_some (texts_at (codes "clients") d) && (is_some (texts_at (codes "ops") d) && (is_some (texts_at (codes "types") d) && (is_some (target_in d) && is_some (texts_at (codes "paths") d))))))
fields_shape d =
    some_then _ _ (allow_in d) (λ allow. some_then _ _ (texts_at (codes "clients") d) (λ clients. some_then _ _ (texts_at (codes "ops") d) (λ ops. some_then _ _ (texts_at (codes "types") d) (λ types. some_then _ _ (target_in d) (λ target. some_map _ (texts_at (codes "paths") d))))))

-- the texts of a rule are there if it has only the keys of a rule, and a value of the right type at each
pub rule_shape : (d : Json) → is_some (rule_texts d) ≡ (is_some (object_of_only rule_keys d) && (is_some (allow_in d) && (is_some (texts_at (codes "clients") d) && (is_some (texts_at (codes "ops") d) && (is_some (texts_at (codes "types") d) && (is_some (target_in d) && is_some (texts_at (codes "paths") d)))))))
unfolding rule_texts
rule_shape d =
    if_object rule_fields d rule_keys (as_object d) ∙ ap (λ (b : Bool). is_some (object_of_only rule_keys d) && b) (fields_shape d)
