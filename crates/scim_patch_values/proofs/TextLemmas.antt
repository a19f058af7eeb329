-- Texts in a set.
use Rattle.std.proofs.Common.{◌≡◌, ℕ, Bool, true, false, ◌||◌, List, [], ◌∷◌, ◌++◌, refl, ap, sym, ◌∙◌, cond}
use Rattle.std.specs.Prelude.{String, string_bytes}
use Rattle.std.specs.List.{list_any}
use Rattle.std.specs.Str.{bytes_eq}
use Rattle.std.specs.Bool.{one_answer}
use Rattle.std.specs.declared.alloc.Global.{Global}
use Rattle.std.specs.BTreeSet.{BTreeSet, Updates, contains_text}
use Rattle.std.specs.String.{string_cmp}
use Rattle.std.proofs.lemmas.Slice.Eq.{bytes_eq-Decides}
use Rattle.std.proofs.lemmas.List.Folds.{list_any-append}
use Rattle.std.proofs.lemmas.Map.Text.{btree_set_updates_text}
use Rattle.scim_patch_values.specs.code.Listed.{HoldsTexts}

symmetric : (x y : List ℕ) → bytes_eq x y ≡ bytes_eq y x
symmetric x y = one_answer (bytes_eq x y) (bytes_eq y x) (bytes_eq-Decides x y) ((λ h. sym ((bytes_eq-Decides y x).0 h)), (λ e. (bytes_eq-Decides y x).1 (sym e)))

one_found : (b t : Bool) → cond b true t ≡ (t || (b || false))
one_found true true = refl
one_found true false = refl
one_found false true = refl
one_found false false = refl

-- a set with one text more
pub one_more : (s n : BTreeSet (String Global)) (key : String Global) (texts : List (List ℕ)) (text : List ℕ)
    → string_bytes key ≡ text → Updates string_cmp s n key true → HoldsTexts s texts → HoldsTexts n (texts ++ text ∷ [])
one_more s n key texts text k updates holds q =
    btree_set_updates_text (string_bytes key) s n true updates q
    ∙ ap (λ bs. cond (bytes_eq bs q) true (contains_text s q)) k
    ∙ ap (λ b. cond b true (contains_text s q)) (symmetric text q)
    ∙ one_found (bytes_eq q text) (contains_text s q)
    ∙ ap (λ t. t || (bytes_eq q text || false)) (holds q)
    ∙ sym (list_any-append (bytes_eq q) texts (text ∷ []))
