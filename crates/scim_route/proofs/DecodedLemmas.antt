-- Decoded paths.
use Rattle.std.proofs.Common.{◌≡◌, refl, sym, ◌∙◌, ap, subst, ℕ, List}
use Rattle.std.specs.Prelude.{None, Some}
use Rattle.std.specs.Str.{IsUtf8, is_utf8}
use Rattle.std.proofs.lemmas.Str.{IsUtf8-from_is_utf8, is_utf8-from_IsUtf8}
use Rattle.percent_encoding.specs.Percent.{percent_decode}
use Rattle.scim_route.specs.Targets.{decoded}
use Rattle.scim_route.proofs.PositionLemmas.{by_bool}

-- a path is decoded to what its escapes stand for, where that is UTF-8
pub decoded_is : (path bytes text : List ℕ) → bytes ≡ percent_decode path → text ≡ bytes → IsUtf8 bytes → decoded path ≡ Some text
decoded_is path bytes text same shown utf8 =
    let passes = is_utf8-from_IsUtf8 (percent_decode path) (subst IsUtf8 same utf8) in
    rw passes (ap Some (sym (shown ∙ same)))

-- and else to nothing
pub decoded_not : (path bytes : List ℕ) → bytes ≡ percent_decode path → (IsUtf8 bytes → ⊥) → decoded path ≡ None
decoded_not path bytes same broken =
    by_bool (is_utf8 (percent_decode path))
    (λ t. absurd (broken (subst IsUtf8 (sym same) (IsUtf8-from_is_utf8 _ t))))
    (λ f. rw f refl)
