-- Bodies that are in UTF-8, and others.
use Rattle.std.proofs.Common.{◌≡◌, refl, ap, ℕ, List, false}
use Rattle.std.specs.Prelude.{Err, ok_or}
use Rattle.std.specs.Str.{IsUtf8, is_utf8}
use Rattle.std.proofs.lemmas.Bool.{false_from_ne_true}
use Rattle.std.proofs.lemmas.Str.{IsUtf8-from_is_utf8, is_utf8-from_IsUtf8}
use Rattle.serde_json.specs.Read.{read}
use Rattle.scim_schema.specs.declared.Kind.{Kind}
use Rattle.scim_audit.specs.declared.refusals.Refusal.TheVariants.{Syntax}
use Rattle.scim_exchange.specs.SearchBodies.{value_in}
use Rattle.scim_body.specs.declared.drafts.UseFor.{UseFor}
use Rattle.scim_exchange.specs.Asks.{draft_in, draft_asked, patch_in_text, patch_asked}

not_utf8 : (body : List ℕ) → (IsUtf8 body → ⊥) → is_utf8 body ≡ false
not_utf8 body broken = false_from_ne_true (is_utf8 body) (λ t. broken (IsUtf8-from_is_utf8 body t))

-- a body in UTF-8 has the value of its text
pub value_of_text : (body text : List ℕ) → text ≡ body → IsUtf8 body → ok_or (read text) Syntax ≡ value_in body
unfolding value_in
value_of_text body text same utf8 = let passes = is_utf8-from_IsUtf8 body utf8 in rw passes (ap (λ t. ok_or (read t) Syntax) same)

-- and another has none
pub no_value : (body : List ℕ) → (IsUtf8 body → ⊥) → value_in body ≡ Err Syntax
unfolding value_in
no_value body broken = let fails = not_utf8 body broken in rw fails refl

-- a body in UTF-8 gives the draft of its text
pub draft_of_text : (use_for : UseFor) (kind : Kind) (body text : List ℕ) → text ≡ body → IsUtf8 body → draft_in use_for kind text ≡ draft_asked use_for kind body
unfolding draft_asked
draft_of_text use_for kind body text same utf8 = let passes = is_utf8-from_IsUtf8 body utf8 in rw passes (ap (draft_in use_for kind) same)

-- and another is refused
pub no_draft : (use_for : UseFor) (kind : Kind) (body : List ℕ) → (IsUtf8 body → ⊥) → draft_asked use_for kind body ≡ Err Syntax
unfolding draft_asked
no_draft use_for kind body broken = let fails = not_utf8 body broken in rw fails refl

-- ---- the same of patches

pub patch_of_text : (kind : Kind) (body text : List ℕ) → text ≡ body → IsUtf8 body → patch_in_text kind text ≡ patch_asked kind body
unfolding patch_asked
patch_of_text kind body text same utf8 = let passes = is_utf8-from_IsUtf8 body utf8 in rw passes (ap (patch_in_text kind) same)

pub no_patch : (kind : Kind) (body : List ℕ) → (IsUtf8 body → ⊥) → patch_asked kind body ≡ Err Syntax
unfolding patch_asked
no_patch kind body broken = let fails = not_utf8 body broken in rw fails refl
