-- What rules may allow, by the first of them.
use Rattle.std.proofs.Common.{◌≡◌, refl, sym, ap, ◌∙◌, ℕ, ◌+◌, ◌<◌, true, false, List, [], ◌∷◌, drop, get_or, length}
use Rattle.std.specs.Prelude.{not}
use Rattle.std.specs.List.{before_first, list_any}
use Rattle.std.proofs.lemmas.List.{drop_more}
use Rattle.std.proofs.lemmas.List.Sums.{take_while-cons}
use Rattle.scim_schema.specs.declared.Kind.{Kind}
use Rattle.scim_schema.specs.declared.Op.{Op}
use Rattle.scim_schema.specs.declared.Leaf.{Leaf}
use Rattle.scim_policy.specs.Rules.{Rule}
use Rattle.scim_policy_warnings.specs.declared.clients.Client.{Client}
use Rattle.scim_policy_warnings.specs.declared.possibilities.Extent.{Extent}
use Rattle.scim_policy_warnings.specs.MayAllow.{allows, denies, may_allow, other}

module _ (extent : Extent) (client : Client) (op : Op) (k : Kind) (l : Leaf) where
  -- none before a rule that denies on all resources; another is among them
  front_denies : (r : Rule) (rs : List Rule) → denies (other extent) client op k l r ≡ true → before_first (denies (other extent) client op k l) (r ∷ rs) ≡ []
  front_denies r rs t = take_while-cons (λ z. not (denies (other extent) client op k l z)) r rs ∙ rw t refl

  front_passes : (r : Rule) (rs : List Rule) → denies (other extent) client op k l r ≡ false → before_first (denies (other extent) client op k l) (r ∷ rs) ≡ r ∷ before_first (denies (other extent) client op k l) rs
  front_passes r rs f = take_while-cons (λ z. not (denies (other extent) client op k l z)) r rs ∙ rw f refl

  -- no rules allow nothing
  pub none_allows : may_allow extent [] client op k l ≡ false
  unfolding may_allow
  none_allows = refl

  -- the first rule denies on all resources, or allows, or is passed over
  pub first_denies : (r : Rule) (rs : List Rule) → denies (other extent) client op k l r ≡ true → may_allow extent (r ∷ rs) client op k l ≡ false
  unfolding may_allow
  first_denies r rs t = ap (list_any (allows extent client op k l)) (front_denies r rs t)

  pub first_allows : (r : Rule) (rs : List Rule) → denies (other extent) client op k l r ≡ false → allows extent client op k l r ≡ true → may_allow extent (r ∷ rs) client op k l ≡ true
  unfolding may_allow
  first_allows r rs f t = ap (list_any (allows extent client op k l)) (front_passes r rs f) ∙ rw t refl

  pub first_passes : (r : Rule) (rs : List Rule) → denies (other extent) client op k l r ≡ false → allows extent client op k l r ≡ false → may_allow extent (r ∷ rs) client op k l ≡ may_allow extent rs client op k l
  unfolding may_allow
  first_passes r rs f g = ap (list_any (allows extent client op k l)) (front_passes r rs f) ∙ rw g refl

  -- the rules from one of them on begin with it
  pub stands_first : (rules : List Rule) (i : ℕ) (r : Rule) → i < length rules → r ≡ get_or rules i r → may_allow extent (drop i rules) client op k l ≡ may_allow extent (r ∷ drop (i + 1) rules) client op k l
  stands_first rules i r inside is =
      ap (λ (rs : List Rule). may_allow extent rs client op k l) (drop_more rules i r inside)
      ∙ ap (λ (s : Rule). may_allow extent (s ∷ drop (i + 1) rules) client op k l) (sym is)
