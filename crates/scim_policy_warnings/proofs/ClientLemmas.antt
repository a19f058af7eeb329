-- A rule is for the clients that are meant.
use Rattle.std.proofs.Common.{◌≡◌, refl, sym, ◌∙◌, subst, ℕ, Bool, true, false, List, [], ◌∷◌}
use Rattle.std.specs.Prelude.{All, ◌||◌, nat_eq, filter_map}
use Rattle.std.specs.List.{flat_map, list_any}
use Rattle.std.specs.Cmp.Lexicographic.{pointwise, same_text}
use Rattle.std.proofs.lemmas.Bool.{not-true}
use Rattle.std.proofs.lemmas.List.Elements.{All-nil, All-cons}
use Rattle.std.proofs.lemmas.List.Folds.{list_any-append}
use Rattle.scim_policy.specs.declared.rules.ClientName.{ClientName}
use Rattle.scim_policy.specs.declared.rules.ClientName.TheVariants.{Everyone, Named}
use Rattle.scim_policy.specs.Rules.{Rule}
use Rattle.scim_policy.specs.Fits.{names}
use Rattle.scim_policy_warnings.specs.declared.clients.Client.{Client}
use Rattle.scim_policy_warnings.specs.declared.clients.Client.TheVariants as client
use Rattle.scim_policy_warnings.specs.Clients.{is_everyone, is_for, is_listed, is_meant, names_in, own_name}

or_first : (p q : Bool) → p || q ≡ false → p ≡ false
or_first true q e = cc
or_first false q e = refl

or_second : (p q : Bool) → p || q ≡ false → q ≡ false
or_second true q e = cc
or_second false q e = e

-- a rule is for a client exactly where one of its names is the client's
abbrev pub IsSameFor : Client → List ℕ → Rule → Type 0
IsSameFor who own r = is_for who r ≡ list_any (names own) r.clients

-- a name that isn't the client's is `*` exactly where it is one of the client's
by_everyone : (own : List ℕ) (cs : List ClientName) → is_listed (filter_map own_name cs) own ≡ false → list_any is_everyone cs ≡ list_any (names own) cs
by_everyone own [] none = refl
by_everyone own (Everyone ∷ cs) none = refl
by_everyone own (Named name ∷ cs) none =
    let first : pointwise nat_eq name own ≡ false = or_first _ _ none in
    rw first (by_everyone own cs (or_second _ _ none))

all_by_everyone : (own : List ℕ) (policy : List Rule) → is_listed (flat_map names_in policy) own ≡ false → All (IsSameFor client.Other own) policy
all_by_everyone own [] none = All-nil (IsSameFor client.Other own)
all_by_everyone own (r ∷ rs) none =
    let parts : is_listed (names_in r) own || is_listed (flat_map names_in rs) own ≡ false = sym (list_any-append (λ t. pointwise nat_eq t own) (names_in r) (flat_map names_in rs)) ∙ none in
    All-cons (IsSameFor client.Other own) r rs (by_everyone own r.clients (or_first _ _ parts)) (all_by_everyone own rs (or_second _ _ parts))

all_by_name : (own : List ℕ) (policy : List Rule) → All (IsSameFor (client.Named own) own) policy
all_by_name own policy = λ k d less. refl

pub all_meant : (policy : List Rule) (who : Client) (own : List ℕ) → is_meant policy who own ≡ true → All (IsSameFor who own) policy
all_meant policy (client.Named name) own meant =
    subst (λ (t : List ℕ). All (IsSameFor (client.Named t) own) policy) (sym (same_text name own (sym meant))) (all_by_name own policy)
all_meant policy client.Other own meant = all_by_everyone own policy (not-true _ meant)
