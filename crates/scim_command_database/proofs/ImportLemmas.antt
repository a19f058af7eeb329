-- What is exported is imported again.
use Rattle.std.proofs.Common.{◌≡◌, refl, cond, not, Bool, true, false, List, [], ◌∷◌, ◌++◌}
use Rattle.std.specs.Prelude.{All, AllPairs, filter}
use Rattle.std.proofs.lemmas.List.Elements.{All-cons, All-head, All-tail}
use Rattle.std.proofs.lemmas.List.Kept.{AllPairs-cons}
use Rattle.std.proofs.lemmas.List.Sorted.{All-permutation, IsPermutation-sym, IsPermutation-middle, IsPermutation-filter_both}
use denote.Enum.Bare.{sameb}
use Rattle.scim_schema.specs.declared.Kind.{Kind}
use Rattle.scim_schema.specs.declared.Kind.TheVariants.{User, Group}
use Rattle.scim_schema.specs.contracts.Kind.{the_type as the_kind}
use Rattle.scim_cell.specs.Content.{Content}
use Rattle.scim_cell.specs.Kinds.{is_of}
use Rattle.scim_value.specs.Uniqueness.{AreApart}
use Rattle.scim_json.specs.Stored.{IsResourceBelow}
use Rattle.scim_shelf.proofs.Facts.{pairs_head, pairs_tail, apart_back}
use Rattle.scim_command_database.specs.Exports.{users_and_groups, ExportsAreImported}
use Rattle.scim_command_database.proofs.SpacedLemmas.{documents_read}

-- a resource is a group exactly if it isn't a user
other_kind : (kind : Kind) → sameb the_kind kind Group ≡ not (sameb the_kind kind User)
other_kind User = refl
other_kind Group = refl

-- one more in the midst of resources that may stand together
apart_middle : (before after : List Content) (c : Content) → AllPairs AreApart (before ++ after) → All (AreApart c) (before ++ after) → AllPairs AreApart (before ++ c ∷ after)
apart_middle [] after c pairs all = AllPairs-cons AreApart c after all pairs
apart_middle (b ∷ before) after c pairs all =
    let moved = IsPermutation-sym (before ++ c ∷ after) (c ∷ (before ++ after)) (IsPermutation-middle before c after) in
    let here : All (AreApart b) (c ∷ (before ++ after)) = All-cons (AreApart b) c (before ++ after) (apart_back c b (All-head (AreApart c) b (before ++ after) all)) (pairs_head b (before ++ after) pairs) in
    AllPairs-cons AreApart b (before ++ c ∷ after) (All-permutation (AreApart b) (c ∷ (before ++ after)) (before ++ c ∷ after) moved here)
    (apart_middle before after c (pairs_tail b (before ++ after) pairs) (All-tail (AreApart c) b (before ++ after) all))

-- one more, among the users or among the groups
apart_more : (user group : Bool) → group ≡ not user → (users groups : List Content) (c : Content) → AllPairs AreApart (users ++ groups) → All (AreApart c) (users ++ groups)
    → AllPairs AreApart (cond user (c ∷ users) users ++ cond group (c ∷ groups) groups)
apart_more true true other users groups c pairs all = cc
apart_more true false other users groups c pairs all = AllPairs-cons AreApart c (users ++ groups) all pairs
apart_more false true other users groups c pairs all = apart_middle users groups c pairs all
apart_more false false other users groups c pairs all = cc

apart_sorted : (cs : List Content) → AllPairs AreApart cs → AllPairs AreApart (users_and_groups cs)
apart_sorted [] pairs = pairs
apart_sorted (c ∷ cs) pairs =
    let moved = IsPermutation-filter_both (is_of User) (is_of Group) (λ (d : Content). other_kind d.kind) cs in
    apart_more (is_of User c) (is_of Group c) (other_kind c.kind) (filter (is_of User) cs) (filter (is_of Group) cs) c
    (apart_sorted cs (pairs_tail c cs pairs)) (All-permutation (AreApart c) cs (users_and_groups cs) moved (pairs_head c cs pairs))

pub exports_are_imported : ExportsAreImported
exports_are_imported base store is =
    let cs = store.resources in
    let moved = IsPermutation-filter_both (is_of User) (is_of Group) (λ (d : Content). other_kind d.kind) cs in (
      (
        record {
          below = All-permutation (IsResourceBelow base) cs (users_and_groups cs) moved is.sound;
          apart = apart_sorted cs is.keyed.apart;
        },
        documents_read (users_and_groups cs),
      ),
      record { members = IsPermutation-sym cs (users_and_groups cs) moved; keyed = is.keyed; no_rows = refl },
    )
