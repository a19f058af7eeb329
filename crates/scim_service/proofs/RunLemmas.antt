-- One more turn.
use Rattle.std.proofs.Common.{◌≡◌, ℕ, List, [], ◌∷◌, ◌++◌, length, take, set, ◌+◌, ◌<◌, ◌≤◌, refl, sym, ap, subst}
use Rattle.std.proofs.lemmas.List.{take_more_set}
use Rattle.scim_policy.specs.Rules.{Rule}
use Rattle.scim_shelf.specs.Stores.{Store}
use Rattle.scim_service.specs.declared.requests.Turn.{Turn}
use Rattle.scim_service.specs.declared.replies.Reply.{Reply}
use Rattle.scim_service.specs.Answers.{IsCause, Answered, Runs}

module _ (policy : List Rule) (base : List ℕ) (q : Turn) (r : Reply) (count now : ℕ) (mid next : Store)
    (risen : count ≤ now) (step : Answered policy base (IsCause count now mid) q mid r next) where
  runs_more : (before : ℕ) (store : Store) (qs : List Turn) (rs : List Reply)
      → Runs policy base before store qs rs count mid → Runs policy base before store (qs ++ q ∷ []) (rs ++ r ∷ []) now next
  runs_more before store [] rs (none, unrisen, same) = (
    r,
    [],
    now,
    next,
    ap (λ (xs : List Reply). xs ++ r ∷ []) none,
    subst (λ (n : ℕ). n ≤ now) unrisen risen,
    subst (λ (n : ℕ). Answered policy base (IsCause n now store) q store r next) unrisen
        (subst (λ (s : Store). Answered policy base (IsCause count now s) q s r next) same step),
    (refl, refl, refl),
  )
  runs_more before store (turn ∷ turns) rs (reply, rest, risen_first, after, split, grown, answered, runs) = (
    reply,
    rest ++ r ∷ [],
    risen_first,
    after,
    ap (λ (xs : List Reply). xs ++ r ∷ []) split,
    grown,
    answered,
    runs_more risen_first after turns rest runs,
  )

  -- the turn at an index, with its reply in its place
  pub runs_at : (before : ℕ) (store : Store) (qs : List Turn) (rs : List Reply) (i : ℕ) → i < length rs → take (i + 1) qs ≡ take i qs ++ q ∷ []
      → Runs policy base before store (take i qs) (take i rs) count mid → Runs policy base before store (take (i + 1) qs) (take (i + 1) (set rs i r)) now next
  runs_at before store qs rs i within turns runs =
      let replies : take (i + 1) (set rs i r) ≡ take i rs ++ r ∷ [] = take_more_set rs i r within in
      subst (λ (xs : List Turn). Runs policy base before store xs (take (i + 1) (set rs i r)) now next) (sym turns)
      (subst (λ (ys : List Reply). Runs policy base before store (take i qs ++ q ∷ []) ys now next) (sym replies) (runs_more before store (take i qs) (take i rs) runs))
