-- Two runs of the service over stores that are alike for a client.
use Rattle.std.proofs.Common.{◌≡◌, sym, ◌∙◌, ap₂, subst, subst₂, ℕ, true, List, [], ◌∷◌}
use Rattle.std.specs.Prelude.{All}
use Rattle.std.specs.Cmp.Lexicographic.{bytes_decides}
use Rattle.std.proofs.lemmas.List.Elements.{All-head, All-tail}
use Rattle.scim_policy.specs.Rules.{Rule}
use Rattle.scim_view.specs.View.{Viewer}
use Rattle.scim_shelf.specs.Stores.{Store, IsStore}
use Rattle.scim_service.specs.declared.requests.Turn.{Turn}
use Rattle.scim_service.specs.declared.replies.Reply.{Reply}
use Rattle.scim_service.specs.Requests.{IsTurn}
use Rattle.scim_service.specs.Answers.{IsDone, IsCause, Runs}
use Rattle.scim_noninterference.specs.Alike.{IsAlike}
use Rattle.scim_noninterference.specs.Lists.{Round, is_of}
use Rattle.scim_headline.specs.Headline.{IsUnfailed, IsRound, RunTo, ClientsCanNotTell}
use Rattle.scim_headline.proofs.AnswerLemmas.{AreDone, answered_valid, both_done, is_done, turn_itself}

module _ (policy : List Rule) (base : List ℕ) where
  -- a run leaves a valid store
  runs_valid : (before now : ℕ) (s next : Store) (turns : List Turn) (replies : List Reply) → Runs policy base before s turns replies now next → All IsTurn turns → IsStore base s → IsStore base next
  runs_valid before now s next [] replies (none, count, same) each valid = subst (IsStore base) (sym same) valid
  runs_valid before now s next (turn ∷ turns) replies (reply, rest, count, mid, split, later, answered, runs) each valid =
      runs_valid count now mid next turns rest runs (All-tail IsTurn turn turns each)
      (answered_valid policy base (IsCause before count s) turn s reply mid answered (All-head IsTurn turn turns each) valid)

  -- a run of one request that doesn't fail does what is planned
  run_done : (before now : ℕ) (s next : Store) (turn : Turn) (reply : Reply) → Runs policy base before s (turn ∷ []) (reply ∷ []) now next → IsUnfailed reply
      → IsDone policy base turn s reply next
  run_done before now s next turn reply (told, rest, count, mid, split, later, answered, (none, last, same)) unfailed =
      let reply_is : told ≡ reply = cc in
      let done = is_done policy base (IsCause before count s) turn s told mid answered (subst IsUnfailed (sym reply_is) unfailed) in
      (sym reply_is ∙ done.0, same ∙ done.1)

-- the turn is of the client
pub own_client : (client : List ℕ) (turn : Turn) → is_of client turn ≡ true → turn.request.client ≡ client
own_client client turn own = (bytes_decides turn.request.client client).0 own

module _ (v : Viewer) where
  run_valid : (s next : Store) (turns : List Turn) (replies : List Reply) → RunTo v s turns replies next → All IsTurn turns → IsStore v.base s → IsStore v.base next
  run_valid s next turns replies (before, now, runs) = runs_valid v.policy v.base before now s next turns replies runs

  own_done : (s next : Store) (turn : Turn) (reply : Reply) → RunTo v s (turn ∷ []) (reply ∷ []) next → IsUnfailed reply → IsDone v.policy v.base turn s reply next
  own_done s next turn reply (before, now, runs) = run_done v.policy v.base before now s next turn reply runs

  round_done : (s t : Store) (r : Round) → IsStore v.base s → IsStore v.base t → IsAlike v s.resources t.resources → (round : IsRound v s t r)
      → AreDone v round.reply round.reply_too round.s_next round.t_next
  round_done s t r valid valid_too alike round =
      both_done v r.own r.own round.s_mid round.t_mid round.reply round.reply_too round.s_next round.t_next (own_client v.client r.own round.own) (turn_itself r.own)
      round.valid.0 round.valid.0
      (run_valid s round.s_mid r.first round.others round.runs round.valid.1 valid)
      (run_valid t round.t_mid r.second round.others_too round.runs_too round.valid.2 valid_too)
      (round.lead alike)
      (own_done round.s_mid round.s_next r.own round.reply round.answers round.unfailed.0)
      (own_done round.t_mid round.t_next r.own round.reply_too round.answers_too round.unfailed.1)
      round.unfailed.0 round.unfailed.1

pub clients_can_not_tell : ClientsCanNotTell
clients_can_not_tell v s t s_end t_end [] replies replies_too valid valid_too alike (none, none_too, same, same_too) =
    (none ∙ sym none_too, subst₂ (λ (x y : Store). IsAlike v x.resources y.resources) (sym same) (sym same_too) alike)
clients_can_not_tell v s t s_end t_end (r ∷ rounds) replies replies_too valid valid_too alike (round, rest, rest_too, split, split_too, runs) =
    let done = round_done v s t r valid valid_too alike round in
    let more = clients_can_not_tell v round.s_next round.t_next s_end t_end rounds rest rest_too done.valid done.valid_too done.alike runs in
    (split ∙ ap₂ ◌∷◌ done.replies more.0 ∙ sym split_too, more.1)
