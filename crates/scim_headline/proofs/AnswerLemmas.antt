-- One request over two stores that are alike for its client, where no reply reports a failure.
use Rattle.std.proofs.Common.{◌≡◌, refl, sym, ◌∙◌, ap, subst, subst₂, ℕ, true, List, inl, inr}
use Rattle.std.specs.Prelude.{◌≤◌, ◌⊎◌, All, Option, None, Some, Result, Ok, Err}
use Rattle.std.proofs.lemmas.Bool.{cases_Bool}
use Rattle.scim_text.specs.Moments.{last_moment}
use Rattle.scim_text.specs.declared.memory.Failed.{Failed}
use Rattle.scim_schema.specs.declared.Leaf.{Leaf}
use Rattle.scim_cell.specs.Content.{Content}
use Rattle.scim_audit.specs.declared.refusals.Refusal.{Refusal}
use Rattle.scim_body.specs.Drafts.{Draft}
use Rattle.scim_change.specs.Create.{created}
use Rattle.scim_change.proofs.Facts.{IsSound}
use Rattle.scim_policy.specs.Rules.{Rule}
use Rattle.scim_view.specs.declared.projection.Wanted.{Wanted}
use Rattle.scim_view.specs.View.{Viewer}
use Rattle.scim_shelf.specs.declared.faults.ShelfFault.{ShelfFault}
use Rattle.scim_shelf.specs.Stores.{Store, IsStore, AreKeyed, is_taken, is_used, changed}
use Rattle.scim_service.specs.declared.requests.Ask.{Ask}
use Rattle.scim_service.specs.declared.requests.Ask.TheVariants.{Get, Search, Create, Replace, Patch as PatchOne, Remove}
use Rattle.scim_service.specs.declared.requests.Turn.{Turn}
use Rattle.scim_service.specs.declared.replies.Reply.{Reply}
use Rattle.scim_service.specs.Replies.{refusal_of}
use Rattle.scim_service.specs.Requests.{IsAsk, IsTurn}
use Rattle.scim_service.specs.Answers.{IsDone, Answered}
use Rattle.scim_service.specs.Step.{rejection_plan, denial_plan, new_resource, first_denied, unique_creation_plan, decided_creation_plan, is_for, creation_plan, request_plan, viewer_at, plan, next_store}
use Rattle.scim_service.proofs.Facts.{next_is_store}
use Rattle.scim_noninterference.specs.Alike.{IsAlike}
use Rattle.scim_noninterference.proofs.Facts.{AreLike, AreAnswers, planned_same, like_alike, alike_like, taken_same}
use Rattle.scim_headline.specs.Headline.{IsUnfailed}
use Rattle.scim_headline.proofs.AskLemmas.{AreSame, ArePlans, with_ask, ask_itself, plans_same}

-- ---- a reply that reports no failure is the planned one

pub is_done : (policy : List Rule) (base : List ℕ) (Cause : Failed ShelfFault → Type 0) (turn : Turn) (store : Store) (reply : Reply) (next : Store)
    → Answered policy base Cause turn store reply next → IsUnfailed reply → IsDone policy base turn store reply next
is_done policy base Cause turn store reply next (inl (unread, told, same)) unfailed = absurd (unfailed.stored (ap refusal_of told))
is_done policy base Cause turn store reply next (inr (whole, inl done)) unfailed = done
is_done policy base Cause turn store reply next (inr (whole, inr (fault, told, cause, same))) unfailed = absurd (unfailed.stored (ap refusal_of told))

pub answered_valid : (policy : List Rule) (base : List ℕ) (Cause : Failed ShelfFault → Type 0) (turn : Turn) (store : Store) (reply : Reply) (next : Store)
    → Answered policy base Cause turn store reply next → IsTurn turn → IsStore base store → IsStore base next
answered_valid policy base Cause turn store reply next (inl (unread, told, same)) is valid = subst (IsStore base) (sym same) valid
answered_valid policy base Cause turn store reply next (inr (whole, inl (told, same))) is valid = subst (IsStore base) (sym same) (next_is_store policy base turn store valid is)
answered_valid policy base Cause turn store reply next (inr (whole, inr (fault, told, cause, same))) is valid = subst (IsStore base) (sym same) valid

-- ---- one turn over two stores

module _ (v : Viewer) (turn : Turn) (s t : List Content) (like : AreLike v s t) where
  -- the new id is in use in one of the stores: then an earlier reason refuses the create over both
  used : (x : Content) (w : Wanted) → (is_used s x.id ≡ true) ⊎ (is_used t x.id ≡ true)
      → IsUnfailed (unique_creation_plan v turn s w x).reply → IsUnfailed (unique_creation_plan v turn t w x).reply
      → AreAnswers v s t (unique_creation_plan v turn s w x) (unique_creation_plan v turn t w x)
  unfolding rejection_plan
  used x w held one two =
      let taken : is_taken s x ≡ is_taken t x = taken_same x x s t refl like.names in
      elim (cases_Bool (is_taken t x)) [
        | inl holds ↦ rw (taken, holds) (record { reply = refl; like = like })
        | inr free ↦ elim held [
          | inl here ↦ (let told = rw (taken, free, here) at one in absurd (told.free refl))
          | inr there ↦ (let told = rw (free, there) at two in absurd (told.free refl))
        ]
      ]

  decided : (x : Content) (w : Wanted) (o : Option Leaf) → (is_used s x.id ≡ true) ⊎ (is_used t x.id ≡ true)
      → IsUnfailed (decided_creation_plan v turn s w x o).reply → IsUnfailed (decided_creation_plan v turn t w x o).reply
      → AreAnswers v s t (decided_creation_plan v turn s w x o) (decided_creation_plan v turn t w x o)
  unfolding denial_plan
  decided x w None held one two = used x w held one two
  decided x w (Some l) held one two = record { reply = refl; like = like }

  creating : (d : Draft) (w : Wanted) → (is_used s turn.fresh ≡ true) ⊎ (is_used t turn.fresh ≡ true)
      → IsUnfailed (creation_plan v turn s d w).reply → IsUnfailed (creation_plan v turn t d w).reply → AreAnswers v s t (creation_plan v turn s d w) (creation_plan v turn t d w)
  unfolding creation_plan rejection_plan created
  creating d w held one two = elim (cases_Bool (is_for turn d)) [
    | inl holds ↦
        (let first = rw holds at one in
        let second = rw holds at two in
        rw holds (decided (new_resource v turn d) w (first_denied v d (new_resource v turn d)) held first second))
    | inr other ↦ rw other (record { reply = refl; like = like })
  ]

module _ (v : Viewer) (turn : Turn) (s t : List Content) (like : AreLike v s t) (keyed_s : AreKeyed s) (keyed_t : AreKeyed t)
    (sound_s : All (IsSound v.base) s) (sound_t : All (IsSound v.base) t) (there : turn.moment ≤ last_moment) where
  planned : (ask : Result Ask Refusal) → IsAsk ask → IsUnfailed (request_plan v turn s ask).reply → IsUnfailed (request_plan v turn t ask).reply
      → AreAnswers v s t (request_plan v turn s ask) (request_plan v turn t ask)
  planned (Err refusal) is one two = planned_same v turn s t like keyed_s keyed_t sound_s sound_t there (Err refusal) is tt tt
  planned (Ok (Get w)) is one two = planned_same v turn s t like keyed_s keyed_t sound_s sound_t there (Ok (Get w)) is tt tt
  planned (Ok (Search q)) is one two = planned_same v turn s t like keyed_s keyed_t sound_s sound_t there (Ok (Search q)) is tt tt
  planned (Ok (Create d w)) is one two = elim (cases_Bool (is_used s turn.fresh)) [
    | inl here ↦ creating v turn s t like d w (inl here) one two
    | inr free ↦ elim (cases_Bool (is_used t turn.fresh)) [
      | inl here ↦ creating v turn s t like d w (inr here) one two
      | inr free_too ↦ planned_same v turn s t like keyed_s keyed_t sound_s sound_t there (Ok (Create d w)) is free free_too
    ]
  ]
  planned (Ok (Replace d w)) is one two = planned_same v turn s t like keyed_s keyed_t sound_s sound_t there (Ok (Replace d w)) is tt tt
  planned (Ok (PatchOne p w)) is one two = planned_same v turn s t like keyed_s keyed_t sound_s sound_t there (Ok (PatchOne p w)) is tt tt
  planned (Ok Remove) is one two = planned_same v turn s t like keyed_s keyed_t sound_s sound_t there (Ok Remove) is tt tt

-- a turn that is done over two stores
pub record AreDone (v : Viewer) (reply reply_too : Reply) (s_next t_next : Store) : Type 0 where
  pub replies : reply ≡ reply_too
  pub valid : IsStore v.base s_next
  pub valid_too : IsStore v.base t_next
  pub alike : IsAlike v s_next.resources t_next.resources

module _ (policy : List Rule) (base : List ℕ) (turn : Turn) (s t : Store) (one : IsStore base s) (two : IsStore base t)
    (alike : IsAlike (viewer_at policy base turn) s.resources t.resources) (is : IsTurn turn) where
  planned_alike : IsUnfailed (plan policy base turn s).reply → IsUnfailed (plan policy base turn t).reply
      → ((plan policy base turn s).reply ≡ (plan policy base turn t).reply)
      × IsAlike (viewer_at policy base turn) (next_store policy base turn s).resources (next_store policy base turn t).resources
  planned_alike first second =
      let v = viewer_at policy base turn in
      let like = like_alike v s.resources t.resources one.sound two.sound alike in
      let answers = planned v turn s.resources t.resources like one.keyed two.keyed one.sound two.sound is.moment turn.request.ask is.ask first second in
      (answers.reply, alike_like v _ _ answers.like)

-- ---- two turns of one message

-- turns that differ in their asks alone, which stand for one request
pub record AreTurns (one two : Turn) : Type 0 where
  pub client : one.request.client ≡ two.request.client
  pub op : one.request.op ≡ two.request.op
  pub kind : one.request.kind ≡ two.request.kind
  pub id : one.request.id ≡ two.request.id
  pub moment : one.moment ≡ two.moment
  pub fresh : one.fresh ≡ two.fresh
  pub asks : AreSame one.request.ask two.request.ask

pub turn_itself : (turn : Turn) → AreTurns turn turn
turn_itself turn =
    record { client = refl; op = refl; kind = refl; id = refl; moment = refl; fresh = refl; asks = ask_itself turn.request.ask }

module _ (policy : List Rule) (base : List ℕ) (one two : Turn) (same : AreTurns one two) where
  other_ask : with_ask one two.request.ask ≡ two
  other_ask = λ i. record {
    request = record { client = same.client i; op = same.op i; kind = same.kind i; id = same.id i; ask = two.request.ask };
    moment = same.moment i;
    fresh = same.fresh i;
  }

  pub plans_alike : (store : Store) → ArePlans (plan policy base one store) (plan policy base two store)
  plans_alike store =
      subst (λ (x : Turn). ArePlans (plan policy base one store) (plan policy base x store)) other_ask
      (plans_same (viewer_at policy base one) store.resources one one.request.ask two.request.ask same.asks)

-- both are done
pub both_done : (v : Viewer) (one two : Turn) (s t : Store) (reply reply_too : Reply) (s_next t_next : Store) → one.request.client ≡ v.client → AreTurns one two
    → IsTurn one → IsTurn two → IsStore v.base s → IsStore v.base t → IsAlike v s.resources t.resources
    → IsDone v.policy v.base one s reply s_next → IsDone v.policy v.base two t reply_too t_next → IsUnfailed reply → IsUnfailed reply_too
    → AreDone v reply reply_too s_next t_next
both_done v one two s t reply reply_too s_next t_next own same is is_too valid valid_too alike done done_too unfailed unfailed_too =
    let policy = v.policy in
    let base = v.base in
    let at : viewer_at policy base one ≡ v = λ i. record { policy = policy; client = own i; base = base } in
    let plans = plans_alike policy base one two same t in
    let first = subst IsUnfailed done.0 unfailed in
    let second = subst IsUnfailed (done_too.0 ∙ sym plans.reply) unfailed_too in
    let both = planned_alike policy base one s t valid valid_too (subst (λ (u : Viewer). IsAlike u s.resources t.resources) (sym at) alike) is first second in
    let alike_then = subst (λ (u : Viewer). IsAlike u (next_store policy base one s).resources (next_store policy base one t).resources) at both.1 in
    let ends : (next_store policy base one t).resources ≡ t_next.resources
    = ap (λ c. changed c t.resources) plans.change ∙ sym (ap (λ (x : Store). x.resources) done_too.1) in
    record {
      replies = done.0 ∙ both.0 ∙ plans.reply ∙ sym done_too.0;
      valid = subst (IsStore base) (sym done.1) (next_is_store policy base one s valid is);
      valid_too = subst (IsStore base) (sym done_too.1) (next_is_store policy base two t valid_too is_too);
      alike = subst₂ (IsAlike v) (sym (ap (λ (x : Store). x.resources) done.1)) ends alike_then;
    }
