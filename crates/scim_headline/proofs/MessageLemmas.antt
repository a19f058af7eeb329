-- Two answers to one message.
use Rattle.std.proofs.Common.{◌≡◌, ◌≢◌, refl, sym, ◌∙◌, ap, subst, subst₂, ℕ, List, inl, inr}
use Rattle.std.specs.Borrow.{Bor}
use Rattle.std.specs.Prelude.{◌≤◌, ◌⊎◌, Option, None, Some, option_copied, Result, Ok, Err}
use Rattle.scim_text.specs.Moments.{last_moment}
use Rattle.scim_text.specs.declared.memory.Failed.{Failed}
use Rattle.scim_schema.specs.declared.Kind.{Kind}
use Rattle.scim_cell.specs.Ids.{IsId, IsIdText}
use Rattle.scim_cell.proofs.Facts.{IsIdText-id_text, id_text-injective}
use Rattle.scim_audit.specs.declared.refusals.Refusal.{Refusal}
use Rattle.scim_audit.specs.declared.refusals.Refusal.TheVariants.{NoToken, Store as NoStore}
use Rattle.scim_policy.specs.Rules.{Rule}
use Rattle.scim_view.specs.View.{Viewer}
use Rattle.scim_shelf.specs.declared.faults.ShelfFault.{ShelfFault}
use Rattle.scim_shelf.specs.Stores.{Store, IsStore}
use Rattle.scim_wire.specs.declared.messages.Message.{Message}
use Rattle.scim_route.specs.declared.endpoints.DiscoveryPage.{DiscoveryPage}
use Rattle.scim_route.specs.declared.routes.Form.{Form}
use Rattle.scim_route.specs.declared.routes.Route.{Route}
use Rattle.scim_route.specs.declared.routes.Found.{Found}
use Rattle.scim_route.specs.declared.routes.Found.TheVariants.{Discovery, Resource}
use Rattle.scim_route.specs.Targets.{query_of}
use Rattle.scim_route.specs.Routes.{Named, a_page, a_route, IsIdOf, Says, named, Finds}
use Rattle.scim_discovery.specs.Pages.{reply_of}
use Rattle.scim_service.specs.declared.requests.Ask.{Ask}
use Rattle.scim_service.specs.declared.requests.Turn.{Turn}
use Rattle.scim_service.specs.declared.replies.Reply.{Reply}
use Rattle.scim_noninterference.specs.Alike.{IsAlike}
use Rattle.scim_exchange.specs.declared.exchanges.Arrival.{Arrival}
use Rattle.scim_exchange.specs.declared.answers.Answer.{Answer}
use Rattle.scim_exchange.specs.declared.answers.Answer.TheVariants.{Refused, Served}
use Rattle.scim_exchange.specs.Asks.{asked, IsAsk, Asks}
use Rattle.scim_exchange.specs.Refused.{Tells}
use Rattle.scim_exchange.specs.Exchanges.{IsTurnOf, IsTold, page_or, IsPageOr, IsServed, IsServedTo, ComesOf, Exchanged}
use Rattle.scim_headline.specs.Headline.{IsUnfailed}
use Rattle.scim_headline.proofs.AnswerLemmas.{AreTurns, answered_valid, both_done, is_done}
use Rattle.scim_headline.proofs.TurnLemmas.{asks_same, turn_sound}

-- ---- what is found for one message

-- routes of one request
record AreRoutes (a b : Route) : Type 0 where
  form : a.form ≡ b.form
  op : a.op ≡ b.op
  kind : a.kind ≡ b.kind
  id : a.id ≡ b.id
  query : option_copied a.query ≡ option_copied b.query

ids_same : (text a b : Option (List ℕ)) → IsIdOf text a → IsIdOf text b → a ≡ b
ids_same None a b h k = h ∙ sym k
ids_same (Some t) None None h k = refl
ids_same (Some t) None (Some b) h k = absurd (h (subst IsIdText (sym k.1) (IsIdText-id_text b)))
ids_same (Some t) (Some a) None h k = absurd (k (subst IsIdText (sym h.1) (IsIdText-id_text a)))
ids_same (Some t) (Some a) (Some b) h k = ap (λ (x : List ℕ). Some x) (id_text-injective a b h.0 k.0 (sym h.1 ∙ k.1))

routes_same : (f : Form) (kind : Kind) (text query : Option (List ℕ)) (a b : Route) → Says f kind text query a → Says f kind text query b → AreRoutes a b
routes_same f kind text query a b h k = record {
  form = h.form_is ∙ sym k.form_is;
  op = h.op_is ∙ sym k.op_is;
  kind = h.kind_is ∙ sym k.kind_is;
  id = ids_same text a.id b.id h.id_is k.id_is;
  query = h.query_is ∙ sym k.query_is;
}

page_found : (p : DiscoveryPage) (query : Option (List ℕ)) (f : Result Found Refusal) → Finds (Ok (a_page p)) query f
    → (text : Option (Bor (List ℕ))) × (f ≡ Ok (Discovery p text)) × (option_copied text ≡ query)
page_found p query (Ok (Discovery q text)) h = (text, ap (λ (x : DiscoveryPage). Ok (Discovery x text)) h.0, h.1)
page_found p query (Ok (Resource route)) h = absurd h
page_found p query (Err refusal) h = absurd h

route_found : (form : Form) (kind : Kind) (text query : Option (List ℕ)) (f : Result Found Refusal) → Finds (Ok (a_route form kind text)) query f
    → (route : Route) × (f ≡ Ok (Resource route)) × Says form kind text query route
route_found form kind text query (Ok (Discovery q t)) h = absurd h
route_found form kind text query (Ok (Resource route)) h = (route, refl, h)
route_found form kind text query (Err refusal) h = absurd h

none_found : (refusal : Refusal) (query : Option (List ℕ)) (f : Result Found Refusal) → Finds (Err refusal) query f → f ≡ Err refusal
none_found refusal query (Ok (Discovery q t)) h = absurd h
none_found refusal query (Ok (Resource route)) h = absurd h
none_found refusal query (Err told) h = ap (λ (x : Refusal). Err x) h

-- ---- a valid store stays one

module _ (policy : List Rule) (base : List ℕ) (Cause : Failed ShelfFault → Type 0) (arrival : Arrival) (message : Message) (store : Store)
    (moment : arrival.moment ≤ last_moment) (fresh : IsId arrival.fresh) (valid : IsStore base store) where
  served_valid : (client : Option (List ℕ)) (route : Route) (answer : Answer) (next : Store) → IsServedTo client policy base Cause arrival route message store answer next → IsStore base next
  served_valid None route answer next (told, same) = subst (IsStore base) (sym same) valid
  served_valid (Some client) route answer next (turn, reply, is, answered, told) =
      answered_valid policy base Cause turn store reply next answered (turn_sound client arrival route message.body turn is moment fresh) valid

  comes_valid : (found : Result Found Refusal) (answer : Answer) (next : Store) → ComesOf found policy base Cause arrival message store answer next → IsStore base next
  comes_valid (Err refusal) answer next (told, same) = subst (IsStore base) (sym same) valid
  comes_valid (Ok (Discovery page query)) answer next (told, same) = subst (IsStore base) (sym same) valid
  comes_valid (Ok (Resource route)) answer next served = served_valid (option_copied arrival.client) route answer next served

  pub exchanged_valid : (answer : Answer) (next : Store) → Exchanged policy base Cause arrival message store answer next → IsStore base next
  exchanged_valid answer next (inl (found, finds, comes)) = comes_valid found answer next comes
  exchanged_valid answer next (inr (told, same)) = subst (IsStore base) (sym same) valid

-- ---- the same answer over stores that are alike

-- the answer reports no failure
pub record IsUnfailedAnswer (answer : Answer) : Type 0 where
  pub refused : answer ≢ Refused NoStore
  pub served : (reply : Reply) → answer ≡ Served reply → IsUnfailed reply

-- both are answered
pub record AreTold (v : Viewer) (answer answer_too : Answer) (s_next t_next : Store) : Type 0 where
  pub answers : answer ≡ answer_too
  pub valid : IsStore v.base s_next
  pub valid_too : IsStore v.base t_next
  pub alike : IsAlike v s_next.resources t_next.resources

module _ (v : Viewer) (Cause : Failed ShelfFault → Type 0) (one two : Arrival) (message : Message) (s t : Store)
    (client : option_copied one.client ≡ option_copied two.client) (moment : one.moment ≡ two.moment) (fresh : one.fresh ≡ two.fresh)
    (known : (option_copied one.client ≡ Some v.client) ⊎ (option_copied one.client ≡ None))
    (timely : one.moment ≤ last_moment) (id : IsId one.fresh)
    (valid : IsStore v.base s) (valid_too : IsStore v.base t) (alike : IsAlike v s.resources t.resources) where
  -- what leaves the stores as they are
  unchanged : (answer answer_too : Answer) (s_next t_next : Store) → answer ≡ answer_too → s_next ≡ s → t_next ≡ t → AreTold v answer answer_too s_next t_next
  unchanged answer answer_too s_next t_next e f g = record {
    answers = e;
    valid = subst (IsStore v.base) (sym f) valid;
    valid_too = subst (IsStore v.base) (sym g) valid_too;
    alike = subst₂ (λ (x y : Store). IsAlike v x.resources y.resources) (sym f) (sym g) alike;
  }

  asks_at : (a b : Route) → AreRoutes a b → (ask : Result Ask Refusal) → Asks b message.body ask → Asks a message.body ask
  asks_at a b same ask =
      let P : (Form × Kind × Option (List ℕ)) → Type 0 = λ x. Tells (IsAsk x.1) (asked x.0 x.1 x.2 message.body) ask in
      subst P (λ i. (sym same.form i, sym same.kind i, sym same.query i))

  module _ (a b : Route) (same : AreRoutes a b) (answer answer_too : Answer) (s_next t_next : Store)
      (unfailed : IsUnfailedAnswer answer) (unfailed_too : IsUnfailedAnswer answer_too) where
    turns_same : (turn turn_too : Turn) → IsTurnOf v.client one a message.body turn → IsTurnOf v.client two b message.body turn_too → AreTurns turn turn_too
    turns_same turn turn_too is is_too = record {
      client = is.client_is ∙ sym is_too.client_is;
      op = is.op_is ∙ same.op ∙ sym is_too.op_is;
      kind = is.kind_is ∙ same.kind ∙ sym is_too.kind_is;
      id = is.id_is ∙ same.id ∙ sym is_too.id_is;
      moment = is.moment_is ∙ moment ∙ sym is_too.moment_is;
      fresh = is.fresh_is ∙ fresh ∙ sym is_too.fresh_is;
      asks = asks_same a message.body turn.request.ask turn_too.request.ask is.asks (asks_at a b same turn_too.request.ask is_too.asks);
    }

    served_known : IsServed v.client v.policy v.base Cause one a message s answer s_next → IsServed v.client v.policy v.base Cause two b message t answer_too t_next
        → AreTold v answer answer_too s_next t_next
    served_known (turn, reply, is, answered, told) (turn_too, reply_too, is_too, answered_too, told_too) =
        let good = unfailed.served reply told in
        let good_too = unfailed_too.served reply_too told_too in
        let done = both_done v turn turn_too s t reply reply_too s_next t_next is.client_is (turns_same turn turn_too is is_too)
        (turn_sound v.client one a message.body turn is timely id)
        (turn_sound v.client two b message.body turn_too is_too (subst (λ (m : ℕ). m ≤ last_moment) moment timely) (subst IsId fresh id))
        valid valid_too alike
        (is_done v.policy v.base Cause turn s reply s_next answered good)
        (is_done v.policy v.base Cause turn_too t reply_too t_next answered_too good_too) good good_too in
        record {
          answers = told ∙ ap (λ (r : Reply). Served r) done.replies ∙ sym told_too;
          valid = done.valid;
          valid_too = done.valid_too;
          alike = done.alike;
        }

    served_same : IsServedTo (option_copied one.client) v.policy v.base Cause one a message s answer s_next
        → IsServedTo (option_copied two.client) v.policy v.base Cause two b message t answer_too t_next → AreTold v answer answer_too s_next t_next
    served_same served served_too = by_client known
      where
        at_one : (o : Option (List ℕ)) → option_copied one.client ≡ o → IsServedTo o v.policy v.base Cause one a message s answer s_next
        at_one o e = subst (λ (c : Option (List ℕ)). IsServedTo c v.policy v.base Cause one a message s answer s_next) e served

        at_two : (o : Option (List ℕ)) → option_copied one.client ≡ o → IsServedTo o v.policy v.base Cause two b message t answer_too t_next
        at_two o e = subst (λ (c : Option (List ℕ)). IsServedTo c v.policy v.base Cause two b message t answer_too t_next) (sym client ∙ e) served_too

        told : IsTold (Refused NoToken) s answer s_next → IsTold (Refused NoToken) t answer_too t_next → AreTold v answer answer_too s_next t_next
        told (e, f) (g, h) = unchanged answer answer_too s_next t_next (e ∙ sym g) f h

        by_client : (option_copied one.client ≡ Some v.client) ⊎ (option_copied one.client ≡ None) → AreTold v answer answer_too s_next t_next
        by_client (inl e) = served_known (at_one (Some v.client) e) (at_two (Some v.client) e)
        by_client (inr e) = told (at_one None e) (at_two None e)

  abbrev Comes : Arrival → Result Found Refusal → Store → Answer → Store → Type 0
  Comes arrival found store answer next = ComesOf found v.policy v.base Cause arrival message store answer next

  page_same : (page : DiscoveryPage) (q r : Option (List ℕ)) (answer answer_too : Answer) (s_next t_next : Store) → q ≡ r
      → IsPageOr page q answer × (s_next ≡ s) → IsPageOr page r answer_too × (t_next ≡ t) → AreTold v answer answer_too s_next t_next
  page_same page q r answer answer_too s_next t_next e ((told, replies, is), same) ((told_too, replies_too, is_too), same_too) =
      let one_text : told ≡ told_too = replies ∙ ap (λ x. reply_of page x) e ∙ sym replies_too in
      unchanged answer answer_too s_next t_next (is ∙ ap page_or one_text ∙ sym is_too) same same_too

  module _ (answer answer_too : Answer) (s_next t_next : Store) (unfailed : IsUnfailedAnswer answer) (unfailed_too : IsUnfailedAnswer answer_too) where
    comes_same : (n : Result Named Refusal) (query : Option (List ℕ)) (f g : Result Found Refusal) → Finds n query f → Finds n query g
        → Comes one f s answer s_next → Comes two g t answer_too t_next → AreTold v answer answer_too s_next t_next
    comes_same (Ok (a_page p)) query f g finds finds_too comes comes_too =
        let first = page_found p query f finds in
        let second = page_found p query g finds_too in
        page_same p (option_copied first.0) (option_copied second.0) answer answer_too s_next t_next (first.2 ∙ sym second.2)
        (subst (λ (x : Result Found Refusal). Comes one x s answer s_next) first.1 comes)
        (subst (λ (x : Result Found Refusal). Comes two x t answer_too t_next) second.1 comes_too)
    comes_same (Ok (a_route form kind text)) query f g finds finds_too comes comes_too =
        let first = route_found form kind text query f finds in
        let second = route_found form kind text query g finds_too in
        served_same first.0 second.0 (routes_same form kind text query first.0 second.0 first.2 second.2) answer answer_too s_next t_next unfailed unfailed_too
        (subst (λ (x : Result Found Refusal). Comes one x s answer s_next) first.1 comes)
        (subst (λ (x : Result Found Refusal). Comes two x t answer_too t_next) second.1 comes_too)
    comes_same (Err refusal) query f g finds finds_too comes comes_too =
        let first = subst (λ (x : Result Found Refusal). Comes one x s answer s_next) (none_found refusal query f finds) comes in
        let second = subst (λ (x : Result Found Refusal). Comes two x t answer_too t_next) (none_found refusal query g finds_too) comes_too in
        unchanged answer answer_too s_next t_next (first.0 ∙ sym second.0) first.1 second.1

    pub exchanged_same : Exchanged v.policy v.base Cause one message s answer s_next → Exchanged v.policy v.base Cause two message t answer_too t_next
        → AreTold v answer answer_too s_next t_next
    exchanged_same (inl (f, finds, comes)) (inl (g, finds_too, comes_too)) =
        comes_same (named message.method message.target) (query_of message.target) f g finds finds_too comes comes_too
    exchanged_same (inr (told, same)) other = absurd (unfailed.refused told)
    exchanged_same (inl x) (inr (told, same)) = absurd (unfailed_too.refused told)
