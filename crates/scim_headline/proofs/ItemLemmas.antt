-- The items of one event, answered over two stores that are alike for their client.
use Rattle.std.proofs.Common.{◌≡◌, refl, sym, ◌∙◌, ap, ap₂, subst, subst₂, ℕ, ◌+◌, Bool, true, false, ◌||◌, List, [], ◌∷◌, inl, inr}
use Rattle.std.specs.Prelude.{◌≤◌, ◌⊎◌, ⊤, Option, None, Some, option_copied, MatchBool}
use Rattle.std.specs.List.{AllByRecursion}
use Rattle.scim_text.specs.Moments.{last_moment}
use Rattle.scim_cell.specs.Ids.{IsId}
use Rattle.scim_audit.specs.declared.refusals.Refusal.{Refusal}
use Rattle.scim_audit.specs.declared.refusals.Refusal.TheVariants.{Store as NoStore, IdInUse}
use Rattle.scim_policy.specs.Rules.{Rule}
use Rattle.scim_view.specs.View.{Viewer}
use Rattle.scim_shelf.specs.Stores.{Store, IsStore}
use Rattle.scim_wire.specs.declared.messages.Message.{Message}
use Rattle.scim_wire.specs.declared.messages.Item.{Item}
use Rattle.scim_wire.specs.declared.messages.Item.TheVariants as item
use Rattle.scim_wire.specs.declared.replies.ReplyForm.{ReplyForm}
use Rattle.scim_wire.specs.Replies.{form_of}
use Rattle.scim_token.specs.TokenFile.{Entry}
use Rattle.scim_noninterference.specs.Alike.{IsAlike}
use Rattle.scim_exchange.specs.declared.answers.Answer.{Answer}
use Rattle.scim_exchange.specs.declared.exchanges.Arrival.{Arrival}
use Rattle.scim_exchange.specs.Replies.{text_or, answer_text}
use Rattle.scim_hub.specs.declared.events.Stamp.{Stamp}
use Rattle.scim_hub.specs.Answering.{Arrives, closes_by_itself, whole_count, IsAnswered, AreAnswered}
use Rattle.scim_headline.specs.Connections.{IsFrom, IsFailure}
use Rattle.scim_headline.proofs.IdLemmas.{id_valid}
use Rattle.scim_headline.proofs.MessageLemmas.{IsUnfailedAnswer, exchanged_valid, exchanged_same}

module _ (policy : List Rule) (base : List ℕ) (entries : List Entry) (stamp : Stamp) (timely : stamp.moment ≤ last_moment) where
  -- what an arrival of the event has
  arrival_timely : (k : ℕ) (message : Message) (arrival : Arrival) → Arrives entries stamp k message arrival → arrival.moment ≤ last_moment
  arrival_timely k message arrival is = subst (λ (m : ℕ). m ≤ last_moment) (sym is.moment) timely

  arrival_id : (k : ℕ) (message : Message) (arrival : Arrival) → Arrives entries stamp k message arrival → IsId arrival.fresh
  arrival_id k message arrival is = subst IsId (sym is.fresh) (id_valid stamp.first k)

  -- an answered item leaves a valid store
  item_valid : (k : ℕ) (i : Item) (store : Store) (text : List ℕ) (closing : Bool) (next : Store) → IsAnswered policy base entries stamp k i store text closing next
      → IsStore base store → IsStore base next
  item_valid k item.Continue store text closing next (told, open', same) valid = subst (IsStore base) (sym same) valid
  item_valid k (item.Refused refusal) store text closing next (told, shut', same) valid = subst (IsStore base) (sym same) valid
  item_valid k (item.Whole message) store text closing next (arrival, arrives, replied) valid =
      exchanged_valid policy base (λ _. ⊤) arrival message store (arrival_timely k message arrival arrives) (arrival_id k message arrival arrives) valid replied.answer next replied.exchanged

  -- what follows an item leaves a valid store, if the rest does
  rest_valid : (closing : Bool) (k : ℕ) (items : List Item) (text : List ℕ) (mid : Store) (texts : List (List ℕ)) (closed : Bool) (next : Store) → IsStore base mid
      → MatchBool closing ((texts ≡ text ∷ []) × (closed ≡ true) × (next ≡ mid))
      ((more : List (List ℕ)) × (texts ≡ text ∷ more) × AreAnswered policy base entries stamp k items mid more closed next)
      → ((more : List (List ℕ)) → AreAnswered policy base entries stamp k items mid more closed next → IsStore base next) → IsStore base next
  rest_valid true k items text mid texts closed next here (split, shut', same) rest = subst (IsStore base) (sym same) here
  rest_valid false k items text mid texts closed next here (more, split, answers) rest = rest more answers

  pub items_valid : (k : ℕ) (items : List Item) (store : Store) (texts : List (List ℕ)) (closed : Bool) (next : Store)
      → AreAnswered policy base entries stamp k items store texts closed next → IsStore base store → IsStore base next
  items_valid k [] store texts closed next (none, open', same) valid = subst (IsStore base) (sym same) valid
  items_valid k (i ∷ items) store texts closed next (text, closing, mid, answered, rest) valid =
      let here = item_valid k i store text closing mid answered valid in
      rest_valid closing (k + whole_count i) items text mid texts closed next here rest
      (λ more answers. items_valid (k + whole_count i) items mid more closed next answers here)

-- ---- a text that reports no failure

-- it is of an answer that reports none
unfailed_answer : (answer : Answer) (form : ReplyForm) (text : List ℕ) → text ≡ answer_text answer form → ¬ (IsFailure text) → IsUnfailedAnswer answer
unfailed_answer answer form text is good = record {
  refused = λ e. good (record { refusal = NoStore; is_one = inl refl; form = form; text_is = is ∙ ap (λ (a : Answer). answer_text a form) e });
  served = λ reply e. record {
    stored = λ told. good (record {
      refusal = NoStore;
      is_one = inl refl;
      form = form;
      text_is = is ∙ ap (λ (a : Answer). answer_text a form) e ∙ ap (λ (r : Option Refusal). text_or r reply form) told;
    });
    free = λ told. good (record {
      refusal = IdInUse;
      is_one = inr refl;
      form = form;
      text_is = is ∙ ap (λ (a : Answer). answer_text a form) e ∙ ap (λ (r : Option Refusal). text_or r reply form) told;
    });
  };
}

-- ---- over two stores

-- both are answered the same
pub record AreSaid (v : Viewer) (text text_too : List ℕ) (closing closing_too : Bool) (s_next t_next : Store) : Type 0 where
  pub texts : text ≡ text_too
  pub closes : closing ≡ closing_too
  pub valid : IsStore v.base s_next
  pub valid_too : IsStore v.base t_next
  pub alike : IsAlike v s_next.resources t_next.resources

-- and so are all items of an event
pub record AllSaid (v : Viewer) (texts texts_too : List (List ℕ)) (closed closed_too : Bool) (s_next t_next : Store) : Type 0 where
  pub texts_same : texts ≡ texts_too
  pub closes : closed ≡ closed_too
  pub valid : IsStore v.base s_next
  pub valid_too : IsStore v.base t_next
  pub alike : IsAlike v s_next.resources t_next.resources

module _ (v : Viewer) (entries : List Entry) (stamp : Stamp) (timely : stamp.moment ≤ last_moment) where
  abbrev Answers : ℕ → Item → Store → List ℕ → Bool → Store → Type 0
  Answers k i store text closing next = IsAnswered v.policy v.base entries stamp k i store text closing next

  module _ (s t : Store) (valid : IsStore v.base s) (valid_too : IsStore v.base t) (alike : IsAlike v s.resources t.resources)
      (text text_too : List ℕ) (closing closing_too : Bool) (s_next t_next : Store) where
    plainly : text ≡ text_too → closing ≡ closing_too → s_next ≡ s → t_next ≡ t → AreSaid v text text_too closing closing_too s_next t_next
    plainly e f g h = record {
      texts = e;
      closes = f;
      valid = subst (IsStore v.base) (sym g) valid;
      valid_too = subst (IsStore v.base) (sym h) valid_too;
      alike = subst₂ (λ (x y : Store). IsAlike v x.resources y.resources) (sym g) (sym h) alike;
    }

    message_said : (k : ℕ) (message : Message) → IsFrom entries v.client (item.Whole message) → Answers k (item.Whole message) s text closing s_next → Answers k (item.Whole message) t text_too closing_too t_next
        → ¬ (IsFailure text) → ¬ (IsFailure text_too) → AreSaid v text text_too closing closing_too s_next t_next
    message_said k message from (one, arrives, replied) (two, arrives_too, replied_too) good good_too =
        let known : (option_copied one.client ≡ Some v.client) ⊎ (option_copied one.client ≡ None)
        = elim from [ inl e ↦ inl (arrives.client ∙ e) | inr e ↦ inr (arrives.client ∙ e) ] in
        let told = exchanged_same v (λ _. ⊤) one two message s t
        (arrives.client ∙ sym arrives_too.client) (arrives.moment ∙ sym arrives_too.moment) (arrives.fresh ∙ sym arrives_too.fresh) known
        (arrival_timely v.policy v.base entries stamp timely k message one arrives) (arrival_id v.policy v.base entries stamp timely k message one arrives) valid valid_too alike
        replied.answer replied_too.answer s_next t_next
        (unfailed_answer replied.answer (form_of message) text replied.text_is good)
        (unfailed_answer replied_too.answer (form_of message) text_too replied_too.text_is good_too)
        replied.exchanged replied_too.exchanged in
        record {
          texts = replied.text_is ∙ ap (λ (a : Answer). answer_text a (form_of message)) told.answers ∙ sym replied_too.text_is;
          closes = replied.closing_is ∙ ap (λ (a : Answer). message.close || closes_by_itself a) told.answers ∙ sym replied_too.closing_is;
          valid = told.valid;
          valid_too = told.valid_too;
          alike = told.alike;
        }

    item_said : (k : ℕ) (i : Item) → IsFrom entries v.client i → Answers k i s text closing s_next → Answers k i t text_too closing_too t_next
        → ¬ (IsFailure text) → ¬ (IsFailure text_too) → AreSaid v text text_too closing closing_too s_next t_next
    item_said k item.Continue from (e, f, g) (h, j, l) good good_too = plainly (e ∙ sym h) (f ∙ sym j) g l
    item_said k (item.Refused refusal) from (e, f, g) (h, j, l) good good_too = plainly (e ∙ sym h) (f ∙ sym j) g l
    item_said k (item.Whole message) from answered answered_too good good_too = message_said k message from answered answered_too good good_too

  -- no text reports a failure
  abbrev pub AreGood : List (List ℕ) → Type 0
  AreGood texts = AllByRecursion (λ text. ¬ (IsFailure text)) texts

  abbrev Then : Bool → ℕ → Item → List Item → List ℕ → Store → List (List ℕ) → Bool → Store → Type 0
  Then closing k i items text mid texts closed next =
      MatchBool closing ((texts ≡ text ∷ []) × (closed ≡ true) × (next ≡ mid))
      ((more : List (List ℕ)) × (texts ≡ text ∷ more) × AreAnswered v.policy v.base entries stamp (k + whole_count i) items mid more closed next)

  -- the first text, whether or not the answer closes the connection
  first_good : (closing : Bool) (k : ℕ) (i : Item) (items : List Item) (text : List ℕ) (mid : Store) (texts : List (List ℕ)) (closed : Bool) (next : Store)
      → Then closing k i items text mid texts closed next → AreGood texts → ¬ (IsFailure text)
  first_good true k i items text mid texts closed next (split, shut', same) good = (subst AreGood split good).0
  first_good false k i items text mid texts closed next (more, split, answers) good = (subst AreGood split good).0

  -- what follows an item, said the same at both if the rest is
  rest_said : (closing closing_too : Bool) (k : ℕ) (i : Item) (items : List Item) (text text_too : List ℕ) (mid mid_too : Store) (texts texts_too : List (List ℕ)) (closed closed_too : Bool)
      (s_next t_next : Store) → AreSaid v text text_too closing closing_too mid mid_too → closing ≡ closing_too
      → Then closing k i items text mid texts closed s_next → Then closing_too k i items text_too mid_too texts_too closed_too t_next → AreGood texts → AreGood texts_too
      → ((more more_too : List (List ℕ)) → AreAnswered v.policy v.base entries stamp (k + whole_count i) items mid more closed s_next
      → AreAnswered v.policy v.base entries stamp (k + whole_count i) items mid_too more_too closed_too t_next → AreGood more → AreGood more_too
      → AllSaid v more more_too closed closed_too s_next t_next)
      → AllSaid v texts texts_too closed closed_too s_next t_next
  rest_said true true k i items text text_too mid mid_too texts texts_too closed closed_too s_next t_next said e (split, shut', same) (split_too, shut_too, same_too) good good_too rest = record {
    texts_same = split ∙ ap (λ (x : List ℕ). x ∷ []) said.texts ∙ sym split_too;
    closes = shut' ∙ sym shut_too;
    valid = subst (IsStore v.base) (sym same) said.valid;
    valid_too = subst (IsStore v.base) (sym same_too) said.valid_too;
    alike = subst₂ (λ (x y : Store). IsAlike v x.resources y.resources) (sym same) (sym same_too) said.alike;
  }
  rest_said false false k i items text text_too mid mid_too texts texts_too closed closed_too s_next t_next said e (more, split, answers) (more_too, split_too, answers_too) good good_too rest =
      let tail = rest more more_too answers answers_too (subst AreGood split good).1 (subst AreGood split_too good_too).1 in
      record {
        texts_same = split ∙ ap₂ ◌∷◌ said.texts tail.texts_same ∙ sym split_too;
        closes = tail.closes;
        valid = tail.valid;
        valid_too = tail.valid_too;
        alike = tail.alike;
      }
  rest_said true false k i items text text_too mid mid_too texts texts_too closed closed_too s_next t_next said e x y good good_too rest = cc
  rest_said false true k i items text text_too mid mid_too texts texts_too closed closed_too s_next t_next said e x y good good_too rest = cc

  pub items_said : (k : ℕ) (items : List Item) (s t : Store) (texts texts_too : List (List ℕ)) (closed closed_too : Bool) (s_next t_next : Store)
      → IsStore v.base s → IsStore v.base t → IsAlike v s.resources t.resources → AllByRecursion (IsFrom entries v.client) items
      → AreAnswered v.policy v.base entries stamp k items s texts closed s_next → AreAnswered v.policy v.base entries stamp k items t texts_too closed_too t_next
      → AreGood texts → AreGood texts_too → AllSaid v texts texts_too closed closed_too s_next t_next
  items_said k [] s t texts texts_too closed closed_too s_next t_next valid valid_too alike from (e, f, g) (h, j, l) good good_too = record {
    texts_same = e ∙ sym h;
    closes = f ∙ sym j;
    valid = subst (IsStore v.base) (sym g) valid;
    valid_too = subst (IsStore v.base) (sym l) valid_too;
    alike = subst₂ (λ (x y : Store). IsAlike v x.resources y.resources) (sym g) (sym l) alike;
  }
  items_said k (i ∷ items) s t texts texts_too closed closed_too s_next t_next valid valid_too alike from (text, closing, mid, answered, rest) (text_too, closing_too, mid_too, answered_too, rest_too) good good_too =
      let said = item_said s t valid valid_too alike text text_too closing closing_too mid mid_too k i from.0 answered answered_too
      (first_good closing k i items text mid texts closed s_next rest good) (first_good closing_too k i items text_too mid_too texts_too closed_too t_next rest_too good_too) in
      rest_said closing closing_too k i items text text_too mid mid_too texts texts_too closed closed_too s_next t_next said said.closes rest rest_too good good_too
      (λ more more_too answers answers_too fine fine_too.
      items_said (k + whole_count i) items mid mid_too more more_too closed closed_too s_next t_next said.valid said.valid_too said.alike from.1 answers answers_too fine fine_too)
