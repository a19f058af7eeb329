-- The turns that messages come to: they are valid, and those of one message ask for the same.
use Rattle.std.proofs.Common.{◌≡◌, refl, sym, ◌∙◌, ap, subst, ℕ, Bool, true, false, List}
use Rattle.std.specs.Prelude.{◌≤◌, ⊤, Option, None, Some, option_copied, option_and_then, Result, Ok, Err, if◌then◌else◌}
use Rattle.std.specs.Str.{is_utf8}
use Rattle.serde_json.specs.Data.{Data, Members}
use Rattle.serde_json.specs.Find.{as_object}
use Rattle.serde_json.specs.Read.{read}
use Rattle.scim_text.specs.Moments.{last_moment}
use Rattle.scim_schema.specs.declared.Kind.{Kind}
use Rattle.scim_cell.specs.Ids.{IsId}
use Rattle.scim_audit.specs.declared.refusals.Refusal.{Refusal}
use Rattle.scim_audit.specs.declared.refusals.Refusal.TheVariants.{Syntax}
use Rattle.scim_body.specs.declared.drafts.UseFor.{UseFor}
use Rattle.scim_body.specs.declared.drafts.UseFor.TheVariants.{Creating, Replacing}
use Rattle.scim_body.specs.BodyNames.{body_clashes}
use Rattle.scim_body.specs.Drafts.{Draft, IsDraft, lacks_required}
use Rattle.scim_body.specs.Bodies.{Body, malformed, wrong, drafted, Given, all_given, draft_of, judged, body_with, body_in, body_of}
use Rattle.scim_body.proofs.DraftLemmas.{given_draft}
use Rattle.scim_patch_steps.specs.Patch.{Patch, Step, IsPatch}
use Rattle.scim_patch_steps.specs.Kept.{Kept, patch_of}
use Rattle.scim_patch_message.specs.declared.faults.PatchFault.{PatchFault}
use Rattle.scim_patch_message.specs.declared.faults.PatchFault.TheVariants as fault
use Rattle.scim_patch_message.specs.Messages.{message_steps, patch_of_steps, patch_in}
use Rattle.scim_patch_message.proofs.SoundStepLemmas.{steps_sound}
use Rattle.scim_route.specs.declared.routes.Form.{Form}
use Rattle.scim_route.specs.declared.routes.Form.TheVariants as form
use Rattle.scim_route.specs.declared.routes.Route.{Route}
use Rattle.scim_route.specs.Parameters.{parameters_of}
use Rattle.scim_view.specs.declared.projection.Wanted.{Wanted}
use Rattle.scim_query.specs.declared.queries.Query.{Query}
use Rattle.scim_service.specs.declared.requests.Ask.{Ask}
use Rattle.scim_service.specs.declared.requests.Ask.TheVariants.{Get, Search, Create, Replace, Patch as PatchOne, Remove}
use Rattle.scim_service.specs.declared.requests.Turn.{Turn}
use Rattle.scim_service.specs.Requests.{IsTurn}
use Rattle.scim_service.specs.Requests.{IsAsk as IsSoundAsk}
use Rattle.scim_exchange.specs.declared.exchanges.Arrival.{Arrival}
use Rattle.scim_exchange.specs.Refused.{◌>>=◌}
use Rattle.scim_exchange.specs.AttributeLists.{Lists, Wants}
use Rattle.scim_exchange.specs.Searches.{Sought, sought, sought_of, IsQuery}
use Rattle.scim_exchange.specs.QueryStrings.{search_of}
use Rattle.scim_exchange.specs.SearchBodies.{search_of_body}
use Rattle.scim_exchange.specs.Asks.{Asked, showing, searching, creating, replacing, patching, removing, lists_asked, as_draft, draft_in, draft_asked, as_patch, patch_in_text, patch_asked, asked, IsAsk, Asks}
use Rattle.scim_exchange.specs.Exchanges.{IsTurnOf}
use Rattle.scim_headline.proofs.WantedLemmas.{wanted_same, queries_same}
use Rattle.scim_headline.proofs.AskLemmas.{AreSame, refused, shown, searched, created, replaced, patched, removed}

-- ---- a draft that is read is one

-- what a choice gives, where the other side gives something else
first_of : {A : Type 0} (b : Bool) (x y z : A) → (y ≡ z → ⊥) → (if b then x else y) ≡ z → x ≡ z
first_of true x y z other e = e
first_of false x y z other e = absurd (other e)

second_of : {A : Type 0} (b : Bool) (x y z : A) → (x ≡ z → ⊥) → (if b then x else y) ≡ z → (b ≡ false) × (y ≡ z)
second_of true x y z other e = absurd (other e)
second_of false x y z other e = (refl, e)

module _ (kind : Kind) (draft : Draft) where
  drafts_same : (d : Draft) → drafted d ≡ drafted draft → d ≡ draft
  drafts_same d e = cc

  complete : (use_for : UseFor) (ms : Members) (gs : List Given) → all_given kind ms ≡ Some gs → judged use_for (draft_of kind use_for gs) ≡ drafted draft → IsDraft draft
  complete Creating ms gs given e =
      let lacks = second_of (lacks_required kind (draft_of kind Creating gs).rows) wrong (drafted (draft_of kind Creating gs)) (drafted draft) (λ n. cc) e in
      subst IsDraft (drafts_same (draft_of kind Creating gs) lacks.1) (given_draft kind Creating ms gs given (λ _. lacks.0))
  complete Replacing ms gs given e =
      subst IsDraft (drafts_same (draft_of kind Replacing gs) e) (given_draft kind Replacing ms gs given (λ is. cc))

  with_units : (use_for : UseFor) (ms : Members) (gs : Option (List Given)) → all_given kind ms ≡ gs → body_with kind use_for gs ≡ drafted draft → IsDraft draft
  with_units use_for ms None given e = cc
  with_units use_for ms (Some gs) given e = complete use_for ms gs given e

  in_object : (use_for : UseFor) (o : Option Members) → body_in kind use_for o ≡ drafted draft → IsDraft draft
  in_object use_for None e = cc
  in_object use_for (Some ms) e =
      with_units use_for ms (all_given kind ms) refl
      (second_of (body_clashes kind ms) malformed (body_with kind use_for (all_given kind ms)) (drafted draft) (λ n. cc) e).1

  of_body : (b : Body) → as_draft b ≡ Ok draft → b ≡ drafted draft
  of_body malformed e = cc
  of_body wrong e = cc
  of_body (drafted d) e = let same : d ≡ draft = cc in ap drafted same

  draft_sound : (use_for : UseFor) (body : List ℕ) → draft_asked use_for kind body ≡ Ok draft → IsDraft draft
  unfolding draft_asked draft_in
  draft_sound use_for body e =
      in_object use_for (option_and_then as_object (read body))
      (of_body (body_of kind use_for (read body))
      (first_of (is_utf8 body) (as_draft (body_of kind use_for (read body))) (Err Syntax) (Ok draft) (λ n. cc) e))

-- ---- so is a patch

module _ (kind : Kind) (patch : Patch) where
  of_steps : (d : Option Data) (r : Result (List Step) PatchFault) → message_steps kind d ≡ r → patch_of_steps kind r ≡ Ok patch → IsPatch patch
  of_steps d (Ok steps) read' e =
      let made : Patch = record { kind = kind; steps = steps } in
      let same : made ≡ patch = cc in
      subst IsPatch same (steps_sound kind d steps read')
  of_steps d (Err f) read' e = cc

  of_patch : (r : Result Patch PatchFault) → as_patch r ≡ Ok patch → r ≡ Ok patch
  of_patch (Ok p) e = let same : p ≡ patch = cc in ap (λ (x : Patch). Ok x) same
  of_patch (Err fault.Syntax) e = cc
  of_patch (Err fault.Path) e = cc
  of_patch (Err fault.Value) e = cc

  patch_sound : (body : List ℕ) → patch_asked kind body ≡ Ok patch → IsPatch patch
  unfolding patch_asked patch_in_text
  patch_sound body e =
      of_steps (read body) (message_steps kind (read body)) refl
      (of_patch (patch_in kind (read body)) (first_of (is_utf8 body) (as_patch (patch_in kind (read body))) (Err Syntax) (Ok patch) (λ n. cc) e))

-- ---- what is asked is valid

abbrev IsSound : Asked → Type 0
IsSound (creating d lists) = IsDraft d
IsSound (replacing d lists) = IsDraft d
IsSound (patching p lists) = IsPatch p
IsSound _ = ⊤

abbrev IfSound : Result Asked Refusal → Type 0
IfSound (Ok x) = IsSound x
IfSound (Err refusal) = ⊤

bound : {A : Type 0} (r : Result A Refusal) (f : A → Result Asked Refusal) → ((x : A) → r ≡ Ok x → IfSound (f x)) → IfSound (r >>= f)
bound (Ok x) f each = each x refl
bound (Err refusal) f each = tt

asked_sound : (f : Form) (kind : Kind) (query : Option (List ℕ)) (body : List ℕ) → IfSound (asked f kind query body)
asked_sound form.Get kind query body = bound (lists_asked query) (λ lists. Ok (showing lists)) (λ lists e. tt)
asked_sound form.ListGet kind query body = bound (sought kind (search_of kind (parameters_of query))) (λ s. Ok (searching s)) (λ s e. tt)
asked_sound form.SearchPost kind query body = bound (sought_of kind (search_of_body kind body)) (λ s. Ok (searching s)) (λ s e. tt)
asked_sound form.Create kind query body =
    bound (draft_asked Creating kind body) (λ draft. lists_asked query >>= λ lists. Ok (creating draft lists))
    (λ draft e. bound (lists_asked query) (λ lists. Ok (creating draft lists)) (λ lists k. draft_sound kind draft Creating body e))
asked_sound form.Remove kind query body = bound (lists_asked query) (λ lists. Ok removing) (λ lists e. tt)
asked_sound form.Replace kind query body =
    bound (draft_asked Replacing kind body) (λ draft. lists_asked query >>= λ lists. Ok (replacing draft lists))
    (λ draft e. bound (lists_asked query) (λ lists. Ok (replacing draft lists)) (λ lists k. draft_sound kind draft Replacing body e))
asked_sound form.Patch kind query body =
    bound (patch_asked kind body) (λ patch. lists_asked query >>= λ lists. Ok (patching patch lists))
    (λ patch e. bound (lists_asked query) (λ lists. Ok (patching patch lists)) (λ lists k. patch_sound kind patch body e))

-- ---- what an ask is, by what is asked

module _ (kind : Kind) where
  get_is : (lists : Lists) (x : Ask) → IsAsk kind (showing lists) x → (w : Wanted) × (x ≡ Get w) × Wants kind lists w
  get_is lists (Get w) h = (w, refl, h)
  get_is lists (Search q) h = absurd h
  get_is lists (Create d w) h = absurd h
  get_is lists (Replace d w) h = absurd h
  get_is lists (PatchOne p w) h = absurd h
  get_is lists Remove h = absurd h

  search_is : (s : Sought) (x : Ask) → IsAsk kind (searching s) x → (q : Query) × (x ≡ Search q) × IsQuery kind s q
  search_is s (Get w) h = absurd h
  search_is s (Search q) h = (q, refl, h)
  search_is s (Create d w) h = absurd h
  search_is s (Replace d w) h = absurd h
  search_is s (PatchOne p w) h = absurd h
  search_is s Remove h = absurd h

  create_is : (draft : Draft) (lists : Lists) (x : Ask) → IsAsk kind (creating draft lists) x → (w : Wanted) × (x ≡ Create draft w) × Wants kind lists w
  create_is draft lists (Get w) h = absurd h
  create_is draft lists (Search q) h = absurd h
  create_is draft lists (Create d w) h = (w, ap (λ (e : Draft). Create e w) h.0, h.1)
  create_is draft lists (Replace d w) h = absurd h
  create_is draft lists (PatchOne p w) h = absurd h
  create_is draft lists Remove h = absurd h

  replace_is : (draft : Draft) (lists : Lists) (x : Ask) → IsAsk kind (replacing draft lists) x → (w : Wanted) × (x ≡ Replace draft w) × Wants kind lists w
  replace_is draft lists (Get w) h = absurd h
  replace_is draft lists (Search q) h = absurd h
  replace_is draft lists (Create d w) h = absurd h
  replace_is draft lists (Replace d w) h = (w, ap (λ (e : Draft). Replace e w) h.0, h.1)
  replace_is draft lists (PatchOne p w) h = absurd h
  replace_is draft lists Remove h = absurd h

  patch_is : (patch : Patch) (lists : Lists) (x : Ask) → IsAsk kind (patching patch lists) x
      → (p : Kept) × (w : Wanted) × (x ≡ PatchOne p w) × (patch_of p ≡ patch) × Wants kind lists w
  patch_is patch lists (Get w) h = absurd h
  patch_is patch lists (Search q) h = absurd h
  patch_is patch lists (Create d w) h = absurd h
  patch_is patch lists (Replace d w) h = absurd h
  patch_is patch lists (PatchOne p w) h = (p, w, refl, h.0, h.1)
  patch_is patch lists Remove h = absurd h

  remove_is : (x : Ask) → IsAsk kind removing x → x ≡ Remove
  remove_is (Get w) h = absurd h
  remove_is (Search q) h = absurd h
  remove_is (Create d w) h = absurd h
  remove_is (Replace d w) h = absurd h
  remove_is (PatchOne p w) h = absurd h
  remove_is Remove h = refl

  -- what is valid is asked for by a valid ask
  sound_ask : (y : Asked) (x : Ask) → IsAsk kind y x → IsSound y → IsSoundAsk (Ok x)
  sound_ask (showing lists) x h sound = subst (λ (a : Ask). IsSoundAsk (Ok a)) (sym (get_is lists x h).1) tt
  sound_ask (searching s) x h sound = subst (λ (a : Ask). IsSoundAsk (Ok a)) (sym (search_is s x h).1) tt
  sound_ask (creating draft lists) x h sound = subst (λ (a : Ask). IsSoundAsk (Ok a)) (sym (create_is draft lists x h).1) sound
  sound_ask (replacing draft lists) x h sound = subst (λ (a : Ask). IsSoundAsk (Ok a)) (sym (replace_is draft lists x h).1) sound
  sound_ask (patching patch lists) x h sound =
      let is = patch_is patch lists x h in
      subst (λ (a : Ask). IsSoundAsk (Ok a)) (sym is.2) (subst IsPatch (sym is.3) sound)
  sound_ask removing x h sound = subst (λ (a : Ask). IsSoundAsk (Ok a)) (sym (remove_is x h)) tt

  -- two asks for what is asked
  same_ask : (y : Asked) (a b : Ask) → IsAsk kind y a → IsAsk kind y b → AreSame (Ok a) (Ok b)
  same_ask (showing lists) a b h k =
      let one = get_is lists a h in
      let two = get_is lists b k in
      shown one.0 two.0 (ap (λ (x : Ask). Ok x) one.1) (ap (λ (x : Ask). Ok x) two.1) (wanted_same kind lists one.0 two.0 one.2 two.2)
  same_ask (searching s) a b h k =
      let one = search_is s a h in
      let two = search_is s b k in
      searched one.0 two.0 (ap (λ (x : Ask). Ok x) one.1) (ap (λ (x : Ask). Ok x) two.1) (queries_same kind s one.0 two.0 one.2 two.2)
  same_ask (creating draft lists) a b h k =
      let one = create_is draft lists a h in
      let two = create_is draft lists b k in
      created draft one.0 two.0 (ap (λ (x : Ask). Ok x) one.1) (ap (λ (x : Ask). Ok x) two.1) (wanted_same kind lists one.0 two.0 one.2 two.2)
  same_ask (replacing draft lists) a b h k =
      let one = replace_is draft lists a h in
      let two = replace_is draft lists b k in
      replaced draft one.0 two.0 (ap (λ (x : Ask). Ok x) one.1) (ap (λ (x : Ask). Ok x) two.1) (wanted_same kind lists one.0 two.0 one.2 two.2)
  same_ask (patching patch lists) a b h k =
      let one = patch_is patch lists a h in
      let two = patch_is patch lists b k in
      patched one.0 two.0 one.1 two.1 (ap (λ (x : Ask). Ok x) one.2) (ap (λ (x : Ask). Ok x) two.2) (one.3 ∙ sym two.3) (wanted_same kind lists one.1 two.1 one.4 two.4)
  same_ask removing a b h k = removed (ap (λ (x : Ask). Ok x) (remove_is a h)) (ap (λ (x : Ask). Ok x) (remove_is b k))

-- ---- the turns of a message

module _ (route : Route) (body : List ℕ) where
  abbrev due : Result Asked Refusal
  due = asked route.form route.kind (option_copied route.query) body

  asks_sound : (ask : Result Ask Refusal) → Asks route body ask → IsSoundAsk ask
  asks_sound (Ok x) (y, is, asks) = sound_ask route.kind y x asks (subst IfSound is (asked_sound route.form route.kind (option_copied route.query) body))
  asks_sound (Err refusal) is = tt

  pub asks_same : (a b : Result Ask Refusal) → Asks route body a → Asks route body b → AreSame a b
  asks_same (Ok a) (Ok b) (y, is, asks) (z, at, also) =
      let same : z ≡ y = cc in
      same_ask route.kind y a b asks (subst (λ (x : Asked). IsAsk route.kind x b) same also)
  asks_same (Ok a) (Err s) (y, is, asks) at = absurd (cc)
  asks_same (Err r) (Ok b) is (z, at, also) = absurd (cc)
  asks_same (Err r) (Err s) is at = refused r refl (let same : s ≡ r = cc in ap (λ (x : Refusal). Err x) same)

-- a message's turn is valid
pub turn_sound : (client : List ℕ) (arrival : Arrival) (route : Route) (body : List ℕ) (turn : Turn)
    → IsTurnOf client arrival route body turn → arrival.moment ≤ last_moment → IsId arrival.fresh → IsTurn turn
turn_sound client arrival route body turn is moment id = record {
  ask = asks_sound route body turn.request.ask is.asks;
  id = subst IsId (sym is.fresh_is) id;
  moment = subst (λ (m : ℕ). m ≤ last_moment) (sym is.moment_is) moment;
}
