-- Two hubs that are alike for a client, and what they hear.
use Rattle.std.proofs.Common.{◌≡◌, ◌==◌, refl, sym, ◌∙◌, ap, ap₂, subst, subst₂, true≢false, ℕ, Bool, true, false, List, [], ◌∷◌, ◌++◌, inl, inr}
use Rattle.std.specs.Prelude.{◌≤◌, ◌⊎◌, Ok, Err, All, if◌then◌else◌}
use Rattle.std.specs.List.{AllByRecursion}
use Rattle.std.proofs.lemmas.Bool.{cases_Bool, eqb-true}
use Rattle.std.proofs.lemmas.List.{append_cancel_left}
use Rattle.std.proofs.lemmas.List.Elements.{All-head, All-tail, recursion_from_All}
use Rattle.scim_text.specs.Moments.{last_moment}
use Rattle.scim_cell.specs.Content.{Content}
use Rattle.scim_policy.specs.Rules.{Rule}
use Rattle.scim_view.specs.View.{Viewer}
use Rattle.scim_shelf.specs.Stores.{Store, IsStore}
use Rattle.scim_wire.specs.declared.messages.Item.{Item}
use Rattle.scim_wire.specs.Messages.{HasItems}
use Rattle.scim_wire.proofs.MessageLemmas.{items_unique}
use Rattle.scim_token.specs.TokenFile.{Entry}
use Rattle.scim_noninterference.specs.Alike.{IsAlike}
use Rattle.scim_noninterference.proofs.Facts.{alike_refl, alike_from, quiet_alike}
use Rattle.scim_hub.specs.declared.events.Stamp.{Stamp}
use Rattle.scim_hub.specs.declared.events.HubFault.{HubFault}
use Rattle.scim_hub.specs.declared.events.HubFault.TheVariants.{NoMemory}
use Rattle.scim_hub.specs.Answering.{AreAnswered}
use Rattle.scim_hub.specs.Events.{HubEvent, HubEventKind, joining, sending, leaving, writing, HubState, Connection, absent, joined, shut, set, hub_outputs, IsDenied, Becomes, Joins, Leaves, IsTaken, AreBegun, Takes, Meets, Runs}
use Rattle.scim_headline.specs.Connections.{HubResult, IsFrom, AreFrom, IsFailure, IsUnfailed, AreAlike, HubRound, AreOfOthers, RunsQuietly, QuietEventsLeadAlike, IsRound, ConnectionsCanNotTell}
use Rattle.scim_headline.proofs.ItemLemmas.{AllSaid, items_valid, items_said}

-- ---- events of other connections

-- the connections of the client are the same in the state, and its store is valid
record StaysOwn (base : List ℕ) (own : ℕ → Bool) (state next : HubState) : Type 0 where
  connections : (m : ℕ) → own m ≡ true → next.connections m ≡ state.connections m
  valid : IsStore base next.store

set_other : (n m : ℕ) (c : Connection) (connections : ℕ → Connection) (own : ℕ → Bool) → own n ≡ false → own m ≡ true → set n c connections m ≡ connections m
set_other n m c connections own other mine = elim (cases_Bool (n == m)) [
  | inl t ↦ (let same : n ≡ m = eqb-true n m t in absurd (true≢false (sym mine ∙ sym (ap own same) ∙ other)))
  | inr f ↦ rw f refl
]

module _ (policy : List Rule) (base : List ℕ) (entries : List Entry) (own : ℕ → Bool) (state : HubState) (valid : IsStore base state.store) where
  same_state : (next : HubState) → next ≡ state → StaysOwn base own state next
  same_state next e = subst (StaysOwn base own state) (sym e) (record { connections = λ m mine. refl; valid = valid })

  one_set : (n : ℕ) (c : Connection) (store : Store) (next : HubState) → own n ≡ false → IsStore base store → Becomes n c store state next → StaysOwn base own state next
  one_set n c store next other valid_then e =
      subst (StaysOwn base own state) (sym e) (record { connections = λ m mine. set_other n m c state.connections own other mine; valid = valid_then })

  module _ (stamp : Stamp) (timely : stamp.moment ≤ last_moment) (n : ℕ) (other : own n ≡ false) (result : HubResult) (next : HubState) where
    joins_stays : (c : Connection) → Joins c n state result next → StaysOwn base own state next
    joins_stays absent (inl (e, becomes)) = one_set n (joined [] []) state.store next other valid becomes
    joins_stays absent (inr (e, same)) = same_state next same
    joins_stays (joined stream items) (e, same) = same_state next same
    joins_stays shut (e, same) = same_state next same

    leaves_stays : (c : Connection) → Leaves c n state result next → StaysOwn base own state next
    leaves_stays absent (e, same) = same_state next same
    leaves_stays (joined stream items) (e, becomes) = one_set n absent state.store next other valid becomes
    leaves_stays shut (e, becomes) = one_set n absent state.store next other valid becomes

    begun_valid : (stream : List ℕ) (items : List Item) (store : Store) → (store ≡ state.store) ⊎ AreBegun policy base entries stamp stream items state.store store → IsStore base store
    begun_valid stream items store (inl e) = subst (IsStore base) (sym e) valid
    begun_valid stream items store (inr begun) =
        items_valid policy base entries stamp timely 0 begun.front state.store begun.texts begun.closed store begun.answered valid

    takes_stays : (c : Connection) (bytes : List ℕ) → Takes policy base entries c stamp n bytes state result next → StaysOwn base own state next
    takes_stays absent bytes (e, same) = same_state next same
    takes_stays shut bytes (e, same) = same_state next same
    takes_stays (joined stream items) bytes (inl taken) =
        one_set n _ taken.store next other (items_valid policy base entries stamp timely 0 taken.new state.store taken.texts taken.closed taken.store taken.answered valid) taken.becomes
    takes_stays (joined stream items) bytes (inr cut) = one_set n shut cut.store next other (begun_valid (stream ++ bytes) items cut.store cut.changed) cut.becomes

    meets_stays : (kind : HubEventKind) → Meets policy base entries kind stamp n state result next → StaysOwn base own state next
    meets_stays joining meets = joins_stays (state.connections n) meets
    meets_stays (sending bytes) meets = takes_stays (state.connections n) bytes meets
    meets_stays leaving meets = leaves_stays (state.connections n) meets

-- all events of others
runs_stay : (policy : List Rule) (base : List ℕ) (entries : List Entry) (own : ℕ → Bool) (events : List HubEvent) (state next : HubState) (results : List HubResult)
    → IsStore base state.store → AreOfOthers own events → Runs policy base entries state events results next → StaysOwn base own state next
runs_stay policy base entries own [] state next results valid others (none, same) = same_state policy base entries own state valid next same
runs_stay policy base entries own (event ∷ events) state next results valid others (result, mid, rest, split, hears, runs) =
    let Is : HubEvent → Type 0 = λ e. (own e.connection ≡ false) × (e.stamp.moment ≤ last_moment) in
    let is = All-head Is event events others in
    let here = meets_stays policy base entries own state valid event.stamp is.1 event.connection is.0 result mid event.kind hears in
    let more = runs_stay policy base entries own events mid next rest here.valid (All-tail Is event events others) runs in
    record { connections = λ m mine. more.connections m mine ∙ here.connections m mine; valid = more.valid }

-- ---- quiet events of others

-- of three stores, two of which are alike to the one between them
joined_alike : (v : Viewer) (r s t : List Content) → IsAlike v r s → IsAlike v s t → IsAlike v r t
joined_alike v r s t a b = alike_from v s r t (alike_from v r s r a (alike_refl v r)) b

-- a quiet run is a run, and its stores are alike
record IsQuietRun (v : Viewer) (entries : List Entry) (events : List HubEvent) (state next : HubState) (results : List HubResult) : Type 0 where
  runs : Runs v.policy v.base entries state events results next
  alike : IsAlike v state.store.resources next.store.resources

quiet_run : (v : Viewer) (entries : List Entry) (own : ℕ → Bool) (events : List HubEvent) (state next : HubState) (results : List HubResult)
    → IsStore v.base state.store → AreOfOthers own events → RunsQuietly v entries state events results next → IsQuietRun v entries events state next results
quiet_run v entries own [] state next results valid others (none, same) =
    record { runs = (none, same); alike = subst (λ (h : HubState). IsAlike v state.store.resources h.store.resources) (sym same) (alike_refl v state.store.resources) }
quiet_run v entries own (event ∷ events) state next results valid others (result, mid, rest, split, hears, quiet, more) =
    let Is : HubEvent → Type 0 = λ e. (own e.connection ≡ false) × (e.stamp.moment ≤ last_moment) in
    let is = All-head Is event events others in
    let here = meets_stays v.policy v.base entries own state valid event.stamp is.1 event.connection is.0 result mid event.kind hears in
    let tail = quiet_run v entries own events mid next rest here.valid (All-tail Is event events others) more in
    let first = quiet_alike v v.base state.store mid.store valid here.valid quiet in
    record {
      runs = (result, mid, rest, split, hears, tail.runs);
      alike = joined_alike v state.store.resources mid.store.resources next.store.resources first tail.alike;
    }

pub quiet_events_lead_alike : QuietEventsLeadAlike
quiet_events_lead_alike v entries own a b a_mid b_mid first second results results_too valid valid_too others others_too quiet quiet_too =
    let one = quiet_run v entries own first a a_mid results valid others quiet in
    let two = quiet_run v entries own second b b_mid results_too valid_too others_too quiet_too in
    let lead : IsAlike v a.store.resources b.store.resources → IsAlike v a_mid.store.resources b_mid.store.resources
    = λ alike. joined_alike v a_mid.store.resources b.store.resources b_mid.store.resources
    (alike_from v a.store.resources a_mid.store.resources b.store.resources one.alike alike) two.alike in
    (one.runs, two.runs, lead)

-- ---- an event of the client, at both

-- both have the same result, and are alike afterwards
record AreSame (v : Viewer) (own : ℕ → Bool) (result result_too : HubResult) (a_next b_next : HubState) : Type 0 where
  results : result ≡ result_too
  alike : AreAlike v own a_next b_next

set_same : (n m : ℕ) (c : Connection) (x y : ℕ → Connection) → x m ≡ y m → set n c x m ≡ set n c y m
set_same n m c x y e = ap (λ (d : Connection). if n == m then c else d) e

-- the texts of outputs that report no failure
good_texts : (n : ℕ) (texts : List (List ℕ)) (closed : Bool) → AllByRecursion (λ output. (m : ℕ) (text : List ℕ) → output ≡ writing m text → ¬ (IsFailure text)) (hub_outputs n texts closed)
    → AllByRecursion (λ text. ¬ (IsFailure text)) texts
good_texts n [] closed good = tt
good_texts n (text ∷ texts) closed good = (good.0 n text refl, good_texts n texts closed good.1)

no_fault : (result : HubResult) → result ≡ Err NoMemory → IsUnfailed result → ⊥
no_fault result e good = subst IsUnfailed e good refl

module _ (v : Viewer) (entries : List Entry) (own : ℕ → Bool) (a b : HubState) (alike : AreAlike v own a b) (n : ℕ) (mine : own n ≡ true)
    (stamp : Stamp) (timely : stamp.moment ≤ last_moment) (result result_too : HubResult) (a_next b_next : HubState)
    (good : IsUnfailed result) (good_too : IsUnfailed result_too) where
  abbrev Same : Type 0
  Same = AreSame v own result result_too a_next b_next

  -- nothing changes
  denied : (fault : HubFault) → IsDenied fault a result a_next → IsDenied fault b result_too b_next → Same
  denied fault (e, f) (g, h) = record { results = e ∙ sym g; alike = subst₂ (AreAlike v own) (sym f) (sym h) alike }

  -- the connection gets the same state, and the stores are alike
  becomes : (c d : Connection) (s t : Store) → c ≡ d → IsStore v.base s → IsStore v.base t → IsAlike v s.resources t.resources
      → Becomes n c s a a_next → Becomes n d t b b_next → result ≡ result_too → Same
  becomes c d s t e valid valid_too stores f g results = record {
    results = results;
    alike = subst₂ (AreAlike v own) (sym f) (sym g) (record {
      connections = λ m at. set_same n m c a.connections b.connections (alike.connections m at) ∙ ap (λ (x : Connection). set n x b.connections m) e;
      valid = valid;
      valid_too = valid_too;
      stores = stores;
    });
  }

  join_same : (c : Connection) → Joins c n a result a_next → Joins c n b result_too b_next → Same
  join_same absent (inl (e, f)) (inl (g, h)) = becomes (joined [] []) (joined [] []) a.store b.store refl alike.valid alike.valid_too alike.stores f h (e ∙ sym g)
  join_same absent (inr (e, f)) x = absurd (no_fault result e good)
  join_same absent (inl x) (inr (g, h)) = absurd (no_fault result_too g good_too)
  join_same (joined stream items) x y = denied _ x y
  join_same shut x y = denied _ x y

  leave_same : (c : Connection) → Leaves c n a result a_next → Leaves c n b result_too b_next → Same
  leave_same absent x y = denied _ x y
  leave_same (joined stream items) (e, f) (g, h) = becomes absent absent a.store b.store refl alike.valid alike.valid_too alike.stores f h (e ∙ sym g)
  leave_same shut (e, f) (g, h) = becomes absent absent a.store b.store refl alike.valid alike.valid_too alike.stores f h (e ∙ sym g)

  module _ (stream : List ℕ) (items : List Item) (from : (new : List Item) → HasItems stream (items ++ new) → All (IsFrom entries v.client) new)
      (taken : IsTaken v.policy v.base entries stamp n stream items a result a_next) (taken_too : IsTaken v.policy v.base entries stamp n stream items b result_too b_next) where
    new_same : taken.new ≡ taken_too.new
    new_same = append_cancel_left items taken.new taken_too.new (items_unique stream (items ++ taken.new) (items ++ taken_too.new) taken.has_items taken_too.has_items)

    said : AllSaid v taken.texts taken_too.texts taken.closed taken_too.closed taken.store taken_too.store
    said = items_said v entries stamp timely 0 taken.new a.store b.store taken.texts taken_too.texts taken.closed taken_too.closed taken.store taken_too.store
        alike.valid alike.valid_too alike.stores
        (recursion_from_All (IsFrom entries v.client) taken.new (from taken.new taken.has_items))
        taken.answered
        (subst (λ (xs : List Item). AreAnswered v.policy v.base entries stamp 0 xs b.store taken_too.texts taken_too.closed taken_too.store) (sym new_same) taken_too.answered)
        (texts_good taken.texts taken.closed result taken.result_is good) (texts_good taken_too.texts taken_too.closed result_too taken_too.result_is good_too)
      where
        texts_good : (texts : List (List ℕ)) (closed : Bool) (r : HubResult) → r ≡ Ok (hub_outputs n texts closed) → IsUnfailed r
            → AllByRecursion (λ text. ¬ (IsFailure text)) texts
        texts_good texts closed r e fine = good_texts n texts closed (recursion_from_All _ (hub_outputs n texts closed) (subst IsUnfailed e fine))

    take_same : Same
    take_same = becomes (if taken.closed then shut else joined stream (items ++ taken.new)) (if taken_too.closed then shut else joined stream (items ++ taken_too.new))
        taken.store taken_too.store (λ i. if said.closes i then shut else joined stream (items ++ new_same i)) said.valid said.valid_too said.alike taken.becomes taken_too.becomes
        (taken.result_is ∙ (λ i. Ok (hub_outputs n (said.texts_same i) (said.closes i))) ∙ sym taken_too.result_is)

  takes_same : (c : Connection) (bytes : List ℕ) → AreFrom entries v.client c (sending bytes) → Takes v.policy v.base entries c stamp n bytes a result a_next
      → Takes v.policy v.base entries c stamp n bytes b result_too b_next → Same
  takes_same absent bytes from x y = denied _ x y
  takes_same shut bytes from x y = denied _ x y
  takes_same (joined stream items) bytes from (inl taken) (inl taken_too) = take_same (stream ++ bytes) items from taken taken_too
  takes_same (joined stream items) bytes from (inr cut) y = absurd (no_fault result cut.result_is good)
  takes_same (joined stream items) bytes from (inl x) (inr cut) = absurd (no_fault result_too cut.result_is good_too)

  meets_same : (kind : HubEventKind) → AreFrom entries v.client (a.connections n) kind → Meets v.policy v.base entries kind stamp n a result a_next
      → Meets v.policy v.base entries kind stamp n b result_too b_next → Same
  meets_same joining from x y = join_same (a.connections n) x (subst (λ (c : Connection). Joins c n b result_too b_next) (sym (alike.connections n mine)) y)
  meets_same (sending bytes) from x y =
      takes_same (a.connections n) bytes from x (subst (λ (c : Connection). Takes v.policy v.base entries c stamp n bytes b result_too b_next) (sym (alike.connections n mine)) y)
  meets_same leaving from x y = leave_same (a.connections n) x (subst (λ (c : Connection). Leaves c n b result_too b_next) (sym (alike.connections n mine)) y)

-- ---- round by round

round_same : (v : Viewer) (entries : List Entry) (own : ℕ → Bool) (a b : HubState) (r : HubRound) → AreAlike v own a b → (round : IsRound v entries own a b r)
    → AreSame v own round.result round.result_too round.a_next round.b_next
round_same v entries own a b r alike round =
    let one = runs_stay v.policy v.base entries own r.first a round.a_mid round.others alike.valid round.of_others.0 round.runs in
    let two = runs_stay v.policy v.base entries own r.second b round.b_mid round.others_too alike.valid_too round.of_others.1 round.runs_too in
    let mid : AreAlike v own round.a_mid round.b_mid = record {
      connections = λ m mine. one.connections m mine ∙ alike.connections m mine ∙ sym (two.connections m mine);
      valid = one.valid;
      valid_too = two.valid;
      stores = round.lead alike.stores;
    } in
    meets_same v entries own round.a_mid round.b_mid mid r.own.connection round.ours r.own.stamp round.moment round.result round.result_too round.a_next round.b_next
    round.unfailed.0 round.unfailed.1 r.own.kind round.from round.hears round.hears_too

pub connections_can_not_tell : ConnectionsCanNotTell
connections_can_not_tell v entries own a b a_end b_end [] results results_too alike (none, none_too, same, same_too) =
    (none ∙ sym none_too, subst₂ (AreAlike v own) (sym same) (sym same_too) alike)
connections_can_not_tell v entries own a b a_end b_end (r ∷ rounds) results results_too alike (round, rest, rest_too, split, split_too, more) =
    let here = round_same v entries own a b r alike round in
    let tail = connections_can_not_tell v entries own round.a_next round.b_next a_end b_end rounds rest rest_too here.alike more in
    (split ∙ ap₂ ◌∷◌ here.results tail.0 ∙ sym split_too, tail.1)
