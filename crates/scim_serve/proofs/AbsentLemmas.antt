-- Which connections are absent or shut after an event.
use Rattle.std.proofs.Common.{◌≡◌, ◌∙◌, refl, sym, ap, inl, inr, ℕ, ◌==◌, ◌⊎◌, Bool, true, false, List, [], ◌∷◌, ◌++◌, if◌then◌else◌}
use Rattle.std.specs.Prelude.{Result, Ok, Err}
use Rattle.std.proofs.lemmas.Bool.{eqb-true, eqb-false, or_parts}
use Rattle.scim_policy.specs.Rules.{Rule}
use Rattle.scim_token.specs.TokenFile.{Entry}
use Rattle.scim_shelf.specs.Stores.{Store}
use Rattle.scim_hub.specs.declared.events.HubFault.{HubFault}
use Rattle.scim_hub.specs.declared.events.HubFault.TheVariants.{NoMemory}
use Rattle.scim_hub.specs.declared.events.Stamp.{Stamp}
use Rattle.scim_hub.specs.Events.{HubEventKind, joining, sending, leaving, HubEvent, Connection, absent, joined, shut, HubState, HubOutput, Becomes, Joins, Leaves, Takes, Meets, Hears, hub_outputs}
use Rattle.scim_serve.specs.Serving.{shut_for, leaves_now, leaves, has_left}
use Rattle.scim_serve.specs.code.Levels.{IsNotFor}
use Rattle.scim_serve.proofs.EventLemmas.{none_for, fault_for, deeds_end, hears_only}

same_if : (here : Bool) (c d : Connection) → (here ≡ true → ⊥) → (if here then c else d) ≡ d
same_if true c d apart = absurd (apart refl)
same_if false c d apart = refl

-- the connection of another number stays
other_stays : (n m : ℕ) (c : Connection) (store : Store) (state next : HubState) → Becomes n c store state next → (n ≡ m → ⊥) → next.connections m ≡ state.connections m
other_stays n m c store state next becomes apart =
    ap (λ (h : HubState). h.connections m) becomes ∙ same_if (n == m) c (state.connections m) (λ e. apart (eqb-true n m e))

set_if : (here : Bool) (c d : Connection) → here ≡ true → (if here then c else d) ≡ c
set_if true c d same = refl
set_if false c d same = absurd (let h = same in cc)

-- the connection of this number is the new one
set_here : (n m : ℕ) (c : Connection) (store : Store) (state next : HubState) → Becomes n c store state next → (n == m) ≡ true → next.connections m ≡ c
set_here n m c store state next becomes here = ap (λ (h : HubState). h.connections m) becomes ∙ set_if (n == m) c (state.connections m) here

denied_stays : (m : ℕ) (state next : HubState) → next ≡ state → next.connections m ≡ state.connections m
denied_stays m state next same = ap (λ (h : HubState). h.connections m) same

joins_other : (c : Connection) (n m : ℕ) (state : HubState) (result : Result (List HubOutput) HubFault) (next : HubState) → Joins c n state result next → (n ≡ m → ⊥)
    → next.connections m ≡ state.connections m
joins_other absent n m state result next (inl is) apart = other_stays n m _ _ state next is.1 apart
joins_other absent n m state result next (inr is) apart = denied_stays m state next is.1
joins_other (joined stream items) n m state result next is apart = denied_stays m state next is.1
joins_other shut n m state result next is apart = denied_stays m state next is.1

leaves_other : (c : Connection) (n m : ℕ) (state : HubState) (result : Result (List HubOutput) HubFault) (next : HubState) → Leaves c n state result next → (n ≡ m → ⊥)
    → next.connections m ≡ state.connections m
leaves_other absent n m state result next is apart = denied_stays m state next is.1
leaves_other (joined stream items) n m state result next is apart = other_stays n m _ _ state next is.1 apart
leaves_other shut n m state result next is apart = other_stays n m _ _ state next is.1 apart

-- neither the events nor the last one is that the connection leaves
pub left_more : (m : ℕ) (seen : List HubEvent) (event : HubEvent) → has_left m (seen ++ event ∷ []) ≡ false → (has_left m seen ≡ false) × (leaves m event ≡ false)
left_more m [] event e = (refl, (or_parts (leaves m event) false e).0)
left_more m (x ∷ seen) event e =
    let h = or_parts (leaves m x) (has_left m (seen ++ event ∷ [])) e in
    let k = left_more m seen event h.1 in
    (rw (h.0, k.0) refl, k.1)

-- the connection was shut before, an output shuts it, or the event's connection is this one and memory ran out
abbrev pub Ends : ℕ → ℕ → HubState → Result (List HubOutput) HubFault → Type 0
Ends n m state result = (state.connections m ≡ shut) ⊎ ((shut_for m result ≡ true) ⊎ ((result ≡ Err NoMemory) × (n ≡ m)))

module _ (policy : List Rule) (base : List ℕ) (entries : List Entry) where
  takes_other : (c : Connection) (stamp : Stamp) (n m : ℕ) (bytes : List ℕ) (state : HubState) (result : Result (List HubOutput) HubFault) (next : HubState)
      → Takes policy base entries c stamp n bytes state result next → (n ≡ m → ⊥) → next.connections m ≡ state.connections m
  takes_other absent stamp n m bytes state result next is apart = denied_stays m state next is.1
  takes_other shut stamp n m bytes state result next is apart = denied_stays m state next is.1
  takes_other (joined stream items) stamp n m bytes state result next (inl taken) apart = other_stays n m _ _ state next taken.becomes apart
  takes_other (joined stream items) stamp n m bytes state result next (inr cut) apart = other_stays n m _ _ state next cut.becomes apart

  takes_absent : (c : Connection) (stamp : Stamp) (n m : ℕ) (bytes : List ℕ) (state : HubState) (result : Result (List HubOutput) HubFault) (next : HubState) → c ≡ absent
      → Takes policy base entries c stamp n bytes state result next → (next.connections m ≡ state.connections m) × IsNotFor m result
  takes_absent absent stamp n m bytes state result next e is = (denied_stays m state next is.1, fault_for m _ result is.0)
  takes_absent shut stamp n m bytes state result next e is = absurd (let h = e in cc)
  takes_absent (joined stream items) stamp n m bytes state result next e is = absurd (let h = e in cc)

  meets_other : (kind : HubEventKind) (stamp : Stamp) (n m : ℕ) (state : HubState) (result : Result (List HubOutput) HubFault) (next : HubState)
      → Meets policy base entries kind stamp n state result next → (n ≡ m → ⊥) → next.connections m ≡ state.connections m
  meets_other joining stamp n m state result next meets apart = joins_other (state.connections n) n m state result next meets apart
  meets_other (sending bytes) stamp n m state result next meets apart = takes_other (state.connections n) stamp n m bytes state result next meets apart
  meets_other leaving stamp n m state result next meets apart = leaves_other (state.connections n) n m state result next meets apart

  -- a connection that isn't there isn't there after an event that it neither joins nor leaves by, and the result is not for it
  meets_absent : (kind : HubEventKind) (stamp : Stamp) (n m : ℕ) (state : HubState) (result : Result (List HubOutput) HubFault) (next : HubState) (Entered : Type 0)
      → Meets policy base entries kind stamp n state result next → state.connections n ≡ absent → leaves_now m n kind ≡ false → (n == m) ≡ true
      → (kind ≡ joining → Entered) → Entered ⊎ ((next.connections m ≡ state.connections m) × IsNotFor m result)
  meets_absent joining stamp n m state result next Entered meets away stays same entered = inl (entered refl)
  meets_absent (sending bytes) stamp n m state result next Entered meets away stays same entered =
      inr (takes_absent (state.connections n) stamp n m bytes state result next away meets)
  meets_absent leaving stamp n m state result next Entered meets away stays same entered = absurd (let h = sym same ∙ stays in cc)

  -- the same, for a connection of any number
  pub hears_absent : (event : HubEvent) (m : ℕ) (state : HubState) (result : Result (List HubOutput) HubFault) (next : HubState) (Entered : Type 0) (same : Bool)
      → Hears policy base entries event state result next → state.connections m ≡ absent → leaves m event ≡ false → (event.connection == m) ≡ same
      → (event.connection ≡ m → event.kind ≡ joining → Entered) → Entered ⊎ ((next.connections m ≡ state.connections m) × IsNotFor m result)
  hears_absent event m state result next Entered true hears away stays same entered =
      let e = eqb-true event.connection m same in
      meets_absent event.kind event.stamp event.connection m state result next Entered hears (ap state.connections e ∙ away) stays same (entered e)
  hears_absent event m state result next Entered false hears away stays same entered =
      let apart = eqb-false event.connection m same in
      inr (meets_other event.kind event.stamp event.connection m state result next hears apart, hears_only policy base entries event state result next hears m apart)

  leaves_free : (c : Connection) (n m : ℕ) (state : HubState) (result : Result (List HubOutput) HubFault) (next : HubState) → state.connections n ≡ c → Leaves c n state result next → (n == m) ≡ true
      → (next.connections m ≡ absent) × IsNotFor m result
  leaves_free absent n m state result next same is here =
      (denied_stays m state next is.1 ∙ ap state.connections (sym (eqb-true n m here)) ∙ same, fault_for m _ result is.0)
  leaves_free (joined stream items) n m state result next same is here = (set_here n m absent _ state next is.1 here, none_for m result is.0)
  leaves_free shut n m state result next same is here = (set_here n m absent _ state next is.1 here, none_for m result is.0)

  meets_left : (kind : HubEventKind) (stamp : Stamp) (n m : ℕ) (state : HubState) (result : Result (List HubOutput) HubFault) (next : HubState)
      → Meets policy base entries kind stamp n state result next → leaves_now m n kind ≡ true → (next.connections m ≡ absent) × IsNotFor m result
  meets_left joining stamp n m state result next meets leaves = absurd (let h = leaves in cc)
  meets_left (sending bytes) stamp n m state result next meets leaves = absurd (let h = leaves in cc)
  meets_left leaving stamp n m state result next meets leaves = leaves_free (state.connections n) n m state result next refl meets leaves

  -- a connection isn't there after it has left, and the result is not for it
  pub hears_left : (event : HubEvent) (m : ℕ) (state : HubState) (result : Result (List HubOutput) HubFault) (next : HubState)
      → Hears policy base entries event state result next → leaves m event ≡ true → (next.connections m ≡ absent) × IsNotFor m result
  hears_left event m state result next hears leaves = meets_left event.kind event.stamp event.connection m state result next hears leaves

  set_open : (n m : ℕ) (c : Connection) (store : Store) (state next : HubState) → (c ≡ shut → ⊥) → Becomes n c store state next → (n == m) ≡ true → next.connections m ≡ shut → ⊥
  set_open n m c store state next apart becomes here ends = apart (sym (set_here n m c store state next becomes here) ∙ ends)

  joins_shut : (c : Connection) (n m : ℕ) (state : HubState) (result : Result (List HubOutput) HubFault) (next : HubState) → Joins c n state result next → (n == m) ≡ true
      → next.connections m ≡ shut → state.connections m ≡ shut
  joins_shut absent n m state result next (inl is) here ends = absurd (set_open n m (joined [] []) _ state next (λ e. let h = e in cc) is.1 here ends)
  joins_shut absent n m state result next (inr is) here ends = sym (denied_stays m state next is.1) ∙ ends
  joins_shut (joined stream items) n m state result next is here ends = sym (denied_stays m state next is.1) ∙ ends
  joins_shut shut n m state result next is here ends = sym (denied_stays m state next is.1) ∙ ends

  taken_shut : (closed : Bool) (n m : ℕ) (texts : List (List ℕ)) (c : Connection) (store : Store) (state : HubState) (result : Result (List HubOutput) HubFault) (next : HubState)
      → (c ≡ shut → ⊥) → result ≡ Ok (hub_outputs n texts closed) → Becomes n (if closed then shut else c) store state next → (n == m) ≡ true → next.connections m ≡ shut → shut_for m result ≡ true
  taken_shut true n m texts c store state result next apart is becomes here ends = ap (shut_for m) is ∙ deeds_end n m texts here
  taken_shut false n m texts c store state result next apart is becomes here ends = absurd (set_open n m c store state next apart becomes here ends)

  takes_shut : (c : Connection) (stamp : Stamp) (n m : ℕ) (bytes : List ℕ) (state : HubState) (result : Result (List HubOutput) HubFault) (next : HubState)
      → Takes policy base entries c stamp n bytes state result next → (n == m) ≡ true → next.connections m ≡ shut → Ends n m state result
  takes_shut absent stamp n m bytes state result next is here ends = inl (sym (denied_stays m state next is.1) ∙ ends)
  takes_shut shut stamp n m bytes state result next is here ends = inl (sym (denied_stays m state next is.1) ∙ ends)
  takes_shut (joined stream items) stamp n m bytes state result next (inl taken) here ends =
      inr (inl (taken_shut taken.closed n m taken.texts (joined (stream ++ bytes) (items ++ taken.new)) taken.store state result next (λ e. let h = e in cc) taken.result_is taken.becomes here ends))
  takes_shut (joined stream items) stamp n m bytes state result next (inr cut) here ends = inr (inr (cut.result_is, eqb-true n m here))

  meets_shut : (kind : HubEventKind) (stamp : Stamp) (n m : ℕ) (state : HubState) (result : Result (List HubOutput) HubFault) (next : HubState)
      → Meets policy base entries kind stamp n state result next → (n == m) ≡ true → next.connections m ≡ shut → Ends n m state result
  meets_shut joining stamp n m state result next meets here ends = inl (joins_shut (state.connections n) n m state result next meets here ends)
  meets_shut (sending bytes) stamp n m state result next meets here ends = takes_shut (state.connections n) stamp n m bytes state result next meets here ends
  meets_shut leaving stamp n m state result next meets here ends =
      absurd (let e = sym (meets_left leaving stamp n m state result next meets here).0 ∙ ends in cc)

  -- a connection that the hub shut was shut before, or by an output, or memory ran out for it
  pub hears_shut : (event : HubEvent) (m : ℕ) (state : HubState) (result : Result (List HubOutput) HubFault) (next : HubState) (same : Bool)
      → Hears policy base entries event state result next → (event.connection == m) ≡ same → next.connections m ≡ shut → Ends event.connection m state result
  hears_shut event m state result next true hears here ends = meets_shut event.kind event.stamp event.connection m state result next hears here ends
  hears_shut event m state result next false hears here ends =
      inl (sym (meets_other event.kind event.stamp event.connection m state result next hears (eqb-false event.connection m here)) ∙ ends)
