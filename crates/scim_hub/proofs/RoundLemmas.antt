-- The pieces of a round, which connections read before the first of them is shut.
use Rattle.std.proofs.Common.{◌≡◌, ◌==◌, ◌∙◌, refl, sym, ap, subst, ℕ, Bool, true, false, cond, List, [], ◌∷◌, ◌++◌}
use Rattle.std.specs.Prelude.{◌||◌, Result, Ok, Err}
use Rattle.std.specs.Ordering.{nat_cmp}
use Rattle.std.specs.BTreeMap.{get}
use Rattle.std.proofs.lemmas.Bool.{eqb-true, eq-eqb}
use Rattle.std.proofs.lemmas.List.Folds.{list_any-append}
use Rattle.scim_policy.specs.Rules.{Rule}
use Rattle.scim_shelf.specs.Stores.{Store, IsStore}
use Rattle.scim_wire.specs.declared.messages.Item.{Item}
use Rattle.scim_token.specs.TokenFile.{Entry}
use Rattle.scim_hub.specs.declared.connections.Connections.{Connections}
use Rattle.scim_hub.specs.declared.events.HubFault.{HubFault}
use Rattle.scim_hub.specs.declared.events.Stamp.{Stamp}
use Rattle.scim_hub.specs.declared.rounds.Answered.{Answered}
use Rattle.scim_hub.specs.declared.rounds.Member.{Member}
use Rattle.scim_hub.specs.Events.{Connection, absent, joined, shut, set}
use Rattle.scim_hub.specs.HubStates.{AreConnections}
use Rattle.scim_hub.specs.code.Changes.{IsPieceTaken}
use Rattle.scim_hub.specs.code.Rounds.{has_member, AreApart, read_on, IsReadAt, IsTakenIn, state_after, AreRead, AreGathered, ShutsAt, ComesTo, AllComeTo}
use Rattle.scim_hub.proofs.ConnectionLemmas.{same_connections, set_again}

-- no test of two passes
neither : (a b : Bool) → a || b ≡ false → (a ≡ false) × (b ≡ false)
neither true b e = absurd (cc)
neither false b e = (refl, e)

-- the test that fails of two numbers, turned round
turned : (test : Bool) (a b : ℕ) → (b == a) ≡ test → (a == b) ≡ false → test ≡ false
turned true a b is not = absurd (let e = eq-eqb a b (sym (eqb-true b a is)) in cc)
turned false a b is not = refl

abbrev Apart : Bool → ℕ → ℕ → Type 0
Apart test a b = (test ≡ true) → a ≡ b

-- the state of a connection that no piece is of
if_not : (test : Bool) (c d e : Connection) → test ≡ false → d ≡ e → cond test c d ≡ e
if_not true c d e is same = absurd (cc)
if_not false c d e is same = same

pub state_other : (members : List Member) (n : ℕ) (c : Connection) → has_member n members ≡ false → state_after members n c ≡ c
state_other [] n c other = refl
state_other (member ∷ members) n c other =
    let p = neither (member.piece.connection == n) (has_member n members) other in
    if_not (member.piece.connection == n) (read_on member.taken member.piece.bytes.now c) (state_after members n c) c p.0 (state_other members n c p.1)

-- the first piece's connection has the state after it
first_at : (test : Bool) (members : List Member) (n k : ℕ) (f : Connection → Connection) (connections : ℕ → Connection) → Apart test n k → has_member n members ≡ false
    → cond test (f (connections k)) (state_after members k (connections k)) ≡ state_after members k (cond test (f (connections n)) (connections k))
first_at true members n k f connections same other =
    subst (λ (j : ℕ). f (connections j) ≡ state_after members j (f (connections n))) (same refl) (sym (state_other members n (f (connections n)) other))
first_at false members n k f connections same other = refl

-- the same if its state is replaced
first_set : (test : Bool) (members : List Member) (n k : ℕ) (f : Connection → Connection) (connections : ℕ → Connection) (c : Connection) → Apart test n k → f (connections n) ≡ c
    → cond test (f (connections k)) (state_after members k (connections k)) ≡ cond test c (state_after members k (cond test shut (connections k)))
first_set true members n k f connections c same is = ap (λ (j : ℕ). f (connections j)) (sym (same refl)) ∙ is
first_set false members n k f connections c same is = refl

shut_set : (test : Bool) (members : List Member) (n k : ℕ) (connections : ℕ → Connection) → Apart test n k → has_member n members ≡ false
    → cond test shut (state_after members k (cond test shut (connections k))) ≡ state_after members k (cond test shut (connections k))
shut_set true members n k connections same other = subst (λ (j : ℕ). shut ≡ state_after members j shut) (same refl) (sym (state_other members n shut other))
shut_set false members n k connections same other = refl

-- the others were read whatever became of one
set_other : (test : Bool) (c d : Connection) → test ≡ false → cond test c d ≡ d
set_other test c d is = if_not test c d d is refl

pub read_others : (members : List Member) (n : ℕ) (c : Connection) (connections : ℕ → Connection) → has_member n members ≡ false
    → AreRead members connections → AreRead members (set n c connections)
read_others [] n c connections other read = tt
read_others (member ∷ members) n c connections other (here, read) =
    let m = member.piece.connection in
    let p = neither (m == n) (has_member n members) other in (
      subst (λ (d : Connection). IsReadAt d member.piece.bytes.now member.taken) (sym (set_other (n == m) c (connections m) (turned (n == m) m n refl p.0))) here,
      read_others members n c connections p.1 read,
    )

-- the first piece is done with, and its connection goes on
pub gathered_on : (member : Member) (members : List Member) (connections : ℕ → Connection) (kept : Connections) → AreGathered (member ∷ members) connections kept
    → AreGathered members (set member.piece.connection (read_on member.taken member.piece.bytes.now (connections member.piece.connection)) connections) kept
gathered_on member members connections kept gathered =
    let n = member.piece.connection in
    let c = read_on member.taken member.piece.bytes.now (connections n) in
    record {
      apart = gathered.apart.1;
      read = read_others members n c connections gathered.apart.0 gathered.read.1;
      are = same_connections kept (λ (k : ℕ). state_after (member ∷ members) k (connections k)) (λ (k : ℕ). state_after members k (set n c connections k))
          (λ (k : ℕ). first_at (n == k) members n k (read_on member.taken member.piece.bytes.now) connections (eqb-true n k) gathered.apart.0) gathered.are;
    }

-- or it was never joined
pub gathered_same : (member : Member) (members : List Member) (connections : ℕ → Connection) (kept : Connections)
    → read_on member.taken member.piece.bytes.now (connections member.piece.connection) ≡ connections member.piece.connection
    → AreGathered (member ∷ members) connections kept → AreGathered members connections kept
gathered_same member members connections kept same gathered =
    let n = member.piece.connection in
    let c = read_on member.taken member.piece.bytes.now (connections n) in
    let on = gathered_on member members connections kept gathered in
    record {
      apart = gathered.apart.1;
      read = gathered.read.1;
      are = same_connections kept (λ (k : ℕ). state_after members k (set n c connections k)) (λ (k : ℕ). state_after members k (connections k))
          (λ (k : ℕ). ap (state_after members k) (set_again n c connections same k)) on.are;
    }

-- or it is shut
pub gathered_shut : (member : Member) (members : List Member) (connections : ℕ → Connection) (kept after : Connections) (stream : List ℕ) (items : List Item)
    → read_on member.taken member.piece.bytes.now (connections member.piece.connection) ≡ joined stream items
    → ShutsAt member.piece.connection kept after → AreGathered (member ∷ members) connections kept
    → AreGathered members (set member.piece.connection shut connections) after
gathered_shut member members connections kept after stream items is shuts gathered =
    let n = member.piece.connection in
    let rest = λ (k : ℕ). state_after members k (set n shut connections k) in
    record {
      apart = gathered.apart.1;
      read = read_others members n shut connections gathered.apart.0 gathered.read.1;
      are = same_connections after (set n shut rest) rest (λ (k : ℕ). shut_set (n == k) members n k connections (eqb-true n k) gathered.apart.0)
          (shuts rest stream items
          (same_connections kept (λ (k : ℕ). state_after (member ∷ members) k (connections k)) (set n (joined stream items) rest)
          (λ (k : ℕ). first_set (n == k) members n k (read_on member.taken member.piece.bytes.now) connections (joined stream items) (eqb-true n k) is) gathered.are));
    }

-- a connection took in a piece
pub taken_in : (c : Connection) (n : ℕ) (bytes : List ℕ) (connections : ℕ → Connection) (answered : Answered) (kept : Connections)
    → IsPieceTaken c n bytes connections (Ok answered.items) kept → IsTakenIn c n bytes connections (Ok answered) kept
taken_in absent n bytes connections answered kept is = absurd is
taken_in (joined stream items) n bytes connections answered kept is = is
taken_in shut n bytes connections answered kept is = absurd is

-- or didn't
pub not_taken_in : (c : Connection) (n : ℕ) (bytes : List ℕ) (connections : ℕ → Connection) (fault : HubFault) (kept : Connections)
    → c ≡ connections n → IsPieceTaken c n bytes connections (Err fault) kept → IsTakenIn c n bytes connections (Err fault) kept
not_taken_in absent n bytes connections fault kept e (is, are) =
    (is, same_connections kept connections (set n absent connections) (λ (m : ℕ). sym (set_again n absent connections e m)) are)
not_taken_in (joined stream items) n bytes connections fault kept e is = is
not_taken_in shut n bytes connections fault kept e (is, are) =
    (is, same_connections kept connections (set n shut connections) (λ (m : ℕ). sym (set_again n shut connections e m)) are)

-- one piece more
either_other : (a b : Bool) → a ≡ false → b ≡ false → a || b ≡ false
either_other true b e f = absurd (cc)
either_other false b e f = f

pub apart_more : (members : List Member) (member : Member) → has_member member.piece.connection members ≡ false → AreApart members → AreApart (members ++ member ∷ [])
apart_more [] member other apart = (refl, tt)
apart_more (first ∷ members) member other (here, apart) =
    let n = first.piece.connection in
    let m = member.piece.connection in
    let p = neither (n == m) (has_member m members) other in (
      list_any-append (λ (x : Member). x.piece.connection == n) members (member ∷ [])
          ∙ either_other (has_member n members) ((m == n) || false) here (either_other (m == n) false (turned (m == n) n m refl p.0) refl),
      apart_more members member p.1 apart,
    )

read_more : (members : List Member) (member : Member) (connections : ℕ → Connection) → IsReadAt (connections member.piece.connection) member.piece.bytes.now member.taken
    → AreRead members connections → AreRead (members ++ member ∷ []) connections
read_more [] member connections here read = (here, tt)
read_more (first ∷ members) member connections here (one, read) = (one, read_more members member connections here read)

-- two tests, of which one passes at most
swapped : (a b : Bool) (c d e : Connection) → (a ≡ true → b ≡ true → ⊥) → cond a c (cond b d e) ≡ cond b d (cond a c e)
swapped true true c d e not = absurd (not refl refl)
swapped true false c d e not = refl
swapped false true c d e not = refl
swapped false false c d e not = refl

state_more : (members : List Member) (member : Member) (k : ℕ) (c : Connection) → has_member member.piece.connection members ≡ false
    → state_after (members ++ member ∷ []) k c ≡ cond (member.piece.connection == k) (read_on member.taken member.piece.bytes.now c) (state_after members k c)
state_more [] member k c other = refl
state_more (first ∷ members) member k c other =
    let n = first.piece.connection in
    let m = member.piece.connection in
    let p = neither (n == m) (has_member m members) other in
    ap (λ (d : Connection). cond (n == k) (read_on first.taken first.piece.bytes.now c) d) (state_more members member k c p.1)
    ∙ swapped (n == k) (m == k) (read_on first.taken first.piece.bytes.now c) (read_on member.taken member.piece.bytes.now c) (state_after members k c)
    (λ e f. absurd (let g = eq-eqb n m (eqb-true n k e ∙ sym (eqb-true m k f)) in let h = p.0 in cc))

taken_at : (test : Bool) (members : List Member) (n k : ℕ) (f : Connection → Connection) (connections : ℕ → Connection) (d : Connection) → Apart test n k → has_member n members ≡ false
    → cond test (f (state_after members n (connections n))) d ≡ cond test (f (connections k)) d
taken_at true members n k f connections d same other = ap f (state_other members n (connections n) other ∙ ap connections (same refl))
taken_at false members n k f connections d same other = refl

pub gathered_more : (members : List Member) (member : Member) (connections : ℕ → Connection) (kept after : Connections) → has_member member.piece.connection members ≡ false
    → AreGathered members connections kept
    → IsTakenIn (state_after members member.piece.connection (connections member.piece.connection)) member.piece.connection member.piece.bytes.now
    (λ k. state_after members k (connections k)) member.taken after
    → AreGathered (members ++ member ∷ []) connections after
gathered_more members member connections kept after other gathered (here, are) =
    let n = member.piece.connection in
    let f = read_on member.taken member.piece.bytes.now in
    let before = λ (k : ℕ). state_after members k (connections k) in
    record {
      apart = apart_more members member other gathered.apart;
      read = read_more members member connections
          (subst (λ (c : Connection). IsReadAt c member.piece.bytes.now member.taken) (state_other members n (connections n) other) here) gathered.read;
      are = same_connections after (set n (f (before n)) before) (λ (k : ℕ). state_after (members ++ member ∷ []) k (connections k))
          (λ (k : ℕ). taken_at (n == k) members n k f connections (before k) (eqb-true n k) other ∙ sym (state_more members member k (connections k) other)) are;
    }

-- no piece
pub gathered_none : (connections : ℕ → Connection) (kept : Connections) → AreConnections kept connections → AreGathered [] connections kept
gathered_none connections kept are = record { apart = tt; read = tt; are = are }

module _ (policy : List Rule) (base : List ℕ) (entries : List Entry) where
  pub come_more : (made : Bool) (members : List Member) (member : Member) (store mid next : Store) → AllComeTo policy base entries made members store mid
      → ComesTo policy base entries made member.piece.stamp member.piece.connection member.taken mid next
      → AllComeTo policy base entries made (members ++ member ∷ []) store next
  come_more made [] member store mid next same here =
      (next, subst (λ (s : Store). ComesTo policy base entries made member.piece.stamp member.piece.connection member.taken s next) same here, refl)
  come_more made (first ∷ members) member store mid next (after, one, all) here = (after, one, come_more made members member after mid next all here)

  stays : (taken : Result Answered HubFault) (stamp : Stamp) (n : ℕ) (store : Store) → IsStore base store → ComesTo policy base entries false stamp n taken store store
  stays (Ok answered) stamp n store is = (is, refl)
  stays (Err fault) stamp n store is = refl

  -- a round that isn't made leaves the store
  pub none_made : (members : List Member) (store : Store) → IsStore base store → AllComeTo policy base entries false members store store
  none_made [] store is = refl
  none_made (member ∷ members) store is = (store, stays member.taken member.piece.stamp member.piece.connection store is, none_made members store is)

  -- the store after a round: that after its pieces if it was made, and else that before it
  pub after_round : {H : Type 0} (Stands : H → Store → Type 0) (made : Bool) (members : List Member) (old now : H) (store next : Store)
      → (made ≡ true → Stands old next → Stands now next) → (made ≡ false → Stands now store)
      → Stands old next → IsStore base store → IsStore base next → AllComeTo policy base entries true members store next
      → (end : Store) × Stands now end × IsStore base end × AllComeTo policy base entries made members store end
  after_round Stands true members old now store next kept back stands is was all = (next, kept refl stands, was, all)
  after_round Stands false members old now store next kept back stands is was all = (store, back refl, is, none_made members store is)
