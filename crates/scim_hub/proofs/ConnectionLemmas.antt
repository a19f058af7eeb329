-- Which connections there are after a change.
use Rattle.std.proofs.Common.{◌≡◌, ◌==◌, refl, sym, ◌∙◌, ap, subst, ℕ, Bool, true, false, cond, List, ◌++◌}
use Rattle.std.specs.Prelude.{Option, Some, IsSome, Result, Ok, Err}
use Rattle.std.specs.Ordering.{nat_cmp, is_eq}
use Rattle.std.specs.BTreeMap.{get, UpdatesBy}
use Rattle.std.specs.Cmp.{unsigned_tied}
use Rattle.std.specs.Global.{Vec}
use Rattle.std.proofs.lemmas.Bool.{eqb-true}
use Rattle.scim_wire.specs.declared.messages.Item.{Item}
use Rattle.scim_wire.specs.Messages.{HasItems}
use Rattle.scim_wire.proofs.Facts.{items_from_stands}
use Rattle.scim_hub.specs.declared.connections.Connection as code
use Rattle.scim_hub.specs.declared.connections.Connection.TheVariants.{Open, Shut}
use Rattle.scim_hub.specs.declared.connections.Connections.{Connections}
use Rattle.scim_hub.specs.declared.events.HubFault.{HubFault}
use Rattle.scim_hub.specs.declared.events.HubFault.TheVariants.{Closed}
use Rattle.scim_hub.specs.Events.{Connection, absent, joined, shut, set}
use Rattle.scim_hub.specs.HubStates.{IsKept, AreConnections}
use Rattle.scim_hub.specs.code.Changes.{IsRead, IsReadOn, IsFed, IsPieceTaken}

err_is : (r : Result (Vec Item) HubFault) (a b : HubFault) → r ≡ Err a → r ≡ Err b → a ≡ b
err_is r a b e f = cc

-- what is found is there
pub is_there : {X : Type 0} (o : Option X) (x : X) → Some x ≡ o → IsSome o
is_there o x h = subst IsSome h refl

kept_if : (here same : Bool) (k o : Option code.Connection) (c d : Connection) → here ≡ same → IsKept k c → IsKept o d → IsKept (cond here k o) (cond same c d)
kept_if true true k o c d e new old = new
kept_if true false k o c d e new old = absurd (cc)
kept_if false true k o c d e new old = absurd (cc)
kept_if false false k o c d e new old = old

-- what is kept of one number changed
pub one_changed : (old new : Connections) (n : ℕ) (kept : Option code.Connection) (c : Connection) (connections : ℕ → Connection)
    → UpdatesBy nat_cmp (nat_cmp n) old.by_number new.by_number kept → IsKept kept c → AreConnections old connections → AreConnections new (set n c connections)
one_changed old new n kept c connections updates is are m =
    subst (λ (o : Option code.Connection). IsKept o (set n c connections m)) (sym (updates.0 m))
    (kept_if (is_eq (nat_cmp n m)) (n == m) kept (get nat_cmp old.by_number m) c (connections m) (unsigned_tied n m) is (are m))

-- a connection that is kept is there
not_absent : (x : code.Connection) → IsKept (Some x) absent → ⊥
not_absent (Open wire) is = is
not_absent Shut is = is

if_same : (test : Bool) (c d : Connection) → (test ≡ true → c ≡ d) → cond test c d ≡ d
if_same true c d same = same refl
if_same false c d same = refl

-- that which it was before changes nothing
pub set_again : (n : ℕ) (c : Connection) (connections : ℕ → Connection) → c ≡ connections n → (m : ℕ) → set n c connections m ≡ connections m
set_again n c connections is m = if_same (n == m) c (connections m) (λ e. is ∙ ap connections (eqb-true n m e))

-- the same connections
pub same_connections : (new : Connections) (before after : ℕ → Connection) → ((m : ℕ) → before m ≡ after m) → AreConnections new before → AreConnections new after
same_connections new before after same are m = subst (IsKept (get nat_cmp new.by_number m)) (same m) (are m)

-- what an open connection that took a piece has given
read_items : (kept : code.Connection) (stream : List ℕ) (items : List Item) → IsKept (Some kept) (joined stream items) → HasItems stream items
read_items (Open wire) stream items is = items_from_stands wire stream items is
read_items Shut stream items is = absurd is

read_on : (old new : Connections) (n : ℕ) (bytes : List ℕ) (kept : code.Connection) (result : Result (Vec Item) HubFault) (connections : ℕ → Connection) (stream : List ℕ) (items : List Item)
    → UpdatesBy nat_cmp (nat_cmp n) old.by_number new.by_number (Some kept) → IsReadOn stream items bytes result (Some kept) → AreConnections old connections
    → IsPieceTaken (joined stream items) n bytes connections result new
read_on old new n bytes kept (Ok more) connections stream items updates is are =
    (read_items kept (stream ++ bytes) (items ++ more.items) is, one_changed old new n (Some kept) (joined (stream ++ bytes) (items ++ more.items)) connections updates is are)
read_on old new n bytes kept (Err fault) connections stream items updates is are =
    (is.0, one_changed old new n (Some Shut) shut connections (subst (UpdatesBy nat_cmp (nat_cmp n) old.by_number new.by_number) is.1 updates) tt are)

stayed_shut : (old new : Connections) (n : ℕ) (bytes : List ℕ) (kept : code.Connection) (result : Result (Vec Item) HubFault) (connections : ℕ → Connection)
    → UpdatesBy nat_cmp (nat_cmp n) old.by_number new.by_number (Some kept) → (result ≡ Err Closed) × (kept ≡ Shut) → shut ≡ connections n → AreConnections old connections
    → IsPieceTaken shut n bytes connections result new
stayed_shut old new n bytes kept (Ok more) connections updates fed e are = absurd (let h = fed.0 in cc)
stayed_shut old new n bytes kept (Err fault) connections updates fed e are = (
  err_is (Err fault) fault Closed refl fed.0,
  same_connections new (set n shut connections) connections (set_again n shut connections e)
      (one_changed old new n (Some Shut) shut connections (subst (λ (k : code.Connection). UpdatesBy nat_cmp (nat_cmp n) old.by_number new.by_number (Some k)) fed.1 updates) tt are),
)

-- a connection that is kept took a piece
pub piece_taken : (old new : Connections) (n : ℕ) (bytes : List ℕ) (before after : code.Connection) (c : Connection) (result : Result (Vec Item) HubFault) (connections : ℕ → Connection)
    → UpdatesBy nat_cmp (nat_cmp n) old.by_number new.by_number (Some after) → IsFed before bytes result after → IsKept (Some before) c → c ≡ connections n → AreConnections old connections
    → IsPieceTaken c n bytes connections result new
piece_taken old new n bytes before after absent result connections updates fed is e are = absurd (not_absent before is)
piece_taken old new n bytes (Open wire) after (joined stream items) result connections updates fed is e are =
    read_on old new n bytes after result connections stream items updates (fed stream items is) are
piece_taken old new n bytes Shut after (joined stream items) result connections updates fed is e are = absurd is
piece_taken old new n bytes (Open wire) after shut result connections updates fed is e are = absurd is
piece_taken old new n bytes Shut after shut result connections updates fed is e are = stayed_shut old new n bytes after result connections updates fed e are

-- a connection that was read
pub fed : (before : code.Connection) (bytes : List ℕ) (more : Vec Item) (after : code.Connection) → IsRead before bytes (Ok more) after → IsFed before bytes (Ok more) after
fed (Open wire) bytes more after read = read
fed Shut bytes more after read = absurd (let h = read in cc)

-- or can't be
pub fed_not : (before : code.Connection) (bytes : List ℕ) (fault : HubFault) (after : code.Connection) → IsRead before bytes (Err fault) after → IsFed before bytes (Err fault) Shut
fed_not (Open wire) bytes fault after read = λ stream items stands. (read stream items stands, refl)
fed_not Shut bytes fault after read = (read, refl)
