-- Steps inside a transaction, one behind another.
use Rattle.std.proofs.Common.{◌≡◌, ℕ, List, Bool, true, false, Result, Ok, Err, OnOk, OnErr, IfOk, IfErr, IsErr, IsTrue, refl, sym, ap, subst, ◌∙◌, arith, rules}
use Rattle.std.specs.Prelude.{⊤}
use Rattle.sqlite_trees.specs.declared.store.Store.{Ghosts}
use Rattle.sqlite.specs.declared.error.Error.{Error}
use Rattle.sqlite.specs.declared.error.Error.TheVariants.{SqliteFailure}
use Rattle.sqlite.specs.declared.error.ErrorCode.TheVariants.{TransactionState}
use Rattle.sqlite.specs.declared.transaction.Transaction.{Transaction}
use Rattle.sqlite.specs.Order.{Row}
use Rattle.sqlite.specs.Effect.{Database}
use Rattle.sqlite.specs.State.{State, HasCleanDisk, Survives, KeepsCommit, ExecutesInside}
use Rattle.sqlite.specs.Held.{state}
use Rattle.sqlite.proofs.InsideLemmas.{inside_keeps}
use Rattle.sqlite.proofs.StateLemmas.{survives_then}
use Rattle.scim_store_tables.specs.Steps.{DoesIn, DoesBy}

pub goes_then : {T E : Type 0} (r : Result T E) {P Q : Type 0} → (P → Q) → OnOk r P → OnOk r Q
goes_then (Ok x) f h = f h
goes_then (Err e) f h = tt

pub if_then : {T E : Type 0} (r : Result T E) (P Q : T → Type 0) → ((x : T) → P x → Q x) → IfOk r P → IfOk r Q
if_then (Ok x) P Q f h = f x h
if_then (Err e) P Q f h = tt

-- a statement inside a transaction commits nothing, and outside one it does nothing
pub keeps_either : (old new : State) (sql : List ℕ) (params : Row) (r : Result ℕ Error) → (old.in_transaction ≡ false → new ≡ old) → (IsTrue old.in_transaction → ExecutesInside 0 sql params old new r) → KeepsCommit old new
keeps_either old new sql params r out runs = go old.in_transaction refl
  where
    go : (b : Bool) → old.in_transaction ≡ b → KeepsCommit old new
    go true inside = inside_keeps old new 0 false sql params r (runs inside)
    go false outside = subst (λ (s : State). KeepsCommit old s) (sym (out outside)) (record { was_open = λ o. o; committed = λ _. refl })

-- what the execution of a statement does
pub does_execute : {S : Type 0} (g : Ghosts S) (old new : Transaction S) (sql : List ℕ) (params : Row) (r : Result ℕ Error) (P : Database → Database → Type 0)
    → new.conn.ghost_name ≡ old.conn.ghost_name
    → ((state g old.conn.now).in_transaction ≡ false → (r ≡ Err (SqliteFailure TransactionState)) × (new.conn.now ≡ old.conn.now))
    → (HasCleanDisk (state g new.conn.now) → IsTrue (state g old.conn.now).in_transaction → ExecutesInside 0 sql params (state g old.conn.now) (state g new.conn.now) r)
    → Survives (state g old.conn.now) (state g new.conn.now) (λ _. ⊥)
    → (ExecutesInside 0 sql params (state g old.conn.now) (state g new.conn.now) r → OnOk r (IsTrue (state g new.conn.now).in_transaction × P (state g old.conn.now).now (state g new.conn.now).now)) → DoesIn g old new r P
does_execute g old new sql params r P same ended runs survives changed = record {
  same_reference = same;
  went = λ clean inside. changed (runs clean inside);
  kept = λ clean. keeps_either (state g old.conn.now) (state g new.conn.now) sql params r (λ outside. ap (state g) (ended outside).1) (runs clean);
  survives = survives;
}

-- what a loop inside a transaction did, up to some iteration
abbrev pub HasDone : {S : Type 0} (g : Ghosts S) → Transaction S → Transaction S → (Database → Database → Type 0) → Type 0
HasDone g old new P = DoesIn {T = ⊤} {E = Error} g old new (Ok tt) P

-- no step at all
pub does_nothing : {S T E : Type 0} (g : Ghosts S) (tx : Transaction S) (x : T) (P : Database → Database → Type 0) → P (state g tx.conn.now).now (state g tx.conn.now).now → DoesIn {E = E} g tx tx (Ok x) P
does_nothing g tx x P same = record {
  same_reference = refl;
  went = λ clean inside. (inside, same);
  kept = search rules;
  survives = search rules;
}

-- a step may be told by less
pub does_less : {S T U E F : Type 0} (g : Ghosts S) (a b : Transaction S) (x : T) (y : U) (P Q : Database → Database → Type 0) → DoesIn {E = E} g a b (Ok x) P → ((d e : Database) → P d e → Q d e) → DoesIn {E = F} g a b (Ok y) Q
does_less g a b x y P Q does less = record {
  same_reference = does.same_reference;
  went = λ clean inside. (let it = does.went clean inside in (it.0, less _ _ it.1));
  kept = does.kept;
  survives = does.survives;
}

-- one step behind another
pub does_then : {S T U E F : Type 0} (g : Ghosts S) (a b c : Transaction S) (x : T) (r : Result U F) (P Q R : Database → Database → Type 0)
    → DoesIn {E = E} g a b (Ok x) P → DoesIn g b c r Q → ((d e f : Database) → P d e → Q e f → R d f) → DoesIn g a c r R
does_then g a b c x r P Q R first second both = record {
  same_reference = second.same_reference ∙ first.same_reference;
  went = λ clean inside. (let one = first.went (earlier clean) inside in goes_then r (λ h. (h.0, both _ _ _ one.1 h.1)) (second.went clean one.0));
  kept = λ clean.
      (let one = first.kept (earlier clean) in
      let two = second.kept clean in
      record { was_open = λ o. one.was_open (two.was_open o); committed = λ o. two.committed o ∙ one.committed (two.was_open o) });
  survives = survives_then (state g a.conn.now) (state g b.conn.now) (state g c.conn.now) _ _ _ (λ _ db none. none) (λ _ db none. none) first.survives second.survives;
}
  where
    earlier : HasCleanDisk (state g c.conn.now) → HasCleanDisk (state g b.conn.now)
    earlier clean = omega (arith, clean, second.survives.clean)

-- the error of a step is that of the whole
pub does_failed : {S T U E F : Type 0} (g : Ghosts S) (a b : Transaction S) (e : E) (r : Result U F) (P Q : Database → Database → Type 0) → IsErr r → DoesIn {T = T} g a b (Err e) P → DoesIn g a b r Q
does_failed g a b e (Ok y) P Q fails does = absurd cc
does_failed g a b e (Err f) P Q fails does = record { same_reference = does.same_reference; went = λ clean inside. tt; kept = does.kept; survives = does.survives }

-- a step that fails behind another: its error is that of both
pub fails_then : {S T U V E F G : Type 0} (g : Ghosts S) (a b c : Transaction S) (x : T) (e : F) (r : Result V G) (P Q R : Database → Database → Type 0)
    → DoesIn {E = E} g a b (Ok x) P → DoesIn {T = U} g b c (Err e) Q → IsErr r → DoesIn g a c r R
fails_then g a b c x e r P Q R first second fails = does_failed g a c e r (λ _ _. ⊤) R fails (does_then g a b c x (Err e) P Q (λ _ _. ⊤) first second (λ _ _ _ _ _. tt))

-- two steps that did not fail, with another result
pub does_both : {S T U V E F G : Type 0} (g : Ghosts S) (a b c : Transaction S) (x : T) (y : U) (z : V) (P Q R : Database → Database → Type 0)
    → DoesIn {E = E} g a b (Ok x) P → DoesIn {E = F} g b c (Ok y) Q → ((d e f : Database) → P d e → Q e f → R d f) → DoesIn {E = G} g a c (Ok z) R
does_both g a b c x y z P Q R first second both = does_less g a c y z R R (does_then g a b c x (Ok y) P Q R first second both) (λ _ _ it. it)

-- a step that did not fail, with its result
pub does_by : {S T E : Type 0} (g : Ghosts S) (a b : Transaction S) (x : T) (P : T → Database → Database → Type 0) → DoesBy {E = E} g a b (Ok x) P → DoesIn {E = E} g a b (Ok x) (P x)
does_by g a b x P does = record { same_reference = does.same_reference; went = does.went; kept = does.kept; survives = does.survives }

pub on_ok : {T E : Type 0} (r : Result T E) (P : T → Type 0) (Q : Type 0) → ((x : T) → P x → Q) → IfOk r P → OnOk r Q
on_ok (Ok x) P Q f h = f x h
on_ok (Err e) P Q f h = tt

pub on_err : {T E : Type 0} (r : Result T E) (P : E → Type 0) (Q : Type 0) → ((e : E) → P e → Q) → IfErr r P → OnErr r Q
on_err (Ok x) P Q f h = tt
on_err (Err e) P Q f h = f e h

-- what holds in any case holds after a success
pub any_ok : {T E : Type 0} (r : Result T E) {X : Type 0} → X → OnOk r X
any_ok (Ok x) h = h
any_ok (Err e) h = tt

-- what holds in any case holds after an error
pub any_err : {T E : Type 0} (r : Result T E) {X : Type 0} → X → OnErr r X
any_err (Ok x) h = tt
any_err (Err e) h = h

pub both_then : {T E : Type 0} (r : Result T E) (P : Type 0) (Q R : T → Type 0) → ((x : T) → P → Q x → R x) → OnOk r P → IfOk r Q → IfOk r R
both_then (Ok x) P Q R f p q = f x p q
both_then (Err e) P Q R f p q = tt

pub if_both : {T E : Type 0} (r : Result T E) (P Q R : T → Type 0) → ((x : T) → P x → Q x → R x) → IfOk r P → IfOk r Q → IfOk r R
if_both (Ok x) P Q R f p q = f x p q
if_both (Err e) P Q R f p q = tt
