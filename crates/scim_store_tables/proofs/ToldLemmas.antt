-- Calls that only ask, one behind another.
use Rattle.std.proofs.Common.{◌≡◌, ◌⊎◌, ℕ, List, [], Result, Ok, Err, IsErr, IfOk, OnErr, inl, inr, arith, ap, subst, ◌∙◌}
use Rattle.std.specs.Global.{Vec}
use Rattle.sqlite.specs.declared.error.Error.{Error}
use Rattle.sqlite.specs.Effect.{Database}
use Rattle.sqlite.specs.Order.{Row}
use Rattle.sqlite.specs.Query.{Query}
use Rattle.sqlite.specs.State.{State, IsUnchanged, HasCleanDisk}
use Rattle.sqlite.proofs.StateLemmas.{survives_then}
use Rattle.scim_store_tables.specs.Tables.{schema_of}
use Rattle.scim_store_tables.specs.Reading.{Rests, HasTablesIn, SparesIn}
use Rattle.scim_store_tables.specs.declared.versions.Version.{Version}
use Rattle.scim_store_tables.specs.Asks.{IsAsk, IsAnswered, IsAsked}
use Rattle.scim_store_tables.specs.code.Told.{OnlyAsks}
use Rattle.scim_store_tables.proofs.AnswerLemmas.{unchanged_rests}
use Rattle.scim_store_tables.proofs.StepLemmas.{if_then, both_then, any_err}

-- ---- nothing is changed

pub both_unchanged : (a b c : State) → IsUnchanged a b → IsUnchanged b c → IsUnchanged a c
both_unchanged a b c first second = (
  record {
    was_open = first.0.was_open;
    is_open = second.0.is_open;
    now_is = second.0.now_is ∙ first.0.now_is;
    committed_is = second.0.committed_is ∙ first.0.committed_is;
    mode = second.0.mode ∙ first.0.mode;
  },
  record { changes = second.1.changes ∙ first.1.changes; last_rowid = second.1.last_rowid ∙ first.1.last_rowid },
  second.2 ∙ first.2,
)

unchanged_has : (v : Version) (a b : State) → IsUnchanged a b → HasTablesIn v a → HasTablesIn v b
unchanged_has v a b same has opened = ap (λ (d : Database). d.schema) same.0.now_is ∙ has same.0.was_open

rests_behind : (a b c : State) → IsUnchanged a b → Rests b c → Rests a c
rests_behind a b c same rests = record {
  was_open = λ opened. same.0.was_open;
  now = λ opened. go (rests.now opened);
  committed = λ opened. rests.committed opened ∙ same.0.committed_is;
}
  where
    go : (c.now ≡ b.now) ⊎ (c.now ≡ b.committed) → (c.now ≡ a.now) ⊎ (c.now ≡ a.committed)
    go (inl e) = inl (e ∙ same.0.now_is)
    go (inr e) = inr (e ∙ same.0.committed_is)

pub err_behind : {T : Type 0} (a b c : State) (r : Result T Error) → IsUnchanged a b → OnErr r (Rests b c) → OnErr r (Rests a c)
err_behind a b c (Ok x) same rests = tt
err_behind a b c (Err e) same rests = rests_behind a b c same rests

spares_then : (v : Version) (a b c : State) → SparesIn v a b → (HasCleanDisk b → HasTablesIn v a → IsUnchanged a b) → SparesIn v b c → SparesIn v a c
spares_then v a b c one kept two =
    survives_then a b c _ _ _ (λ _ db other. other) (λ clean db other has.
    (let same = kept (omega (arith, clean, two.clean)) (λ _. has) in other (ap (λ (d : Database). d.schema) same.0.now_is ∙ has))) one two

-- ---- a query is asked

pub asked_told : (v : Version) (IsTold : Database → List Row → Type 0) (text : List ℕ) (q : Query) (old new : State) (r : Result (Vec Row) Error) → IsAsk v text q
    → ((rows : List Row) → IsAnswered q [] old new rows → IsUnchanged old new × IsTold old.now rows) → IsAsked text [] old new r → OnlyAsks v (λ db rows. IsTold db rows.items) old new r
asked_told v IsTold text q old new r is tells asked = record {
  mode = asked.mode;
  spares = asked.spares v q is;
  told = λ clean has. both_then r _ _ _ (λ rows was_open reads. tells rows.items (reads v q is (has was_open))) (asked.was_open clean) (asked.read clean);
  rests = λ clean has. asked.rests clean;
}

-- ---- one behind another

-- one call behind another tells both
pub told_both : {T U : Type 0} {v : Version} (P : Database → T → Type 0) (Q : Database → U → Type 0) (a b c : State) (x : T) (r : Result U Error) → OnlyAsks v P a b (Ok x) → OnlyAsks v Q b c r → OnlyAsks v (λ db y. P db x × Q db y) a c r
told_both {v = v} P Q a b c x r first second = record {
  mode = λ idle. second.mode (first.mode idle);
  spares = spares_then v a b c first.spares (λ clean has. (first.told clean has).0) second.spares;
  told = λ clean has.
      (let here = first.told (earlier clean) has in
      if_then r _ _ (λ y next. (both_unchanged a b c here.0 next.0, (here.1, subst (λ (db : Database). Q db y) here.0.0.now_is next.1))) (second.told clean (unchanged_has v a b here.0 has)));
  rests = λ clean has. (let here = first.told (earlier clean) has in err_behind a b c r here.0 (second.rests clean (unchanged_has v a b here.0 has)));
}
  where
    earlier : HasCleanDisk c → HasCleanDisk b
    earlier clean = omega (arith, clean, second.spares.clean)

-- the error of a call is that of the whole
pub told_failed : {T U : Type 0} {v : Version} (P : Database → T → Type 0) (Q : Database → U → Type 0) (a b : State) (e : Error) (r : Result U Error) → IsErr r → OnlyAsks v P a b (Err e) → OnlyAsks v Q a b r
told_failed P Q a b e (Ok y) fails asks = absurd cc
told_failed P Q a b e (Err f) fails asks = record { mode = asks.mode; spares = asks.spares; told = λ clean has. tt; rests = asks.rests }

-- what is made of what was told
pub told_as : {T U : Type 0} {v : Version} (P : Database → T → Type 0) (Q : Database → U → Type 0) (a b : State) (x : T) (r : Result U Error) → OnlyAsks v P a b (Ok x)
    → IfOk r (λ y. a.now.schema ≡ schema_of v → P a.now x → Q a.now y) → OnlyAsks v Q a b r
told_as P Q a b x r asks makes = record {
  mode = asks.mode;
  spares = asks.spares;
  told = λ clean has. (let here = asks.told clean has in if_then r _ _ (λ y make. (here.0, make (has here.0.0.was_open) here.1)) makes);
  rests = λ clean has. any_err r (unchanged_rests a b (asks.told clean has).0);
}

-- what was told, in other words
pub told_so : {T : Type 0} {v : Version} (P Q : Database → T → Type 0) (a b : State) (r : Result T Error) → ((x : T) → P a.now x → Q a.now x) → OnlyAsks v P a b r → OnlyAsks v Q a b r
told_so P Q a b r so asks = record {
  mode = asks.mode;
  spares = asks.spares;
  told = λ clean has. if_then r _ _ (λ x told. (told.0, so x told.1)) (asks.told clean has);
  rests = asks.rests;
}
