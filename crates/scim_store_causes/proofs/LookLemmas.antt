-- Calls that only read, one behind another.
use Rattle.std.proofs.Common.{◌≡◌, ◌⊎◌, Result, Ok, Err, IsErr, OnErr, IsTrue, inl, inr, refl, arith, ap, subst, ◌∙◌}
use Rattle.sqlite.specs.declared.error.Error.{Error}
use Rattle.sqlite.specs.Effect.{Database}
use Rattle.sqlite.specs.State.{State, IsUnchanged, HasCleanDisk}
use Rattle.sqlite.proofs.StateLemmas.{survives_then}
use Rattle.scim_store_tables.specs.Reading.{Rests, HasTablesIn, SparesIn}
use Rattle.scim_store_tables.specs.declared.versions.Version.{Version}
use Rattle.scim_store_tables.proofs.Facts.{if_then}
use Rattle.scim_store_causes.specs.code.Looks.{ShowsSame, Looks}

-- ---- nothing is changed

pub shows_unchanged : (a b : State) → IsUnchanged a b → ShowsSame a b
shows_unchanged a b same = record { was_open = λ _. same.0.was_open; now_is = same.0.now_is; committed_is = same.0.committed_is }

pub shows_both : (a b c : State) → ShowsSame a b → ShowsSame b c → ShowsSame a c
shows_both a b c one two = record { was_open = λ o. one.was_open (two.was_open o); now_is = two.now_is ∙ one.now_is; committed_is = two.committed_is ∙ one.committed_is }

shows_has : (v : Version) (a b : State) → ShowsSame a b → HasTablesIn v a → HasTablesIn v b
shows_has v a b same has opened = ap (λ (d : Database). d.schema) same.now_is ∙ has (same.was_open opened)

pub shows_rests : (a b : State) → ShowsSame a b → Rests a b
shows_rests a b same = record { was_open = same.was_open; now = λ _. inl same.now_is; committed = λ _. same.committed_is }

pub rests_both : (a b c : State) → Rests a b → Rests b c → Rests a c
rests_both a b c one two = record {
  was_open = λ o. one.was_open (two.was_open o);
  now = λ o. go (two.was_open o) (two.now o);
  committed = λ o. two.committed o ∙ one.committed (two.was_open o);
}
  where
    go : IsTrue b.is_open → (c.now ≡ b.now) ⊎ (c.now ≡ b.committed) → (c.now ≡ a.now) ⊎ (c.now ≡ a.committed)
    go o (inl e) = elim (one.now o) [ inl f ↦ inl (e ∙ f) | inr f ↦ inr (e ∙ f) ]
    go o (inr e) = inr (e ∙ one.committed o)

err_rests : {T : Type 0} (a b c : State) (r : Result T Error) → ShowsSame a b → OnErr r (Rests b c) → OnErr r (Rests a c)
err_rests a b c (Ok x) same rests = tt
err_rests a b c (Err e) same rests = rests_both a b c (shows_rests a b same) rests

spares_both : (v : Version) (a b c : State) → SparesIn v a b → (HasCleanDisk b → HasTablesIn v a → ShowsSame a b) → SparesIn v b c → SparesIn v a c
spares_both v a b c one kept two =
    survives_then a b c _ _ _ (λ _ db other. other) (λ clean db other has.
    (let same = kept (omega (arith, clean, two.clean)) (λ _. has) in other (ap (λ (d : Database). d.schema) same.now_is ∙ has))) one two

-- ---- one behind another

-- no call at all
pub looks_none : (v : Version) (P : Database → Unit {0} → Type 0) (s : State) → P s.now tt → Looks v P s s (Ok tt)
looks_none v P s told = record {
  mode = λ idle. idle;
  spares = record { clean = omega arith; shield = λ shielded. shielded; counts = omega arith; limit = refl; closes = λ _ opened. inl opened; crash = λ _ db left. inl left };
  told = λ clean has. (record { was_open = λ o. o; now_is = refl; committed_is = refl }, told);
  rests = λ clean has. tt;
}

-- one call behind another tells both
pub looks_both : {T U : Type 0} {v : Version} (P : Database → T → Type 0) (Q : Database → U → Type 0) (a b c : State) (x : T) (r : Result U Error) → Looks v P a b (Ok x) → Looks v Q b c r → Looks v (λ db y. P db x × Q db y) a c r
looks_both {v = v} P Q a b c x r first second = record {
  mode = λ idle. second.mode (first.mode idle);
  spares = spares_both v a b c first.spares (λ clean has. (first.told clean has).0) second.spares;
  told = λ clean has.
      (let here = first.told (earlier clean) has in
      if_then r _ _ (λ y next. (shows_both a b c here.0 next.0, (here.1, subst (λ (db : Database). Q db y) here.0.now_is next.1))) (second.told clean (shows_has v a b here.0 has)));
  rests = λ clean has. (let here = first.told (earlier clean) has in err_rests a b c r here.0 (second.rests clean (shows_has v a b here.0 has)));
}
  where
    earlier : HasCleanDisk c → HasCleanDisk b
    earlier clean = omega (arith, clean, second.spares.clean)

-- the error of a call is that of the whole
pub looks_failed : {T U : Type 0} {v : Version} (P : Database → T → Type 0) (Q : Database → U → Type 0) (a b : State) (e : Error) (r : Result U Error) → IsErr r → Looks v P a b (Err e) → Looks v Q a b r
looks_failed P Q a b e (Ok y) fails looks = absurd cc
looks_failed P Q a b e (Err f) fails looks = record { mode = looks.mode; spares = looks.spares; told = λ clean has. tt; rests = looks.rests }

-- an error of its own behind calls that succeeded
pub looks_ended : {T U : Type 0} {v : Version} (P : Database → T → Type 0) (Q : Database → U → Type 0) (a b : State) (x : T) (e : Error) → Looks v P a b (Ok x) → Looks v Q a b (Err e)
looks_ended P Q a b x e looks = record { mode = looks.mode; spares = looks.spares; told = λ clean has. tt; rests = λ clean has. shows_rests a b (looks.told clean has).0 }

-- what is made of what was told
pub looks_as : {T U : Type 0} {v : Version} (P : Database → T → Type 0) (Q : Database → U → Type 0) (a b : State) (x : T) (y : U) → Looks v P a b (Ok x) → (P a.now x → Q a.now y) → Looks v Q a b (Ok y)
looks_as P Q a b x y looks makes = record {
  mode = looks.mode;
  spares = looks.spares;
  told = λ clean has. (let here = looks.told clean has in (here.0, makes here.1));
  rests = λ clean has. tt;
}
