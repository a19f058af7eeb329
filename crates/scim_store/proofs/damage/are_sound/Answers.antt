use Rattle.std.proofs.Common.{◌≡◌, sym, ◌∙◌, ap, subst, true, false}
use Rattle.std.specs.Prelude.{All}
use Rattle.std.specs.List.{IsDistinct}
use Rattle.std.proofs.lemmas.Result.{IfOk-weaker}
use Rattle.scim_store.specs.Damage.{Tables, is_shared}
use Rattle.scim_store.specs.code.Damage.{HasName}
use Rattle.scim_store.proofs.JudgeLemmas.{sound_owned, sound_named, sound_distinct}
use Rattle.scim_store.proofs.damage.are_sound.Goals as goal

pub returns-then-not-are_owned-clause-no : goal.returns-then-not-are_owned-clause-no
returns-then-not-are_owned-clause-no c = λ _ version base s.
    (let owned : true ≡ false = sym (c.are_owned.ensures.1 (sound_owned version base c.args.tables.now s)) ∙ c.if-not-are_owned.true in cc)

pub returns-clause-no : goal.returns-clause-no
returns-clause-no c =
    let n = c.as_slice.ensures.value ∙ ap (λ (t : Tables). t.names) c.tables.view_is in
    let tables = c.args.tables.now in
    IfOk-weaker c.are_apart.result _ _ (λ sound f no version base s. f no (subst (All HasName) (sym n) (sound_named version base tables s)) (subst (IsDistinct is_shared) (sym n) (sound_distinct version base tables s))) c.are_apart.ensures.no
