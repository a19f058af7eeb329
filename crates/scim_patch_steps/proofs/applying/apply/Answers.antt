use Rattle.std.proofs.Common.{◌≡◌, ◌∙◌, sym, ap, subst, rules, true, false}
use Rattle.std.specs.Prelude.{Ok, Err, map}
use Rattle.scim_text.specs.Failures.{UnlessMemory, IfBecause}
use Rattle.scim_cell.specs.Content.{Content}
use Rattle.scim_cell.specs.Rows.{rows, content}
use Rattle.scim_value.specs.Resource.{IsResource, HasBase}
use Rattle.scim_change.specs.Replace.{modified_at}
use Rattle.scim_patch_steps.specs.Patch.{all_stepped, changes, is_within_limit, applied}
use Rattle.scim_patch_steps.specs.Kept.{outcome, patch_of, step_of}
use Rattle.scim_patch_steps.specs.code.Before.{IsBefore, tells}
use Rattle.scim_patch_steps.proofs.StandLemmas.{stamped_stands, stamped_base}
use Rattle.scim_patch_steps.proofs.ApplyLemmas.{as_it_was, over_limit, refused, finished_so}
use Rattle.scim_patch_steps.proofs.LengthLemmas.{tells_change}
use Rattle.scim_patch_steps.proofs.applying.apply.Goals as goal

pub returns-in_err-resource-clause-outcome : goal.returns-in_err-resource-clause-outcome
returns-in_err-resource-clause-outcome c =
    let same : c.from_residual-in_err-resource.result ≡ Err c.in_err-resource.field-0.0 = search rules in
    let p = patch_of c.args.patch.now in
    let few : is_within_limit p (rows c.args.resource) ≡ true = search rules in
    let fault = subst (λ ss. IfBecause (λ e. Err e ≡ all_stepped c.args.resource.kind (map step_of ss) (Ok (rows c.args.resource))) c.in_err-resource.field-0.0) c.steps.ensures.steps c.in_err-resource.ensures.rows in
    subst (UnlessMemory (λ r. outcome r ≡ applied p c.args.moment c.args.resource)) (sym same) (refused p c.args.moment c.args.resource c.requires few c.in_err-resource.field-0.0 fault)

pub returns-then-not-is_within_limit-clause-outcome : goal.returns-then-not-is_within_limit-clause-outcome
returns-then-not-is_within_limit-clause-outcome c =
    let p = patch_of c.args.patch.now in
    let over : is_within_limit p (rows c.args.resource) ≡ false = search rules in
    sym (over_limit p c.args.moment c.args.resource over)

pub returns-then-not-is_changed-clause-outcome : goal.returns-then-not-is_changed-clause-outcome
returns-then-not-is_changed-clause-outcome c =
    let p = patch_of c.args.patch.now in
    let few : is_within_limit p (rows c.args.resource) ≡ true = search rules in
    let d = c.in_ok-resource.resource in
    let left : Ok (rows d) ≡ all_stepped c.args.resource.kind p.steps (Ok (rows c.args.resource))
    = subst (λ ss. Ok (rows d) ≡ all_stepped c.args.resource.kind (map step_of ss) (Ok (rows c.args.resource))) c.steps.ensures.steps c.in_ok-resource.ensures.rows in
    let before = subst (λ (x : Content). IsBefore p (rows x) c.in_ok-before.before) c.part-2.ensures.value c.in_ok-before.ensures in
    let told : tells p (rows d) c.in_ok-before.before ≡ false = search rules in
    let same : changes p (rows c.args.resource) (rows d) ≡ false = sym (tells_change p c.args.resource d c.part.ensures.valid c.requires c.steps.ensures.valid left c.in_ok-before.before before) ∙ told in
    let as' = as_it_was p c.args.resource d c.part.ensures.valid c.part-3.ensures.valid c.requires c.steps.ensures.valid c.in_ok-resource.ensures.kind c.in_ok-resource.ensures.id (sym left) same in
    ap (λ (x : Content). Ok (x, false)) as' ∙ sym (finished_so p c.args.moment c.args.resource c.requires few (rows d) false left same)

pub of_whole-requires : goal.of_whole-requires
of_whole-requires c =
    let whole = c.in_ok-part.ensures.whole ∙ ap (λ (x : Content). content x.kind x.id (modified_at c.args.moment (rows x))) c.into_part.ensures.value in
    subst IsResource (sym whole) (stamped_stands c.in_ok-resource.resource c.into_part.ensures.valid c.args.moment c.in_ok-part.ensures.bound)

pub returns-clause-outcome : goal.returns-clause-outcome
returns-clause-outcome c =
    let p = patch_of c.args.patch.now in
    let few : is_within_limit p (rows c.args.resource) ≡ true = search rules in
    let d = c.in_ok-resource.resource in
    let left : Ok (rows d) ≡ all_stepped c.args.resource.kind p.steps (Ok (rows c.args.resource))
    = subst (λ ss. Ok (rows d) ≡ all_stepped c.args.resource.kind (map step_of ss) (Ok (rows c.args.resource))) c.steps.ensures.steps c.in_ok-resource.ensures.rows in
    let before = subst (λ (x : Content). IsBefore p (rows x) c.in_ok-before.before) c.part-2.ensures.value c.in_ok-before.ensures in
    let told : tells p (rows d) c.in_ok-before.before ≡ true = search rules in
    let same : changes p (rows c.args.resource) (rows d) ≡ true = sym (tells_change p c.args.resource d c.part.ensures.valid c.requires c.steps.ensures.valid left c.in_ok-before.before before) ∙ told in
    let whole = c.of_whole.ensures ∙ c.in_ok-part.ensures.whole ∙ ap (λ (x : Content). content x.kind x.id (modified_at c.args.moment (rows x))) c.into_part.ensures.value in
    let kinds = c.in_ok-resource.ensures.kind in
    let ids = c.in_ok-resource.ensures.id in
    ap (λ (x : Content). Ok (x, true)) (whole ∙ (λ i. content (kinds i) (ids i) (modified_at c.args.moment (rows d))))
    ∙ sym (finished_so p c.args.moment c.args.resource c.requires few (rows d) true left same)

pub returns-clause-base : goal.returns-clause-base
returns-clause-base c = λ base has.
    (let whole = c.of_whole.ensures ∙ c.in_ok-part.ensures.whole ∙ ap (λ (x : Content). content x.kind x.id (modified_at c.args.moment (rows x))) c.into_part.ensures.value in
    subst (HasBase base) (sym whole) (stamped_base c.in_ok-resource.resource c.into_part.ensures.valid c.args.moment c.in_ok-part.ensures.bound base (c.in_ok-resource.ensures.base base has)))
