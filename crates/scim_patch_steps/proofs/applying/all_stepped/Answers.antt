use Rattle.std.proofs.Common.{◌≡◌, ◌∙◌, sym, ap, subst}
use Rattle.std.specs.Prelude.{AllPairs, Ok, map}
use Rattle.scim_cell.specs.Content.{Content}
use Rattle.scim_cell.specs.Rows.{rows}
use Rattle.scim_value.specs.Resource.{IsResource, HasBase}
use Rattle.scim_value.proofs.Facts.{sound_part}
use Rattle.scim_patch_steps.specs.Patch.{all_stepped}
use Rattle.scim_patch_steps.specs.Kept.{step_of}
use Rattle.scim_patch_steps.specs.code.Groups.{joined}
use Rattle.scim_patch_steps.proofs.GroupLemmas.{Before}
use Rattle.scim_patch_steps.proofs.GroupStepLemmas.{left_of_apart}
use Rattle.scim_patch_steps.proofs.applying.all_stepped.Goals as goal

pub grouped-requires : goal.grouped-requires
grouped-requires c = subst (AllPairs Before) (sym c.into_parts-kind.ensures.rows) (sound_part c.into_part.result c.into_parts-kind.ensures.valid).in_order

pub groups_stepped-requires-clause-rows : goal.groups_stepped-requires-clause-rows
groups_stepped-requires-clause-rows c =
    let same = c.into_part.ensures.value in
    record {
      resource = c.args.resource;
      whole = c.into_part.ensures.valid;
      kind_is = sym (c.into_parts-kind.ensures.kind ∙ ap (λ (x : Content). x.kind) same);
      rows_are = sym (c.in_ok-groups.ensures.rows ∙ c.into_parts-kind.ensures.rows ∙ ap rows same);
    }

pub of_rows-requires : goal.of_rows-requires
of_rows-requires c =
    let left =
    (let same = c.into_part.ensures.value in
    let h : Ok c.in_ok-rows.rows.items ≡ all_stepped c.into_parts-kind.result.0 (map step_of c.args.steps.now) (Ok (joined c.in_ok-groups.groups.items)) = ap (λ rs. Ok rs) c.in_ok-rows.ensures ∙ c.in_ok-groups_stepped.ensures in
    left_of_apart c.args.resource c.into_part.ensures.valid c.into_parts-kind.result.0 c.into_parts-kind.result.1 (joined c.in_ok-groups.groups.items)
    (c.into_parts-kind.ensures.kind ∙ ap (λ (x : Content). x.kind) same) (c.into_parts-kind.ensures.id ∙ ap (λ (x : Content). x.id) same) (c.in_ok-groups.ensures.rows ∙ c.into_parts-kind.ensures.rows ∙ ap rows same)
    (map step_of c.args.steps.now) c.requires c.in_ok-rows.rows.items h) in left.0

pub of_whole-requires : goal.of_whole-requires
of_whole-requires c =
    let left =
    (let same = c.into_part.ensures.value in
    let h : Ok c.in_ok-rows.rows.items ≡ all_stepped c.into_parts-kind.result.0 (map step_of c.args.steps.now) (Ok (joined c.in_ok-groups.groups.items)) = ap (λ rs. Ok rs) c.in_ok-rows.ensures ∙ c.in_ok-groups_stepped.ensures in
    left_of_apart c.args.resource c.into_part.ensures.valid c.into_parts-kind.result.0 c.into_parts-kind.result.1 (joined c.in_ok-groups.groups.items)
    (c.into_parts-kind.ensures.kind ∙ ap (λ (x : Content). x.kind) same) (c.into_parts-kind.ensures.id ∙ ap (λ (x : Content). x.id) same) (c.in_ok-groups.ensures.rows ∙ c.into_parts-kind.ensures.rows ∙ ap rows same)
    (map step_of c.args.steps.now) c.requires c.in_ok-rows.rows.items h) in subst IsResource (sym c.of_rows.ensures.whole) left.1

pub returns-clause-base : goal.returns-clause-base
returns-clause-base c =
    let left =
    (let same = c.into_part.ensures.value in
    let h : Ok c.in_ok-rows.rows.items ≡ all_stepped c.into_parts-kind.result.0 (map step_of c.args.steps.now) (Ok (joined c.in_ok-groups.groups.items)) = ap (λ rs. Ok rs) c.in_ok-rows.ensures ∙ c.in_ok-groups_stepped.ensures in
    left_of_apart c.args.resource c.into_part.ensures.valid c.into_parts-kind.result.0 c.into_parts-kind.result.1 (joined c.in_ok-groups.groups.items)
    (c.into_parts-kind.ensures.kind ∙ ap (λ (x : Content). x.kind) same) (c.into_parts-kind.ensures.id ∙ ap (λ (x : Content). x.id) same) (c.in_ok-groups.ensures.rows ∙ c.into_parts-kind.ensures.rows ∙ ap rows same)
    (map step_of c.args.steps.now) c.requires c.in_ok-rows.rows.items h) in λ base has. subst (HasBase base) (sym (c.of_whole.ensures ∙ c.of_rows.ensures.whole)) (left.2 base has)
