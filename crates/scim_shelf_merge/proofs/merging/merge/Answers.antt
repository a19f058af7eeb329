use Rattle.std.proofs.Common.{◌≡◌, sym, ◌∙◌, ap, subst, List, Err}
use Rattle.scim_cell.specs.Content.{Content}
use Rattle.scim_json.specs.Documents.{IsDocumentsText}
use Rattle.scim_shelf_merge.specs.declared.faults.MergeFault.TheVariants.{Clash}
use Rattle.scim_shelf_merge.proofs.merging.merge.Goals as goal

pub returns-in_err-count-clause-clash : goal.returns-in_err-count-clause-clash
returns-in_err-count-clause-clash g c item clash told store stands honest is =
    let base = c.args.base.now in
    let file = subst (λ (cs : List Content). IsDocumentsText base c.args.users.now cs) (sym c.as_slice.ensures.value) c.in_ok-resources.ensures.documents in
    let came = rw told at c.from_residual-in_err-count.ensures in
    let fault : Clash item clash ≡ c.in_err-count.field-0.0 = came.1 in
    record {
      resources = c.as_slice.result.now;
      file = file;
      stops = c.merge_all.ensures.clash item clash (c.in_err-count.was ∙ ap Err (sym fault)) base store (c.begin_round.ensures.kept store stands) honest is file.0.below;
    }

pub returns-clause-merged : goal.returns-clause-merged
returns-clause-merged g c store stands honest is =
    let base = c.args.base.now in
    let file = subst (λ (cs : List Content). IsDocumentsText base c.args.users.now cs) (sym c.as_slice.ensures.value) c.in_ok-resources.ensures.documents in
    let made = c.in_ok-count.ensures.merged base store (c.begin_round.ensures.kept store stands) (c.settle.ensures.honest honest) is file.0.below in
    record {
      resources = c.as_slice.result.now;
      file = file;
      new = made.0;
      merges = made.1;
      stands = c.in_ok-settle.ensures.made made.0 made.2;
      is_store = made.3;
    }
