use Rattle.std.proofs.Common.{sym, ◌∙◌, ap, List, ℕ, length}
use Rattle.std.specs.Prelude.{not, ◌==◌}
use Rattle.scim_cell.specs.Content.{Content}
use Rattle.scim_view.specs.Groups.{seen}
use Rattle.scim_view.specs.code.Index.{positions_of}
use Rattle.scim_view.proofs.IndexLemmas.{listed}
use Rattle.scim_view.proofs.UnlistedLemmas.{unlisted}
use Rattle.scim_view.proofs.group_index.GroupIndex.has_groups.Goals as goal

pub returns-clause-listed : goal.returns-clause-listed
returns-clause-listed c v groups made =
    let index = c.args.self.now in
    let own = c.args.resource.now in
    let id = c.id.ensures ∙ ap (λ (p : Content). p.id) c.part-part.ensures.value in
    ap not (c.is_empty.ensures ∙ ap (λ (ps : List ℕ). length ps == 0) (c.positions_of.ensures ∙ ap (positions_of index) id))
    ∙ listed (seen v groups) index own.id made c.part-part.ensures.valid.identified.0

pub returns-clause-none : goal.returns-clause-none
returns-clause-none c fails v groups made =
    let own = c.args.resource.now in
    unlisted v groups own c.part-part.ensures.valid.part (sym (returns-clause-listed c v groups made) ∙ fails)
