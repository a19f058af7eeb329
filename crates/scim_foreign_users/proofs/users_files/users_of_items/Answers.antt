use Rattle.std.proofs.Common.{◌∙◌, ap, List}
use Rattle.serde_json.specs.Data.{array, no_items}
use Rattle.serde_json.specs.Read.{read}
use Rattle.serde_json.specs.Written.{compact_text}
use Rattle.scim_cell.specs.Content.{Content}
use Rattle.scim_json.specs.Documents.{documents_and}
use Rattle.scim_foreign_users.proofs.ListLemmas.{list_reads, made_below}
use Rattle.scim_foreign_users.proofs.users_files.users_of_items.Goals as goal

pub returns-clause-users : goal.returns-clause-users
returns-clause-users c =
    let cs = c.in_ok-resources.resources.items in
    let made = c.in_ok-resources.ensures.made in (
      cs,
      made,
      record {
        below = made_below c.args.base.now c.args.now c.args.items.now c.args.ids.now cs made;
        reads = ap read (c.in_ok-list_text.ensures ∙ ap (λ (ds : List Content). compact_text (array (documents_and ds no_items))) c.as_slice.ensures.value) ∙ list_reads cs;
      },
    )
