use Rattle.std.proofs.Common.{◌∙◌, ap, ℕ, List, ◌++◌}
use Rattle.std.specs.Prelude.{codes}
use Rattle.std.specs.List.{join_by}
use Rattle.scim_json.specs.Stored.{stored_text}
use Rattle.scim_command_database.specs.Exports.{users_and_groups}
use Rattle.scim_command_database.proofs.ExportLemmas.{all_written}
use Rattle.scim_command_database.proofs.exporting.export_text.Goals as goal

pub returns-clause-text : goal.returns-clause-text
returns-clause-text g c = λ store stands honest.
    let all = users_and_groups store.resources in
    let begun = c.in_ok-documents.ensures in
    let written = all_written all c.in_ok-documents.documents c.show_all.new.visitor begun.1 (c.in_ok-show_all.ensures.shown store stands honest) in
    c.in_ok-finish.ensures
    ∙ ap (λ (text : List ℕ). text ++ codes "]\n") (written ∙ ap (λ (text : List ℕ). text ++ join_by stored_text (codes ",\n") all) begun.0)
