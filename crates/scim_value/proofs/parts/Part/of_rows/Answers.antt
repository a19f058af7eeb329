use Rattle.scim_value.proofs.TieLemmas.{rows_content, part_content}
use Rattle.scim_value.proofs.parts.Part.of_rows.Goals as goal

pub returns-clause-rows : goal.returns-clause-rows
returns-clause-rows c = rows_content c.args.kind c.args.id c.args.rows.items c.requires

pub returns-clause-valid : goal.returns-clause-valid
returns-clause-valid c = part_content c.args.kind c.args.id c.args.rows.items c.requires
