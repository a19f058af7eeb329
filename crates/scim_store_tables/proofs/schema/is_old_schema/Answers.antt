use Rattle.std.proofs.Common.{rules, ◌≡◌, [], sym, ap, ◌∙◌}
use Rattle.sqlite_schema.specs.declared.schema.Schema.{Schema}
use Rattle.scim_store_tables.specs.Tables.{old_schema}
use Rattle.scim_store_tables.specs.code.Schema.{old_tables, old_indexes}
use Rattle.scim_store_tables.proofs.SchemaLemmas.{old_indexes_are}
use Rattle.scim_store_tables.proofs.schema.is_old_schema.Goals as goal

pub returns-clause-yes : goal.returns-clause-yes
returns-clause-yes c holds =
    let t : c.args.schema.now.tables ≡ old_tables = search rules in
    let x : c.args.schema.now.indexes ≡ old_indexes = search rules in
    let v : c.args.schema.now.views ≡ [] = search rules in
    let same : c.args.schema.now.indexes ≡ old_schema.indexes = x ∙ sym old_indexes_are in
    λ i. record { tables = t i; indexes = same i; views = v i }

pub returns-then-not-are_old_indexes-clause-no : goal.returns-then-not-are_old_indexes-clause-no
returns-then-not-are_old_indexes-clause-no c fails is =
    let x : c.args.schema.now.indexes ≡ old_indexes = ap (λ (s : Schema). s.indexes) is ∙ old_indexes_are in
    search (rules, x)
