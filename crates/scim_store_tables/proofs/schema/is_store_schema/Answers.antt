use Rattle.std.proofs.Common.{rules, ◌≡◌, [], sym, ap, ◌∙◌}
use Rattle.sqlite_schema.specs.declared.schema.Schema.{Schema}
use Rattle.scim_store_tables.specs.Tables.{store_schema}
use Rattle.scim_store_tables.specs.code.Schema.{store_tables, store_indexes}
use Rattle.scim_store_tables.proofs.SchemaLemmas.{indexes_are}
use Rattle.scim_store_tables.proofs.schema.is_store_schema.Goals as goal

pub returns-clause-yes : goal.returns-clause-yes
returns-clause-yes c holds =
    let t : c.args.schema.now.tables ≡ store_tables = search rules in
    let x : c.args.schema.now.indexes ≡ store_indexes = search rules in
    let v : c.args.schema.now.views ≡ [] = search rules in
    let same : c.args.schema.now.indexes ≡ store_schema.indexes = x ∙ sym indexes_are in
    λ i. record { tables = t i; indexes = same i; views = v i }

pub returns-then-not-are_indexes-clause-no : goal.returns-then-not-are_indexes-clause-no
returns-then-not-are_indexes-clause-no c fails is =
    let x : c.args.schema.now.indexes ≡ store_indexes = ap (λ (s : Schema). s.indexes) is ∙ indexes_are in
    search (rules, x)
