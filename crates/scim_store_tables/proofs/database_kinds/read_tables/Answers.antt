use Rattle.std.proofs.Common.{rules, ◌≡◌}
use Rattle.sqlite.specs.Held.{state}
use Rattle.sqlite.proofs.StateLemmas.{survives_weaker}
use Rattle.scim_store_tables.specs.Tables.{old_schema, store_schema}
use Rattle.scim_store_tables.specs.declared.versions.Version.TheVariants.{One, Two}
use Rattle.scim_store_tables.proofs.StepLemmas.{if_then}
use Rattle.scim_store_tables.proofs.WholeLemmas.{is_reading, names_no_tables}
use Rattle.scim_store_tables.proofs.database_kinds.read_tables.Goals as goal

pub returns-then-is_store_schema-clause-survives : goal.returns-then-is_store_schema-clause-survives
returns-then-is_store_schema-clause-survives g c =
    let old = state g.S.Store c.args.conn.now in
    let has : old.now.schema ≡ store_schema = search rules in
    survives_weaker old (state g.S.Store c.reading_by_rows.new.conn) _ _ (λ _ db other. other has) c.reading_by_rows.ensures.spares

pub returns-then-is_store_schema-clause-read : goal.returns-then-is_store_schema-clause-read
returns-then-is_store_schema-clause-read g c clean =
    let old = state g.S.Store c.args.conn.now in
    let has : old.now.schema ≡ store_schema = search rules in
    if_then c.reading_by_rows.result _ _ (λ reading told. is_reading Two old (state g.S.Store c.reading_by_rows.new.conn) reading has told) (c.reading_by_rows.ensures.told clean (λ _. has))

pub returns-then-is_store_schema-clause-rests : goal.returns-then-is_store_schema-clause-rests
returns-then-is_store_schema-clause-rests g c clean =
    let has : (state g.S.Store c.args.conn.now).now.schema ≡ store_schema = search rules in
    c.reading_by_rows.ensures.rests clean (λ _. has)

pub returns-then-is_store_schema-clause-opened : goal.returns-then-is_store_schema-clause-opened
returns-then-is_store_schema-clause-opened g c clean =
    let has : (state g.S.Store c.args.conn.now).now.schema ≡ store_schema = search rules in
    if_then c.reading_by_rows.result _ _ (λ kind told version rows is. told.0.0.was_open) (c.reading_by_rows.ensures.told clean (λ _. has))

pub returns-then-is_old_schema-clause-survives : goal.returns-then-is_old_schema-clause-survives
returns-then-is_old_schema-clause-survives g c =
    let old = state g.S.Store c.args.conn.now in
    let has : old.now.schema ≡ old_schema = search rules in
    survives_weaker old (state g.S.Store c.reading_by_rows-then-is_old_schema.new.conn) _ _ (λ _ db other. other has) c.reading_by_rows-then-is_old_schema.ensures.spares

pub returns-then-is_old_schema-clause-read : goal.returns-then-is_old_schema-clause-read
returns-then-is_old_schema-clause-read g c clean =
    let old = state g.S.Store c.args.conn.now in
    let has : old.now.schema ≡ old_schema = search rules in
    if_then c.reading_by_rows-then-is_old_schema.result _ _ (λ reading told. is_reading One old (state g.S.Store c.reading_by_rows-then-is_old_schema.new.conn) reading has told) (c.reading_by_rows-then-is_old_schema.ensures.told clean (λ _. has))

pub returns-then-is_old_schema-clause-rests : goal.returns-then-is_old_schema-clause-rests
returns-then-is_old_schema-clause-rests g c clean =
    let has : (state g.S.Store c.args.conn.now).now.schema ≡ old_schema = search rules in
    c.reading_by_rows-then-is_old_schema.ensures.rests clean (λ _. has)

pub returns-then-is_old_schema-clause-opened : goal.returns-then-is_old_schema-clause-opened
returns-then-is_old_schema-clause-opened g c clean =
    let has : (state g.S.Store c.args.conn.now).now.schema ≡ old_schema = search rules in
    if_then c.reading_by_rows-then-is_old_schema.result _ _ (λ kind told version rows is. told.0.0.was_open) (c.reading_by_rows-then-is_old_schema.ensures.told clean (λ _. has))

pub returns-then-has_table-clause-opened : goal.returns-then-has_table-clause-opened
returns-then-has_table-clause-opened g c clean =
    if_then c.reading_by_setting.result _ _ (λ kind told version rows is. told.0.0.was_open) (c.reading_by_setting.ensures.told clean)

pub returns-clause-opened : goal.returns-clause-opened
returns-clause-opened g c clean = λ version rows is. names_no_tables c.schema-4.result.now c.reading_by_names.result version rows c.reading_by_names.ensures is
