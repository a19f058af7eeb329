use Rattle.std.proofs.Common.{subst, sym}
use Rattle.scim_store.specs.Damage.{AreOrdered, Judges}
use Rattle.scim_store.specs.Opening.{IsFor}
use Rattle.scim_store_tables.proofs.Facts.{altered_rows}
use Rattle.scim_store.proofs.OpenLemmas.{ordered_read, altered_read}
use Rattle.scim_store.proofs.examining.examine_altered.Goals as goal

pub returns-clause-examined : goal.returns-clause-examined
returns-clause-examined c = λ db is.
    (let base = c.args.base.now in
    let rows = c.args.rows in
    let v = c.args.version in
    let tables = c.resource_rows-tables.ensures in
    let ordered = subst AreOrdered (sym tables) (ordered_read v db rows (altered_rows db v rows is)) in
    let judged = subst (λ t. Judges v base t c.in_ok-judge_rows.field-0) tables (c.in_ok-judge_rows.ensures.judged ordered) in
    subst (IsFor base db) (sym c.of_altered.ensures) (altered_read base db v rows c.in_ok-judge_rows.field-0 is judged))
