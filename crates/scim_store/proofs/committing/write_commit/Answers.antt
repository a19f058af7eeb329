use Rattle.std.proofs.Common.{rules}
use Rattle.std.specs.Option.{option_copied}
use Rattle.scim_store_tables.proofs.Facts.{does_less}
use Rattle.scim_store.proofs.CommitLemmas.{written}
use Rattle.scim_store.proofs.committing.write_commit.Goals as goal

pub returns : goal.returns
returns g c =
    let commit = c.args.commit.now in
    record {
      does = does_less g.S.Store c.args.tx.now c.write_rows.new.tx _ tt _ _ c.in_ok-write_rows.ensures.does
          (written c.args.base.now commit.change.now commit.row.now (option_copied commit.old) c.in_ok-edits.edits c.args.number c.columns_of-columns.result c.columns_of-columns.ensures.values
          (λ store was. c.in_ok-edits.ensures c.args.base.now store.resources was (c.in_ok-keeps_below.ensures.0 (search rules))));
    }
