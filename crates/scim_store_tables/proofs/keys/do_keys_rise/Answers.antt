use Rattle.std.proofs.Common.{rules, ◌≡◌, false, arith}
use Rattle.sqlite.specs.declared.types.Value.TheVariants.{Int}
use Rattle.sqlite.specs.Tree.{rowid}
use Rattle.scim_store_tables.specs.code.Keys as spec
use Rattle.scim_store_tables.proofs.RiseLemmas.{not_rising, all_rise}
use Rattle.scim_store_tables.proofs.keys.do_keys_rise.Goals as goal

pub returns-then-not-is_above-clause-no : goal.returns-then-not-is_above-clause-no
returns-then-not-is_above-clause-no c fails up =
    let at : rowid c.row-item.result ≡ Int c.in_ok-key.key = search rules in
    let above : spec.is_above c.loop-row.last c.in_ok-key.key ≡ false = search rules in
    not_rising c.args.rows.now c.loop-row.row-index c.row-item.result c.loop-row.last c.in_ok-key.key (omega arith) c.row-item.is c.loop-row.invariant.passed at above up

pub returns-clause-yes : goal.returns-clause-yes
returns-clause-yes c holds = all_rise c.args.rows.now c.loop-row.row-index c.loop-row.last (omega arith) c.loop-row.invariant.passed c.loop-row.invariant.numbers
