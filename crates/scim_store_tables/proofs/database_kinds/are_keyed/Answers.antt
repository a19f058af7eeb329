use Rattle.std.proofs.Common.{subst}
use Rattle.sqlite.specs.Held.{state}
use Rattle.scim_store_tables.specs.code.Keys.{AreRising}
use Rattle.scim_store_tables.proofs.StepLemmas.{if_both}
use Rattle.scim_store_tables.proofs.ToldLemmas.{told_as, told_failed}
use Rattle.scim_store_tables.proofs.database_kinds.are_keyed.Goals as goal

pub returns : goal.returns
returns g c = λ v has.
    told_as _ _ (state g.S.Store c.args.conn.now) (state g.S.Store c.read_keys.new.conn) c.in_ok-keys.keys c.do_keys_rise.result (c.in_ok-keys.ensures v has)
    (if_both c.do_keys_rise.result _ _ _ (λ rise yes no schema keys. record {
      yes = λ holds. keys.sound (subst AreRising c.as_slice.ensures.value (yes holds));
      no = λ fails keyed. subst (λ xs. ¬ AreRising xs) c.as_slice.ensures.value (no fails) (keys.complete keyed);
    }) c.do_keys_rise.ensures.yes c.do_keys_rise.ensures.no)

pub returns-in_err-keys : goal.returns-in_err-keys
returns-in_err-keys g c = λ v has.
    told_failed _ _ (state g.S.Store c.args.conn.now) (state g.S.Store c.read_keys.new.conn) c.in_err-keys.field-0.0 c.from_residual.result c.from_residual.ensures.0 (c.in_err-keys.ensures v has)
