use Rattle.std.proofs.Common.{◌∙◌, refl, sym, ap, Option}
use Rattle.std.proofs.lemmas.Result.{on_ok_weaker}
use Rattle.scim_policy.specs.declared.rules.Decision.{Decision}
use Rattle.scim_policy.specs.Table.{or_else}
use Rattle.scim_policy.specs.Table.{decided}
use Rattle.scim_policy.specs.code.Walk.{by_name}
use Rattle.scim_policy.proofs.TableLemmas.{decided_written, by_path_name}
use Rattle.scim_policy.proofs.decisions.Decisions.add_sub_attribute.Goals as goal

pub returns : goal.returns
returns c =
    on_ok_weaker c.add_alone.result (λ added l.
    decided_written c.args.self.now _ c.grow.new.entries.items c.add_alone.new.self c.index_mut.result.now c.args.attribute (by_name c.args.sub_attribute c.args.decision) l c.requires refl refl
    c.in_ok-grow.ensures.long c.in_ok-grow.ensures.same c.index_mut.ensures.value added
    ∙ ap (λ (o : Option Decision). or_else (decided c.args.self.now l) o) (sym (by_path_name c.args.attribute c.args.sub_attribute c.args.decision l))) c.add_alone.ensures
