use Rattle.std.proofs.Common.{refl, Some}
use Rattle.scim_policy.proofs.TableLemmas.{decided_written}
use Rattle.scim_policy.proofs.decisions.Decisions.add_attribute.Goals as goal

pub returns : goal.returns
returns c l =
    decided_written c.args.self.now _ c.grow.new.entries.items c.add_whole.new.self c.index_mut.result.now c.args.attribute (λ s. Some c.args.decision) l c.requires refl refl
    c.in_ok-grow.ensures.long c.in_ok-grow.ensures.same c.index_mut.ensures.value c.add_whole.ensures
