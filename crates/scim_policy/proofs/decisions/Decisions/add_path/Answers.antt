use Rattle.std.proofs.Common.{◌∙◌, sym, refl, ap}
use Rattle.scim_policy.specs.declared.rules.PolicyPath.{PolicyPath}
use Rattle.scim_policy.specs.Table.{or_else}
use Rattle.scim_policy.specs.Table.{decided}
use Rattle.scim_policy.specs.code.Walk.{by_path}
use Rattle.scim_policy.proofs.TableLemmas.{all_known, rest_decided, none_of}
use Rattle.scim_policy.proofs.decisions.Decisions.add_path.Goals as goal

pub returns-then-is_some : goal.returns-then-is_some
returns-then-is_some c l = sym (all_known c.args.self.now l (by_path c.args.path c.args.decision l) (sym c.is_some.ensures ∙ c.if-is_some.true))

pub returns-in-Everything : goal.returns-in-Everything
returns-in-Everything c l =
    rest_decided c.args.self.now _ c.args.decision l (none_of _ (sym c.is_some.ensures ∙ c.if-is_some.false)) refl refl
    ∙ ap (λ (p : PolicyPath). or_else (decided c.args.self.now l) (by_path p c.args.decision l)) (sym c.in-Everything.is)
