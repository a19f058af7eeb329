use Rattle.std.proofs.Common.{◌∙◌, sym, ◌++◌}
use Rattle.scim_schema.specs.declared.Op.TheVariants.{Modify, Delete}
use Rattle.scim_policy.specs.Access.{opened, widening}
use Rattle.scim_policy.specs.Opened.{opened_for_reading}
use Rattle.scim_policy.specs.Patterns.{decisions_of}
use Rattle.scim_policy.specs.PatternTable.{rules_in}
use Rattle.scim_policy.specs.Table.{decision}
use Rattle.scim_policy.proofs.AccessLemmas.{first_here, first_behind}
use Rattle.scim_policy.proofs.access_rights.Rights.widening.Goals as goal

pub returns-in-Some : goal.returns-in-Some
unfolding widening
returns-in-Some c =
    let read = opened_for_reading c.args.kind (λ l. decisions_of (rules_in c.args.self.now.read l)) (λ l. decisions_of (rules_in c.args.after.now.read l)) in
    let modify = opened c.args.kind Modify (decision c.args.self.now.modify) (decision c.args.after.now.modify) in
    let delete = opened c.args.kind Delete (decision c.args.self.now.delete) (decision c.args.after.now.delete) in
    sym (first_here read (modify ++ delete) c.in-Some.opened (sym c.in_ok-opened.ensures ∙ c.in-Some.is))

pub returns-in-Some-first_opened : goal.returns-in-Some-first_opened
unfolding widening
returns-in-Some-first_opened c =
    let read = opened_for_reading c.args.kind (λ l. decisions_of (rules_in c.args.self.now.read l)) (λ l. decisions_of (rules_in c.args.after.now.read l)) in
    let modify = opened c.args.kind Modify (decision c.args.self.now.modify) (decision c.args.after.now.modify) in
    let delete = opened c.args.kind Delete (decision c.args.self.now.delete) (decision c.args.after.now.delete) in
    sym (first_behind read (modify ++ delete) (sym c.in_ok-opened.ensures ∙ c.in_default.is)
    ∙ first_here modify delete c.in-Some-first_opened.opened (sym c.first_opened-2.ensures ∙ c.in-Some-first_opened.is))

pub returns : goal.returns
unfolding widening
returns c =
    let read = opened_for_reading c.args.kind (λ l. decisions_of (rules_in c.args.self.now.read l)) (λ l. decisions_of (rules_in c.args.after.now.read l)) in
    let modify = opened c.args.kind Modify (decision c.args.self.now.modify) (decision c.args.after.now.modify) in
    let delete = opened c.args.kind Delete (decision c.args.self.now.delete) (decision c.args.after.now.delete) in
    c.first_opened-3.ensures
    ∙ sym (first_behind read (modify ++ delete) (sym c.in_ok-opened.ensures ∙ c.in_default.is)
    ∙ first_behind modify delete (sym c.first_opened-2.ensures ∙ c.in_default-first_opened.is))
