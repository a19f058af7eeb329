use Rattle.std.proofs.Common.{◌++◌, refl, ap}
use Rattle.std.specs.Prelude.{codes}
use Rattle.std.specs.Option.{option_copied}
use Rattle.scim_schema.specs.Names.{endpoint}
use Rattle.scim_value.proofs.ValidityLemmas.{front_before, none_before}
use Rattle.scim_value.proofs.validity.base_of.Goals as goal

pub returns-in_err-before : goal.returns-in_err-before
returns-in_err-before c =
    let text = c.args.location.now in
    let id = c.args.id.now in
    let none = ap option_copied c.from_residual.ensures in
    let slash = none_before text id (codes "/") _ (option_copied c.from_residual.result) refl none c.in_err-before.ensures in
    none_before text (codes "/" ++ id) (endpoint c.args.kind) _ _ none none slash

pub returns-in_err-before-2 : goal.returns-in_err-before-2
returns-in_err-before-2 c =
    let text = c.args.location.now in
    let id = c.args.id.now in
    let first = c.in_ok-before.field-0.now in
    let slash = front_before text first id (codes "/") _ ((c.in_ok-before.ensures first).0 refl) c.in_err-before-2.ensures in
    none_before text (codes "/" ++ id) (endpoint c.args.kind) _ _ refl (ap option_copied c.from_residual-in_err-before-2.ensures) slash

pub returns : goal.returns
returns c =
    let text = c.args.location.now in
    let id = c.args.id.now in
    let first = c.in_ok-before.field-0.now in
    let second = c.in_ok-before-2.field-0.now in
    let slash = front_before text first id (codes "/") _ ((c.in_ok-before.ensures first).0 refl) c.in_ok-before-2.ensures in
    rw (← c.endpoint.ensures) (front_before text second (codes "/" ++ id) c.endpoint.result.now _ ((slash second).0 refl) c.before-4.ensures)
