use Rattle.std.proofs.Common.{subst}
use Rattle.std.specs.Prelude.{IfSome}
use Rattle.std.specs.Option.{option_copied}
use Rattle.scim_store.specs.code.Damage.{IsRowOf}
use Rattle.scim_store.specs.code.Passing.{Follows}
use Rattle.scim_store.proofs.passing.pass_row.Goals as goal

pub returns : goal.returns
returns g c =
    let code = option_copied c.code_at-door_code.result in
    record {
      content = c.in-Some.resource;
      code = code;
      code_utf8 = c.code_at-door_code.ensures;
      row_is = subst (λ found. IfSome found (IsRowOf c.args.version c.args.base.now c.args.row.now code)) c.in-Some.is c.in_ok-resource.ensures.some;
      follows = subst (λ found. IfSome found (Follows c.args.tables.now c.in-Some.resource c.args.passed)) c.in-Some-2.is c.in_ok-next.ensures;
      took = c.in_ok-take.ensures;
    }
