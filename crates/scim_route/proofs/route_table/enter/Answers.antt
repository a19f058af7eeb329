use Rattle.std.proofs.Common.{sym}
use Rattle.matchit.specs.Route.{parse_route}
use Rattle.scim_route.proofs.TableLemmas.{entered}
use Rattle.scim_route.proofs.route_table.enter.Goals as goal

pub returns : goal.returns
returns c = entered (parse_route c.args.path.now) c.args.leads c.args.router.now c.insert.new.self c.insert.result c.insert.ensures (sym c.if-is_err.ensures.value)
