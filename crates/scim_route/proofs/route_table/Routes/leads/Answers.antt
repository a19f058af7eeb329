use Rattle.std.proofs.Common.{sym, ap, ◌∙◌}
use Rattle.matchit.specs.Seek.{first}
use Rattle.matchit.specs.Router.{map_key}
use Rattle.matchit.proofs.RenameLemmas.{first-rename}
use Rattle.scim_route.proofs.route_table.Routes.leads.Goals as goal

pub returns-in-Ok : goal.returns-in-Ok
returns-in-Ok c =
    let answers = first-rename (λ r. r.value) c.args.self.now.router c.args.path.now in
    ap (map_key (λ r. r.value)) (sym c.in-Ok.ensures.found) ∙ sym answers ∙ ap (λ rs. first rs c.args.path.now) c.args.self.now.whole

pub returns-in-Err : goal.returns-in-Err
returns-in-Err c =
    let answers = first-rename (λ r. r.value) c.args.self.now.router c.args.path.now in
    ap (map_key (λ r. r.value)) (sym c.in-Err.ensures.missing) ∙ sym answers ∙ ap (λ rs. first rs c.args.path.now) c.args.self.now.whole
