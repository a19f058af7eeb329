use Rattle.std.proofs.Common.{◌≡◌, sym, subst, ℕ, List}
use Rattle.std.specs.Prelude.{Some, find}
use Rattle.std.proofs.lemmas.Option.{IfSome_then}
use Rattle.scim_shelf.specs.Stores.{is_at}
use Rattle.scim_search.proofs.read_patterns.ReadPatterns.known.Goals as goal

pub returns-in-None : goal.returns-in-None
returns-in-None c v kind cs are recalls found =
    IfSome_then c.of.result (c.of.ensures.recalls v kind cs recalls)
    (λ ds on. on c.args.resource.now (subst (λ (id : List ℕ). find (is_at kind id) cs ≡ Some c.args.resource.now) (sym c.id.ensures) found))
