use Rattle.std.proofs.Common.{rules, ◌∙◌, ap}
use Rattle.std.specs.Prelude.{is_none}
use Rattle.std.proofs.lemmas.Fn.{filter_same}
use Rattle.scim_value.specs.declared.uniqueness.UniqueName.{UniqueName}
use Rattle.scim_shelf.specs.Owners.{owner, is_among}
use Rattle.scim_shelf.proofs.OwnerLemmas.{among_filter, same_owner}
use Rattle.scim_shelf.proofs.owners.Owners.unowned.Goals as goal

pub returns : goal.returns
returns c = λ q.
    let test = λ (n : UniqueName). is_none (owner c.args.self.now n) in
    ap (is_among q) (filter_same _ test _ (λ x b f' h. (search rules, search rules)) _ _ c.retain.ensures.filtered)
    ∙ among_filter q test (λ n alike. ap is_none (same_owner c.args.self.now n q alike)) c.args.names.items
