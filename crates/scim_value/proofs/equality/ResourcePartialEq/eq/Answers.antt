use Rattle.std.proofs.Common.{◌≡◌, ◌∙◌, sym}
use Rattle.scim_value.specs.Equality.{is_same_part, is_same_part-Decides}
use Rattle.scim_value.proofs.equality.ResourcePartialEq.eq.Goals as goal

pub returns-clause-exact : goal.returns-clause-exact
returns-clause-exact c =
    let tested : c.eq.result ≡ is_same_part c.args.self.now c.args.other.now = rw (c.part.ensures.value, c.part-2.ensures.value) at c.eq.ensures in
    let decides = is_same_part-Decides c.args.self.now c.args.other.now in
    (λ t. decides.0 (sym tested ∙ t), λ e. tested ∙ decides.1 e)
