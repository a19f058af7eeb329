use Rattle.std.proofs.Common.{sym, ◌∙◌, ◌||◌}
use Rattle.scim_shelf.specs.Stores.{has_text_in}
use Rattle.scim_shelf.proofs.indexed_texts.values_beyond.Goals as goal

pub returns : goal.returns
returns c = λ t.
    let leaf = c.args.leaf in
    (λ i. has_text_in leaf t c.unshared_values.result.now || sym (c.indexed_values.ensures t) i)
    ∙ c.unshared_values.ensures t
    ∙ (λ i. c.indexed_values-2.ensures t i || c.indexed_values.ensures t i)
