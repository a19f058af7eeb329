use Rattle.std.proofs.Common.{rules, ◌≡◌, ◌∷◌, [], sym, ap, ◌∙◌}
use Rattle.scim_store_tables.proofs.SchemaLemmas.{alone}
use Rattle.scim_store_tables.proofs.schema.is_only.Goals as goal

pub returns-in-len1-clause-yes : goal.returns-in-len1-clause-yes
returns-in-len1-clause-yes c holds =
    let same : c.as_slice.result.now ≡ c.args.places.now = search rules in
    alone c.args.uniques.now c.only-item.result c.in-len1.len_at_least c.in-len1.len_below c.only-item.is ∙ ap (λ p. p ∷ []) (sym c.as_slice.ensures ∙ same)
