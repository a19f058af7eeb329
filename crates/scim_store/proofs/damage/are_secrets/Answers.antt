use Rattle.std.proofs.Common.{◌≡◌, ◌∙◌, sym, ap, List, Option, Bor, ℕ, [], ◌∷◌}
use Rattle.std.specs.Option.{option_copied}
use Rattle.scim_store_tables.specs.Lists.{secret_values}
use Rattle.scim_store.specs.code.Damage.{owned_code}
use Rattle.scim_store.proofs.DamageLemmas.{one_pair, pair_there}
use Rattle.scim_store.proofs.damage.are_secrets.Goals as goal

pub returns-else-rows-ne1 : goal.returns-else-rows-ne1
returns-else-rows-ne1 c =
    let id = c.args.id.now in
    let text = c.in-Some.text.now in
    let row = c.index-rows-0.result in
    let code : owned_code id (option_copied c.args.door_code) ≡ secret_values id text ∷ [] = ap (λ (o : Option (Bor (List ℕ))). owned_code id (option_copied o)) c.in-Some.is in (
      (λ yes'. one_pair c.args.rows.now id text row c.if-rows-ne1.false c.index-rows-0.is (sym c.is_pair.ensures ∙ yes') ∙ sym code),
      (λ is. c.is_pair.ensures ∙ pair_there c.args.rows.now id text row c.index-rows-0.is (is ∙ code)),
    )
