use Rattle.std.proofs.Common.{◌≡◌, ◌<◌, sym, ◌∙◌, ap, true, false, length, arith}
use Rattle.scim_store.specs.code.Damage.{pair_of, owned_member}
use Rattle.scim_store.proofs.DamageLemmas.{images_more, image_at, pair_is, pair_has}
use Rattle.scim_store.proofs.damage.are_members.Goals as goal

pub returns-then-not-is_pair : goal.returns-then-not-is_pair
returns-then-not-is_pair c =
    let k = c.loop-at.at in
    let low : k < length c.args.values.now = omega arith in (
      (λ no. absurd cc),
      (λ is.
          (let row : c.index-rows-at.result ≡ owned_member c.args.id.now c.index-values-at.result = image_at (owned_member c.args.id.now) c.args.rows.now c.args.values.now k c.index-rows-at.result c.index-values-at.result is low c.index-rows-at.is c.index-values-at.is in
          let yes : c.is_pair.result ≡ true = c.is_pair.ensures ∙ pair_has c.args.id.now c.as_str.result.now c.index-rows-at.result (row ∙ ap (pair_of c.args.id.now) (sym c.as_str.ensures)) in
          let c : false ≡ true = sym c.if-not-is_pair.true ∙ yes in c)),
    )

pub loop-at-preserved : goal.loop-at-preserved
loop-at-preserved c =
    let id = c.args.id.now in
    let same : c.index-rows-at.result ≡ owned_member id c.index-values-at.result = pair_is id c.as_str.result.now c.index-rows-at.result (sym c.is_pair.ensures ∙ c.if-not-is_pair.false) ∙ ap (pair_of id) c.as_str.ensures in
    images_more (owned_member id) c.args.rows.now c.args.values.now c.loop-at.at c.index-rows-at.result c.index-values-at.result c.loop-at.invariant (omega arith) (omega arith) c.index-rows-at.is c.index-values-at.is same
