use Rattle.std.proofs.Common.{◌≡◌, ◌<◌, sym, ◌∙◌, ap, true, false, map, length, arith}
use Rattle.std.proofs.lemmas.List.{get_or-map, length-map}
use Rattle.scim_value.specs.Uniqueness.{name_of}
use Rattle.scim_store.specs.code.Damage.{triple_of, owned_name}
use Rattle.scim_store.proofs.DamageLemmas.{images_more, image_at, triple_is, triple_has}
use Rattle.scim_store.proofs.damage.are_names.Goals as goal

pub returns-then-not-is_triple : goal.returns-then-not-is_triple
returns-then-not-is_triple c =
    let k = c.loop-at.at in
    let low : k < length c.args.names.now = omega arith in (
      (λ no. absurd cc),
      (λ is.
          (let row : c.index-rows-at.result ≡ owned_name c.args.id.now (name_of c.index-names-at.result) = image_at (owned_name c.args.id.now) c.args.rows.now (map name_of c.args.names.now) k c.index-rows-at.result (name_of c.index-names-at.result) is (omega (arith, low, length-map c.args.names.now name_of)) c.index-rows-at.is (ap name_of c.index-names-at.is ∙ sym (get_or-map name_of c.args.names.now k _ _ low)) in
          let yes : c.is_triple.result ≡ true = c.is_triple.ensures ∙ triple_has c.args.id.now c.name.result.now c.as_str.result.now c.index-rows-at.result (row ∙ (λ i. triple_of c.args.id.now (sym c.name.ensures i) (sym c.as_str.ensures.value i))) in
          let c : false ≡ true = sym c.if-not-is_triple.true ∙ yes in c)),
    )

pub loop-at-preserved : goal.loop-at-preserved
loop-at-preserved c =
    let id = c.args.id.now in
    let k = c.loop-at.at in
    let low : k < length c.args.names.now = omega arith in
    let same : c.index-rows-at.result ≡ owned_name id (name_of c.index-names-at.result) =
    triple_is id c.name.result.now c.as_str.result.now c.index-rows-at.result (sym c.is_triple.ensures ∙ c.if-not-is_triple.false) ∙ (λ i. triple_of id (c.name.ensures i) (c.as_str.ensures.value i)) in
    images_more (owned_name id) c.args.rows.now (map name_of c.args.names.now) k c.index-rows-at.result (name_of c.index-names-at.result) c.loop-at.invariant (omega arith) (omega (arith, low, length-map c.args.names.now name_of)) c.index-rows-at.is
    (ap name_of c.index-names-at.is ∙ sym (get_or-map name_of c.args.names.now k _ _ low)) same
