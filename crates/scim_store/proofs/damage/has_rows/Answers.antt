use Rattle.std.proofs.Common.{◌≡◌, sym, ◌∙◌, ap, true, false, map}
use Rattle.scim_cell.specs.Ids.{id_text}
use Rattle.scim_value.specs.Uniqueness.{name_of}
use Rattle.scim_store.specs.code.Damage.{owned_name, owned_member, ordered_names}
use Rattle.scim_store.proofs.DamageLemmas.{same_rising}
use Rattle.scim_store.proofs.damage.has_rows.Goals as goal

pub returns-then-not-are_names-clause-no : goal.returns-then-not-are_names-clause-no
returns-then-not-are_names-clause-no c = λ _ has.
    (let text : c.write-id.result.now ≡ id_text c.args.resource.now.id = c.write-id.ensures.value ∙ ap id_text c.id.ensures in
    let unique : map name_of c.as_slice.result.now ≡ ordered_names c.args.resource.now = ap (map name_of) c.as_slice.ensures.value ∙ c.in_ok-unique.ensures in
    let named : c.are_names.result ≡ true = c.are_names.ensures.1 (has.named ∙ (λ i. map (owned_name (sym text i)) (sym unique i))) in
    let never : true ≡ false = sym named ∙ c.if-not-are_names.true in cc)

pub returns-then-not-are_members-clause-no : goal.returns-then-not-are_members-clause-no
returns-then-not-are_members-clause-no c = λ _ has.
    (let text : c.write-id.result.now ≡ id_text c.args.resource.now.id = c.write-id.ensures.value ∙ ap id_text c.id.ensures in
    let values = same_rising has.values c.in_ok-values.values.items has.rising c.in_ok-values.ensures.rising (λ v. has.listed v ∙ sym (c.in_ok-values.ensures.listed v)) ∙ sym c.as_slice-2.ensures.value in
    let listed : c.are_members.result ≡ true = c.are_members.ensures.1 (has.members_are ∙ (λ i. map (owned_member (sym text i)) (values i))) in
    let never : true ≡ false = sym listed ∙ c.if-not-are_members.true in cc)
