use Rattle.std.proofs.Common.{◌≡◌, ◌+◌, ◌∙◌, sym, ap, subst, map, Some}
use Rattle.scim_cell.specs.Ids.{id_text}
use Rattle.scim_value.specs.Uniqueness.{name_of}
use Rattle.scim_store.specs.Damage.{Tables}
use Rattle.scim_store.specs.code.Damage.{owned_name, owned_member, owned_code, ordered_names}
use Rattle.scim_store.specs.code.Passing.{IsAbove, AreNext}
use Rattle.scim_store.proofs.passing.behind.Goals as goal

pub returns : goal.returns
returns c =
    let resource = c.args.resource.now in
    let passed = c.args.passed in
    let tables = c.args.tables.now in
    let text : c.write-id.result.now ≡ id_text resource.id = c.write-id.ensures.value ∙ ap id_text c.id-2.ensures in
    let unique : map name_of c.as_slice-4.result.now ≡ ordered_names resource = ap (map name_of) c.as_slice-4.ensures.value ∙ c.in_ok-unique.ensures in
    let named = c.as_slice.ensures.value ∙ ap (λ (t : Tables). t.names) c.tables.view_is in
    let listed = c.as_slice-2.ensures.value ∙ ap (λ (t : Tables). t.members) c.tables.view_is in
    let coded = c.as_slice-3.ensures.value ∙ ap (λ (t : Tables). t.secrets) c.tables.view_is in
    let own_names = c.in-Some.names.now in
    let own_members = c.in-Some-next_rows.members.now in
    let own_secrets = c.in-Some-next_rows-2.secrets.now in
    record {
      above = subst (λ id. IsAbove id passed.last) c.id.ensures (c.is_above.ensures c.if-not-is_above.false);
      own_names = own_names;
      own_members = own_members;
      own_secrets = own_secrets;
      has = record {
        named = c.are_names.ensures.0 c.if-not-are_names.false ∙ (λ i. map (owned_name (text i)) (unique i));
        values = c.in_ok-values.values.items;
        rising = c.in_ok-values.ensures.rising;
        listed = c.in_ok-values.ensures.listed;
        members_are = c.are_members.ensures.0 c.if-not-are_members.false ∙ (λ i. map (owned_member (text i)) (c.as_slice-else-not-are_names.ensures.value i));
        coded = c.are_secrets.ensures.0 c.if-not-are_secrets.false ∙ (λ i. owned_code (text i) (c.door_code_of-door_code.ensures.code i));
      };
      names = subst (λ rows. AreNext rows passed.names own_names (passed.names + c.len-3.result)) named (subst (λ n. AreNext c.as_slice.result.now passed.names own_names (passed.names + n)) (c.len.ensures ∙ sym c.len-3.ensures) c.in-Some.ensures);
      members = subst (λ rows. AreNext rows passed.members own_members (passed.members + c.len-4.result)) listed (subst (λ n. AreNext c.as_slice-2.result.now passed.members own_members (passed.members + n)) (c.len-2.ensures ∙ sym c.len-4.ensures) c.in-Some-next_rows.ensures);
      secrets = subst (λ rows. AreNext rows passed.secrets own_secrets (passed.secrets + c.code_count-count.result)) coded c.in-Some-next_rows-2.ensures;
      last = ap Some c.id-3.ensures;
    }
