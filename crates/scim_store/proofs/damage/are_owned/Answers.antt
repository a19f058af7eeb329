use Rattle.std.proofs.Common.{◌∙◌, sym, ap, subst, true, false}
use Rattle.std.specs.Prelude.{All}
use Rattle.scim_store.specs.Owners.{HasOwner}
use Rattle.scim_store.specs.Damage.{Tables}
use Rattle.scim_store.proofs.DamageLemmas.{true_or}
use Rattle.scim_store.proofs.damage.are_owned.Goals as goal

pub returns-then-not-have_owners : goal.returns-then-not-have_owners
returns-then-not-have_owners c =
    let rows = c.as_slice.ensures.value ∙ ap (λ (t : Tables). t.resources) c.tables.view_is in (
      (λ never. absurd cc),
      (λ all. absurd (c.have_owners.ensures.no c.if-not-have_owners.true (subst (All HasOwner) (sym rows) all.resources))),
    )

pub returns-then-not-have_owners-2 : goal.returns-then-not-have_owners-2
returns-then-not-have_owners-2 c =
    let rows = c.as_slice-2.ensures.value ∙ ap (λ (t : Tables). t.names) c.tables.view_is in (
      (λ never. absurd cc),
      (λ all. absurd (c.have_owners-2.ensures.no c.if-not-have_owners-2.true (subst (All HasOwner) (sym rows) all.names))),
    )

pub returns-then-not-have_owners-3 : goal.returns-then-not-have_owners-3
returns-then-not-have_owners-3 c =
    let rows = c.as_slice-3.ensures.value ∙ ap (λ (t : Tables). t.members) c.tables.view_is in (
      (λ never. absurd cc),
      (λ all. absurd (c.have_owners-3.ensures.no c.if-not-have_owners-3.true (subst (All HasOwner) (sym rows) all.members))),
    )

pub returns : goal.returns
returns c =
    let r = c.as_slice.ensures.value ∙ ap (λ (t : Tables). t.resources) c.tables.view_is in
    let n = c.as_slice-2.ensures.value ∙ ap (λ (t : Tables). t.names) c.tables.view_is in
    let m = c.as_slice-3.ensures.value ∙ ap (λ (t : Tables). t.members) c.tables.view_is in
    let s = c.as_slice-4.ensures.value ∙ ap (λ (t : Tables). t.secrets) c.tables.view_is in (
      (λ yes'. record {
        resources = subst (All HasOwner) r (c.have_owners.ensures.yes c.if-not-have_owners.false);
        names = subst (All HasOwner) n (c.have_owners-2.ensures.yes c.if-not-have_owners-2.false);
        members = subst (All HasOwner) m (c.have_owners-3.ensures.yes c.if-not-have_owners-3.false);
        secrets = subst (All HasOwner) s (c.have_owners-4.ensures.yes yes');
      }),
      (λ all. true_or c.have_owners-4.result (λ no. c.have_owners-4.ensures.no no (subst (All HasOwner) (sym s) all.secrets))),
    )
