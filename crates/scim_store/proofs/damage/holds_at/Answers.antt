use Rattle.std.proofs.Common.{◌≡◌, ◌∙◌, ap, filter, subst, sym, ◌∷◌, []}
use Rattle.std.proofs.lemmas.Result.{IfOk-weaker}
use Rattle.scim_store_tables.specs.Lists.{has_text}
use Rattle.scim_store_tables.specs.Reading.{DoNotFall}
use Rattle.scim_store.specs.Damage.{Tables, rows_at}
use Rattle.scim_store.proofs.HoldLemmas.{holds_yes, holds_no, falls_less}
use Rattle.scim_store.proofs.damage.holds_at.Goals as goal

pub returns-clause-yes : goal.returns-clause-yes
returns-clause-yes c = λ ordered.
    (let text = c.write-text.ensures.value in
    let rs = c.as_slice.ensures.value ∙ ap (λ (t : Tables). t.resources) c.tables.view_is in
    let ns = c.as_slice-2.ensures.value ∙ ap (λ (t : Tables). t.names) c.tables.view_is in
    let ms = c.as_slice-3.ensures.value ∙ ap (λ (t : Tables). t.members) c.tables.view_is in
    let ss = c.as_slice-4.ensures.value ∙ ap (λ (t : Tables). t.secrets) c.tables.view_is in
    let r = c.rows_of-resources.ensures (subst (DoNotFall (0 ∷ [])) (sym rs) ordered.resources) ∙ (λ i. filter (has_text 0 (text i)) (rs i)) in
    let n = c.rows_of-names.ensures (subst (DoNotFall (0 ∷ [])) (sym ns) (falls_less (1 ∷ 2 ∷ []) c.args.tables.now.names ordered.names)) ∙ (λ i. filter (has_text 0 (text i)) (ns i)) in
    let m = c.rows_of-members.ensures (subst (DoNotFall (0 ∷ [])) (sym ms) (falls_less (1 ∷ []) c.args.tables.now.members ordered.members)) ∙ (λ i. filter (has_text 0 (text i)) (ms i)) in
    let s = c.rows_of-secrets.ensures (subst (DoNotFall (0 ∷ [])) (sym ss) ordered.secrets) ∙ (λ i. filter (has_text 0 (text i)) (ss i)) in
    let rows : Tables = record { resources = c.rows_of-resources.result.now; names = c.rows_of-names.result.now; members = c.rows_of-members.result.now; secrets = c.rows_of-secrets.result.now } in
    let are : rows ≡ rows_at c.args.id c.args.tables.now = λ i. record { resources = r i; names = n i; members = m i; secrets = s i } in
    IfOk-weaker c.are_of_one.result _ _ (λ holds f yes'. holds_yes c.args.version c.args.base.now c.args.tables.now c.args.id rows are (f yes')) c.are_of_one.ensures.yes)

pub returns-clause-no : goal.returns-clause-no
returns-clause-no c = λ ordered.
    (let text = c.write-text.ensures.value in
    let rs = c.as_slice.ensures.value ∙ ap (λ (t : Tables). t.resources) c.tables.view_is in
    let ns = c.as_slice-2.ensures.value ∙ ap (λ (t : Tables). t.names) c.tables.view_is in
    let ms = c.as_slice-3.ensures.value ∙ ap (λ (t : Tables). t.members) c.tables.view_is in
    let ss = c.as_slice-4.ensures.value ∙ ap (λ (t : Tables). t.secrets) c.tables.view_is in
    let r = c.rows_of-resources.ensures (subst (DoNotFall (0 ∷ [])) (sym rs) ordered.resources) ∙ (λ i. filter (has_text 0 (text i)) (rs i)) in
    let n = c.rows_of-names.ensures (subst (DoNotFall (0 ∷ [])) (sym ns) (falls_less (1 ∷ 2 ∷ []) c.args.tables.now.names ordered.names)) ∙ (λ i. filter (has_text 0 (text i)) (ns i)) in
    let m = c.rows_of-members.ensures (subst (DoNotFall (0 ∷ [])) (sym ms) (falls_less (1 ∷ []) c.args.tables.now.members ordered.members)) ∙ (λ i. filter (has_text 0 (text i)) (ms i)) in
    let s = c.rows_of-secrets.ensures (subst (DoNotFall (0 ∷ [])) (sym ss) ordered.secrets) ∙ (λ i. filter (has_text 0 (text i)) (ss i)) in
    let rows : Tables = record { resources = c.rows_of-resources.result.now; names = c.rows_of-names.result.now; members = c.rows_of-members.result.now; secrets = c.rows_of-secrets.result.now } in
    let are : rows ≡ rows_at c.args.id c.args.tables.now = λ i. record { resources = r i; names = n i; members = m i; secrets = s i } in
    IfOk-weaker c.are_of_one.result _ _ (λ holds f no at. f no (holds_no c.args.version c.args.base.now c.args.tables.now c.args.id rows are ordered.names ordered.members at)) c.are_of_one.ensures.no)
