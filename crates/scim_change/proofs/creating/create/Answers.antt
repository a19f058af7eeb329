use Rattle.std.proofs.Common.{◌≡◌, sym, ◌∙◌, ap, subst, ◌∷◌, ◌++◌}
use Rattle.scim_schema.specs.declared.Kind.{Kind}
use Rattle.scim_cell.specs.Rows.{content}
use Rattle.scim_value.specs.Resource.{HasBase}
use Rattle.scim_change.specs.Create.{id_row, meta_rows, created_rows, created}
use Rattle.scim_change.proofs.RowLemmas.{created_sound}
use Rattle.scim_change.proofs.CreateLemmas.{is_resource, has_base}
use Rattle.scim_change.proofs.creating.create.Goals as goal

pub of_rows-requires : goal.of_rows-requires
of_rows-requires c =
    let d = c.args.draft.now in
    let id = c.args.id in
    let moment = c.args.moment in
    let base = c.args.base.now in
    let meta = c.in_ok-meta.ensures.rows ∙ ap (λ (k : Kind). meta_rows k id moment base) c.kind-kind.ensures in
    let rows : c.in_ok-rows.rows.items ≡ created_rows d id moment base
    = c.in_ok-rows.ensures.rows ∙ (λ i. id_row id ∷ (c.rows.ensures.rows i ++ meta i)) in
    rw (rows, c.kind-kind.ensures) (created_sound d id moment base c.rows.ensures.valid c.in_ok-meta.ensures.bound)

pub of_whole-requires : goal.of_whole-requires
of_whole-requires c =
    let d = c.args.draft.now in
    let id = c.args.id in
    let moment = c.args.moment in
    let base = c.args.base.now in
    let meta = c.in_ok-meta.ensures.rows ∙ ap (λ (k : Kind). meta_rows k id moment base) c.kind-kind.ensures in
    let rows : c.in_ok-rows.rows.items ≡ created_rows d id moment base
    = c.in_ok-rows.ensures.rows ∙ (λ i. id_row id ∷ (c.rows.ensures.rows i ++ meta i)) in
    let whole : c.of_rows.result ≡ content d.kind id (created_rows d id moment base) = c.of_rows.ensures.whole ∙ (λ i. content (c.kind-kind.ensures i) id (rows i)) in
    rw whole (is_resource d c.rows.ensures.valid id moment base c.in_ok-meta.ensures.bound c.in_ok-rows.ensures.id c.requires)

pub returns-clause-value : goal.returns-clause-value
unfolding created
returns-clause-value c =
    let d = c.args.draft.now in
    let id = c.args.id in
    let moment = c.args.moment in
    let base = c.args.base.now in
    let meta = c.in_ok-meta.ensures.rows ∙ ap (λ (k : Kind). meta_rows k id moment base) c.kind-kind.ensures in
    let rows : c.in_ok-rows.rows.items ≡ created_rows d id moment base
    = c.in_ok-rows.ensures.rows ∙ (λ i. id_row id ∷ (c.rows.ensures.rows i ++ meta i)) in
    c.of_whole.ensures ∙ c.of_rows.ensures.whole ∙ (λ i. content (c.kind-kind.ensures i) id (rows i))

pub returns-clause-base : goal.returns-clause-base
returns-clause-base c =
    let d = c.args.draft.now in
    let id = c.args.id in
    let moment = c.args.moment in
    let base = c.args.base.now in
    let meta = c.in_ok-meta.ensures.rows ∙ ap (λ (k : Kind). meta_rows k id moment base) c.kind-kind.ensures in
    let rows : c.in_ok-rows.rows.items ≡ created_rows d id moment base
    = c.in_ok-rows.ensures.rows ∙ (λ i. id_row id ∷ (c.rows.ensures.rows i ++ meta i)) in
    let whole : c.of_whole.result ≡ content d.kind id (created_rows d id moment base) = c.of_whole.ensures ∙ c.of_rows.ensures.whole ∙ (λ i. content (c.kind-kind.ensures i) id (rows i)) in
    subst (HasBase base) (sym whole) (has_base d c.rows.ensures.valid id moment base c.in_ok-meta.ensures.bound)
