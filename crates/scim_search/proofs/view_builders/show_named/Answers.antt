use Rattle.std.proofs.Common.{sym, ◌∙◌, subst, List, [], ◌∷◌, ◌++◌}
use Rattle.std.proofs.lemmas.List.{append-nil}
use Rattle.scim_cell.specs.Content.{Content}
use Rattle.scim_cell.specs.Rows.{Test}
use Rattle.scim_value.specs.Changes.{restricted_part}
use Rattle.scim_policy.specs.PatternTable.{last_decision}
use Rattle.scim_view.specs.View.{may_be_seen_of}
use Rattle.scim_query.specs.Pagers.{HasTaken}
use Rattle.scim_search.proofs.WalkLemmas.{made_attributes, named_part, seen_by}
use Rattle.scim_search.proofs.VisitLemmas.{ok_by}
use Rattle.scim_search.proofs.view_builders.show_named.Goals as goal

pub returns-then-not-shows_id-clause-taken : goal.returns-then-not-shows_id-clause-taken
returns-then-not-shows_id-clause-taken c v parts own was =
    let seen = c.shows_id.ensures ∙ seen_by v c.args.resource.now c.args.patterns.now own in
    rw (sym seen ∙ c.if-not-shows_id.true) (rw (append-nil parts) was)

pub returns-then-is_plain_on-clause-taken : goal.returns-then-is_plain_on-clause-taken
returns-then-is_plain_on-clause-taken c =
    let test = c.new-test.result in
    let keeps : Test = may_be_seen_of test.attributes.now (λ r. last_decision test.seen.patterns.now) test.seen.kind in
    ok_by c.push_where.result _ _
    (λ (taken : (parts : List Content) → HasTaken parts c.args.pager.now → HasTaken (parts ++ restricted_part keeps c.part.result.now ∷ []) c.push_where.new.self) v parts own was.
    let resource = c.args.resource.now in
    let seen = c.shows_id.ensures ∙ seen_by v resource c.args.patterns.now own in
    rw (sym seen ∙ c.if-not-shows_id.false)
    (subst (λ (p : Content). HasTaken (parts ++ p ∷ []) c.push_where.new.self)
    (named_part test c.args.attributes c.kind.result c.args.patterns v c.part.result.now resource c.new-test.ensures c.kind.ensures c.part.ensures.value c.part.ensures.valid.part (c.is_plain_on.ensures c.if-is_plain_on.true) own)
    (taken parts was)))
    c.push_where.ensures.taken

pub returns-clause-taken : goal.returns-clause-taken
returns-clause-taken c =
    ok_by c.push.result _ _
    (λ (taken : (parts : List Content) → HasTaken parts c.args.pager.now → HasTaken (parts ++ c.in_ok-part.part ∷ []) c.push.new.self) v parts own was.
    let resource = c.args.resource.now in
    let seen = c.shows_id.ensures ∙ seen_by v resource c.args.patterns.now own in
    rw (sym seen ∙ c.if-not-shows_id.false)
    (subst (λ (p : Content). HasTaken (parts ++ p ∷ []) c.push.new.self)
    (c.in_ok-part.ensures ∙ made_attributes c.args.attributes.now c.args.patterns.now v resource own)
    (taken parts was)))
    c.push.ensures.taken
