use Rattle.std.proofs.Common.{sym, ◌∙◌, ap, refl}
use Rattle.std.proofs.lemmas.Result.{IfOk-weaker}
use Rattle.scim_query.specs.Pages.{is_match}
use Rattle.scim_search.proofs.WalkLemmas.{made_attributes, named_part, seen_by}
use Rattle.scim_search.proofs.id_matches.is_seen_match.Goals as goal

pub returns-then-not-shows_id : goal.returns-then-not-shows_id
returns-then-not-shows_id c v own =
    let seen = c.shows_id.ensures ∙ seen_by v c.args.resource.now c.args.patterns.now own in
    rw (sym seen ∙ c.if-not-shows_id.true) refl

pub returns-then-is_plain_on : goal.returns-then-is_plain_on
returns-then-is_plain_on c =
    IfOk-weaker c.matches_where.result _ _
    (λ b same v own.
    let resource = c.args.resource.now in
    let seen = c.shows_id.ensures ∙ seen_by v resource c.args.patterns.now own in
    rw (sym seen ∙ c.if-not-shows_id.false)
    (same ∙ ap (is_match c.args.query.now.filter)
    (named_part c.new-test.result c.args.attributes c.kind.result c.args.patterns v c.part.result.now resource c.new-test.ensures c.kind.ensures c.part.ensures.value c.part.ensures.valid.part (c.is_plain_on.ensures c.if-is_plain_on.true) own)))
    c.matches_where.ensures

pub returns : goal.returns
returns c =
    IfOk-weaker c.matches.result _ _
    (λ b same v own.
    let resource = c.args.resource.now in
    let seen = c.shows_id.ensures ∙ seen_by v resource c.args.patterns.now own in
    rw (sym seen ∙ c.if-not-shows_id.false)
    (same ∙ ap (is_match c.args.query.now.filter) (c.in_ok-part.ensures ∙ made_attributes c.args.attributes.now c.args.patterns.now v resource own)))
    c.matches.ensures
