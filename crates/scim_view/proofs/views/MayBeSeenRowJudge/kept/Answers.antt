use Rattle.std.proofs.Common.{◌≡◌, sym, ◌∙◌, ap, subst, ◌<◌, ◌+◌, ◌++◌, Bool, ◌&&◌, not, List, [], ◌∷◌, map, take, get_or, length}
use Rattle.std.proofs.lemmas.List.{get_or-map, map_push, take_more}
use Rattle.scim_cell.specs.declared.rows.Field.{Field}
use Rattle.scim_policy.specs.PatternTable.{rules_in}
use Rattle.scim_view.specs.View.{decision_in, may_be_seen}
use Rattle.scim_view.proofs.views.MayBeSeenRowJudge.kept.Goals as goal
use Rattle.scim_view.proofs.views.MayBeSeenRowJudge.kept.Goals.{then-not-is_hidden, else-not-is_hidden}

pub loop-index-preserved : goal.loop-index-preserved
loop-index-preserved c =
    let row = c.args.row.now in
    let self = c.args.self.now in
    let i = c.loop-index.index in
    let f = c.field-item.result in
    let allows : Field → Bool = λ g. (decision_in (rules_in self.patterns.now) row g.leaf).allow in
    let shows : Field → Bool = λ g. may_be_seen (decision_in (rules_in self.patterns.now)) self.kind row g.leaf in
    let within : i < length row.fields = subst (λ (fs : List Field). i < length fs) c.fields-field-items.ensures c.loop-index-test.true in
    let there : f ≡ get_or row.fields i f = c.field-item.is ∙ ap (λ (fs : List Field). get_or fs i f) c.fields-field-items.ensures in
    let one = c.index-is_allowed.result.now in
    let allowed : one ≡ allows f
    = c.index-is_allowed.ensures ∙ ap (λ (bs : List Bool). get_or bs i one) c.in_ok-allowed.ensures ∙ get_or-map allows row.fields i f one within ∙ ap allows (sym there) in
    let shown : c.if-not-is_hidden.push ≡ shows f = elim c.if-not-is_hidden.branch [
      | then-not-is_hidden w ↦ w.push-is ∙ allowed ∙ sym (ap (λ (b : Bool). b && allows f) (ap not (sym c.is_write_only-is_hidden.ensures ∙ w.if-not-is_hidden.true)))
      | else-not-is_hidden w ↦ w.push-is ∙ ap not w.if-not-is_hidden.false ∙ sym (ap (λ (b : Bool). b && allows f) (ap not (sym c.is_write_only-is_hidden.ensures ∙ w.if-not-is_hidden.false)))
    ] in
    let more : take (i + 1) row.fields ≡ take i row.fields ++ f ∷ [] = take_more row.fields i f within ∙ ap (λ (g : Field). take i row.fields ++ g ∷ []) (sym there) in
    c.in_ok-push.ensures.items ∙ (λ k. c.loop-index.invariant k ++ shown k ∷ [])
    ∙ sym (ap (map shows) more ∙ map_push shows (take i row.fields) f)
