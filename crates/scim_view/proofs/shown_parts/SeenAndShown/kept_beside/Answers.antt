use Rattle.std.proofs.Common.{◌≡◌, sym, ◌∙◌, ap, subst, ◌<◌, ◌+◌, ◌++◌, Bool, ◌&&◌, List, [], ◌∷◌, map, take, get_or, length}
use Rattle.std.proofs.lemmas.List.{get_or-map, map_push, take_more}
use Rattle.scim_cell.specs.declared.rows.Field.{Field}
use Rattle.scim_policy.specs.PatternTable.{rules_in}
use Rattle.scim_view.specs.View.{decision_in, may_be_seen}
use Rattle.scim_view.specs.Shown.{shows}
use Rattle.scim_view.specs.code.ShownCells.{seen_and_shown}
use Rattle.scim_view.proofs.shown_parts.SeenAndShown.kept_beside.Goals as goal
use Rattle.scim_view.proofs.shown_parts.SeenAndShown.kept_beside.Goals.{then-is_seen, else-is_seen}

pub loop-index-preserved : goal.loop-index-preserved
loop-index-preserved c =
    let row = c.args.row.now in
    let self = c.args.self.now in
    let kind = self.seen.kind in
    let i = c.loop-index.index in
    let f = c.field-item.result in
    let d = decision_in (rules_in self.seen.patterns.now) in
    let sees : Field → Bool = λ g. may_be_seen d kind row g.leaf in
    let keeps : Field → Bool = λ g. seen_and_shown d kind self.wanted.now row g.leaf in
    let within : i < length row.fields = subst (λ (fs : List Field). i < length fs) c.fields-field-items.ensures c.loop-index-test.true in
    let there : f ≡ get_or row.fields i f = c.field-item.is ∙ ap (λ (fs : List Field). get_or fs i f) c.fields-field-items.ensures in
    let one = c.index-is_seen.result.now in
    let seen : one ≡ sees f
    = c.index-is_seen.ensures ∙ ap (λ (bs : List Bool). get_or bs i one) c.in_ok-seen.ensures ∙ get_or-map sees row.fields i f one within ∙ ap sees (sym there) in
    let kept : c.if-is_seen.push ≡ keeps f = elim c.if-is_seen.branch [
      | then-is_seen w ↦ w.push-is ∙ c.shows-is_shown.ensures ∙ sym (ap (λ (b : Bool). b && shows self.wanted.now kind f.leaf) (sym seen ∙ w.if-is_seen.true))
      | else-is_seen w ↦ w.push-is ∙ w.if-is_seen.false ∙ sym (ap (λ (b : Bool). b && shows self.wanted.now kind f.leaf) (sym seen ∙ w.if-is_seen.false))
    ] in
    let more : take (i + 1) row.fields ≡ take i row.fields ++ f ∷ [] = take_more row.fields i f within ∙ ap (λ (g : Field). take i row.fields ++ g ∷ []) (sym there) in
    c.in_ok-push.ensures.items ∙ (λ k. c.loop-index.invariant k ++ kept k ∷ [])
    ∙ sym (ap (map keeps) more ∙ map_push keeps (take i row.fields) f)
