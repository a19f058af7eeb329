use Rattle.std.proofs.Common.{◌≡◌, sym, ◌∙◌, ap, List, take, ◌+◌, ◌++◌, ◌∷◌, [], map, get_or}
use Rattle.std.specs.Prelude.{Option}
use Rattle.std.specs.List.{slice_get}
use Rattle.std.specs.Option.{option_copied}
use Rattle.std.proofs.lemmas.List.{take_more, map_push, append-nil}
use denote.Ref.{Bor}
use Rattle.scim_view.specs.declared.computed_groups.SeenGroup.{SeenGroup}
use Rattle.scim_view.specs.code.Index.{at_positions}
use Rattle.scim_view.specs.Groups.{and_those}
use Rattle.scim_view.proofs.IndexLemmas.{at_positions_more, item_at}
use Rattle.scim_view.proofs.group_index.GroupIndex.groups_of.Goals as goal
use Rattle.scim_view.proofs.group_index.GroupIndex.groups_of.Goals.{in-Some+in_ok-push, in_default}

pub loop-position-preserved : goal.loop-position-preserved
loop-position-preserved c =
    let ps = c.positions_of-position-items.result.now in
    let i = c.loop-position.position-index in
    let p = get_or ps i 0 in
    let xs = c.args.self.now.groups.items in
    let now = λ (g : Bor SeenGroup). g.now in
    let more : at_positions xs (take (i + 1) ps) ≡ at_positions xs (take i ps) ++ and_those (slice_get xs p) [] =
    ap (at_positions xs) (take_more ps i 0 c.loop-position-test.true) ∙ at_positions_more xs (take i ps) p in
    let stands : option_copied c.get.result ≡ slice_get xs p = item_at c.deref.result.now p c.get.result c.get.ensures.lookup ∙ ap (λ (ys : List SeenGroup). slice_get ys p) c.deref.ensures.value in
    let end : at_positions xs (take i ps) ++ and_those (option_copied c.get.result) [] ≡ at_positions xs (take (i + 1) ps) = ap (λ (o : Option SeenGroup). at_positions xs (take i ps) ++ and_those o []) stands ∙ sym more in
    elim c.match-get.branch [
      | in-Some+in_ok-push w ↦
          ap (λ v. map now v.items) w.groups-is ∙ ap (map now) w.in_ok-push.ensures.items ∙ map_push now c.loop-position.groups.items w.in-Some.group
          ∙ ap (λ (ys : List SeenGroup). ys ++ w.in-Some.group.now ∷ []) c.loop-position.invariant
          ∙ ap (λ (o : Option SeenGroup). at_positions xs (take i ps) ++ and_those o []) (ap option_copied (sym w.in-Some.is))
          ∙ end
      | in_default w ↦
          ap (λ v. map now v.items) w.groups-is ∙ c.loop-position.invariant ∙ sym (append-nil (at_positions xs (take i ps)))
          ∙ ap (λ (o : Option SeenGroup). at_positions xs (take i ps) ++ and_those o []) (ap option_copied (sym w.in_default.is))
          ∙ end
    ]
