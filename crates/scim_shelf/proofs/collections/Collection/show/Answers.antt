use Rattle.std.proofs.Common.{rules, ◌≡◌, ◌∙◌, ap, subst, true, List, ℕ, map}
use Rattle.std.specs.Map.{values_of}
use Rattle.std.specs.List.{FoldsTo}
use Rattle.std.proofs.lemmas.Map.Iter.{iter_end}
use Rattle.scim_cell.specs.Content.{Content}
use Rattle.scim_cell.specs.Kinds.{is_of, of_kind}
use Rattle.scim_shelf.proofs.ShowLemmas.{values_keyed, folds_more}
use Rattle.scim_shelf.proofs.collections.Collection.show.Goals as goal

pub loop-resource-preserved-in-Continue-1 : goal.loop-resource-preserved-in-Continue-1
loop-resource-preserved-in-Continue-1 g c =
    let r = c.in-Some.resource in
    let passes : is_of c.args.kind r.now ≡ true = search rules in
    folds_more g.V.Visitor.takes (is_of c.args.kind) c.args.visitor.now c.loop-resource.visitor c.take.new.self c.loop-resource.yielded r passes c.loop-resource.invariant c.in_ok-take.ensures

pub returns : goal.returns
returns g c = λ cs h.
    let all : map (λ r. r.now) c.loop-resource.yielded ≡ values_of c.args.self.now.by_id.entries = search (rules, iter_end) in
    let same : map (λ r. r.now) c.loop-resource.yielded ≡ cs = all ∙ ap (λ (es : List (List ℕ × Content)). values_of es) h.resources ∙ values_keyed cs in
    subst (λ (xs : List Content). FoldsTo g.V.Visitor.takes c.args.visitor.now (of_kind c.args.kind xs) c.loop-resource.visitor) same c.loop-resource.invariant
