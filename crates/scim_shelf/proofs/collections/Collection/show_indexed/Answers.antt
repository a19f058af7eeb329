use Rattle.std.proofs.Common.{refl, sym, ◌∙◌, ap, subst, ℕ, List, filter}
use Rattle.std.specs.Prelude.{Some}
use Rattle.std.specs.List.{FoldsTo}
use Rattle.std.proofs.lemmas.Result.{on_ok_weaker}
use Rattle.scim_cell.specs.Content.{Content}
use Rattle.scim_cell.specs.Kinds.{of_kind}
use Rattle.scim_value.specs.declared.uniqueness.UniqueName.{UniqueName}
use Rattle.scim_shelf.specs.declared.text_index.Holders.{Holders}
use Rattle.scim_shelf.specs.IndexedTexts.{is_under_at}
use Rattle.scim_shelf.proofs.PickLemmas.{indexed_one, indexed_several, indexed_none}
use Rattle.scim_shelf.proofs.collections.Collection.show_indexed.Goals as goal

pub returns-in-Some-One : goal.returns-in-Some-One
returns-in-Some-One g c =
    let q : UniqueName = record { leaf = c.args.leaf; text = c.in_ok-text.text } in
    let found = sym c.in-Some-One.ensures ∙ ap (λ (holders : Holders). Some holders) c.in-Some-One.field-0-is in
    let named = λ (cs : List Content). ap (λ (t : List ℕ). filter (is_under_at c.args.leaf t) (of_kind c.args.kind cs)) c.in_ok-text.ensures.ok in
    on_ok_weaker c.show_one.result
    (λ shown cs is.
    subst (λ (ds : List Content). FoldsTo g.V.Visitor.takes c.args.visitor.now ds c.show_one.new.visitor)
    (indexed_one q c.args.kind cs c.args.self.now is c.in-Some-One.id found ∙ named cs) (shown cs is))
    c.show_one.ensures

pub returns-in-Some-Several : goal.returns-in-Some-Several
returns-in-Some-Several g c =
    let q : UniqueName = record { leaf = c.args.leaf; text = c.in_ok-text.text } in
    let found = sym c.in-Some-Several.ensures ∙ ap (λ (holders : Holders). Some holders) c.in-Some-Several.field-0-is in
    let named = λ (cs : List Content). ap (λ (t : List ℕ). filter (is_under_at c.args.leaf t) (of_kind c.args.kind cs)) c.in_ok-text.ensures.ok in
    on_ok_weaker c.show_several.result
    (λ shown cs is.
    subst (λ (ds : List Content). FoldsTo g.V.Visitor.takes c.args.visitor.now ds c.show_several.new.visitor)
    (indexed_several q c.args.kind cs c.args.self.now is c.in-Some-Several.ids found ∙ named cs) (shown cs is))
    c.show_several.ensures

pub returns : goal.returns
returns g c = λ cs is.
    let q : UniqueName = record { leaf = c.args.leaf; text = c.in_ok-text.text } in
    let named = ap (λ (t : List ℕ). filter (is_under_at c.args.leaf t) (of_kind c.args.kind cs)) c.in_ok-text.ensures.ok in
    subst (λ (ds : List Content). FoldsTo g.V.Visitor.takes c.args.visitor.now ds c.args.visitor.now)
    (indexed_none q c.args.kind cs c.args.self.now is (sym c.in-None.ensures) ∙ named) refl
