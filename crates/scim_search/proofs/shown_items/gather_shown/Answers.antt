use Rattle.std.proofs.Common.{◌≡◌, false, sym, ◌∙◌, ap, subst, ℕ, List, []}
use Rattle.std.proofs.lemmas.Result.{IfOk-weaker}
use Rattle.scim_schema.specs.declared.Attribute.TheVariants.{Groups}
use Rattle.scim_schema.specs.declared.Kind.{Kind}
use Rattle.scim_schema.specs.declared.Kind.TheVariants.{Group}
use Rattle.scim_cell.specs.Kinds.{of_kind}
use Rattle.scim_view.specs.Listings.{AreListing}
use Rattle.scim_view.specs.Shown.{shown, shows_attribute}
use Rattle.scim_view.proofs.Facts.{unshown_groups}
use Rattle.scim_search.proofs.shown_items.gather_shown.Goals as goal

pub returns-then-shows_attribute-clause-groups : goal.returns-then-shows_attribute-clause-groups
returns-then-shows_attribute-clause-groups g c =
    IfOk-weaker c.gather_groups.result _ _
    (λ u answer store stands honest base v own is part kind same tells.
    let gathered = answer store stands honest base v own is kind same tells in
    let told = gathered.1 in
    (gathered.0, record { groups = told.groups; gathered = told.gathered; same = ap (shown c.args.builder.wanted.now) told.same }))
    c.gather_groups.ensures.groups

pub returns-clause-groups : goal.returns-clause-groups
returns-clause-groups g c store stands honest base v own is part kind same tells =
    let wanted = c.args.builder.wanted.now in
    let hidden : shows_attribute wanted own.kind Groups ≡ false = ap (λ (k : Kind). shows_attribute wanted k Groups) kind ∙ sym c.shows_attribute.ensures ∙ c.if-shows_attribute.false in (
      c.clear.ensures.tells v store.resources tells,
      record {
        groups = [];
        gathered = subst (λ (id : List ℕ). AreListing v id [] c.clear.new.self.groups) (sym same) (c.clear.ensures.groups v);
        same = unshown_groups wanted own part hidden v [] (of_kind Group store.resources);
      },
    )
