use Rattle.std.proofs.Common.{sym, ◌∙◌, ap, subst}
use Rattle.std.specs.Global.{Vec}
use Rattle.scim_schema.specs.declared.Attribute.{Attribute}
use Rattle.scim_view.specs.code.ShownCells.{AreUnshown}
use Rattle.scim_view.proofs.ShownPartLemmas.{none_unshown, unshown_more}
use Rattle.scim_view.proofs.shown_parts.unshown_attributes.Goals as goal
use Rattle.scim_view.proofs.shown_parts.unshown_attributes.Goals.{then-not-shows_attribute+in_ok-push, else-not-shows_attribute}

pub loop-attribute-init : goal.loop-attribute-init
loop-attribute-init c = subst (AreUnshown c.args.wanted.now c.args.kind) (sym c.new-unshown.ensures.items) (none_unshown c.args.wanted.now c.args.kind)

pub loop-attribute-preserved : goal.loop-attribute-preserved
loop-attribute-preserved c =
    let wanted = c.args.wanted.now in
    let kind = c.args.kind in
    let unshown = c.loop-attribute.unshown.items in
    elim c.if-not-shows_attribute.branch [
      | then-not-shows_attribute+in_ok-push w ↦
          subst (AreUnshown wanted kind) (sym (ap (λ (v : Vec Attribute). v.items) w.unshown-is ∙ w.in_ok-push.ensures.items))
          (unshown_more wanted kind unshown _ c.loop-attribute.invariant (sym c.shows_attribute.ensures ∙ w.if-not-shows_attribute.true))
      | else-not-shows_attribute w ↦ subst (AreUnshown wanted kind) (sym (ap (λ (v : Vec Attribute). v.items) w.unshown-is)) c.loop-attribute.invariant
    ]
