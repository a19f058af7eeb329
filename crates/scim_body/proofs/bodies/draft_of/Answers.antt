use Rattle.std.proofs.Common.{◌≡◌, ◌∙◌, Bool, false, ap, sym, true≢false}
use denote.Enum.Bare.{sameb, true_same}
use Rattle.scim_body.specs.declared.drafts.UseFor.{UseFor}
use Rattle.scim_body.specs.declared.drafts.UseFor.TheVariants.{Creating}
use Rattle.scim_body.specs.contracts.drafts.UseFor.{the_type as the_use}
use Rattle.scim_body.specs.Drafts.{lacks_required}
use Rattle.scim_body.specs.Given.{units_given}
use Rattle.scim_body.proofs.DraftLemmas.{draft_with}
use Rattle.scim_body.proofs.bodies.draft_of.Goals as goal
use Rattle.scim_body.proofs.bodies.draft_of.Goals.{else-eq-via-then-eq+else-lacks_required, else-eq-via-else-eq}

-- what isn't read for Creating needs nothing
not_creating : (use_for : UseFor) (b lacks : Bool) → b ≡ sameb the_use use_for Creating → b ≡ false → use_for ≡ Creating → lacks ≡ false
not_creating use_for b lacks is other e = absurd (true≢false (sym (is ∙ true_same the_use use_for Creating e) ∙ other))

pub new-requires : goal.new-requires
new-requires c =
    draft_with c.args.kind c.args.use_for c.requires.0 (units_given c.args.given.items) c.in_ok-units.units.items c.in_ok-units.rows.items
    c.requires.1 c.in_ok-units.ensures.units c.in_ok-units.ensures.rows
    (λ e. elim c.else-eq.branch [
      | else-eq-via-then-eq+else-lacks_required w ↦
          ap (lacks_required c.args.kind) (sym w.as_slice.ensures.value) ∙ sym w.lacks_required.ensures ∙ w.if-lacks_required.false
      | else-eq-via-else-eq w ↦ not_creating c.args.use_for c.eq.result _ c.eq.ensures w.if-eq.false e
    ])
