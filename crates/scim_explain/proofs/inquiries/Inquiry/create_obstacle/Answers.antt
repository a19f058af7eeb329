use Rattle.std.proofs.Common.{◌≡◌, sym, ap, ◌∙◌, true, false}
use denote.Enum.Bare.{sameb}
use Rattle.std.specs.Prelude.{is_some}
use Rattle.scim_schema.specs.declared.Attribute.TheVariants.{Id}
use Rattle.scim_schema.specs.declared.Leaf.{Leaf}
use Rattle.scim_schema.specs.declared.Op.TheVariants.{Create}
use Rattle.scim_schema.specs.declared.characteristics.Mutability.{Mutability}
use Rattle.scim_schema.specs.declared.characteristics.Mutability.TheVariants.{ReadOnly}
use Rattle.scim_schema.specs.contracts.characteristics.Mutability.{the_type as the_mutability}
use Rattle.scim_schema.specs.Mutability.{is_fixed}
use Rattle.scim_schema.specs.Units.{simple, is_same_leaf, unit_of}
use Rattle.scim_explain.specs.Inquiries.{denial, unit_obstacle}
use Rattle.scim_explain.specs.code.InquiryParts.{inquiry_in}
use Rattle.scim_explain.proofs.InquiryLemmas.{created_else, created_fixed, created_own, or_found, or_missed}
use Rattle.scim_explain.proofs.inquiries.Inquiry.create_obstacle.Goals as goal

pub returns-then-eq : goal.returns-then-eq
returns-then-eq c =
    sym (created_own (inquiry_in c.args.self.now) c.args.leaf (ap (is_same_leaf c.args.leaf) (sym c.simple-id.ensures) ∙ sym c.eq.ensures ∙ c.if-eq.true))

pub returns-then-eq-2 : goal.returns-then-eq-2
returns-then-eq-2 c =
    let other : is_same_leaf c.args.leaf (simple Id) ≡ false = ap (is_same_leaf c.args.leaf) (sym c.simple-id.ensures) ∙ sym c.eq.ensures ∙ c.if-eq.false in
    let fixed : is_fixed c.args.self.now.kind (unit_of c.args.leaf) ≡ true = ap (is_fixed c.args.self.now.kind) (sym c.unit_of.ensures) ∙ ap (λ (m : Mutability). sameb the_mutability m ReadOnly) (sym c.mutability_of.ensures) ∙ sym c.eq-2.ensures ∙ c.if-eq-2.true in
    sym (created_fixed (inquiry_in c.args.self.now) c.args.leaf other fixed)

pub returns-then-is_some : goal.returns-then-is_some
returns-then-is_some c =
    let i = inquiry_in c.args.self.now in
    let other : is_same_leaf c.args.leaf (simple Id) ≡ false = ap (is_same_leaf c.args.leaf) (sym c.simple-id.ensures) ∙ sym c.eq.ensures ∙ c.if-eq.false in
    let free : is_fixed i.kind (unit_of c.args.leaf) ≡ false = ap (is_fixed c.args.self.now.kind) (sym c.unit_of.ensures) ∙ ap (λ (m : Mutability). sameb the_mutability m ReadOnly) (sym c.mutability_of.ensures) ∙ sym c.eq-2.ensures ∙ c.if-eq-2.false in
    let own = denial Create (simple Id) (i.on (simple Id)) in
    let is : c.denial-creating.result ≡ own = c.denial-creating.ensures ∙ ap (denial Create c.simple-id.result) c.decision.ensures ∙ ap (λ (m : Leaf). denial Create m (i.on m)) c.simple-id.ensures in
    let found : is_some own ≡ true = ap is_some (sym is) ∙ sym c.is_some.ensures ∙ c.if-is_some.true in
    is ∙ sym (or_found own (unit_obstacle i c.args.leaf) found) ∙ sym (created_else i c.args.leaf other free)

pub returns : goal.returns
returns c =
    let i = inquiry_in c.args.self.now in
    let other : is_same_leaf c.args.leaf (simple Id) ≡ false = ap (is_same_leaf c.args.leaf) (sym c.simple-id.ensures) ∙ sym c.eq.ensures ∙ c.if-eq.false in
    let free : is_fixed i.kind (unit_of c.args.leaf) ≡ false = ap (is_fixed c.args.self.now.kind) (sym c.unit_of.ensures) ∙ ap (λ (m : Mutability). sameb the_mutability m ReadOnly) (sym c.mutability_of.ensures) ∙ sym c.eq-2.ensures ∙ c.if-eq-2.false in
    let own = denial Create (simple Id) (i.on (simple Id)) in
    let is : c.denial-creating.result ≡ own = c.denial-creating.ensures ∙ ap (denial Create c.simple-id.result) c.decision.ensures ∙ ap (λ (m : Leaf). denial Create m (i.on m)) c.simple-id.ensures in
    let missed : is_some own ≡ false = ap is_some (sym is) ∙ sym c.is_some.ensures ∙ c.if-is_some.false in
    c.unit_obstacle.ensures ∙ sym (or_missed own (unit_obstacle i c.args.leaf) missed) ∙ sym (created_else i c.args.leaf other free)
