use Rattle.std.proofs.Common.{◌≡◌, ◌==◌, true, false, length, sym, ap, subst, ◌∙◌}
use Rattle.std.specs.Prelude.{OnOk}
use Rattle.scim_schema.specs.Characteristics.{is_multi_valued}
use Rattle.scim_schema.specs.Units.{simple, unit_of}
use Rattle.scim_patch_message.specs.PathSteps.{unit_cleared, cleared}
use Rattle.scim_patch_message.specs.Readings.{Read, both}
use Rattle.scim_patch_message.specs.code.Inside.{read_of}
use Rattle.scim_patch_message.proofs.ClearedLemmas.{cleared_simple}
use Rattle.scim_patch_message.proofs.path_steps.push_cleared.Goals as goal

pub returns-then-is_empty : goal.returns-then-is_empty
returns-then-is_empty c =
    let a = c.args.attribute in
    let single : is_multi_valued a ≡ false = sym c.is_multi_valued.ensures ∙ c.if-is_multi_valued.false in
    let none : (length c.sub_attributes-own.result.now == 0) ≡ true = sym c.if-is_empty.ensures in
    let made : c.unit_of.result ≡ unit_of (simple a) = c.unit_of.ensures ∙ ap unit_of c.simple.ensures in
    let same : unit_cleared c.args.kind c.unit_of.result ≡ cleared c.args.kind a
    = ap (unit_cleared c.args.kind) made
    ∙ cleared_simple c.args.kind a c.sub_attributes-own.result.now single (sym c.sub_attributes-own.ensures) none in
    subst (λ (r : Read). OnOk c.push_unit_cleared-then-is_empty.result (read_of c.push_unit_cleared-then-is_empty.new.reading ≡ both (read_of c.args.reading.now) r)) same
    c.push_unit_cleared-then-is_empty.ensures
