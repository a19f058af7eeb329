use Rattle.std.proofs.Common.{◌≡◌, ◌∙◌, Option, None, map, sym, ap}
use Rattle.serde_json.specs.Read.{read}
use Rattle.scim_patch_steps.specs.Kept.{step_of}
use Rattle.scim_patch_message.specs.declared.faults.PatchFault.{PatchFault}
use Rattle.scim_patch_message.specs.code.Inside.{steps_or_fault}
use Rattle.scim_patch_message.proofs.SoundStepLemmas.{steps_sound}
use Rattle.scim_patch_message.proofs.messages.read_patch.Goals as goal

pub new-requires : goal.new-requires
new-requires c =
    let nothing : Option PatchFault = None in
    let none : c.in_ok-steps.field-0.fault ≡ nothing = cc in
    steps_sound c.args.kind (read c.args.text.now) (map step_of c.in_ok-steps.field-0.steps.items)
    (sym c.in_ok-steps.ensures ∙ ap (steps_or_fault c.in_ok-steps.field-0.steps.items) none)
