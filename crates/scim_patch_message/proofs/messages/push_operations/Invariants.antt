use Rattle.std.proofs.Common.{◌≡◌, drop, map}
use Rattle.scim_body.specs.View.{items_view}
use Rattle.scim_body.specs.BodyNames.{items_list}
use Rattle.scim_patch_message.specs.Messages.{operation_steps}
use Rattle.scim_patch_message.specs.Readings.{both, joined}
use Rattle.scim_patch_message.specs.code.Inside.{read_of}
use Rattle.scim_patch_message.proofs.messages.push_operations.Given as goal

-- what is read and what is left to read make all
abbrev pub invariant-loop-item : goal.invariant-loop-item
invariant-loop-item l =
    both (read_of l.fn.reading) (joined (map (operation_steps l.kind) (items_list (items_view l.items))))
    ≡ both (read_of l.reading) (joined (map (operation_steps l.kind) (items_list (items_view (drop l.item-index l.items)))))
