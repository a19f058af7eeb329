use Rattle.std.proofs.Common.{◌≡◌, ◌==◌, false, length, sym}
use Rattle.std.proofs.lemmas.Result.{IfOk-weaker}
use Rattle.scim_patch_message.specs.code.Inside.{read_of}
use Rattle.scim_patch_message.proofs.ListLemmas.{list_read}
use Rattle.scim_patch_message.proofs.messages.push_list.Goals as goal

pub returns : goal.returns
returns c =
    let some : (length c.args.items.now == 0) ≡ false = sym c.if-is_empty.ensures in
    IfOk-weaker c.push_operations.result _ _
    (λ u read. list_read c.args.kind c.args.items.now (read_of c.args.reading.now) (read_of c.refuse_many.new.reading) (read_of c.push_operations.new.reading) some c.refuse_many.ensures read)
    c.push_operations.ensures
