use Rattle.std.proofs.Common.{◌∙◌}
use Rattle.scim_patch_message.specs.code.Inside.{read_of}
use Rattle.scim_patch_message.proofs.ListLemmas.{many_refused, few_pass}
use Rattle.scim_patch_message.proofs.messages.refuse_many.Goals as goal

pub returns-then-items-gt-MOST_OPERATIONS : goal.returns-then-items-gt-MOST_OPERATIONS
returns-then-items-gt-MOST_OPERATIONS c =
    c.refuse.ensures ∙ many_refused c.args.items.now (read_of c.args.reading.now) c.if-items-gt-MOST_OPERATIONS.true

pub returns-else-items-gt-MOST_OPERATIONS : goal.returns-else-items-gt-MOST_OPERATIONS
returns-else-items-gt-MOST_OPERATIONS c = few_pass c.args.items.now (read_of c.args.reading.now) c.if-items-gt-MOST_OPERATIONS.false
