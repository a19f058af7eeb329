use Rattle.std.proofs.Common.{map}
use Rattle.json.specs.Find.{as_str}
use Rattle.json.specs.Value.{value_view}
use Rattle.scim_policy_file.specs.code.Written.{text_at}
use Rattle.scim_policy_file.proofs.ListLemmas.{IsMade}
use Rattle.scim_policy_file.proofs.policy_files.texts_of.Given as goal

-- the texts so far are those of the items before this one
abbrev pub invariant-loop-item : goal.invariant-loop-item
invariant-loop-item l = IsMade value_view as_str (map text_at l.texts.items) l.item-index l.items
