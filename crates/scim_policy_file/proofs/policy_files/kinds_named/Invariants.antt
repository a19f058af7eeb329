use Rattle.scim_schema.specs.Lookup.{kind_named}
use Rattle.scim_policy_file.specs.code.Written.{text_at}
use Rattle.scim_policy_file.proofs.ListLemmas.{IsMade}
use Rattle.scim_policy_file.proofs.policy_files.kinds_named.Given as goal

-- the kinds so far are those that the texts before this one name
abbrev pub invariant-loop-text : goal.invariant-loop-text
invariant-loop-text l = IsMade text_at kind_named l.kinds.items l.text-index l.texts
