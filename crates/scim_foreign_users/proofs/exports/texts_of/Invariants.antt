use Rattle.std.proofs.Common.{◌≡◌, map, take, string_bytes}
use Rattle.std.specs.Prelude.{Some}
use Rattle.serde_json.specs.Read.{read}
use Rattle.serde_json.specs.View.{view}
use Rattle.scim_foreign_users.proofs.exports.texts_of.Given as goal

-- the texts are those of the items so far
abbrev pub invariant-loop-item : goal.invariant-loop-item
invariant-loop-item l = map (λ t. read (string_bytes t)) l.texts.items ≡ map (λ v. Some (view v)) (take l.item-index l.items)
