use Rattle.std.proofs.Common.{rules, ◌≡◌, string_bytes}
use Rattle.sqlite.specs.declared.types.Value.TheVariants.{Text}
use Rattle.sqlite.specs.Order.{column}
use Rattle.scim_store_rows.proofs.CodeLemmas.{adds}
use Rattle.scim_store_rows.proofs.door_codes.add_code.Goals as goal

pub returns-in-Ok : goal.returns-in-Ok
returns-in-Ok c =
    let first : column c.args.row.now 0 ≡ Text (string_bytes c.in_ok-id.id) = search rules in
    let second : column c.args.row.now 1 ≡ Text (string_bytes c.in_ok-code.code) = search rules in
    adds c.args.row.now c.args.codes.now c.insert.new.self c.in_ok-id.id c.in_ok-code.code first second c.in-Ok.ensures.updates
