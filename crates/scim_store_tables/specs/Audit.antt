-- The rows of the audit in the database.
use Rattle.std.specs.Prelude.{ℕ, pos, [], ◌∷◌}
use Rattle.std.specs.Option.{option_copied}
use Rattle.sqlite.specs.declared.types.Value.{Value}
use Rattle.sqlite.specs.declared.types.Value.TheVariants.{Int, Text}
use Rattle.sqlite.specs.Order.{Row}
use Rattle.sqlite.specs.Values.{or_null}
use Rattle.scim_store_tables.specs.declared.audit.AuditColumns.{AuditColumns}

-- The largest integer of SQL, 2^63 - 1.
abbrev pub last_number : ℕ
last_number = 9223372036854775807

-- A number as an SQL integer.
abbrev pub number : ℕ → Value
number n = Int (pos n)

-- The row with these columns; `None` becomes NULL.
abbrev pub audit_values : AuditColumns → Row
audit_values a =
    number a.number ∷ number a.moment ∷ Text a.client.now ∷ number a.op ∷ number a.kind ∷ or_null Text (option_copied a.id) ∷ number a.decided ∷ or_null number a.rule ∷ or_null Text (option_copied a.leaf) ∷ or_null number a.refusal ∷ []
