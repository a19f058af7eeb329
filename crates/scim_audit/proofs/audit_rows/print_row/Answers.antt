use Rattle.std.proofs.Common.{append_assoc}
use Rattle.scim_audit.specs.Rows.{row_line}
use Rattle.scim_audit.proofs.audit_rows.print_row.Goals as goal

pub returns : goal.returns
unfolding row_line
returns c =
    rw (
      c.in_ok-line.ensures.ok,
      c.in_ok-moment.ensures,
      c.as_str-client.ensures,
      c.name-op.ensures,
      c.name-kind.ensures,
      c.id_word-id.ensures,
      c.name-decided.ensures,
      c.in_ok-rule.ensures,
      c.in_ok-leaf.ensures,
      c.in_ok-refusal.ensures,
    ) (simp append_assoc)
