use Rattle.std.proofs.Common.{◌∙◌, sym}
use Rattle.scim_value.proofs.GetLemmas.{atom_at-below, atom_at-beyond}
use Rattle.scim_value.proofs.parts.atom_at.Goals as goal

pub returns-then-position-own : goal.returns-then-position-own
returns-then-position-own c =
    c.get.ensures ∙ sym (atom_at-below c.args.leaf c.args.position c.args.own.now c.index-own-position.result c.if-position-own.true c.index-own-position.is)

pub returns-else-position-own : goal.returns-else-position-own
returns-else-position-own c = sym (atom_at-beyond c.args.leaf c.args.position c.args.own.now c.if-position-own.false)
