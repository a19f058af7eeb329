use Rattle.std.proofs.Common.{sym, subst}
use Rattle.scim_wire.specs.code.ChunkLines.{IsRestAt, ByteLeads}
use Rattle.scim_wire.proofs.chunk_lines.LinePart.step.Goals as goal

pub returns-in-Start : goal.returns-in-Start
returns-in-Start c = subst (λ place. ByteLeads (IsRestAt place c.args.self.digits c.args.self.size) c.args.byte c.in_size.result) (sym c.in-Start.is) c.in_size.ensures

pub returns-in-Digits : goal.returns-in-Digits
returns-in-Digits c = subst (λ place. ByteLeads (IsRestAt place c.args.self.digits c.args.self.size) c.args.byte c.in_digits.result) (sym c.in-Digits.is) c.in_digits.ensures

pub returns-in-Pad : goal.returns-in-Pad
returns-in-Pad c = subst (λ place. ByteLeads (IsRestAt place c.args.self.digits c.args.self.size) c.args.byte c.after_size.result) (sym c.in-Pad.is) c.after_size.ensures

pub returns-in-Extension : goal.returns-in-Extension
returns-in-Extension c = subst (λ place. ByteLeads (IsRestAt place c.args.self.digits c.args.self.size) c.args.byte c.in_extension.result) (sym c.in-Extension.is) c.in_extension.ensures

pub returns-in-Return : goal.returns-in-Return
returns-in-Return c = subst (λ place. ByteLeads (IsRestAt place c.args.self.digits c.args.self.size) c.args.byte c.at_feed.result) (sym c.in-Return.is) c.at_feed.ensures
