use Rattle.std.proofs.Common.{sym, subst}
use Rattle.scim_wire.specs.code.Trailers.{IsRestAt, ByteLeads}
use Rattle.scim_wire.proofs.trailers.TrailerPart.step.Goals as goal

pub returns-in-LineStart : goal.returns-in-LineStart
returns-in-LineStart c = subst (λ place. ByteLeads (IsRestAt place c.args.self.headers) c.args.byte c.at_line_start.result) (sym c.in-LineStart.is) c.at_line_start.ensures

pub returns-in-EmptyReturn : goal.returns-in-EmptyReturn
returns-in-EmptyReturn c = subst (λ place. ByteLeads (IsRestAt place c.args.self.headers) c.args.byte c.at_feed.result) (sym c.in-EmptyReturn.is) c.at_feed.ensures

pub returns-in-Name : goal.returns-in-Name
returns-in-Name c = subst (λ place. ByteLeads (IsRestAt place c.args.self.headers) c.args.byte c.in_name.result) (sym c.in-Name.is) c.in_name.ensures

pub returns-in-Value : goal.returns-in-Value
returns-in-Value c = subst (λ place. ByteLeads (IsRestAt place c.args.self.headers) c.args.byte c.in_value.result) (sym c.in-Value.is) c.in_value.ensures

pub returns-in-Return : goal.returns-in-Return
returns-in-Return c = subst (λ place. ByteLeads (IsRestAt place c.args.self.headers) c.args.byte c.at_feed-in-Return.result) (sym c.in-Return.is) c.at_feed-in-Return.ensures
