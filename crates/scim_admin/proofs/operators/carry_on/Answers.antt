use Rattle.std.proofs.Common.{ℕ, List, sym, subst}
use Rattle.scim_admin.specs.Jobs.{SendsPiece}
use Rattle.scim_admin.proofs.operators.carry_on.Goals as goal

pub returns-in-Ok-clause-continues : goal.returns-in-Ok-clause-continues
returns-in-Ok-clause-continues g c = λ offer. record {
  after = c.next.new.self;
  goes_on = c.in-Ok.ensures.goes_on;
  rest = c.carry_on.ensures.rest;
  piece = λ store was honest over.
      subst (λ (text : List ℕ). SendsPiece c.args.job c.next.new.self store text) (sym c.carry_on.ensures.pending) (c.in-Ok.ensures.piece store was honest over);
}
