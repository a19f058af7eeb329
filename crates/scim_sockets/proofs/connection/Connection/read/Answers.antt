use Rattle.scim_sockets.proofs.TurnLemmas.{unread_fits}
use Rattle.scim_sockets.proofs.connection.Connection.read.Goals as goal

pub returns-in-Err-clause-fits : goal.returns-in-Err-clause-fits
returns-in-Err-clause-fits c = unread_fits c.read.new.buf c.read_failed.result c.read_failed.ensures.unread
