use Rattle.std.proofs.Common.{refl}
use Rattle.scimd.proofs.ResultLemmas.{on_ok_always, if_err_always}
use Rattle.scimd.proofs.servers.ServingDatabaseWork.over.Goals as goal

pub returns-in-Ok-open_cached-clause-idle : goal.returns-in-Ok-open_cached-clause-idle
returns-in-Ok-open_cached-clause-idle g c = on_ok_always c.serve_at_ports-done.result c.into_connection.ensures.idle

pub returns-in-Ok-open_cached-clause-silent : goal.returns-in-Ok-open_cached-clause-silent
returns-in-Ok-open_cached-clause-silent g c = if_err_always _ c.serve_at_ports-done.result (λ f other. refl)
