use Rattle.std.proofs.Common.{rules}
use Rattle.scim_command.proofs.serve_options.ServeOptions.of.Goals as goal

-- by name, so that a body that breaks it is refused at once
pub returns-clause-options : goal.returns-clause-options
returns-clause-options c = search rules
