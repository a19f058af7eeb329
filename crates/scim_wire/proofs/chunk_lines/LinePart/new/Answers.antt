use Rattle.std.proofs.Common.{refl}
use Rattle.scim_wire.proofs.ChunkLineLemmas.{line_is, start_goes_on}
use Rattle.scim_wire.proofs.chunk_lines.LinePart.new.Goals as goal

pub returns-clause-rest : goal.returns-clause-rest
returns-clause-rest c = line_is

pub returns-clause-goes_on : goal.returns-clause-goes_on
returns-clause-goes_on c = start_goes_on _ refl
