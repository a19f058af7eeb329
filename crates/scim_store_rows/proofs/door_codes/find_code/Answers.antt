use Rattle.sqlite.specs.Held.{state}
use Rattle.scim_store_rows.proofs.WalkLemmas.{unchanged_open}
use Rattle.scim_store_rows.proofs.door_codes.find_code.Goals as goal

pub returns-in-Group-clause-unchanged : goal.returns-in-Group-clause-unchanged
returns-in-Group-clause-unchanged g c clean has opened = unchanged_open (state g.S.Store c.args.conn.now) opened
