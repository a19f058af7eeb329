use Rattle.std.proofs.Common.{rules, ◌≡◌, [], ◌∷◌, ◌++◌}
use Rattle.scim_line_log.specs.LineLogs.{rest_of}
use Rattle.scim_line_log.proofs.LogLemmas.{takes_then}
use Rattle.scim_line_log.proofs.line_logs.LineLog.append.Goals as goal

pub returns-clause-accepted : goal.returns-clause-accepted
returns-clause-accepted g c = λ _.
    let whole : rest_of c.write_rest.new.self ≡ [] = search rules in
    let set : rest_of c.set_line.new.self ≡ c.args.line.now ++ 10 ∷ [] = search rules in
    takes_then g.W.Write.contents _ _ _ _ _ c.write_rest.ensures.takes whole c.set_line.ensures.same set c.write_rest-is_whole.ensures.takes
