use Rattle.std.proofs.Common.{rules, subst, List, map}
use Rattle.std.specs.Prelude.{◌||◌}
use Rattle.std.specs.List.{list_any}
use Rattle.scim_hub.specs.declared.events.Output.{Output}
use Rattle.scim_hub.specs.HubStates.{output_of}
use Rattle.scim_serve.specs.Serving.{shuts}
use Rattle.scim_serve.specs.code.Waiting.{waiting_for}
use Rattle.scim_serve.specs.code.Closings.{IsMarked}
use Rattle.scim_serve.proofs.serving.settle.Goals as goal

pub returns-in-Ok-clause-marks : goal.returns-in-Ok-clause-marks
returns-in-Ok-clause-marks g c = λ m shut marked.
    let queued = c.flush.ensures.marks m (shut || list_any (shuts m) (map output_of c.as_slice.result.now)) (c.queue.ensures.marks m shut marked) in
    rw c.in-Ok.is
    (subst (λ (xs : List Output). IsMarked (waiting_for c.flush.new.waiting m) (shut || list_any (shuts m) (map output_of xs))) c.as_slice.ensures.value queued)

pub returns-in-Err-NoMemory-clause-lost : goal.returns-in-Err-NoMemory-clause-lost
returns-in-Err-NoMemory-clause-lost g c = search rules
