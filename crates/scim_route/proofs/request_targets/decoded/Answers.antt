use Rattle.std.proofs.Common.{refl}
use Rattle.scim_route.proofs.DecodedLemmas.{decoded_is, decoded_not}
use Rattle.scim_route.proofs.request_targets.decoded.Goals as goal

pub returns-in-Ok-clause-ok : goal.returns-in-Ok-clause-ok
returns-in-Ok-clause-ok c = decoded_is c.args.path.now _ _ c.percent_decode.ensures.bytes c.in-Ok.ensures.value c.in-Ok.ensures.ok_only_if_utf8

pub returns-in-Err-Utf8-clause-fault : goal.returns-in-Err-Utf8-clause-fault
returns-in-Err-Utf8-clause-fault c =
    let only = rw (c.in-Err-Utf8.field-0-is) at c.in-Err-Utf8.ensures.utf8 in
    (refl, decoded_not c.args.path.now _ c.percent_decode.ensures.bytes (λ utf8. (let e = only utf8 in cc)))
