use Rattle.std.proofs.Common.{map}
use Rattle.std.specs.Char.{to_ascii_lowercase}
use Rattle.std.proofs.lemmas.Bool.Decides.{same_from_decides}
use Rattle.std.proofs.lemmas.Slice.Eq.{bytes_eq-Decides}
use Rattle.scim_wire.specs.Headers.{same_name}
use Rattle.scim_wire.proofs.headers.same_name.Goals as goal

pub returns : goal.returns
unfolding same_name
returns c =
    let a = map to_ascii_lowercase c.args.a.now in
    let b = map to_ascii_lowercase c.args.b.now in
    same_from_decides _ _ c.eq_ignore_ascii_case.ensures.test (bytes_eq-Decides a b)
