use Rattle.std.proofs.Common.{◌≡◌, min, true, take}
use Rattle.std.specs.List.{list_all}
use Rattle.std.specs.Char.{is_ascii_digit}
use Rattle.std.specs.Str.Parse.{digits_value}
use Rattle.scim_wire.proofs.body_framing.number.Given as goal

abbrev pub invariant-loop-digit : goal.invariant-loop-digit
invariant-loop-digit l =
    (l.number ≡ min (digits_value 10 (take l.digit-index l.digits)) 1048577)
    × (list_all is_ascii_digit (take l.digit-index l.digits) ≡ true)
