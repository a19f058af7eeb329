use Rattle.std.proofs.Common.{rules, ◌≡◌, ap, ◌++◌, take}
use Rattle.std.proofs.KnownBytes.{Consumes-trans}
use Rattle.std.proofs.lemmas.List.Elements.{All-append}
use Rattle.scim_wire.proofs.Facts.{items_from_stands}
use Rattle.scim_command.specs.Inputs.{IsContinue}
use Rattle.scim_command.proofs.InputLemmas.{input_opens, input_ends}
use Rattle.scim_command.proofs.inputs.first_through.Goals as goal

pub returns-then-count-eq0-clause-ended : goal.returns-then-count-eq0-clause-ended
returns-then-count-eq0-clause-ended g c _ =
    let before = c.loop.invariant in
    let none : c.in-Ok.count ≡ 0 = search rules in
    input_ends _ _ _ before.0 _ before.1 before.4 c.in-Ok.ensures.bytes.0 (ap (λ n. take n c.read.new.buf) none)
    (c.in-Ok.ensures.bytes.1 none (search rules)) (items_from_stands _ _ _ before.2) before.3

pub returns-in-Some-clause-first : goal.returns-in-Some-clause-first
returns-in-Some-clause-first g c =
    let before = c.loop.invariant in
    input_opens _ _ _ before.1 c.in_ok-items.items.items c.in-Some.first (Consumes-trans _ _ _ _ _ before.4 c.in-Ok.ensures.bytes.0)
    (items_from_stands _ _ _ (c.in_ok-items.ensures.items before.0 before.1 before.2)) before.3 c.in-Some.ensures.first

pub loop-preserved : goal.loop-preserved
loop-preserved g c =
    let before = c.loop.invariant in (
      _,
      before.1 ++ c.in_ok-items.items.items,
      c.in_ok-items.ensures.items before.0 before.1 before.2,
      All-append IsContinue before.1 c.in_ok-items.items.items before.3 c.in_default-first_of.ensures.none,
      Consumes-trans _ _ _ _ _ before.4 c.in-Ok.ensures.bytes.0,
    )
