use Rattle.std.proofs.Common.{◌≡◌, ◌<◌, ◌≤◌, ◌∙◌, ap, sym, arith, length, take}
use Rattle.std.proofs.lemmas.List.{length-append, length-take, take-take}
use Rattle.scim_wire.specs.Parts.{feeds}
use Rattle.scim_wire.proofs.StepLemmas.{opening_run}
use Rattle.scim_wire.proofs.head_parts.HeadPart.take_run.Goals as goal

pub returns-clause-holds : goal.returns-clause-holds
returns-clause-holds c bytes holds =
    let n = c.line_length-count.result in
    let piece = c.args.piece.now in
    let is = c.in_ok-extend_from_slice.ensures.items in
    let within : n ≤ c.min.result = omega (arith, c.line_length-count.ensures.within, length-take c.min.result piece) in
    let none : feeds (take n piece) ≡ 0 = rw take-take at c.line_length-count.ensures.no_feeds in
    let short : length c.extend_from_slice.new.self.items < 16384 =
    omega (arith, ap length is, length-append c.args.self.now.bytes.items (take n piece), length-take n piece, holds.0.is_part.short, within) in
    let run = opening_run bytes _ _ (take n piece) holds.0 is none short in
    (run.0, holds.1 ∙ sym run.1)
