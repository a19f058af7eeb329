use Rattle.scim_wire.proofs.ChunkLineLemmas.{extension_at_return, extension_at_feed, extension_at_other, with_size}
use Rattle.scim_wire.proofs.chunk_lines.LinePart.in_extension.Goals as goal

pub returns-then-byte-eq13 : goal.returns-then-byte-eq13
returns-then-byte-eq13 c = rw (c.at.ensures, c.if-byte-eq13.true) (λ e. cc, λ size text. with_size (extension_at_return text))

pub returns-then-byte-eq10 : goal.returns-then-byte-eq10
returns-then-byte-eq10 c size text rest = extension_at_feed text (rw c.if-byte-eq10.true at rest.0)

pub returns : goal.returns
returns c = rw c.at-2.ensures (λ e. cc, λ size text. with_size (extension_at_other c.args.byte text c.if-byte-eq13.false c.if-byte-eq10.false))
