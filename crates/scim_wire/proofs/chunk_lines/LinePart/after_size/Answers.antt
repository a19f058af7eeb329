use Rattle.scim_wire.proofs.ChunkLineLemmas.{pad_at_ows, pad_at_semicolon, pad_at_return, pad_at_other, with_size}
use Rattle.scim_wire.proofs.chunk_lines.LinePart.after_size.Goals as goal

pub returns-then-is_space_or_tab : goal.returns-then-is_space_or_tab
returns-then-is_space_or_tab c = rw c.at.ensures (λ e. cc, λ size text. with_size (pad_at_ows c.args.byte text (cc)))

pub returns-then-byte-eq59 : goal.returns-then-byte-eq59
returns-then-byte-eq59 c = rw (c.at-then-byte-eq59.ensures, c.if-byte-eq59.true) (λ e. cc, λ size text. with_size (pad_at_semicolon text))

pub returns-then-byte-eq13 : goal.returns-then-byte-eq13
returns-then-byte-eq13 c = rw (c.at-then-byte-eq13.ensures, c.if-byte-eq13.true) (λ e. cc, λ size text. with_size (pad_at_return text))

pub returns : goal.returns
returns c size text rest =
    pad_at_other c.args.byte text (λ ows. cc (ows, c.is_space_or_tab.ensures, c.if-is_space_or_tab.false)) c.if-byte-eq59.false c.if-byte-eq13.false rest.0
