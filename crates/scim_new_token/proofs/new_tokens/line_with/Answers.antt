use Rattle.std.proofs.Common.{rules, arith, ◌≡◌, sym, string_bytes}
use Rattle.hex.specs.Hex.{IsBytes}
use Rattle.sha2.specs.Sha256.{sha256}
use Rattle.scim_new_token.specs.NewToken as spec
use Rattle.scim_new_token.proofs.LineLemmas.{is_line}
use Rattle.scim_new_token.proofs.new_tokens.line_with.Goals as goal

pub returns : goal.returns
returns c = λ token digest name.
    let bytes : IsBytes (sha256 token) = λ i. let fits = c.type_inv.digest i in rw (sym digest) (omega (arith, fits)) in
    let text : string_bytes c.in_ok-format.field-0 ≡ spec.line_of c.args.client.now token = rw (sym digest) search rules in
    rw text (is_line c.args.client.now token name bytes)
