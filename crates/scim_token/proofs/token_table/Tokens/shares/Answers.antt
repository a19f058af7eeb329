use Rattle.std.proofs.Common.{sym, ◌∙◌, ap}
use Rattle.std.specs.Prelude.{is_some}
use Rattle.scim_token.proofs.EntryLemmas.{found_client}
use Rattle.scim_token.proofs.token_table.Tokens.shares.Goals as goal

pub returns-in-Ok : goal.returns-in-Ok
returns-in-Ok c = λ known h.
    let d = c.in-Ok.entry.digest in
    rw (sym c.says_nothing.ensures ∙ c.if-says_nothing.false, c.in-Ok.ensures.ok) (c.contains_key.ensures ∙ ap is_some (h.clients d) ∙ found_client d.bytes known)
