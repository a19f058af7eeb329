use Rattle.std.proofs.Common.{rules, ◌≡◌, ◌≢◌, ◌+◌, sym, ◌∙◌, ap, ap₂, false, cond, [], ◌∷◌, ◌++◌, length, length-append}
use Rattle.std.specs.Prelude.{nat_eq, Some, is_some}
use Rattle.std.specs.Cmp.Lexicographic.{pointwise}
use Rattle.std.specs.List.{list_any}
use Rattle.scim_token.specs.TokenFile.{has_digest}
use Rattle.scim_token.specs.code.Known.{entry_of}
use Rattle.scim_token.proofs.EntryLemmas.{found_client, added_twice, added_full, added_new, client_added}
use Rattle.scim_token.proofs.token_table.Tokens.add.Goals as goal

pub returns-then-contains_key-clause-fault : goal.returns-then-contains_key-clause-fault
returns-then-contains_key-clause-fault c = λ known h.
    let d = c.args.line.digest in
    added_twice known (entry_of c.args.line) (sym (ap is_some (h.clients d) ∙ found_client d.bytes known) ∙ sym c.contains_key.ensures ∙ c.if-contains_key.true)

pub returns-then-len-eq-MOST_TOKENS-clause-fault : goal.returns-then-len-eq-MOST_TOKENS-clause-fault
returns-then-len-eq-MOST_TOKENS-clause-fault c = λ known h.
    let d = c.args.line.digest in
    let absent : list_any (has_digest d.bytes) known ≡ false = sym (ap is_some (h.clients d) ∙ found_client d.bytes known) ∙ sym c.contains_key.ensures ∙ c.if-contains_key.false in
    let full : length known ≡ 10000 = sym h.count ∙ search rules in
    added_full known (entry_of c.args.line) absent full

pub returns-clause-ok : goal.returns-clause-ok
returns-clause-ok c = λ known h.
    let d = c.args.line.digest in
    let e = entry_of c.args.line in
    let absent : list_any (has_digest d.bytes) known ≡ false = sym (ap is_some (h.clients d) ∙ found_client d.bytes known) ∙ sym c.contains_key.ensures ∙ c.if-contains_key.false in
    let room : length known ≢ 10000 = λ full. absurd (search (rules, full, h.count)) in
    let new : is_some c.in_ok-insert.field-0 ≡ false = ap is_some c.in_ok-insert.ensures.old ∙ sym c.contains_key.ensures ∙ c.if-contains_key.false in (
      known ++ e ∷ [],
      added_new known e absent room,
      record {
        count = c.in_ok-insert.ensures.len ∙ rw new (ap (λ n. n + 1) h.count ∙ sym (length-append known (e ∷ [])));
        clients = λ q. c.in_ok-insert.ensures.updates.0 q ∙ ap₂ (cond (pointwise nat_eq d.bytes q.bytes)) (ap Some c.in_ok-client.ensures) (h.clients q) ∙ client_added known e q.bytes absent;
      },
    )
