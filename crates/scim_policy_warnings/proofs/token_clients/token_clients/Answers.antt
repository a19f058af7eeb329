use Rattle.std.proofs.Common.{◌≡◌, ◌∙◌, ap, subst, List, ℕ, map, lit<}
use Rattle.std.specs.Prelude.{IfOk, filter_map}
use Rattle.std.specs.List.{slice_split}
use Rattle.std.proofs.lemmas.Iterator.{items_from_drains}
use Rattle.std.proofs.lemmas.Iterator.Splits.{YieldsList-from_str_split}
use Rattle.scim_token.specs.TokenFile.{is_line_feed}
use Rattle.scim_policy_warnings.specs.Clients.{distinct}
use Rattle.scim_policy_warnings.specs.code.TokenLines.{client_in}
use Rattle.scim_policy_warnings.proofs.TokenLemmas.{told}
use Rattle.scim_policy_warnings.proofs.token_clients.token_clients.Goals as goal

pub returns : goal.returns
returns c =
    let ran = c.in_ok-lines.ensures.ran in
    let pieces = YieldsList-from_str_split 10 c.args.tokens.now (lit< tt) c.split.ensures.text c.split.ensures.has_more c.split.ensures.pattern in
    let all : map (λ x. x.now) c.as_slice.result.now ≡ slice_split is_line_feed c.args.tokens.now =
    ap (map (λ x. x.now)) (c.as_slice.ensures.value ∙ ran.2.0) ∙ items_from_drains ran.0 ran.1 pieces in
    told (λ v. v.items) c.args.tokens.now c.clients_in.result (subst (λ (ls : List (List ℕ)). IfOk c.clients_in.result (λ v. v.items ≡ distinct (filter_map client_in ls))) all c.clients_in.ensures)
