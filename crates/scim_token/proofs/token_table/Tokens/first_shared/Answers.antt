use Rattle.std.proofs.Common.{rules, ◌≡◌, sym, ◌∙◌, ap, ℕ, ◌+◌, lit<}
use Rattle.std.specs.Option.{option_map}
use Rattle.std.specs.List.{position, slice_split}
use Rattle.std.proofs.lemmas.Iterator.Search.{position_from_yields_List}
use Rattle.std.proofs.lemmas.Iterator.Splits.{YieldsList-from_str_split}
use Rattle.scim_token.specs.TokenFile.{is_line_feed, is_shared}
use Rattle.scim_token.proofs.token_table.Tokens.first_shared.Goals as goal

pub returns-in_err-before : goal.returns-in_err-before
returns-in_err-before c = λ known h.
    let pieces = YieldsList-from_str_split 10 c.args.text.now (lit< tt) c.split.ensures.text c.split.ensures.has_more c.split.ensures.pattern in
    let found : c.position.result ≡ position (is_shared known) (slice_split is_line_feed c.args.text.now) =
    position_from_yields_List (is_shared known) _ _ c.position.result c.position.ensures.ran pieces (λ x b q k. search (rules, h)) in
    c.from_residual.ensures ∙ ap (option_map (λ (before : ℕ). before + 1)) (sym c.in_err-before.was ∙ found)

pub returns : goal.returns
returns c = λ known h.
    let pieces = YieldsList-from_str_split 10 c.args.text.now (lit< tt) c.split.ensures.text c.split.ensures.has_more c.split.ensures.pattern in
    let found : c.position.result ≡ position (is_shared known) (slice_split is_line_feed c.args.text.now) =
    position_from_yields_List (is_shared known) _ _ c.position.result c.position.ensures.ran pieces (λ x b q k. search (rules, h)) in
    ap (option_map (λ (before : ℕ). before + 1)) (sym c.in_ok-before.was ∙ found)
