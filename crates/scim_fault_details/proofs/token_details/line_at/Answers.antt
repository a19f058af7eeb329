use Rattle.std.proofs.Common.{◌≡◌, ◌∙◌, ap, ap₂, List, [], ℕ, map, lit<}
use Rattle.std.specs.Prelude.{unwrap_or, slice_get}
use Rattle.std.specs.List.{slice_split}
use Rattle.std.proofs.lemmas.Iterator.{items_from_drains}
use Rattle.std.proofs.lemmas.Iterator.Splits.{YieldsList-from_str_split}
use Rattle.scim_token.specs.TokenFile.{is_line_feed}
use Rattle.scim_fault_details.proofs.token_details.line_at.Goals as goal

pub returns : goal.returns
returns c =
    let ran = c.in_ok-lines.ensures.ran in
    let pieces = YieldsList-from_str_split 10 c.args.text.now (lit< tt) c.split.ensures.text c.split.ensures.has_more c.split.ensures.pattern in
    let all : map (λ x. x.now) c.as_slice.result.now ≡ slice_split is_line_feed c.args.text.now =
    ap (map (λ x. x.now)) (c.as_slice.ensures.value ∙ ran.2.0) ∙ items_from_drains ran.0 ran.1 pieces in
    c.nth_or_empty.ensures ∙ ap₂ (λ (lines : List (List ℕ)) (i : ℕ). unwrap_or (slice_get lines i) []) all c.saturating_sub.ensures
