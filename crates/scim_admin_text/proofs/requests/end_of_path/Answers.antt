use Rattle.std.proofs.Common.{rules, tests, ◌≡◌, ◌∙◌, ap, cond, length, ℕ}
use Rattle.std.specs.Prelude.{nat_lt, Option, None, Some, unwrap_or}
use Rattle.std.specs.List.{position_or_len}
use Rattle.std.proofs.lemmas.Iterator.{YieldsList-from_slice}
use Rattle.std.proofs.lemmas.Iterator.Search.{position_from_yields_List}
use Rattle.scim_admin_text.specs.Requests.{is_question_mark}
use Rattle.scim_admin_text.proofs.PositionLemmas.{position_or_end}
use Rattle.scim_admin_text.proofs.requests.end_of_path.Goals as goal

pub returns-clause-place : goal.returns-clause-place
returns-clause-place c =
    let bytes = c.args.target.now in
    let found : c.position.result ≡ cond (nat_lt (position_or_len is_question_mark bytes) (length bytes)) (Some (position_or_len is_question_mark bytes)) None =
    position_from_yields_List is_question_mark _ _ c.position.result c.position.ensures.ran (YieldsList-from_slice _ c.iter.ensures.rest) (λ x b q k. search (rules, tests)) in
    c.unwrap_or.ensures ∙ ap (λ (o : Option ℕ). unwrap_or o (length bytes)) found ∙ position_or_end is_question_mark bytes
