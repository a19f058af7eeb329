use Rattle.std.proofs.Common.{◌≡◌, ◌≤◌, ℕ, List, length, Ok, Err, sym, ap, subst, ◌∙◌}
use Rattle.scim_filter_grammar.specs.Bytes.{is_space, behind}
use Rattle.scim_schema.specs.declared.limits.TheConstants.{LONGEST_FILTER}
use Rattle.scim_filter_grammar.specs.Reading.{Syntax, TooDeep}
use Rattle.scim_filter_grammar.specs.PathReading.{written_at}
use Rattle.scim_filter_grammar.specs.WrittenPaths.{written_of}
use Rattle.scim_filter_grammar.proofs.TakeLemmas.{ok_is}
use Rattle.scim_filter_grammar.proofs.WrittenPathLemmas.{whole_takes, whole_again, not_written}
use Rattle.scim_filter_grammar.proofs.written_paths.written_path.Goals as goal

pub returns-in-Ok-clause-found : goal.returns-in-Ok-clause-found
returns-in-Ok-clause-found c =
    let e : c.as_bytes-bytes.result.now ≡ c.args.text.now = c.as_bytes-bytes.ensures.value in
    let skipped : c.skip_spaces.result.now ≡ behind is_space c.args.text.now = c.skip_spaces.ensures.rest ∙ ap (behind is_space) e in
    let read : written_at 32 c.args.kind (behind is_space c.args.text.now) ≡ Ok (written_of c.in-Ok.path) = subst (λ (b : List ℕ). written_at 32 c.args.kind b ≡ Ok (written_of c.in-Ok.path)) skipped c.in-Ok.ensures in
    let short : length c.args.text.now ≤ LONGEST_FILTER = subst (λ (b : List ℕ). length b ≤ LONGEST_FILTER) e c.if-bytes-gt-LONGEST_FILTER.false in
    (short, whole_takes c.args.kind c.args.text.now (written_of c.in-Ok.path) read)

pub returns-in-Ok-clause-only : goal.returns-in-Ok-clause-only
returns-in-Ok-clause-only c =
    let e : c.as_bytes-bytes.result.now ≡ c.args.text.now = c.as_bytes-bytes.ensures.value in
    let skipped : c.skip_spaces.result.now ≡ behind is_space c.args.text.now = c.skip_spaces.ensures.rest ∙ ap (behind is_space) e in
    let read : written_at 32 c.args.kind (behind is_space c.args.text.now) ≡ Ok (written_of c.in-Ok.path) = subst (λ (b : List ℕ). written_at 32 c.args.kind b ≡ Ok (written_of c.in-Ok.path)) skipped c.in-Ok.ensures in
    λ w short h. ok_is (written_of c.in-Ok.path) w (sym read ∙ whole_again c.args.kind c.args.text.now w h)

pub returns-in-Err-Because-Syntax-clause-only : goal.returns-in-Err-Because-Syntax-clause-only
returns-in-Err-Because-Syntax-clause-only c =
    let e : c.as_bytes-bytes.result.now ≡ c.args.text.now = c.as_bytes-bytes.ensures.value in
    let skipped : c.skip_spaces.result.now ≡ behind is_space c.args.text.now = c.skip_spaces.ensures.rest ∙ ap (behind is_space) e in
    let failed : written_at 32 c.args.kind c.skip_spaces.result.now ≡ Err Syntax = rw (c.in-Err-Because-Syntax.field-0-is, c.in-Err-Because-Syntax.field-0-0-is) at c.in-Err-Because-Syntax.ensures in
    λ w short h. absurd (not_written c.args.kind c.args.text.now Syntax w (ap (written_at 32 c.args.kind) (sym skipped) ∙ failed) h)

pub returns-in-Err-Because-TooDeep-clause-only : goal.returns-in-Err-Because-TooDeep-clause-only
returns-in-Err-Because-TooDeep-clause-only c =
    let e : c.as_bytes-bytes.result.now ≡ c.args.text.now = c.as_bytes-bytes.ensures.value in
    let skipped : c.skip_spaces.result.now ≡ behind is_space c.args.text.now = c.skip_spaces.ensures.rest ∙ ap (behind is_space) e in
    let failed : written_at 32 c.args.kind c.skip_spaces.result.now ≡ Err TooDeep = rw (c.in-Err-Because-TooDeep.field-0-is, c.in-Err-Because-TooDeep.field-0-0-is) at c.in-Err-Because-TooDeep.ensures in
    λ w short h. absurd (not_written c.args.kind c.args.text.now TooDeep w (ap (written_at 32 c.args.kind) (sym skipped) ∙ failed) h)
