use Rattle.std.proofs.Common.{rules, ◌≡◌, false, length, ap, sym, subst, ◌∙◌}
use Rattle.scim_store_causes.proofs.ColumnLemmas.{Below, NullOrBelow, columns_of, decisions_long, refusals_long, not_below, not_null_or_below}
use Rattle.scim_store_causes.proofs.audit_columns.may_be_valid.Goals as goal

pub returns-then-not-is_below : goal.returns-then-not-is_below
returns-then-not-is_below c = λ _ n is.
    (let fails : c.is_below.result ≡ false = search rules in not_below c.args.row.now 1 (columns_of n c.args.row.now is).moment (c.is_below.ensures fails))

pub returns-then-not-is_below-4 : goal.returns-then-not-is_below-4
returns-then-not-is_below-4 c = λ _ n is.
    (let row = c.args.row.now in
    let fails : c.is_below-4.result ≡ false = search rules in
    let long : length c.all-3.result.now ≡ 5 = ap length c.all-3.ensures ∙ decisions_long in
    not_below row 6 (subst (Below row 6) (sym long) (columns_of n row is).decided) (c.is_below-4.ensures fails))

pub returns : goal.returns
returns c = λ fails n is.
    (let row = c.args.row.now in
    let long : length c.all-4.result.now ≡ 21 = ap length c.all-4.ensures ∙ refusals_long in
    not_null_or_below row 9 (subst (NullOrBelow row 9) (sym long) (columns_of n row is).refusal) (c.is_null_or_below-2.ensures fails))
