use Rattle.std.proofs.Common.{◌≡◌, List, ℕ, sym, ◌∙◌, subst, true, false, Option, Some, None, Bor}
use Rattle.std.specs.Prelude.{IsUtf8}
use Rattle.std.specs.Option.{option_copied}
use Rattle.sqlite.specs.declared.types.Value.TheVariants.{Text}
use Rattle.sqlite.specs.Order.{column}
use Rattle.scim_store_rows.specs.AuditBack.{ReadsBack}
use Rattle.scim_store_rows.specs.Stands.{MayHave}
use Rattle.scim_store.proofs.DamageLemmas.{row_is, no_other, the_one, no_document}
use Rattle.scim_store.proofs.damage.read_resource.Goals as goal

pub returns-in_default-clause-none : goal.returns-in_default-clause-none
returns-in_default-clause-none c = λ _.
    (let none : ReadsBack IsUtf8 Text (column c.args.row.now 2) None = subst (λ (found : Option (Bor (List ℕ))). ReadsBack IsUtf8 Text (column c.args.row.now 2) (option_copied found)) c.in_default.is c.str_at.ensures in
    no_document c.args.version c.args.base.now c.args.row.now _ none)

pub returns-then-may_have-clause-some : goal.returns-then-may_have-clause-some
returns-then-may_have-clause-some c =
    let reads : ReadsBack IsUtf8 Text (column c.args.row.now 2) (Some c.in-Some.document.now) = subst (λ (found : Option (Bor (List ℕ))). ReadsBack IsUtf8 Text (column c.args.row.now 2) (option_copied found)) c.in-Some.is c.str_at.ensures in
    record {
      document = c.in-Some.document.now;
      row_is = row_is _ _ _ _ (sym c.is_row_of.ensures ∙ c.if-not-is_row_of.false);
      kept = c.in-Ok.ensures;
      utf8 = reads.0;
      may = c.may_have.ensures.0 c.if-may_have.true;
    }

pub returns-then-not-is_row_of-clause-none : goal.returns-then-not-is_row_of-clause-none
returns-then-not-is_row_of-clause-none c = λ _ other of.
    (let reads : ReadsBack IsUtf8 Text (column c.args.row.now 2) (Some c.in-Some.document.now) = subst (λ (found : Option (Bor (List ℕ))). ReadsBack IsUtf8 Text (column c.args.row.now 2) (option_copied found)) c.in-Some.is c.str_at.ensures in
    let has = no_other c.args.version c.args.base.now c.in-Some.document.now c.args.row.now _ c.in-Ok.resource other of reads.1 c.in-Ok.ensures in
    let no : false ≡ true = sym c.if-not-is_row_of.true ∙ c.is_row_of.ensures ∙ has in cc)

pub returns-else-may_have-clause-none : goal.returns-else-may_have-clause-none
returns-else-may_have-clause-none c = λ _ other of.
    (let reads : ReadsBack IsUtf8 Text (column c.args.row.now 2) (Some c.in-Some.document.now) = subst (λ (found : Option (Bor (List ℕ))). ReadsBack IsUtf8 Text (column c.args.row.now 2) (option_copied found)) c.in-Some.is c.str_at.ensures in
    let one : other ≡ c.in-Ok.resource = the_one c.args.version c.args.base.now c.in-Some.document.now c.args.row.now _ c.in-Ok.resource other of reads.1 c.in-Ok.ensures in
    let no : false ≡ true = sym c.if-may_have.false ∙ c.may_have.ensures.1 (subst (MayHave c.args.version) one of.may) in cc)
