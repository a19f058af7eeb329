use Rattle.std.proofs.Common.{sym, ◌∙◌, subst}
use Rattle.std.specs.Str.{IsUtf8}
use Rattle.scim_store.proofs.IdTextLemmas.{id_text-utf8, never_read, IsIdText-id_text-of}
use Rattle.scim_store.proofs.row_owners.id_of.Goals as goal

pub returns-in-Ok-clause-none : goal.returns-in-Ok-clause-none
returns-in-Ok-clause-none c = λ none id is same.
    never_read c.read.result none (c.read.ensures.form.1 (IsIdText-id_text-of id is (c.in-Ok.ensures.cases.0 ∙ same)))

pub returns-in-Err-clause-none : goal.returns-in-Err-clause-none
returns-in-Err-clause-none c = λ none id is same. c.in-Err.ensures.cases.0 (subst IsUtf8 (sym same) (id_text-utf8 id is))
