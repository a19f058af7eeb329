use Rattle.std.proofs.Common.{subst, [], arith}
use Rattle.std.proofs.lemmas.Result.{IfOk-weaker}
use denote.Ref.{Bor}
use Rattle.scim_query.specs.declared.queries.Query.{Query}
use Rattle.scim_query.specs.Pages.{IsPage}
use Rattle.scim_search.proofs.LookupLemmas.{one_in_order}
use Rattle.scim_search.proofs.lookups.page_of.Goals as goal

pub returns-in-None : goal.returns-in-None
returns-in-None c =
    IfOk-weaker c.end.result _ _
    (λ page is.
    rw c.in-None.is (subst (λ (q : Bor Query). IsPage [] q.now page) c.new.ensures.query (is [] c.new.ensures.taken (λ e. one_in_order [] (omega arith)))))
    c.end.ensures
