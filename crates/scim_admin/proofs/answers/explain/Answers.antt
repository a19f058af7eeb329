use Rattle.std.proofs.Common.{ℕ, List, refl, sym, ap, ◌∙◌, subst}
use Rattle.scim_policy.specs.Rules.{Rule}
use Rattle.scim_shelf.specs.Stores.{Store}
use Rattle.scim_shelf_watch.specs.declared.watched.WatchedShelf.{WatchedShelf}
use Rattle.scim_shelf_watch.specs.Watched.{Represents, lower_of}
use Rattle.scim_admin.specs.declared.watching.ServerWatch.{ServerWatch}
use Rattle.scim_admin.specs.contracts.watching.ServerWatchWatcher.TheImpl as watcher
use Rattle.scim_hub.specs.HubSetting.{hub_policy, with_hub_shelf}
use Rattle.scim_command_database.specs.declared.explaining.Question.{Question}
use Rattle.scim_command_database.specs.Explaining.{told}
use Rattle.scim_admin_streams.specs.AuditJobs.{reference_to}
use Rattle.scim_admin.specs.Answers.{IsQuestion}
use Rattle.scim_admin.proofs.AnswerLemmas.{found_tells, none_tells}
use Rattle.scim_admin.proofs.answers.explain.Goals as goal

pub returns-in_ok-text-in-Ok-Some-clause-tells : goal.returns-in_ok-text-in-Ok-Some-clause-tells
returns-in_ok-text-in-Ok-Some-clause-tells g c =
    let S : Type 0 = WatchedShelf g.row.S.Denot (ServerWatch g.row.H.Denot) in
    let Stands : S → Store → Type 0 = λ shelf store. Represents g.S.Shelf.stands ((watcher.ghosts g.row.H g.H.Host g.H.Host-dict).told) shelf store in
    let IsHonest : S → Type 0 = λ shelf. g.S.Shelf.is_honest (lower_of shelf) in
    let failures : S → ℕ = λ shelf. shelf.failures in
    let q = c.args.query.now in
    let question : Question = record { client = c.as_str.result; op = q.op; kind = q.kind; id = q.id; path = c.in-Ok.path } in
    let asks : IsQuestion q question = record { client = c.as_str.ensures; op = refl; kind = refl; id = refl; path = c.in-Ok.ensures.path } in
    let resource = c.in-Ok-Some.resource in
    found_tells Stands IsHonest failures c.args.hub.now (with_hub_shelf c.args.hub.now c.by_id.new.self) q question asks resource c.as_str-in-Ok-Some.result.now c.plain.result
    (λ store stands honest. sym (c.in-Ok-Some.ensures.answer store (subst (λ (s : S). Stands s store) (sym c.shelf_mut.ensures.shows) stands) honest) ∙ c.in-Ok-Some.field-0-is)
    (c.as_str-in-Ok-Some.ensures.value ∙ c.in_ok-text-in-Ok-Some.ensures ∙ ap (λ (policy : List Rule). told policy question resource) c.policy.ensures)
    c.plain.ensures.says

pub returns-in-Ok-None-clause-tells : goal.returns-in-Ok-None-clause-tells
returns-in-Ok-None-clause-tells g c =
    let S : Type 0 = WatchedShelf g.row.S.Denot (ServerWatch g.row.H.Denot) in
    let Stands : S → Store → Type 0 = λ shelf store. Represents g.S.Shelf.stands ((watcher.ghosts g.row.H g.H.Host g.H.Host-dict).told) shelf store in
    let IsHonest : S → Type 0 = λ shelf. g.S.Shelf.is_honest (lower_of shelf) in
    let failures : S → ℕ = λ shelf. shelf.failures in
    let q = c.args.query.now in
    let question : Question = record { client = reference_to q.client; op = q.op; kind = q.kind; id = q.id; path = c.in-Ok.path } in
    let asks : IsQuestion q question = record { client = refl; op = refl; kind = refl; id = refl; path = c.in-Ok.ensures.path } in
    none_tells Stands IsHonest failures c.args.hub.now (with_hub_shelf c.args.hub.now c.by_id.new.self) q question asks
    c.plain-in-Ok-None.result
    (λ store stands honest. sym (c.in-Ok-None.ensures.answer store (subst (λ (s : S). Stands s store) (sym c.shelf_mut.ensures.shows) stands) honest) ∙ c.in-Ok-None.field-0-is)
    c.plain-in-Ok-None.ensures.says
