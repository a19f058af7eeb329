use Rattle.std.proofs.Common.{sym, ap, ◌∙◌}
use Rattle.scim_shelf.specs.Stores.{Store}
use Rattle.scim_shelf_watch.specs.declared.watched.WatchedShelf.{WatchedShelf}
use Rattle.scim_shelf_watch.specs.Watched.{Represents, lower_of}
use Rattle.scim_admin.specs.declared.watching.ServerWatch.{ServerWatch}
use Rattle.scim_admin.specs.contracts.watching.ServerWatchWatcher.TheImpl as watcher
use Rattle.scim_admin.specs.declared.jobs.Work.{Work}
use Rattle.scim_admin.specs.Jobs.{rest_at}
use Rattle.scim_admin.proofs.AnswerLemmas.{list_tells}
use Rattle.scim_admin.proofs.answers.list.Goals as goal

pub returns-clause-tells : goal.returns-clause-tells
returns-clause-tells g c =
    let S : Type 0 = WatchedShelf g.row.S.Denot (ServerWatch g.row.H.Denot) in
    let Stands : S → Store → Type 0 = λ shelf store. Represents g.S.Shelf.stands ((watcher.ghosts g.row.H g.H.Host g.H.Host-dict).told) shelf store in
    list_tells (Stands c.args.shelf.now) c.args.query c.args.closes c.audit.result c.content_of-content.result.now c.streamed.result c.content_of-content.ensures
    (λ store stands few. ap (λ (work : Work). rest_at work store) c.audit.ensures.work ∙ c.new-job.ensures.text store.audit (sym (c.rows.ensures.count store stands few)))
    (c.streamed.ensures.streams c.audit.ensures.framing)
