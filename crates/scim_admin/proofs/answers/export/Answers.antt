use Rattle.std.proofs.Common.{ℕ, sym, ap, ◌∙◌, subst, Err}
use Rattle.scim_shelf_cache.specs.Caches.{HasKeyed}
use Rattle.scim_shelf.specs.Stores.{Store}
use Rattle.scim_shelf_watch.specs.declared.watched.WatchedShelf.{WatchedShelf}
use Rattle.scim_shelf_watch.specs.Watched.{Represents, lower_of}
use Rattle.scim_admin.specs.declared.watching.ServerWatch.{ServerWatch}
use Rattle.scim_admin.specs.contracts.watching.ServerWatchWatcher.TheImpl as watcher
use Rattle.scim_admin.specs.declared.jobs.Work.{Work}
use Rattle.scim_admin.specs.Jobs.{IsOver, rest_at}
use Rattle.scim_admin.proofs.AnswerLemmas.{device_failed, export_fails, export_tells}
use Rattle.scim_admin.proofs.answers.export.Goals as goal

pub returns-in-Ok-clause-tells : goal.returns-in-Ok-clause-tells
returns-in-Ok-clause-tells g c =
    let S : Type 0 = WatchedShelf g.row.S.Denot (ServerWatch g.row.H.Denot) in
    let Stands : S → Store → Type 0 = λ shelf store. Represents g.S.Shelf.stands ((watcher.ghosts g.row.H g.H.Host g.H.Host-dict).told) shelf store in
    let IsHonest : S → Type 0 = λ shelf. g.S.Shelf.is_honest (lower_of shelf) in
    let failures : S → ℕ = λ shelf. shelf.failures in
    export_tells (HasKeyed Stands) IsHonest failures c.args.shelf.now c.new.new.shelf c.args.is_exporting c.args.closes c.export-job.result c.streamed.result c.if-is_exporting.false
    (λ store was honest. (
      subst (λ (work : Work). IsOver work store) (sym c.export-job.ensures.work) (c.in-Ok.ensures.names store was.0 honest),
      ap (λ (work : Work). rest_at work store) c.export-job.ensures.work ∙ c.in-Ok.ensures.text store was.0 honest,
    ))
    (c.streamed.ensures.streams c.export-job.ensures.framing)

pub returns-in-Err-Because-clause-tells : goal.returns-in-Err-Because-clause-tells
returns-in-Err-Because-clause-tells g c =
    let S : Type 0 = WatchedShelf g.row.S.Denot (ServerWatch g.row.H.Denot) in
    let Stands : S → Store → Type 0 = λ shelf store. Represents g.S.Shelf.stands ((watcher.ghosts g.row.H g.H.Host g.H.Host-dict).told) shelf store in
    let IsHonest : S → Type 0 = λ shelf. g.S.Shelf.is_honest (lower_of shelf) in
    let failures : S → ℕ = λ shelf. shelf.failures in
    export_fails (HasKeyed Stands) IsHonest failures c.args.shelf.now c.new.new.shelf c.args.is_exporting c.args.closes c.unreadable.result c.if-is_exporting.false
    (device_failed c.new.result c.in-Err-Because.field-0-0 _ _ (c.in-Err-Because.is ∙ ap Err c.in-Err-Because.field-0-is) c.new.ensures.counts c.new.ensures.not_full)
    c.unreadable.ensures
