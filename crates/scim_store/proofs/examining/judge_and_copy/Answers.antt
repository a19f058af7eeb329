use Rattle.std.proofs.Common.{subst}
use Rattle.scim_shelf_cache.specs.Caches.{Caches}
use Rattle.scim_store.specs.code.Passing.{ShowsSound}
use Rattle.scim_store.proofs.CopyLemmas.{copied_all}
use Rattle.scim_store.proofs.examining.judge_and_copy.Goals as goal

pub returns-in-Ok-true-clause-copied : goal.returns-in-Ok-true-clause-copied
returns-in-Ok-true-clause-copied c = λ empty db read.
    (let base = c.args.base.now in
    let before = c.args.contents.now in
    let after = c.show_sound.new.visitor in
    let shown = subst (λ t. ShowsSound Caches c.args.version base t before after) c.resource_rows-tables.ensures (c.in-Ok-true.ensures c.in-Ok-true.field-0-test) in
    copied_all c.args.version base db c.args.rows before after read empty shown)
