use Rattle.std.proofs.Common.{rules, ◌≡◌, ◌<◌, [], length, arith, string_bytes}
use Rattle.scim_admin_streams.proofs.ExportLemmas.{part_done, part_more}
use Rattle.scim_admin_streams.proofs.export_jobs.ExportJob.next.Goals as goal
use Rattle.scim_admin_streams.proofs.export_jobs.ExportJob.next.Goals.{then-self-len+in_ok-push_str, else-self-len}

pub returns-clause-shorter : goal.returns-clause-shorter
returns-clause-shorter g c = λ undone.
    let old = c.args.self.now in
    let mid = c.add_documents.new.self in
    let added = c.in_ok-add_documents.ensures in
    let empty : string_bytes c.new-text.result ≡ [] = search rules in
    elim c.if-self-len.branch [
      | then-self-len+in_ok-push_str w ↦ part_done old mid c.if-self-len.self undone added.names w.self-is
      | else-self-len w ↦
          let low : mid.at < length mid.names.items = omega (arith, w.if-self-len.false, c.len.ensures) in
          rw w.self-is (part_more old mid undone added.names added.ending added.above low (added.more empty))
    ]
