use Rattle.std.proofs.Common.{◌≡◌, ◌+◌, ◌<◌, ◌++◌, length, map, sym, ap, ◌∙◌, arith, string_bytes, Err}
use Rattle.scim_command_database.specs.Exports.{users_and_groups}
use Rattle.scim_json.specs.Stored.{stored_text}
use Rattle.scim_admin_streams.specs.ExportJobs.{name_of, text_after, text_before}
use Rattle.scim_admin_streams.specs.declared.export_jobs.ExportFault.TheVariants.{Changed}
use Rattle.scim_admin_streams.proofs.ExportLemmas.{next_text, next_there, written_more}
use Rattle.scim_admin_streams.proofs.export_jobs.ExportJob.add_documents.Goals as goal

pub returns-in_err-add_document-clause-changed : goal.returns-in_err-add_document-clause-changed
returns-in_err-add_document-clause-changed g c = λ changed store was honest exports.
    let loop = c.loop-self.invariant in
    let names = c.loop-self.self.names.items in
    let mine = loop.keeps.store store was in
    let are : names ≡ map name_of (users_and_groups store.resources) = (λ i. (loop.names i).items) ∙ exports in
    let long : length names ≡ length c.args.self.now.names.items = (λ i. length (loop.names i).items) in
    let low : c.loop-self.self.at < length names = omega (arith, c.loop-self-test.true, c.min-end.ensures, c.len.ensures, long) in
    let came = rw changed at c.from_residual-in_err-add_document.ensures in
    let fault : Changed ≡ c.in_err-add_document.field-0.0 = came.1 in
    next_there store.resources names c.loop-self.self.at c.index-named.result.now was.1 are low c.index-named.ensures
    (c.add_document.ensures.changed (c.in_err-add_document.was ∙ ap Err (sym fault)) store mine.0 honest)

pub loop-self-preserved : goal.loop-self-preserved
loop-self-preserved g c =
    let loop = c.loop-self.invariant in
    let names = c.loop-self.self.names.items in
    let i = c.loop-self.self.at in
    let long : length names ≡ length c.args.self.now.names.items = (λ k. length (loop.names k).items) in
    let low : i < length names = omega (arith, c.loop-self-test.true, c.min-end.ensures, c.len.ensures, long) in
    record {
      keeps = record { store = λ store was. c.add_document.ensures.keeps.store store (loop.keeps.store store was); round = λ round has. c.add_document.ensures.keeps.round round (loop.keeps.round round has); honest = λ is. loop.keeps.honest (c.add_document.ensures.keeps.honest is) };
      written = λ store was honest exports.
          let all = users_and_groups store.resources in
          let mine = loop.keeps.store store was in
          let are : names ≡ map name_of all = (λ k. (loop.names k).items) ∙ exports in
          let document = c.in_ok-add_document.ensures.document store mine.0 honest in
          let text = next_text store.resources names i c.index-named.result.now was.1 are low c.index-named.ensures document.0 document.1 in
          let first = c.in_ok-push_str.ensures.bytes ∙ ap (λ t. string_bytes c.loop-self.text ++ t) c.before-in-loop-self.ensures in
          written_more _ (string_bytes c.loop-self.text) (text_before i) (string_bytes c.push_str.new.self) (string_bytes c.add_document.new.text) (stored_text document.0) (text_after i all) (text_after (i + 1) all)
          (loop.written store was (c.add_document.ensures.keeps.honest honest) exports) text first document.2;
      names = loop.names;
      ending = loop.ending;
      above = omega (arith, loop.above);
      same = λ same. absurd (omega (arith, loop.above, same));
    }
