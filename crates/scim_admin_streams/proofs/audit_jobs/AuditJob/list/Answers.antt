use Rattle.std.proofs.Common.{rules, ◌≡◌, ◌+◌, [], ◌++◌, min, length, take, sym, ◌∙◌, arith, string_bytes}
use Rattle.scim_audit_listing.specs.Listings.{lines}
use Rattle.scim_admin_streams.specs.AuditJobs.{between, filter_of, rows_left}
use Rattle.scim_admin_streams.proofs.BlockLemmas.{few, listed_more}
use Rattle.scim_admin_streams.proofs.QueryLemmas.{fitting_same}
use Rattle.scim_admin_streams.proofs.audit_jobs.AuditJob.list.Goals as goal

pub returns : goal.returns
returns g c =
    let old = c.args.self.now in
    let which = filter_of old.query in
    let format = old.query.format in
    let n = c.min-count.result in
    record {
      shelf = c.rows_from.ensures.keeps;
      piece = λ store stands honest.
          let rows = c.in_ok-rows.rows.items in
          let are = c.in_ok-rows.ensures.answer store stands honest in
          let short = few which old.at n store rows are in
          let same = fitting_same old.query c.listing-listing.result c.listing-listing.ensures (old.at + 1) rows in
          let slice = c.as_slice.ensures.value in
          let wrote = (rw slice at c.in_ok-added.ensures.lines) (omega (arith, short, c.min-count.ensures, c.if-self.false)) in
          let counted = rw slice at c.in_ok-added.ensures.count in
          let empty : string_bytes c.new-text.result ≡ [] = search rules in
          let text = wrote ∙ (λ i. empty i ++ lines (c.listing-listing.ensures.format i) (take c.args.most (same i))) in
          (λ i. lines format (rows_left which (c.requires i) old.skipped old.at old.count store.audit))
          ∙ listed_more which old.at n store rows are format old.count c.args.most c.in_ok-added.added (omega (arith, c.min-count.ensures, c.if-self.false)) (counted ∙ (λ i. min c.args.most (length (same i))))
          ∙ (λ i. sym text i ++ lines format (take (sym c.saturating_sub.ensures i) (between which (old.at + n) old.count store.audit)));
      shorter = λ undone. rw c.requires (omega (arith, c.min-count.ensures, c.if-self.false));
      rows = λ audit has. has;
      failed = search rules;
    }
