use Rattle.std.proofs.Common.{rules, ◌≡◌, ◌≤◌, ◌+◌, ◌-◌, [], ◌++◌, min, length, take, drop, sym, ap, ◌∙◌, arith, string_bytes}
use Rattle.scim_audit_listing.specs.Listings.{lines, take_last}
use Rattle.scim_admin_streams.specs.AuditJobs.{between, filter_of, rows_left}
use Rattle.scim_admin_streams.proofs.BetweenLemmas.{searched_none}
use Rattle.scim_admin_streams.proofs.BlockLemmas.{all_between, few, search_ends, search_on}
use Rattle.scim_admin_streams.proofs.QueryLemmas.{fitting_same}
use Rattle.scim_admin_streams.proofs.audit_jobs.AuditJob.search.Goals as goal

-- there are no rows to search
pub returns-then-self : goal.returns-then-self
returns-then-self g c =
    let old = c.args.self.now in
    let which = filter_of old.query in
    let format = old.query.format in
    let empty : string_bytes c.new.result ≡ [] = search rules in
    record {
      shelf = record { store = λ store was. was; round = λ round has. has; honest = λ is. is };
      piece = λ store stands honest.
          let here = between which old.at old.count store.audit in
          (λ i. lines format (rows_left which (c.requires i) old.skipped old.at old.count store.audit))
          ∙ ap (lines format) (searched_none which store.audit old.skipped old.at old.count c.args.wanted c.if-self.true ∙ sym (all_between which old.at old.count store.audit))
          ∙ (λ i. sym empty i ++ lines format (take old.count here));
      shorter = λ undone. rw c.requires (omega (arith, c.if-self.true));
      rows = λ audit has. has;
      failed = search rules;
    }

-- the first of the last rows is in the block
pub returns-then-found-wanted : goal.returns-then-found-wanted
returns-then-found-wanted g c =
    let old = c.args.self.now in
    let which = filter_of old.query in
    let format = old.query.format in
    let first = c.max-first.result in
    let n = old.at - first in
    let place = c.min-self.result in
    let empty : string_bytes c.new-then-found-wanted.result ≡ [] = search rules in
    record {
      shelf = c.rows_from.ensures.keeps;
      piece = λ store stands honest.
          let rows = c.in_ok-rows.rows.items in
          let index = c.start_of_last-start.result.0 in
          let are = c.in_ok-rows.ensures.answer store stands honest in
          let short = few which first n store rows are in
          let same = fitting_same old.query c.listing-listing.result c.listing-listing.ensures (first + 1) rows in
          let later = fitting_same old.query c.listing-listing.result c.listing-listing.ensures (first + 1 + index) (drop index rows) in
          let slice = c.as_slice.ensures.value in
          let within = rw slice at c.start_of_last-start.ensures.within in
          let last = sym later ∙ (rw slice at c.start_of_last-start.ensures.start) (first + 1) ∙ ap (take_last c.args.wanted) same in
          let is = (rw slice at c.start_of_last-start.ensures.count) (first + 1) ∙ (λ i. min c.args.wanted (length (same i))) in
          let low : old.skipped ≤ first = omega (arith, c.max-first.ensures) in
          let whole : old.at ≡ first + n = omega (arith, c.max-first.ensures, c.saturating_sub.ensures, c.if-self.false) in
          let there : first + index ≡ place = omega (arith, c.min-self.ensures, c.saturating_add.ensures, within, short, whole, old.within) in
          (λ i. lines format (rows_left which (c.requires i) old.skipped old.at old.count store.audit))
          ∙ ap (lines format) ((λ i. take_last c.args.wanted (between which old.skipped (whole i) store.audit) ++ between which (whole i) old.count store.audit)
          ∙ search_ends which first n store rows are old.skipped old.count c.args.wanted c.start_of_last-start.result.1 low (omega (arith, whole, old.within)) is index within last c.if-found-wanted.true
          ∙ (λ i. between which (there i) old.count store.audit) ∙ sym (all_between which place old.count store.audit))
          ∙ (λ i. sym empty i ++ lines format (take old.count (between which place old.count store.audit)));
      shorter = λ undone. rw c.requires (omega arith);
      rows = λ audit has. has;
      failed = search rules;
    }

-- not all wanted rows are in the block
pub returns : goal.returns
returns g c =
    let old = c.args.self.now in
    let which = filter_of old.query in
    let format = old.query.format in
    let first = c.max-first.result in
    let n = old.at - first in
    let empty : string_bytes c.new-2.result ≡ [] = search rules in
    record {
      shelf = c.rows_from.ensures.keeps;
      piece = λ store stands honest.
          let rows = c.in_ok-rows.rows.items in
          let are = c.in_ok-rows.ensures.answer store stands honest in
          let same = fitting_same old.query c.listing-listing.result c.listing-listing.ensures (first + 1) rows in
          let slice = c.as_slice.ensures.value in
          let is = (rw slice at c.start_of_last-start.ensures.count) (first + 1) ∙ (λ i. min c.args.wanted (length (same i))) in
          let low : old.skipped ≤ first = omega (arith, c.max-first.ensures) in
          let whole : old.at ≡ first + n = omega (arith, c.max-first.ensures, c.saturating_sub.ensures, c.if-self.false) in
          (λ i. lines format (rows_left which (c.requires i) old.skipped old.at old.count store.audit))
          ∙ ap (lines format) ((λ i. take_last c.args.wanted (between which old.skipped (whole i) store.audit) ++ between which (whole i) old.count store.audit)
          ∙ search_on which first n store rows are old.skipped old.count c.args.wanted c.start_of_last-start.result.1 low (omega (arith, whole, old.within)) is c.if-found-wanted.false
          ∙ (λ i. take_last (sym c.saturating_sub-2.ensures i) (between which old.skipped first store.audit) ++ between which first old.count store.audit))
          ∙ (λ i. sym empty i ++ lines format (take_last c.saturating_sub-2.result (between which old.skipped first store.audit) ++ between which first old.count store.audit));
      shorter = λ undone. rw c.requires (omega (arith, c.max-first.ensures, c.saturating_sub.ensures, c.if-self.false));
      rows = λ audit has. has;
      failed = search rules;
    }
