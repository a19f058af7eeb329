use Rattle.std.proofs.Common.{◌≡◌, ℕ, ◌+◌, ◌-◌, ◌≤◌, ◌++◌, ◌∙◌, sym, ap, arith, length, drop, [], ◌∷◌, append_assoc, length-append, string_bytes, take, List}
use Rattle.scim_audit_listing.specs.Listings.{Numbered, fitting_rows, lines}
use Rattle.scim_audit_listing.proofs.FilteredLemmas.{fitting_from, lines_parts}
use Rattle.scim_audit_listing.proofs.listings.add_lines.Goals as goal

pub loop-index-preserved : goal.loop-index-preserved
loop-index-preserved c =
    let which = c.args.filter.now in
    let i = c.loop-index.index in
    let before = c.loop-index.added in
    let row = c.index-rows-index.result in
    let this = fitting_rows which (c.args.first + i) (row ∷ []) in
    let rest = fitting_rows which (c.args.first + (i + 1)) (drop (i + 1) c.args.rows.now) in
    let parts = fitting_from which c.args.first i c.args.rows.now row c.loop-index-test.true c.index-rows-index.is in
    let long = c.in_ok-added.ensures.count (c.args.first + i) in
    let single = c.in_ok-added.ensures.single in
    let left : length this ≤ c.args.most - before = omega (arith, long, single, c.if-added-most.false, c.loop-index.invariant.within) in
    record {
      within = omega (arith, single, c.if-added-most.false, c.loop-index.invariant.within);
      few = omega (arith, single, c.loop-index.invariant.few);
      lines = λ low.
          let number : c.saturating_add-number.result ≡ c.args.first + i = omega (arith, c.saturating_add-number.ensures, low, c.loop-index-test.true) in
          let wrote = rw number at c.in_ok-added.ensures.lines in
          let text = string_bytes c.loop-index.text in
          let format = c.args.format in
          let left_behind : c.args.most - before - length this ≡ c.args.most - (before + c.in_ok-added.field-0) = omega (arith, long) in
          let seam = lines_parts format (c.args.most - before) this rest left in
          ap (λ (t : List ℕ). t ++ lines format (take (c.args.most - (before + c.in_ok-added.field-0)) rest)) wrote
          ∙ append_assoc text (lines format this) (lines format (take (c.args.most - (before + c.in_ok-added.field-0)) rest))
          ∙ ap (λ (k : ℕ). text ++ (lines format this ++ lines format (take k rest))) (sym left_behind)
          ∙ ap (λ (t : List ℕ). text ++ t) (sym seam)
          ∙ ap (λ (rows : List Numbered). text ++ lines format (take (c.args.most - before) rows)) (sym parts)
          ∙ c.loop-index.invariant.lines low;
      count =
          let whole = ap length parts ∙ length-append this rest in
          omega (arith, whole, long, single, left, c.loop-index.invariant.count);
    }
