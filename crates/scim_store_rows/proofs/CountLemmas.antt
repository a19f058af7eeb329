-- The audit rows, counted while they are given.
use Rattle.std.proofs.Common.{◌≡◌, ℕ, ◌+◌, ◌-◌, ◌<◌, refl, sym, ◌∙◌, ap, subst, arith, List, [], ◌∷◌, ◌++◌, length, get_or}
use Rattle.std.specs.Prelude.{Some, None, Ok}
use Rattle.std.proofs.lemmas.List.{length-append, append_assoc, get_or-append_right}
use Rattle.std.proofs.lemmas.List.Elements.{All-nil, All-cons, All-append}
use Rattle.sqlite_trees.specs.declared.store.Store as store
use Rattle.sqlite.specs.Effect.{Database}
use Rattle.sqlite.specs.Order.{Row}
use Rattle.sqlite.specs.Held.{Held, state}
use Rattle.sqlite.specs.Given.{HasGiven}
use Rattle.sqlite.specs.Listing.{understood}
use Rattle.sqlite.specs.Clock.{timed}
use Rattle.sqlite.specs.State.{State, HasCleanDisk, IsUnchanged, Shown, Begins}
use Rattle.sqlite.proofs.Callers.{begins_shown, EndsIn}
use Rattle.scim_audit.specs.declared.audit_rows.AuditRow.{AuditRow}
use Rattle.scim_store_tables.specs.Asks.{asked, IsAsk}
use Rattle.scim_store_tables.specs.Queries.{rows_query}
use Rattle.scim_store_tables.specs.declared.queries.Table.TheVariants.{Audit}
use Rattle.scim_store_tables.specs.declared.versions.Version.{Version}
use Rattle.scim_store_tables.specs.Reading.{HasTablesIn, shown}
use Rattle.scim_store_tables.specs.Whole.{AreInOrder}
use Rattle.scim_store_tables.proofs.Facts.{answered, rows_told}
use Rattle.scim_store_rows.specs.AuditBack.{IsSound}
use Rattle.scim_store_rows.specs.Auditing.{IsAuditRow, CountsAudit, TellsCount}
use Rattle.scim_store_rows.proofs.ReadLemmas.{length-audit_rows, append-audit_rows, none_read}
use Rattle.scim_store_rows.proofs.WalkLemmas.{unchanged_itself}

-- ---- the rows that were given so far

pub count_none : CountsAudit [] (Some 0)
count_none = ([], All-nil IsSound, refl, refl)

pub count_more : (rows : List Row) (k : ℕ) (row : Row) → CountsAudit rows (Some k) → IsAuditRow (k + 1) row → CountsAudit (rows ++ row ∷ []) (Some (k + 1))
count_more rows k row counts one =
    let audit = counts.0 in
    let long : length audit ≡ k = counts.3 in
    let last : List AuditRow = one.0 ∷ [] in (
      audit ++ last,
      All-append IsSound audit last counts.1 (All-cons IsSound one.0 [] one.1 (All-nil IsSound)),
      append-audit_rows 1 (k + 1) audit one.0 (omega (arith, long)) ∙ (λ i. counts.2 i ++ one.2 i ∷ []),
      length-append audit last ∙ (λ i. long i + 1),
    )

-- a row that isn't the next of the audit, whatever comes behind it
pub count_stops : (rows more : List Row) (k : ℕ) (row : Row) → CountsAudit rows (Some k) → ¬ IsAuditRow (k + 1) row → CountsAudit ((rows ++ row ∷ []) ++ more) None
count_stops rows more k row counts none =
    let long : length rows ≡ k = sym (ap length counts.2) ∙ length-audit_rows 1 counts.0 ∙ counts.3 in
    let back : List Row = row ∷ more in
    let whole : rows ++ back ≡ (rows ++ row ∷ []) ++ more = sym (append_assoc rows (row ∷ []) more) in
    let at : row ≡ get_or (rows ++ back) k row = sym (get_or-append_right rows back k k row long (omega arith) ∙ (λ i. get_or back (zero_left k i) row)) in
    let low : k < length (rows ++ back) = omega (arith, length-append rows back, long) in
    subst (λ xs. CountsAudit xs None) whole (none_read 1 (k + 1) k (rows ++ back) row low at (omega arith) (λ r sound is. none (r, sound, is)))
  where
    zero_left : (n : ℕ) → n - n ≡ 0
    zero_left n = omega arith

-- ---- the query

-- valid audit rows were given, and are counted
pub record Counts {S : Type 0} (g : store.Ghosts S) (first : State) (now : Held S) (count : ℕ) : Type 0 where
  pub text : List ℕ
  pub asks : (v : Version) → IsAsk v text (rows_query Audit)
  pub list : List Row
  pub sound : CountsAudit list (Some count)
  pub given : (v : Version) → HasTablesIn v first → HasCleanDisk (state g now) → HasGiven g text [] now list × IsUnchanged first (state g now)

-- the rows that are shown are those of the audit
shown_audit : (v : Version) (text : List ℕ) (first mid new : State) (rows : List Row) → IsAsk v text (rows_query Audit) → HasTablesIn v first → IsUnchanged first mid → Shown text [] mid new rows → AreInOrder (0 ∷ []) (shown first.now).audit rows
shown_audit v text first mid new rows asks has same shows =
    let now : mid.now ≡ first.now = same.0.now_is in
    let schema = ap (λ (d : Database). d.schema) now ∙ has same.0.was_open in
    subst (λ (d : Database). AreInOrder (0 ∷ []) (shown d).audit rows) now (rows_told Audit mid new rows (answered text (rows_query Audit) [] mid new rows asks schema shows)).1

-- all rows were given
pub all_counted : (v : Version) (text : List ℕ) (first mid new : State) (rows : List Row) (count : ℕ) → IsAsk v text (rows_query Audit) → HasTablesIn v first → IsUnchanged first mid → IsUnchanged first new → Shown text [] mid new rows
    → CountsAudit rows (Some count) → TellsCount first new (Some count)
all_counted v text first mid new rows count asks has same_mid same shows counts = record {
  rows = rows;
  are = shown_audit v text first mid new rows asks has same_mid shows;
  counts = counts;
  unchanged = same;
}

-- a row was given that isn't the next of the audit
pub stop_counted : (v : Version) (text : List ℕ) (first mid : State) (rows : List Row) (row : Row) (count : ℕ) → IsAsk v text (rows_query Audit) → HasTablesIn v first → IsUnchanged first mid → Begins text [] mid (rows ++ row ∷ [])
    → CountsAudit rows (Some count) → ¬ IsAuditRow (count + 1) row → TellsCount first mid None
stop_counted v text first mid rows row count asks has same begins counts none =
    let schema = ap (λ (d : Database). d.schema) same.0.now_is ∙ has same.0.was_open in
    let whole = begins_shown text [] mid mid (rows ++ row ∷ []) begins (unchanged_itself first mid same)
    (λ c db it source.
    -- the query has no recursion
    (let known = subst (λ k. understood k text ≡ Ok c) schema it.is in
    let command = sym (ap asked known) ∙ asks.command in
    subst (λ k. EndsIn k db (timed [] c.formats it.now)) (sym command) tt)) in
    record {
      rows = (rows ++ row ∷ []) ++ whole.0;
      are = shown_audit v text first mid mid ((rows ++ row ∷ []) ++ whole.0) asks has same whole.1;
      counts = count_stops rows whole.0 count row counts none;
      unchanged = same;
    }
