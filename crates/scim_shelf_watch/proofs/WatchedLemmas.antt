-- What a watcher was told, before the first commit, after one more, and at the ends of a round.
use Rattle.std.proofs.Common.{◌≡◌, ◌≤◌, ℕ, ◌+◌, Bool, true, false, List, [], ◌∷◌, ◌++◌, length, drop, take, sym, ap, subst, ◌∙◌, arith, length-append, length-take-le, refl}
use Rattle.std.proofs.lemmas.List.{drop-append-le, length-drop, take-append-le, take-append-drop, take_all}
use Rattle.std.proofs.Math.Seq.{drop-length}
use Rattle.scim_audit.specs.declared.audit_rows.AuditRow.{AuditRow}
use Rattle.scim_shelf_watch.specs.Watched.{NumberedRow, IsWatched, WasWatched, begun_rows, committed_rows, numbered, numbered_row}

-- the row behind others has the number behind theirs
pub numbered_more : (first : ℕ) (rows : List AuditRow) (row : AuditRow)
    → numbered first (rows ++ row ∷ []) ≡ numbered first rows ++ numbered_row (first + length rows) row ∷ []
numbered_more first [] row = ap (λ (n : ℕ). numbered_row n row ∷ []) (omega arith)
numbered_more first (x ∷ xs) row =
    let same : first + 1 + length xs ≡ first + length (x ∷ xs) = omega arith in
    ap (λ (rs : List NumberedRow). numbered_row first x ∷ rs)
    (numbered_more (first + 1) xs row ∙ ap (λ (n : ℕ). numbered (first + 1) xs ++ numbered_row n row ∷ []) same)

-- rows behind others have the numbers behind theirs
numbered_both : (first : ℕ) (rows more : List AuditRow) → numbered first (rows ++ more) ≡ numbered first rows ++ numbered (first + length rows) more
numbered_both first [] more = ap (λ (n : ℕ). numbered n more) (omega arith)
numbered_both first (x ∷ xs) more =
    let same : first + 1 + length xs ≡ first + length (x ∷ xs) = omega arith in
    ap (λ (rs : List NumberedRow). numbered_row first x ∷ rs)
    (numbered_both (first + 1) xs more ∙ ap (λ (n : ℕ). numbered (first + 1) xs ++ numbered n more) same)

-- of the rows behind the first `told_rows` ones, the row behind all has the number behind all
begun_more : (told_rows : ℕ) (audit : List AuditRow) (row : AuditRow) → told_rows ≤ length audit
    → begun_rows told_rows (audit ++ row ∷ []) ≡ begun_rows told_rows audit ++ numbered_row (length audit + 1) row ∷ []
begun_more told_rows audit row part =
    let same : told_rows + 1 + length (drop told_rows audit) ≡ length audit + 1 = omega (arith, part, length-drop told_rows audit) in
    ap (numbered (told_rows + 1)) (drop-append-le told_rows audit (row ∷ []) part)
    ∙ numbered_more (told_rows + 1) (drop told_rows audit) row
    ∙ ap (λ (n : ℕ). begun_rows told_rows audit ++ numbered_row n row ∷ []) same

-- what was committed stays where a row comes behind
committed_same : (before told_rows : ℕ) (audit : List AuditRow) (row : AuditRow) → told_rows ≤ length audit
    → committed_rows before told_rows (audit ++ row ∷ []) ≡ committed_rows before told_rows audit
committed_same before told_rows audit row part = ap (λ (xs : List AuditRow). numbered (before + 1) (drop before xs)) (take-append-le told_rows audit (row ∷ []) part)

-- if the first rows are all, all since the watching began are committed, and none has begun
all_committed : (before told_rows : ℕ) (audit : List AuditRow) → told_rows ≡ length audit → committed_rows before told_rows audit ≡ numbered (before + 1) (drop before audit)
all_committed before told_rows audit is = ap (λ (xs : List AuditRow). numbered (before + 1) (drop before xs)) (take_all told_rows audit (omega (arith, is)))

none_begun : (told_rows : ℕ) (audit : List AuditRow) → told_rows ≡ length audit → begun_rows told_rows audit ≡ []
none_begun told_rows audit is = ap (numbered (told_rows + 1)) (ap (λ (n : ℕ). drop n audit) is ∙ drop-length audit)

-- those that were committed and those that have begun are all
both_rows : (before told_rows : ℕ) (audit : List AuditRow) → before ≤ told_rows → told_rows ≤ length audit
    → committed_rows before told_rows audit ++ begun_rows told_rows audit ≡ numbered (before + 1) (drop before audit)
both_rows before told_rows audit part within =
    let front : length (take told_rows audit) ≡ told_rows = length-take-le told_rows audit within in
    let count : before + 1 + length (drop before (take told_rows audit)) ≡ told_rows + 1 = omega (arith, part, front, length-drop before (take told_rows audit)) in
    sym (ap (λ (xs : List AuditRow). numbered (before + 1) (drop before xs)) (sym (take-append-drop told_rows audit))
    ∙ ap (numbered (before + 1)) (drop-append-le before (take told_rows audit) (drop told_rows audit) (omega (arith, part, front)))
    ∙ numbered_both (before + 1) (drop before (take told_rows audit)) (drop told_rows audit)
    ∙ ap (λ (n : ℕ). committed_rows before told_rows audit ++ numbered n (drop told_rows audit)) count)

module _ {W : Type 0} (Told : W → List NumberedRow → List NumberedRow → Type 0) where
  -- before the first commit nothing was told
  pub watched_start : (watcher : W) (rows : ℕ) (audit : List AuditRow) → rows ≡ length audit → Told watcher [] [] → IsWatched Told watcher rows rows rows false audit
  watched_start watcher rows audit count told = record {
    count = count;
    part = omega arith;
    within = omega (arith, count);
    alone = λ _. refl;
    told = subst (λ (rs : List NumberedRow). Told watcher rs (begun_rows rows audit)) (sym (all_committed rows rows audit count ∙ none_begun rows audit count))
        (subst (Told watcher []) (sym (none_begun rows audit count)) told);
  }

  -- the commit of one more row has begun
  pub watched_begun : (old new : W) (before told_rows rows : ℕ) (audit : List AuditRow) (row : AuditRow) (in_round : Bool)
      → IsWatched Told old before told_rows rows in_round audit
      → ((done begun : List NumberedRow) → Told old done begun → Told new done (begun ++ numbered_row (rows + 1) row ∷ []))
      → Told new (committed_rows before told_rows (audit ++ row ∷ [])) (begun_rows told_rows (audit ++ row ∷ []))
  watched_begun old new before told_rows rows audit row in_round watched tells =
      subst (λ (done : List NumberedRow). Told new done (begun_rows told_rows (audit ++ row ∷ []))) (sym (committed_same before told_rows audit row watched.within))
      (subst (Told new (committed_rows before told_rows audit))
      (ap (λ (n : ℕ). begun_rows told_rows audit ++ numbered_row (n + 1) row ∷ []) watched.count ∙ sym (begun_more told_rows audit row watched.within))
      (tells _ _ watched.told))

  -- a row that has begun in a round stays so until the round is settled
  pub watched_ahead : (old new : W) (before told_rows rows : ℕ) (audit : List AuditRow) (row : AuditRow) → IsWatched Told old before told_rows rows true audit
      → ((done begun : List NumberedRow) → Told old done begun → Told new done (begun ++ numbered_row (rows + 1) row ∷ []))
      → IsWatched Told new before told_rows (rows + 1) true (audit ++ row ∷ [])
  watched_ahead old new before told_rows rows audit row watched tells = record {
    count = omega (arith, watched.count, length-append audit (row ∷ []));
    part = watched.part;
    within = omega (arith, watched.within, length-append audit (row ∷ []));
    alone = λ is. (let no : true ≡ false = is in cc);
    told = watched_begun old new before told_rows rows audit row true watched tells;
  }

  -- all that has begun is committed
  pub watched_all : (old new : W) (before told_rows rows : ℕ) (audit : List AuditRow) → rows ≡ length audit → before ≤ told_rows → told_rows ≤ length audit
      → Told old (committed_rows before told_rows audit) (begun_rows told_rows audit)
      → ((done begun : List NumberedRow) → Told old done begun → Told new (done ++ begun) [])
      → IsWatched Told new before rows rows false audit
  watched_all old new before told_rows rows audit count part within told tells = record {
    count = count;
    part = omega (arith, count, part, within);
    within = omega (arith, count);
    alone = λ _. refl;
    told = subst (λ (done : List NumberedRow). Told new done (begun_rows rows audit)) (both_rows before told_rows audit part within ∙ sym (all_committed before rows audit count))
        (subst (Told new (committed_rows before told_rows audit ++ begun_rows told_rows audit)) (sym (none_begun rows audit count)) (tells _ _ told));
  }

  -- one more row was committed by itself
  pub watched_more : (old mid new : W) (before told_rows rows : ℕ) (audit : List AuditRow) (row : AuditRow) → IsWatched Told old before told_rows rows false audit
      → ((done begun : List NumberedRow) → Told old done begun → Told mid done (begun ++ numbered_row (rows + 1) row ∷ []))
      → ((done begun : List NumberedRow) → Told mid done begun → Told new (done ++ begun) [])
      → IsWatched Told new before (rows + 1) (rows + 1) false (audit ++ row ∷ [])
  watched_more old mid new before told_rows rows audit row watched begins commits =
      watched_all mid new before told_rows (rows + 1) (audit ++ row ∷ []) (omega (arith, watched.count, length-append audit (row ∷ []))) watched.part
      (omega (arith, watched.within, length-append audit (row ∷ []))) (watched_begun old mid before told_rows rows audit row false watched begins) commits

  -- what is watched outside a round was watched before the next one
  pub was_watched : (watcher : W) (before told_rows rows : ℕ) (audit : List AuditRow) → IsWatched Told watcher before told_rows rows false audit → WasWatched Told watcher before told_rows audit
  was_watched watcher before told_rows rows audit watched =
      let all : told_rows ≡ length audit = watched.alone refl ∙ watched.count in
      record {
        count = all;
        part = omega (arith, watched.part, all);
        begun = begun_rows told_rows audit;
        told = subst (λ (done : List NumberedRow). Told watcher done (begun_rows told_rows audit)) (all_committed before told_rows audit all) watched.told;
      }

  -- where the watcher was told the same rows, and of other beginnings
  pub was_still : (old new : W) (before told_rows : ℕ) (audit : List AuditRow) → WasWatched Told old before told_rows audit
      → ((done begun : List NumberedRow) → Told old done begun → (next : List NumberedRow) × Told new done next) → WasWatched Told new before told_rows audit
  was_still old new before told_rows audit was keeps =
      let next = keeps _ _ was.told in
      record { count = was.count; part = was.part; begun = next.0; told = next.1 }

  -- a round that is lost leaves what was watched before it
  pub watched_back : (old new : W) (before told_rows : ℕ) (audit : List AuditRow) → WasWatched Told old before told_rows audit
      → ((done begun : List NumberedRow) → Told old done begun → Told new done []) → IsWatched Told new before told_rows told_rows false audit
  watched_back old new before told_rows audit was loses = record {
    count = was.count;
    part = omega (arith, was.part, was.count);
    within = omega (arith, was.count);
    alone = λ _. refl;
    told = subst (λ (done : List NumberedRow). Told new done (begun_rows told_rows audit)) (sym (all_committed before told_rows audit was.count))
        (subst (Told new (numbered (before + 1) (drop before audit))) (sym (none_begun told_rows audit was.count)) (loses _ _ was.told));
  }
