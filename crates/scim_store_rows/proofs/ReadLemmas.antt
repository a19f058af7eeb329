-- Rows of the audit, row by row.
use Rattle.std.proofs.Common.{◌≡◌, ℕ, zero, suc, ◌+◌, ◌<◌, min, refl, sym, ap, ◌∙◌, arith, List, [], ◌∷◌, ◌++◌, take, length, get_or}
use Rattle.std.specs.Prelude.{All, None}
use Rattle.std.proofs.lemmas.List.{take_more, length-take}
use Rattle.std.proofs.lemmas.List.Elements.{All-head, All-tail}
use Rattle.sqlite.specs.Order.{Row}
use Rattle.scim_audit.specs.declared.audit_rows.AuditRow.{AuditRow}
use Rattle.scim_store_rows.specs.Audit.{audit_row, audit_rows}
use Rattle.scim_store_rows.specs.AuditBack.{ReadsBack, IsSound}

-- ---- rows with their numbers

pub length-audit_rows : (n : ℕ) (rs : List AuditRow) → length (audit_rows n rs) ≡ length rs
length-audit_rows n [] = refl
length-audit_rows n (r ∷ rs) = ap suc (length-audit_rows (n + 1) rs)

-- ---- row by row

pub append-audit_rows : (first n : ℕ) (rs : List AuditRow) (r : AuditRow) → n ≡ first + length rs → audit_rows first (rs ++ r ∷ []) ≡ audit_rows first rs ++ audit_row n r ∷ []
append-audit_rows first n [] r is = ap (λ k. let rows : List Row = audit_row k r ∷ [] in rows) (let same : first ≡ n = omega (arith, is) in same)
append-audit_rows first n (s ∷ rs) r is = ap (λ (rows : List Row). audit_row first s ∷ rows) (append-audit_rows (first + 1) n rs r (omega (arith, is)))

-- one row more is read
pub more_read : (first n i : ℕ) (rows : List Row) (row : Row) (rs : List AuditRow) (r : AuditRow) → i < length rows → row ≡ get_or rows i row → n ≡ first + i → audit_rows first rs ≡ take i rows → audit_row n r ≡ row → audit_rows first (rs ++ r ∷ []) ≡ take (i + 1) rows
more_read first n i rows row rs r low at is before one =
    let long : length rs ≡ i = sym (length-audit_rows first rs) ∙ ap length before ∙ length-take i rows ∙ (let all : min i (length rows) ≡ i = omega (arith, low) in all) in
    append-audit_rows first n rs r (omega (arith, is, long)) ∙ (λ k. before k ++ one k ∷ []) ∙ sym (take_more rows i row low ∙ ap (λ x. take i rows ++ x ∷ []) (sym at))

-- where one row is none of the audit, they aren't all
pub none_read : (first n i : ℕ) (rows : List Row) (row : Row) → i < length rows → row ≡ get_or rows i row → n ≡ first + i → ReadsBack IsSound (audit_row n) row None → ReadsBack (All IsSound) (audit_rows first) rows None
none_read first n i rows row low at is none rs sound e =
    let it = there first i rs (let l : i < length rs = omega (arith, low, ap length e, length-audit_rows first rs) in l) sound in
    none it.0 it.1 (it.2 n row is ∙ ap (λ (xs : List Row). get_or xs i row) e ∙ sym at)
  where
    there : (first i : ℕ) (rs : List AuditRow) → i < length rs → All IsSound rs → (r : AuditRow) × (IsSound r) × ((n : ℕ) (d : Row) → n ≡ first + i → audit_row n r ≡ get_or (audit_rows first rs) i d)
    there first i [] low sound = absurd (omega (arith, low))
    there first zero (r ∷ rs) low sound = (r, All-head IsSound r rs sound, λ n d is. ap (λ k. audit_row k r) (let same : n ≡ first = omega (arith, is) in same))
    there first (suc i) (r ∷ rs) low sound =
        let rest = there (first + 1) i rs (omega (arith, low)) (All-tail IsSound r rs sound) in
        (rest.0, rest.1, λ n d is. rest.2 n d (omega (arith, is)))
