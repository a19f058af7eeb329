-- Rows one by one.
use Rattle.std.proofs.Common.{◌≡◌, ◌<◌, ◌+◌, ℕ, pos, inl, inr, sym, subst, ap, ◌∙◌, arith, List, length, get_or}
use Rattle.std.specs.Prelude.{Contains, Option, Some, None}
use Rattle.std.specs.List.{AllWithin}
use Rattle.std.proofs.lemmas.List.Elements.{All-contains, All-from_all_within, AllWithin-more, at_read}
use Rattle.std.proofs.Math.Nat.{eq-or-lt_of_le}
use Rattle.sqlite.specs.declared.types.Value.{Value}
use Rattle.sqlite.specs.declared.types.Value.TheVariants.{Int}
use Rattle.sqlite.specs.Order.{Row, column}
use Rattle.scim_store_tables.specs.Audit.{number}
use Rattle.scim_store_rows.specs.AuditBack.{ReadsBack, Any}
use Rattle.scim_store_causes.specs.Audit.{HasRow, HasEach}

-- a row that was read is one of the rows
pub read_row : (rows : List Row) (k : ℕ) (row : Row) → k < length rows → row ≡ get_or rows k row → Contains rows row
read_row rows k row low is = (k, low, sym is)

number_of : Value → ℕ
number_of (Int (pos n)) = n
number_of _ = 0

-- a row from which another number is read, or none, doesn't have the number
pub other_number : (o : Option ℕ) (row : Row) (n : ℕ) → ReadsBack Any number (column row 0) o → (o ≡ Some n → ⊥) → column row 0 ≡ number n → ⊥
unfolding number_of
other_number None row n reads other at = reads n tt (sym at)
other_number (Some m) row n reads other at = other (ap Some (ap number_of (reads.1 ∙ at)))

-- one row more
pub all_more : {X : Type 0} (P : X → Type 0) (xs : List X) (k : ℕ) (x : X) → AllWithin P xs 0 k → k < length xs → x ≡ get_or xs k x → P x → AllWithin P xs 0 (k + 1)
all_more P xs k x all low is here = AllWithin-more P xs 0 k all (at_read xs P k x low is here)

-- no row has the number
pub none_has : (rows : List Row) (n : ℕ) → AllWithin (λ r. column r 0 ≡ number n → ⊥) rows 0 (length rows) → ¬ HasRow rows n
none_has rows n all (row, within, at) =
    All-contains (λ r. column r 0 ≡ number n → ⊥) rows row (All-from_all_within (λ r. column r 0 ≡ number n → ⊥) rows all) within at

-- one number more
pub each_next : (rows : List Row) (first n : ℕ) → HasEach rows first n → HasRow rows n → HasEach rows first (n + 1)
each_next rows first n each has m from to = elim (eq-or-lt_of_le {n = m} {m = n} (omega (arith, to))) [ inl same ↦ subst (HasRow rows) (sym same) has | inr low ↦ each m from low ]
