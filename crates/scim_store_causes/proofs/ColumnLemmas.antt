-- The columns of a valid audit row.
use Rattle.std.proofs.Common.{◌≡◌, ◌<◌, ℕ, refl, sym, ap, arith, List, length}
use Rattle.std.specs.Prelude.{Option, Some, None, IfSome}
use Rattle.std.specs.Option.{option_map}
use Rattle.sqlite.specs.declared.types.Value.TheVariants.{Text}
use Rattle.sqlite.specs.Order.{Row, column}
use Rattle.sqlite.specs.Values.{or_null}
use Rattle.scim_schema.specs.declared.Kind.{Kind}
use Rattle.scim_schema.specs.declared.Kind.TheVariants.{User, Group}
use Rattle.scim_schema.specs.declared.Op.{Op}
use Rattle.scim_schema.specs.declared.Op.TheVariants.{Read, Create, Modify, Delete}
use Rattle.scim_audit.specs.declared.refusals.Refusal.{Refusal}
use Rattle.scim_audit.specs.declared.refusals.Refusal.TheVariants as refusal
use Rattle.scim_audit.specs.declared.audit_rows.Decided.{Decided}
use Rattle.scim_audit.specs.declared.audit_rows.Decided.TheVariants.{Allow, Deny, Hidden, Absent, Refused}
use Rattle.scim_audit.specs.Refusals.{refusals}
use Rattle.scim_audit.specs.Rows.{decisions}
use Rattle.scim_store_tables.specs.Audit.{number}
use Rattle.scim_store_rows.specs.Audit.{op_number, kind_number, decided_number, refusal_number}
use Rattle.scim_store_rows.specs.Auditing.{IsAuditRow}

op_low : (op : Op) → op_number op < 4
op_low Read = omega arith
op_low Create = omega arith
op_low Modify = omega arith
op_low Delete = omega arith

kind_low : (kind : Kind) → kind_number kind < 2
kind_low User = omega arith
kind_low Group = omega arith

decided_low : (decided : Decided) → decided_number decided < 5
decided_low Allow = omega arith
decided_low Deny = omega arith
decided_low Hidden = omega arith
decided_low Absent = omega arith
decided_low Refused = omega arith

refusal_low : (r : Refusal) → refusal_number r < 21
refusal_low refusal.BadHead = omega arith
refusal_low refusal.TooLarge = omega arith
refusal_low refusal.BadFraming = omega arith
refusal_low refusal.UnknownCoding = omega arith
refusal_low refusal.NoRoute = omega arith
refusal_low refusal.NotSupported = omega arith
refusal_low (refusal.BadMethod methods) = omega arith
refusal_low refusal.NoToken = omega arith
refusal_low refusal.Syntax = omega arith
refusal_low refusal.Filter = omega arith
refusal_low refusal.Path = omega arith
refusal_low refusal.MessageValue = omega arith
refusal_low refusal.NotFound = omega arith
refusal_low refusal.Denied = omega arith
refusal_low refusal.Mutability = omega arith
refusal_low refusal.NoTarget = omega arith
refusal_low refusal.ResultValue = omega arith
refusal_low refusal.Taken = omega arith
refusal_low refusal.Widens = omega arith
refusal_low refusal.IdInUse = omega arith
refusal_low refusal.Store = omega arith

pub decisions_long : length decisions ≡ 5
unfolding decisions
decisions_long = refl

pub refusals_long : length refusals ≡ 21
unfolding refusals
refusals_long = refl

refusals_low : (r : Option Refusal) → IfSome (option_map refusal_number r) (λ k. k < 21)
refusals_low None = tt
refusals_low (Some r) = refusal_low r

-- A number of the column that is below the limit.
abbrev pub Below : Row → ℕ → ℕ → Type 0
Below row place limit = (n : ℕ) × (n < limit) × (column row place ≡ number n)

-- NULL, or a number of the column that is below the limit.
abbrev pub NullOrBelow : Row → ℕ → ℕ → Type 0
NullOrBelow row place limit = (n : Option ℕ) × IfSome n (λ k. k < limit) × (column row place ≡ or_null number n)

-- The columns of a valid audit row.
pub record HasColumns (row : Row) : Type 0 where
  pub moment : Below row 1 253402300800
  pub client : (text : List ℕ) × (column row 2 ≡ Text text)
  pub op : Below row 3 4
  pub kind : Below row 4 2
  pub decided : Below row 6 5
  pub rule : NullOrBelow row 7 4294967296
  pub refusal : NullOrBelow row 9 21

pub columns_of : (n : ℕ) (row : Row) → IsAuditRow n row → HasColumns row
columns_of n row (audit, sound, is) = record {
  moment = (audit.moment, omega (arith, sound.moment), sym (ap (λ (r : Row). column r 1) is));
  client = (audit.client, sym (ap (λ (r : Row). column r 2) is));
  op = (op_number audit.op, op_low audit.op, sym (ap (λ (r : Row). column r 3) is));
  kind = (kind_number audit.kind, kind_low audit.kind, sym (ap (λ (r : Row). column r 4) is));
  decided = (decided_number audit.decided, decided_low audit.decided, sym (ap (λ (r : Row). column r 6) is));
  rule = (audit.rule, sound.rule, sym (ap (λ (r : Row). column r 7) is));
  refusal = (option_map refusal_number audit.refusal, refusals_low audit.refusal, sym (ap (λ (r : Row). column r 9) is));
}

-- what a test rules out isn't there
pub not_below : (row : Row) (place : ℕ) {limit : ℕ} → Below row place limit → ((n : ℕ) → n < limit → column row place ≡ number n → ⊥) → ⊥
not_below row place (n, low, at) none = none n low at

pub not_null_or_below : (row : Row) (place : ℕ) {limit : ℕ} → NullOrBelow row place limit → ((n : Option ℕ) → IfSome n (λ k. k < limit) → column row place ≡ or_null number n → ⊥) → ⊥
not_null_or_below row place (n, low, at) none = none n low at
