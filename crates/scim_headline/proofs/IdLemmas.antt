-- The ids that events count are ids.
use Rattle.std.proofs.Common.{◌≡◌, refl, ap, ℕ, zero, suc, ◌<◌, ◌%◌, ◌+◌, ◌^◌, ◌/◌, List, length, arith}
use Rattle.std.specs.List.{AllByRecursion}
use Rattle.std.specs.Int.{w128, from_be_bytes, byte_at, bytes_high_first}
use Rattle.std.proofs.lemmas.List.Elements.{All-from_recursion}
use Rattle.std.proofs.Math.Nat.{mod-lt}
use Rattle.scim_cell.specs.Ids.{IsId}
use Rattle.scim_hub.specs.Answering.{id_after}

high_length : (k n : ℕ) → length (bytes_high_first k n) ≡ k
high_length zero n = refl
high_length (suc k) n = ap suc (high_length k n)

byte_small : (k n : ℕ) → byte_at k n < 256
byte_small zero n = mod-lt n (omega arith)
byte_small (suc k) n = mod-lt (n / 256 ^ suc k) (omega arith)

high_small : (k n : ℕ) → AllByRecursion (λ b. b < 256) (bytes_high_first k n)
high_small zero n = tt
high_small (suc k) n = (byte_small k n, high_small k n)

pub id_valid : (first : List ℕ) (k : ℕ) → IsId (id_after first k)
unfolding id_after
id_valid first k =
    let number = (from_be_bytes w128 first + k) % 2 ^ 128 in
    record { long = high_length 16 number; bytes = All-from_recursion (λ b. b < 256) (bytes_high_first 16 number) (high_small 16 number) }
