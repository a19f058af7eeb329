-- The count of the open connections, and the sum of their weights, after one of them has changed, joined or left.
use Rattle.std.proofs.Common.{◌≡◌, ◌+◌, ◌-◌, ◌≤◌, ◌<◌, ◌^◌, ℕ, Bool, true, false, cond, List, length, refl, sym, ap, subst, ◌∙◌, arith, rules, None, Some, min, is_some, Ordering}
use Rattle.std.specs.Prelude.{Option}
use Rattle.std.specs.List.{All, sum_by, list_any}
use Rattle.std.specs.Option.{option_map, unwrap_or, IfSome}
use Rattle.std.specs.Ordering.{nat_cmp}
use Rattle.std.specs.Map.{lookup, remove_entry, values_of}
use Rattle.std.specs.BTreeMap.{BTreeMap, btree_map_len, get, get_by, is_at, insert_entry, IsOrdered, UpdatesBy, WritesThrough}
use Rattle.std.proofs.lemmas.Cmp.{nat_cmp_total}
use Rattle.std.proofs.lemmas.List.{length-map}
use Rattle.std.proofs.lemmas.List.Sums.{sum_by-le}
use Rattle.std.proofs.lemmas.Map.Entries.{sum_by-set_value, sum_by-remove_entry, sum_by-insert_entry}
use Rattle.std.proofs.lemmas.Map.Made.{is_some-lookup}
use Rattle.std.proofs.lemmas.Map.Views.{All-values-set_value, All-map-remove_entry, All-values-insert_entry, IfSome-lookup_from_All}
use Rattle.scim_sockets.specs.declared.connection.Connection.{Connection}
use Rattle.scim_sockets.specs.Connections.{weight_of}
use Rattle.scim_sockets.specs.OpenConnections.{AreCounted}

-- a weight can be added
abbrev pub IsLight : Connection → Type 0
IsLight connection = weight_of connection ≤ 2 ^ 34

-- the entries' values have few and small terms, so their sum fits 64 bits
sum_fits : {X : Type 0} (f : X → ℕ) (es : List (ℕ × X)) → length es ≤ 1024 → All (λ x. f x ≤ 2 ^ 34) (values_of es) → sum_by f (values_of es) ≤ 2 ^ 44
sum_fits f es few light = omega (arith, sum_by-le f (2 ^ 34) (values_of es) light, length-map es (λ e. e.1), few)

-- the term of a value that a look-up finds is at most the sum
term_le : {X : Type 0} (f : X → ℕ) (test : ℕ → Bool) (es : List (ℕ × X)) (v : X) → lookup test es ≡ Some v → f v ≤ sum_by f (values_of es)
term_le f test es v found = omega (arith, ap (λ o. unwrap_or (option_map f o) 0) found, sum_by-remove_entry f test es)

none_from : {X : Type 0} (o : Option X) → is_some o ≡ false → o ≡ None
none_from None is = refl
none_from (Some x) is = search rules

none_either_way : {X : Type 0} (b : Bool) (o : Option X) → o ≡ None → cond b None o ≡ None
none_either_way true o none = refl
none_either_way false o none = none

-- a number isn't at the place of a greater one
apart : (n q : ℕ) → n < q → is_at (nat_cmp n) q ≡ false
apart n q less = search (rules, less)

-- a connection has changed
pub counted_change : (m n : BTreeMap ℕ Connection) (next total total_then : ℕ) (compare : ℕ → Ordering) (v w : Connection)
    → AreCounted m next total → WritesThrough nat_cmp compare m w n → get_by compare m ≡ Some v → IsLight w
    → total_then ≡ min (total - weight_of v + weight_of w) (2 ^ 64 - 1) → AreCounted n next total_then
counted_change m n next total total_then compare v w counted written found small now =
    let few : btree_map_len n ≤ 1024 = omega (arith, written.2, counted.few) in
    let light = subst (λ (es : List (ℕ × Connection)). All IsLight (values_of es)) (sym written.0) (All-values-set_value (is_at compare) IsLight m.entries w counted.light small) in
    record {
      few = few;
      unused = λ q late.
          none_from (get nat_cmp n q)
          (is_some-lookup (is_at (nat_cmp q)) n.entries ∙ ap (list_any (is_at (nat_cmp q))) written.1 ∙ sym (is_some-lookup (is_at (nat_cmp q)) m.entries)
          ∙ ap is_some (counted.unused q late));
      light = light;
      summed = omega (
        arith,
        now,
        counted.summed,
        term_le weight_of (is_at compare) m.entries v found,
        sum_by-set_value weight_of (is_at compare) m.entries v w found,
        ap (λ (es : List (ℕ × Connection)). sum_by weight_of (values_of es)) written.0,
        sum_fits weight_of n.entries few light,
      );
    }

-- a connection has changed and kept its weight
pub counted_same : (m n : BTreeMap ℕ Connection) (next total : ℕ) (compare : ℕ → Ordering) (v w : Connection)
    → AreCounted m next total → WritesThrough nat_cmp compare m w n → get_by compare m ≡ Some v → weight_of w ≡ weight_of v → AreCounted n next total
counted_same m n next total compare v w counted written found same =
    let light : IsLight v = subst (λ (o : Option Connection). IfSome o IsLight) found (IfSome-lookup_from_All IsLight (is_at compare) m.entries counted.light) in
    counted_change m n next total total compare v w counted written found (omega (arith, same, light))
    (omega (arith, same, counted.summed, term_le weight_of (is_at compare) m.entries v found, sum_fits weight_of m.entries counted.few counted.light))

-- the map has the entries that it had
pub counted_unchanged : (m n : BTreeMap ℕ Connection) (next total : ℕ) → AreCounted m next total → n.entries ≡ m.entries → AreCounted n next total
counted_unchanged m n next total counted same = record {
  few = subst (λ (es : List (ℕ × Connection)). length es ≤ 1024) (sym same) counted.few;
  unused = λ q late. ap (lookup (is_at (nat_cmp q))) same ∙ counted.unused q late;
  light = subst (λ (es : List (ℕ × Connection)). All IsLight (values_of es)) (sym same) counted.light;
  summed = counted.summed ∙ sym (ap (λ (es : List (ℕ × Connection)). sum_by weight_of (values_of es)) same);
}

-- a connection has left
pub counted_less : (m n : BTreeMap ℕ Connection) (next total total_then : ℕ) (compare : ℕ → Ordering) (v : Connection)
    → AreCounted m next total → n.entries ≡ remove_entry (is_at compare) m.entries → UpdatesBy nat_cmp compare m n None → btree_map_len n ≤ btree_map_len m
    → get_by compare m ≡ Some v → total_then ≡ min (total - weight_of v) (2 ^ 64 - 1) → AreCounted n next total_then
counted_less m n next total total_then compare v counted left updated fewer found now =
    let few : btree_map_len n ≤ 1024 = omega (arith, fewer, counted.few) in
    let light = subst (λ (es : List (ℕ × Connection)). All IsLight (values_of es)) (sym left) (All-map-remove_entry (is_at compare) (λ e. e.1) IsLight m.entries counted.light) in
    record {
      few = few;
      unused = λ q late. updated.0 q ∙ none_either_way (is_at compare q) (get nat_cmp m q) (counted.unused q late);
      light = light;
      summed = omega (
        arith,
        now,
        counted.summed,
        ap (λ o. unwrap_or (option_map weight_of o) 0) found,
        sum_by-remove_entry weight_of (is_at compare) m.entries,
        ap (λ (es : List (ℕ × Connection)). sum_by weight_of (values_of es)) left,
        sum_fits weight_of m.entries counted.few counted.light,
      );
    }

-- a connection with a number below `next` has joined, in place of none
pub counted_more : (m n : BTreeMap ℕ Connection) (next total total_then number : ℕ) (v : Connection)
    → AreCounted m next total → number < next → btree_map_len m < 1024 → IsOrdered nat_cmp m → get nat_cmp m number ≡ None
    → n.entries ≡ insert_entry nat_cmp m.entries number v → UpdatesBy nat_cmp (nat_cmp number) m n (Some v) → btree_map_len n ≤ btree_map_len m + 1
    → IsLight v → total_then ≡ min (total + weight_of v) (2 ^ 64 - 1) → AreCounted n next total_then
counted_more m n next total total_then number v counted before room ordered absent joined updated more small now =
    let few : btree_map_len n ≤ 1024 = omega (arith, more, room) in
    let light = subst (λ (es : List (ℕ × Connection)). All IsLight (values_of es)) (sym joined) (All-values-insert_entry nat_cmp number v IsLight m.entries counted.light small) in
    record {
      few = few;
      unused = λ q late. updated.2 q (apart number q (omega (arith, before, late))) ∙ counted.unused q late;
      light = light;
      summed = omega (
        arith,
        now,
        counted.summed,
        ap (λ o. unwrap_or (option_map weight_of o) 0) absent,
        sum_by-insert_entry weight_of nat_cmp_total m.entries number v ordered,
        ap (λ (es : List (ℕ × Connection)). sum_by weight_of (values_of es)) joined,
        sum_fits weight_of n.entries few light,
      );
    }
