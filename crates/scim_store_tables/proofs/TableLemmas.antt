-- What the tables hold after a statement.
use Rattle.std.proofs.Common.{◌≡◌, ◌≢◌, ℕ, ℤ, ◌≤◌, List, [], ◌∷◌, ◌++◌, map, filter, not, ◌&&◌, ◌||◌, Bool, true, false, cond, length, refl, sym, ap, subst, subst₂, ◌∙◌, arith}
use Rattle.std.specs.Prelude.{IsPermutation, replicate}
use Rattle.std.specs.List.{list_any}
use Rattle.std.specs.Ordering.{is_eq, match_ordering}
use Rattle.std.specs.declared.cmp.Ordering.{Ordering}
use Rattle.std.specs.declared.cmp.Ordering.TheVariants.{Less, Equal, Greater}
use Rattle.std.proofs.lemmas.Cmp.{alike_right}
use Rattle.std.proofs.lemmas.List.{length-map}
use Rattle.std.proofs.lemmas.List.Sorted.{length_permutation, IsPermutation-refl, IsPermutation-middle, IsPermutation-cons, IsPermutation-trans, IsPermutation-map, IsPermutation-sym}
use Rattle.sqlite_value.proofs.OrderLemmas.{value_cmp_total}
use Rattle.sqlite_trees.proofs.ListLemmas.{all-filter, filter-map, map-map, pull_back, IsPermutation-filter}
use Rattle.sqlite_trees.proofs.TreeLemmas.{all-put_row}
use Rattle.sqlite_rules.proofs.TableLemmas.{int_is}
use Rattle.sqlite.specs.declared.types.Value.{Value}
use Rattle.sqlite.specs.declared.types.Value.TheVariants.{Int}
use Rattle.sqlite.specs.Order.{Row, value_cmp}
use Rattle.sqlite.specs.Tree.{put_row, rowid, has_rowid}
use Rattle.sqlite.specs.Edit.{is_taken, have_rowids, are_fresh, put_all, id_in, IsNoIndex}
use Rattle.sqlite.specs.Effect.{Database}
use Rattle.scim_store_tables.specs.Tables.{store_schema}
use Rattle.scim_store_tables.specs.Lists.{IsTableOf, Lists, Are, pair, triple, entry, without}
use Rattle.scim_store_tables.specs.code.Changes.{Puts, Takes, Turns}

-- ---- rows are taken out

fewer : (p q : Row → Bool) (rows : List Row) → length (filter p (filter q rows)) ≤ length (filter p rows)
fewer p q [] = omega arith
fewer p q (r ∷ rows) = go (q r) (p r) refl (fewer p q rows)
  where
    go : (a b : Bool) → p r ≡ b → length (filter p (filter q rows)) ≤ length (filter p rows) → length (filter p (cond a (r ∷ filter q rows) (filter q rows))) ≤ length (cond b (r ∷ filter p rows) (filter p rows))
    go true true e h = rw e (omega arith)
    go true false e h = rw e h
    go false true e h = omega arith
    go false false e h = h

pub taken_out : (shows : Row → Row) (test : Row → Bool) (rows values : List Row) → IsTableOf shows rows values → IsTableOf shows (filter (λ r. not (test (shows r))) rows) (without test values)
taken_out shows test rows values of = record {
  keys = record {
    keyed = all-filter _ (λ r. not (test (shows r))) rows of.keys.keyed;
    once = λ n. (let h = fewer (has_rowid n) (λ r. not (test (shows r))) rows in let o = of.keys.once n in omega arith);
  };
  same = subst (λ xs. IsPermutation xs (without test values)) (filter-map (λ v. not (test v)) shows rows) (IsPermutation-filter (λ v. not (test v)) _ _ of.same);
}

-- ---- a row is put in

or_parts : (a b : Bool) → (a || b) ≡ false → (a ≡ false) × (b ≡ false)
or_parts true b h = absurd cc
or_parts false b h = (refl, h)

put_in : (new : Row) (rows : List Row) → is_taken rows new ≡ false → IsPermutation (new ∷ rows) (put_row new rows)
put_in new [] free = IsPermutation-refl (new ∷ [])
put_in new (r ∷ rows) free = go (value_cmp (rowid r) (rowid new)) (or_parts _ _ free).0 (put_in new rows (or_parts _ _ free).1)
  where
    go : (o : Ordering) → is_eq o ≡ false → IsPermutation (new ∷ rows) (put_row new rows) → IsPermutation (new ∷ r ∷ rows) (match_ordering o (r ∷ put_row new rows) (new ∷ rows) (new ∷ r ∷ rows))
    go Less other rest = IsPermutation-trans _ _ _ (IsPermutation-middle (new ∷ []) r rows) (IsPermutation-cons r _ _ rest)
    go Equal other rest = absurd cc
    go Greater other rest = IsPermutation-refl (new ∷ r ∷ rows)

same_ids : (n id : ℤ) (r : Row) → value_cmp (Int n) (Int id) ≡ Equal → is_eq (value_cmp (rowid r) (Int n)) ≡ false → has_rowid id r ≡ false
same_ids n id r tie other = ap is_eq (sym (alike_right value_cmp_total (Int n) (Int id) (rowid r) tie)) ∙ other

none_with : (n id : ℤ) (rows : List Row) → value_cmp (Int n) (Int id) ≡ Equal → list_any (λ r. is_eq (value_cmp (rowid r) (Int n))) rows ≡ false → filter (has_rowid id) rows ≡ []
none_with n id [] tie free = refl
none_with n id (r ∷ rows) tie free =
    let parts = or_parts _ _ free in
    rw (same_ids n id r tie parts.0) (none_with n id rows tie parts.1)

once_put : (n id : ℤ) (v : Row) (rows : List Row) → is_taken rows (Int n ∷ v) ≡ false → length (filter (has_rowid id) rows) ≤ 1 → length (filter (has_rowid id) ((Int n ∷ v) ∷ rows)) ≤ 1
once_put n id v rows free once = go (value_cmp (Int n) (Int id)) refl
  where
    go : (o : Ordering) → value_cmp (Int n) (Int id) ≡ o → length (cond (is_eq o) ((Int n ∷ v) ∷ filter (has_rowid id) rows) (filter (has_rowid id) rows)) ≤ 1
    go Less e = once
    go Equal e = rw (none_with n id rows e free) (omega arith)
    go Greater e = once

pub put_among : (shows : Row → Row) (rows values : List Row) (n : ℤ) (v : Row) → shows (Int n ∷ v) ≡ v → IsTableOf shows rows values → is_taken rows (Int n ∷ v) ≡ false → IsTableOf shows (put_row (Int n ∷ v) rows) (v ∷ values)
put_among shows rows values n v shown of free = record {
  keys = record {
    keyed = all-put_row _ (Int n ∷ v) rows refl of.keys.keyed;
    once = λ id. (let all = length_permutation _ _ (IsPermutation-filter (has_rowid id) _ _ (put_in (Int n ∷ v) rows free)) in let o = once_put n id v rows free (of.keys.once id) in omega (arith, all, o));
  };
  same = IsPermutation-trans _ _ _ (IsPermutation-sym _ _ (IsPermutation-map shows _ _ (put_in (Int n ∷ v) rows free))) (subst (λ (x : Row). IsPermutation (x ∷ map shows rows) (v ∷ values)) (sym shown) (IsPermutation-cons v _ _ of.same));
}

-- ---- rows are turned into others

and_parts : (a b : Bool) → (a && b) ≡ true → (a ≡ true) × (b ≡ true)
and_parts true b h = (refl, h)
and_parts false b h = absurd cc

not_parts : (a : Bool) → not a ≡ true → a ≡ false
not_parts true h = absurd cc
not_parts false h = refl

-- rows of the same values, with these rowids
abbrev keyed_by : Row → List Value → List Row
keyed_by v = map (λ id. id ∷ v)

put_all_among : (shows : Row → Row) (v : Row) → ((n : ℤ) → shows (Int n ∷ v) ≡ v) → (ids : List Value) (rows values : List Row) → IsTableOf shows rows values
    → have_rowids (keyed_by v ids) ≡ true → are_fresh rows (keyed_by v ids) ≡ true → IsTableOf shows (put_all rows (keyed_by v ids)) (replicate (length ids) v ++ values)
put_all_among shows v shown [] rows values of keyed fresh = of
put_all_among shows v shown (id ∷ ids) rows values of keyed fresh =
    let int = and_parts _ _ keyed in
    let free = and_parts _ _ fresh in
    let put : IsTableOf shows (put_row (id ∷ v) rows) (v ∷ values) =
    subst (λ x. is_taken rows (x ∷ v) ≡ false → IsTableOf shows (put_row (x ∷ v) rows) (v ∷ values)) (sym (int_is id int.0)) (put_among shows rows values (id_in id) v (shown _) of) (not_parts _ free.0) in
    let rest = put_all_among shows v shown ids (put_row (id ∷ v) rows) (v ∷ values) put int.1 free.1 in
    record { keys = rest.keys; same = IsPermutation-trans _ _ _ rest.same (IsPermutation-middle (replicate (length ids) v) v values) }

-- two functions that agree on the rows that pass
same_turned : (test : Row → Bool) (f g : Row → Row) → ((r : Row) → test r ≡ true → f r ≡ g r) → (rows : List Row) → map f (filter test rows) ≡ map g (filter test rows)
same_turned test f g same [] = refl
same_turned test f g same (r ∷ rows) = go (test r) refl (same_turned test f g same rows)
  where
    go : (b : Bool) → test r ≡ b → map f (filter test rows) ≡ map g (filter test rows) → map f (cond b (r ∷ filter test rows) (filter test rows)) ≡ map g (cond b (r ∷ filter test rows) (filter test rows))
    go true e more = rw (same r e, more)
    go false e more = more

-- where each row of a table that passes is turned into one of the same values
pub turned_among : (shows : Row → Row) (tree : ℕ) (a b : Database) (test : Row → Bool) (turned : Row → Row) (key : Row → Value) (v : Row) (values : List Row) → ((r : Row) → test (shows r) ≡ true → turned r ≡ key r ∷ v) → ((n : ℤ) → shows (Int n ∷ v) ≡ v)
    → (count : ℕ) → Turns tree (λ r. test (shows r)) turned count a b → IsTableOf shows (a.trees tree) values → (count ≡ length (filter test values)) × IsTableOf shows (b.trees tree) (replicate count v ++ without test values)
turned_among shows tree a b test turned key v values turns shown count step of =
    let found = filter (λ r. test (shows r)) (a.trees tree) in
    let with_key : Row → Row = λ r. key r ∷ v in
    let back = pull_back with_key (map with_key found) step.news (subst (λ xs. IsPermutation xs step.news) (same_turned _ turned with_key turns (a.trees tree)) step.same) found refl in
    let news : step.news ≡ keyed_by v (map key back.0) = back.2 ∙ sym (map-map _ _ _) in
    let many : length (map key back.0) ≡ count = sym (step.counted ∙ ap length news ∙ length-map _ _) in
    let put = put_all_among shows v shown (map key back.0) _ _ (taken_out shows test _ _ of)
    (subst (λ rows. have_rowids rows ≡ true) news step.keyed) (subst (λ rows. are_fresh (filter (λ r. not (test (shows r))) (a.trees tree)) rows ≡ true) news step.fresh) in
    let passed : IsPermutation (map shows found) (filter test values) = subst (λ xs. IsPermutation xs (filter test values)) (filter-map test shows _) (IsPermutation-filter test _ _ of.same) in (
      step.counted ∙ length_permutation _ _ step.same ∙ length-map _ _ ∙ sym (length-map found shows) ∙ sym (length_permutation _ _ passed),
      subst₂ (λ rows n. IsTableOf shows rows (replicate n v ++ without test values)) (sym (step.rows ∙ ap (put_all (filter (λ r. not (test (shows r))) (a.trees tree))) news)) many put,
    )

-- ---- one statement on the tables

-- the trees of the tables are no indexes
pub no_index_0 : IsNoIndex store_schema 0
no_index_0 = ((λ (e : 1 ≡ 0). omega arith), ((λ (e : 3 ≡ 0). omega arith), ((λ (e : 5 ≡ 0). omega arith), ((λ (e : 7 ≡ 0). omega arith), ((λ (e : 10 ≡ 0). omega arith), tt)))))

pub no_index_2 : IsNoIndex store_schema 2
no_index_2 = ((λ (e : 1 ≡ 2). omega arith), ((λ (e : 3 ≡ 2). omega arith), ((λ (e : 5 ≡ 2). omega arith), ((λ (e : 7 ≡ 2). omega arith), ((λ (e : 10 ≡ 2). omega arith), tt)))))

pub no_index_4 : IsNoIndex store_schema 4
no_index_4 = ((λ (e : 1 ≡ 4). omega arith), ((λ (e : 3 ≡ 4). omega arith), ((λ (e : 5 ≡ 4). omega arith), ((λ (e : 7 ≡ 4). omega arith), ((λ (e : 10 ≡ 4). omega arith), tt)))))

pub no_index_6 : IsNoIndex store_schema 6
no_index_6 = ((λ (e : 1 ≡ 6). omega arith), ((λ (e : 3 ≡ 6). omega arith), ((λ (e : 5 ≡ 6). omega arith), ((λ (e : 7 ≡ 6). omega arith), ((λ (e : 10 ≡ 6). omega arith), tt)))))

pub no_index_8 : IsNoIndex store_schema 8
no_index_8 = ((λ (e : 1 ≡ 8). omega arith), ((λ (e : 3 ≡ 8). omega arith), ((λ (e : 5 ≡ 8). omega arith), ((λ (e : 7 ≡ 8). omega arith), ((λ (e : 10 ≡ 8). omega arith), tt)))))

pub no_index_9 : IsNoIndex store_schema 9
no_index_9 = ((λ (e : 1 ≡ 9). omega arith), ((λ (e : 3 ≡ 9). omega arith), ((λ (e : 5 ≡ 9). omega arith), ((λ (e : 7 ≡ 9). omega arith), ((λ (e : 10 ≡ 9). omega arith), tt)))))

-- the other tables are as they were
module _ (a b : Database) (lists : Lists) (are : Are a lists) where
  other_table : (tree t : ℕ) (others : (t : ℕ) → t ≢ tree → IsNoIndex a.schema t → b.trees t ≡ a.trees t) → t ≢ tree → IsNoIndex store_schema t → {shows : Row → Row} (values : List Row) → IsTableOf shows (a.trees t) values → IsTableOf shows (b.trees t) values
  other_table tree t others other bare {shows} values of = subst (λ rows. IsTableOf shows rows values) (sym (others t other (subst (λ s. IsNoIndex s t) (sym are.schema) bare))) of

  other_audit : (tree : ℕ) (others : (t : ℕ) → t ≢ tree → IsNoIndex a.schema t → b.trees t ≡ a.trees t) → 8 ≢ tree → IsPermutation (map entry (b.trees 8)) lists.audit
  other_audit tree others other = subst (λ rows. IsPermutation (map entry rows) lists.audit) (sym (others 8 other (subst (λ s. IsNoIndex s 8) (sym are.schema) no_index_8))) are.audit

  pub takes_resource : (test : Row → Bool) → Takes 2 (λ r. test (triple r)) a b → Are b (record lists { resources = without test lists.resources })
  takes_resource test step = record {
    schema = step.schema ∙ are.schema;
    version = other_table 2 0 step.others (λ e. omega arith) no_index_0 _ are.version;
    resources = subst (λ rows. IsTableOf triple rows (without test lists.resources)) (sym step.rows) (taken_out triple test _ _ are.resources);
    taken = other_table 2 4 step.others (λ e. omega arith) no_index_4 _ are.taken;
    member = other_table 2 6 step.others (λ e. omega arith) no_index_6 _ are.member;
    audit = other_audit 2 step.others (λ e. omega arith);
    secret = other_table 2 9 step.others (λ e. omega arith) no_index_9 _ are.secret;
  }

  -- where each row that passes is turned into one of the same values
  pub turns_resource : (test : Row → Bool) (turned : Row → Row) (key : Row → Value) (v : Row) → ((r : Row) → test (triple r) ≡ true → turned r ≡ key r ∷ v) → ((n : ℤ) → triple (Int n ∷ v) ≡ v)
      → (count : ℕ) → Turns 2 (λ r. test (triple r)) turned count a b → (count ≡ length (filter test lists.resources)) × Are b (record lists { resources = replicate count v ++ without test lists.resources })
  turns_resource test turned key v turns shown count step =
      let rows = turned_among triple 2 a b test turned key v lists.resources turns shown count step are.resources in (
        rows.0,
        record {
          schema = step.schema ∙ are.schema;
          version = other_table 2 0 step.others (λ e. omega arith) no_index_0 _ are.version;
          resources = rows.1;
          taken = other_table 2 4 step.others (λ e. omega arith) no_index_4 _ are.taken;
          member = other_table 2 6 step.others (λ e. omega arith) no_index_6 _ are.member;
          audit = other_audit 2 step.others (λ e. omega arith);
          secret = other_table 2 9 step.others (λ e. omega arith) no_index_9 _ are.secret;
        },
      )

  pub takes_taken : (test : Row → Bool) → Takes 4 (λ r. test (triple r)) a b → Are b (record lists { taken = without test lists.taken })
  takes_taken test step = record {
    schema = step.schema ∙ are.schema;
    version = other_table 4 0 step.others (λ e. omega arith) no_index_0 _ are.version;
    resources = other_table 4 2 step.others (λ e. omega arith) no_index_2 _ are.resources;
    taken = subst (λ rows. IsTableOf triple rows (without test lists.taken)) (sym step.rows) (taken_out triple test _ _ are.taken);
    member = other_table 4 6 step.others (λ e. omega arith) no_index_6 _ are.member;
    audit = other_audit 4 step.others (λ e. omega arith);
    secret = other_table 4 9 step.others (λ e. omega arith) no_index_9 _ are.secret;
  }

  pub takes_member : (test : Row → Bool) → Takes 6 (λ r. test (pair r)) a b → Are b (record lists { member = without test lists.member })
  takes_member test step = record {
    schema = step.schema ∙ are.schema;
    version = other_table 6 0 step.others (λ e. omega arith) no_index_0 _ are.version;
    resources = other_table 6 2 step.others (λ e. omega arith) no_index_2 _ are.resources;
    taken = other_table 6 4 step.others (λ e. omega arith) no_index_4 _ are.taken;
    member = subst (λ rows. IsTableOf pair rows (without test lists.member)) (sym step.rows) (taken_out pair test _ _ are.member);
    audit = other_audit 6 step.others (λ e. omega arith);
    secret = other_table 6 9 step.others (λ e. omega arith) no_index_9 _ are.secret;
  }

  pub puts_resource : (n : ℤ) (v : Row) → Puts 2 (Int n ∷ v) a b → triple (Int n ∷ v) ≡ v → Are b (record lists { resources = v ∷ lists.resources })
  puts_resource n v step shown = record {
    schema = step.schema ∙ are.schema;
    version = other_table 2 0 step.others (λ e. omega arith) no_index_0 _ are.version;
    resources = subst (λ rows. IsTableOf triple rows (v ∷ lists.resources)) (sym step.rows) (put_among triple _ _ n v shown are.resources step.fresh);
    taken = other_table 2 4 step.others (λ e. omega arith) no_index_4 _ are.taken;
    member = other_table 2 6 step.others (λ e. omega arith) no_index_6 _ are.member;
    audit = other_audit 2 step.others (λ e. omega arith);
    secret = other_table 2 9 step.others (λ e. omega arith) no_index_9 _ are.secret;
  }

  pub puts_taken : (n : ℤ) (v : Row) → Puts 4 (Int n ∷ v) a b → triple (Int n ∷ v) ≡ v → Are b (record lists { taken = v ∷ lists.taken })
  puts_taken n v step shown = record {
    schema = step.schema ∙ are.schema;
    version = other_table 4 0 step.others (λ e. omega arith) no_index_0 _ are.version;
    resources = other_table 4 2 step.others (λ e. omega arith) no_index_2 _ are.resources;
    taken = subst (λ rows. IsTableOf triple rows (v ∷ lists.taken)) (sym step.rows) (put_among triple _ _ n v shown are.taken step.fresh);
    member = other_table 4 6 step.others (λ e. omega arith) no_index_6 _ are.member;
    audit = other_audit 4 step.others (λ e. omega arith);
    secret = other_table 4 9 step.others (λ e. omega arith) no_index_9 _ are.secret;
  }

  pub puts_member : (n : ℤ) (v : Row) → Puts 6 (Int n ∷ v) a b → pair (Int n ∷ v) ≡ v → Are b (record lists { member = v ∷ lists.member })
  puts_member n v step shown = record {
    schema = step.schema ∙ are.schema;
    version = other_table 6 0 step.others (λ e. omega arith) no_index_0 _ are.version;
    resources = other_table 6 2 step.others (λ e. omega arith) no_index_2 _ are.resources;
    taken = other_table 6 4 step.others (λ e. omega arith) no_index_4 _ are.taken;
    member = subst (λ rows. IsTableOf pair rows (v ∷ lists.member)) (sym step.rows) (put_among pair _ _ n v shown are.member step.fresh);
    audit = other_audit 6 step.others (λ e. omega arith);
    secret = other_table 6 9 step.others (λ e. omega arith) no_index_9 _ are.secret;
  }

  pub puts_audit : (row v : Row) → Puts 8 row a b → entry row ≡ v → Are b (record lists { audit = v ∷ lists.audit })
  puts_audit row v step shown = record {
    schema = step.schema ∙ are.schema;
    version = other_table 8 0 step.others (λ e. omega arith) no_index_0 _ are.version;
    resources = other_table 8 2 step.others (λ e. omega arith) no_index_2 _ are.resources;
    taken = other_table 8 4 step.others (λ e. omega arith) no_index_4 _ are.taken;
    member = other_table 8 6 step.others (λ e. omega arith) no_index_6 _ are.member;
    audit = subst (λ rows. IsPermutation (map entry rows) (v ∷ lists.audit)) (sym step.rows) (IsPermutation-trans _ _ _ (IsPermutation-sym _ _ (IsPermutation-map entry _ _ (put_in row (a.trees 8) step.fresh))) (subst (λ (x : Row). IsPermutation (x ∷ map entry (a.trees 8)) (v ∷ lists.audit)) (sym shown) (IsPermutation-cons v _ _ are.audit)));
    secret = other_table 8 9 step.others (λ e. omega arith) no_index_9 _ are.secret;
  }

  pub takes_secret : (test : Row → Bool) → Takes 9 (λ r. test (pair r)) a b → Are b (record lists { secret = without test lists.secret })
  takes_secret test step = record {
    schema = step.schema ∙ are.schema;
    version = other_table 9 0 step.others (λ e. omega arith) no_index_0 _ are.version;
    resources = other_table 9 2 step.others (λ e. omega arith) no_index_2 _ are.resources;
    taken = other_table 9 4 step.others (λ e. omega arith) no_index_4 _ are.taken;
    member = other_table 9 6 step.others (λ e. omega arith) no_index_6 _ are.member;
    audit = other_audit 9 step.others (λ e. omega arith);
    secret = subst (λ rows. IsTableOf pair rows (without test lists.secret)) (sym step.rows) (taken_out pair test _ _ are.secret);
  }

  pub puts_secret : (n : ℤ) (v : Row) → Puts 9 (Int n ∷ v) a b → pair (Int n ∷ v) ≡ v → Are b (record lists { secret = v ∷ lists.secret })
  puts_secret n v step shown = record {
    schema = step.schema ∙ are.schema;
    version = other_table 9 0 step.others (λ e. omega arith) no_index_0 _ are.version;
    resources = other_table 9 2 step.others (λ e. omega arith) no_index_2 _ are.resources;
    taken = other_table 9 4 step.others (λ e. omega arith) no_index_4 _ are.taken;
    member = other_table 9 6 step.others (λ e. omega arith) no_index_6 _ are.member;
    audit = other_audit 9 step.others (λ e. omega arith);
    secret = subst (λ rows. IsTableOf pair rows (v ∷ lists.secret)) (sym step.rows) (put_among pair _ _ n v shown are.secret step.fresh);
  }
