-- What the statements that write make of the tables.
use Rattle.std.proofs.Common.{◌≡◌, ℕ, pos, List, [], ◌∷◌, ◌++◌, length, filter, Result, OnOk, IfOk, IsTrue, refl, subst}
use Rattle.std.specs.Prelude.{replicate}
use Rattle.sqlite.specs.declared.types.Value.TheVariants.{Int, Text}
use Rattle.sqlite.specs.declared.error.Error.{Error}
use Rattle.sqlite.specs.Order.{Row, column}
use Rattle.sqlite.specs.Cast.{cast, cast_row}
use Rattle.sqlite.specs.Kind.TheVariants.{Integer}
use Rattle.sqlite.specs.Table.{Table}
use Rattle.sqlite.specs.Edit.{next_rowid}
use Rattle.sqlite.specs.Term.{eval_all}
use Rattle.sqlite.specs.State.{State, ExecutesInside}
use Rattle.scim_store_tables.specs.Tables.{resource_table, taken_table, member_table, secret_table}
use Rattle.scim_store_tables.specs.Lists.{Lists, Are, without, has_text, has_texts, pair, triple, resource_values, name_values, member_values, secret_values}
use Rattle.scim_store_tables.specs.code.Changes.{Turns}
use Rattle.scim_store_tables.specs.Queries.{is_column}
use Rattle.scim_store_tables.proofs.TextLemmas.{insert_resource_text, inserts_resource, update_resource_text, updates_resource, resource_columns, delete_resource_text, deletes_resource, insert_name_text, inserts_name, delete_name_text, deletes_name, insert_member_text, inserts_member, delete_member_text, deletes_member, insert_secret_text, inserts_secret, delete_secret_text, deletes_secret, three_terms, two_terms, key_tests}
use Rattle.scim_store_tables.proofs.ChangeLemmas.{cast_null, cast_int, inserted, updated, deleted, inside, inside_by}
use Rattle.scim_store_tables.proofs.TestLemmas.{text_of, passes_text, passes_texts, takes_same}
use Rattle.scim_store_tables.proofs.TableLemmas.{turns_resource, takes_resource, takes_taken, takes_member, takes_secret, puts_resource, puts_taken, puts_member, puts_secret}

-- the statement edits the lists, and the transaction goes on
abbrev pub Edits : State → State → Result ℕ Error → (Lists → Lists) → Type 0
Edits old new r edit = OnOk r (IsTrue new.in_transaction × ((lists : Lists) → Are old.now lists → Are new.now (edit lists)))

module _ (old new : State) (r : Result ℕ Error) where
  pub inserts_resource_row : (id document : List ℕ) (kind : ℕ) → ExecutesInside 0 insert_resource_text (Text id ∷ Int (pos kind) ∷ Text document ∷ []) old new r
      → Edits old new r (λ lists. record lists { resources = resource_values id kind document ∷ lists.resources })
  inserts_resource_row id document kind =
      let params : Row = Text id ∷ Int (pos kind) ∷ Text document ∷ [] in
      let table : Table = record resource_table { tree = 2 } in
      inside insert_resource_text params old new r (λ count h lists are.
      let step = inserted old new insert_resource_text params table are.schema 1 three_terms 4 (Int (next_rowid (old.now.trees 2)) ∷ resource_values id kind document) inserts_resource refl (rw (cast_null, cast_int (pos kind))) (λ tally does. does) count h in
      puts_resource old.now new.now lists are _ _ step refl)

  pub inserts_name_row : (attribute folded id : List ℕ) → ExecutesInside 0 insert_name_text (Text attribute ∷ Text folded ∷ Text id ∷ []) old new r
      → Edits old new r (λ lists. record lists { taken = name_values attribute folded id ∷ lists.taken })
  inserts_name_row attribute folded id =
      let params : Row = Text attribute ∷ Text folded ∷ Text id ∷ [] in
      let table : Table = record taken_table { tree = 4 } in
      inside insert_name_text params old new r (λ count h lists are.
      let step = inserted old new insert_name_text params table are.schema 2 three_terms 4 (Int (next_rowid (old.now.trees 4)) ∷ name_values attribute folded id) inserts_name refl (rw cast_null) (λ tally does. does) count h in
      puts_taken old.now new.now lists are _ _ step refl)

  pub inserts_member_row : (value group_id : List ℕ) → ExecutesInside 0 insert_member_text (Text value ∷ Text group_id ∷ []) old new r
      → Edits old new r (λ lists. record lists { member = member_values value group_id ∷ lists.member })
  inserts_member_row value group_id =
      let params : Row = Text value ∷ Text group_id ∷ [] in
      let table : Table = record member_table { tree = 6 } in
      inside insert_member_text params old new r (λ count h lists are.
      let step = inserted old new insert_member_text params table are.schema 3 two_terms 3 (Int (next_rowid (old.now.trees 6)) ∷ member_values value group_id) inserts_member refl (rw cast_null) (λ tally does. does) count h in
      puts_member old.now new.now lists are _ _ step refl)

  pub updates_resource_row : (id document : List ℕ) (kind : ℕ) → ExecutesInside 0 update_resource_text (Text id ∷ Int (pos kind) ∷ Text document ∷ []) old new r
      → IfOk r (λ count. IsTrue new.in_transaction × ((lists : Lists) → Are old.now lists → (count ≡ length (filter (has_text 0 id) lists.resources)) × Are new.now (record lists { resources = replicate count (resource_values id kind document) ++ without (has_text 0 id) lists.resources })))
  updates_resource_row id document kind =
      let params : Row = Text id ∷ Int (pos kind) ∷ Text document ∷ [] in
      let table : Table = record resource_table { tree = 2 } in
      let turned : Row → Row = λ r. cast_row table (eval_all resource_columns (params ∷ r ∷ [])) in
      inside_by update_resource_text params old new r (λ count h lists are.
      let step = updated old new update_resource_text params table are.schema 1 (is_column 1 0 ∷ []) resource_columns updates_resource (λ tally does. does) are.resources.keys count h in
      turns_resource old.now new.now lists are (has_text 0 id) turned (λ r. cast Integer (column r 0)) (resource_values id kind document) (λ r has. rw (text_of id (column r 1) has, cast_int (pos kind))) (λ n. refl) count
      (subst (λ test. Turns 2 test turned count old.now new.now) (λ i r. passes_text 2 id (Int (pos kind) ∷ Text document ∷ []) r i) step))

  pub deletes_resource_row : (id : List ℕ) → ExecutesInside 0 delete_resource_text (Text id ∷ []) old new r → Edits old new r (λ lists. record lists { resources = without (has_text 0 id) lists.resources })
  deletes_resource_row id =
      let params : Row = Text id ∷ [] in
      let table : Table = record resource_table { tree = 2 } in
      inside delete_resource_text params old new r (λ count h lists are.
      let step = deleted old new delete_resource_text params table are.schema 1 (is_column 1 0 ∷ []) deletes_resource (λ tally does. does) are.resources.keys count h in
      takes_resource old.now new.now lists are (has_text 0 id) (takes_same 2 _ (λ r. has_text 0 id (triple r)) old.now new.now (passes_text 2 id []) step))

  pub deletes_name_row : (attribute folded : List ℕ) → ExecutesInside 0 delete_name_text (Text attribute ∷ Text folded ∷ []) old new r
      → Edits old new r (λ lists. record lists { taken = without (has_texts attribute folded) lists.taken })
  deletes_name_row attribute folded =
      let params : Row = Text attribute ∷ Text folded ∷ [] in
      let table : Table = record taken_table { tree = 4 } in
      inside delete_name_text params old new r (λ count h lists are.
      let step = deleted old new delete_name_text params table are.schema 2 key_tests deletes_name (λ tally does. does) are.taken.keys count h in
      takes_taken old.now new.now lists are (has_texts attribute folded) (takes_same 4 _ (λ r. has_texts attribute folded (triple r)) old.now new.now (passes_texts 4 attribute folded) step))

  pub deletes_member_row : (value group_id : List ℕ) → ExecutesInside 0 delete_member_text (Text value ∷ Text group_id ∷ []) old new r
      → Edits old new r (λ lists. record lists { member = without (has_texts value group_id) lists.member })
  deletes_member_row value group_id =
      let params : Row = Text value ∷ Text group_id ∷ [] in
      let table : Table = record member_table { tree = 6 } in
      inside delete_member_text params old new r (λ count h lists are.
      let step = deleted old new delete_member_text params table are.schema 3 key_tests deletes_member (λ tally does. does) are.member.keys count h in
      takes_member old.now new.now lists are (has_texts value group_id) (takes_same 6 _ (λ r. has_texts value group_id (pair r)) old.now new.now (passes_texts 6 value group_id) step))

  pub inserts_secret_row : (id code : List ℕ) → ExecutesInside 0 insert_secret_text (Text id ∷ Text code ∷ []) old new r
      → Edits old new r (λ lists. record lists { secret = secret_values id code ∷ lists.secret })
  inserts_secret_row id code =
      let params : Row = Text id ∷ Text code ∷ [] in
      let table : Table = record secret_table { tree = 9 } in
      inside insert_secret_text params old new r (λ count h lists are.
      let step = inserted old new insert_secret_text params table are.schema 5 two_terms 3 (Int (next_rowid (old.now.trees 9)) ∷ secret_values id code) inserts_secret refl (rw cast_null) (λ tally does. does) count h in
      puts_secret old.now new.now lists are _ _ step refl)

  pub deletes_secret_row : (id : List ℕ) → ExecutesInside 0 delete_secret_text (Text id ∷ []) old new r → Edits old new r (λ lists. record lists { secret = without (has_text 0 id) lists.secret })
  deletes_secret_row id =
      let params : Row = Text id ∷ [] in
      let table : Table = record secret_table { tree = 9 } in
      inside delete_secret_text params old new r (λ count h lists are.
      let step = deleted old new delete_secret_text params table are.schema 5 (is_column 1 0 ∷ []) deletes_secret (λ tally does. does) are.secret.keys count h in
      takes_secret old.now new.now lists are (has_text 0 id) (takes_same 9 _ (λ r. has_text 0 id (pair r)) old.now new.now (passes_text 9 id []) step))
