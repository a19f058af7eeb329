-- What the texts of the statements that write mean.
use Rattle.std.proofs.Common.{List, [], ◌∷◌, codes, refl, ℕ, pos}
use Rattle.sqlite.specs.declared.types.Value.TheVariants.{Null, Int, Text}
use Rattle.sqlite.specs.Term.{Term, lit, col, op1, op2}
use Rattle.sqlite.specs.Collation.TheVariants.{Binary}
use Rattle.sqlite_sql.specs.declared.ops.BinaryOp.TheVariants as by
use Rattle.sqlite_sql.specs.declared.ops.CompareOp.TheVariants.{Eq, Ge, Lt}
use Rattle.sqlite_sql.specs.declared.ops.UnaryOp.TheVariants.{ToNumeric}
use Rattle.sqlite.specs.Listing.{understood}
use Rattle.sqlite_tied.specs.Compute.{everything}
use Rattle.scim_store_tables.specs.Queries.{is_column}
use Rattle.scim_store_tables.proofs.StatementLemmas.{IsInsert, IsUpdate, IsDelete}

abbrev pub insert_resource_text : List ℕ
insert_resource_text = codes "INSERT INTO resource (id, kind, document) VALUES (?1, ?2, ?3)"

-- three parameters behind a rowid that is chosen
abbrev pub three_terms : List Term
three_terms = lit Null ∷ col 0 0 ∷ col 0 1 ∷ col 0 2 ∷ []

pub inserts_resource : IsInsert insert_resource_text 1 three_terms 4
unfolding understood everything
inserts_resource = record { command = refl; plain = (refl, refl) }

abbrev pub update_resource_text : List ℕ
update_resource_text = codes "UPDATE resource SET kind = ?2, document = ?3 WHERE id = ?1"

-- the rowid and the id stay, and the other columns are parameters
abbrev pub resource_columns : List Term
resource_columns = col 1 0 ∷ col 1 1 ∷ col 0 1 ∷ col 0 2 ∷ []

pub updates_resource : IsUpdate update_resource_text 1 2 (is_column 1 0 ∷ []) resource_columns
unfolding understood everything
updates_resource = record { command = refl; plain = (refl, refl) }

abbrev pub delete_resource_text : List ℕ
delete_resource_text = codes "DELETE FROM resource WHERE id = ?1"

pub deletes_resource : IsDelete delete_resource_text 1 2 (is_column 1 0 ∷ [])
unfolding understood everything
deletes_resource = record { command = refl; plain = (refl, refl) }

abbrev pub insert_name_text : List ℕ
insert_name_text = codes "INSERT INTO taken (attribute, folded, id) VALUES (?1, ?2, ?3)"

pub inserts_name : IsInsert insert_name_text 2 three_terms 4
unfolding understood everything
inserts_name = record { command = refl; plain = (refl, refl) }

abbrev pub delete_name_text : List ℕ
delete_name_text = codes "DELETE FROM taken WHERE attribute = ?1 AND folded = ?2"

-- both columns of the key are parameters
abbrev pub key_tests : List Term
key_tests = is_column 1 0 ∷ is_column 2 1 ∷ []

-- the first column is a text, and the second a number, which a parameter is made
abbrev pub resource_tests : List Term
resource_tests = is_column 1 0 ∷ op2 (by.Compare Eq Binary) (col 1 2) (op1 ToNumeric (col 0 1)) ∷ []

pub deletes_name : IsDelete delete_name_text 2 4 key_tests
unfolding understood everything
deletes_name = record { command = refl; plain = (refl, refl) }

abbrev pub insert_member_text : List ℕ
insert_member_text = codes "INSERT INTO member (value, group_id) VALUES (?1, ?2)"

abbrev pub two_terms : List Term
two_terms = lit Null ∷ col 0 0 ∷ col 0 1 ∷ []

pub inserts_member : IsInsert insert_member_text 3 two_terms 3
unfolding understood everything
inserts_member = record { command = refl; plain = (refl, refl) }

abbrev pub delete_member_text : List ℕ
delete_member_text = codes "DELETE FROM member WHERE value = ?1 AND group_id = ?2"

pub deletes_member : IsDelete delete_member_text 3 6 key_tests
unfolding understood everything
deletes_member = record { command = refl; plain = (refl, refl) }

abbrev pub insert_secret_text : List ℕ
insert_secret_text = codes "INSERT INTO secret (id, door_code) VALUES (?1, ?2)"

pub inserts_secret : IsInsert insert_secret_text 5 two_terms 3
unfolding understood everything
inserts_secret = record { command = refl; plain = (refl, refl) }

abbrev pub delete_secret_text : List ℕ
delete_secret_text = codes "DELETE FROM secret WHERE id = ?1"

pub deletes_secret : IsDelete delete_secret_text 5 9 (is_column 1 0 ∷ [])
unfolding understood everything
deletes_secret = record { command = refl; plain = (refl, refl) }

abbrev pub set_version_text : List ℕ
set_version_text = codes "UPDATE setting SET number = 2 WHERE name = 'version'"

-- the name is `version`
abbrev pub version_tests : List Term
version_tests = op2 (by.Compare Eq Binary) (col 1 1) (lit (Text (codes "version"))) ∷ []

-- the rowid and the name stay, and the number is 2
abbrev pub version_columns : List Term
version_columns = col 1 0 ∷ col 1 1 ∷ lit (Int (pos 2)) ∷ []

pub sets_version : IsUpdate set_version_text 0 0 version_tests version_columns
unfolding understood everything
sets_version = record { command = refl; plain = (refl, refl) }

abbrev pub insert_audit_text : List ℕ
insert_audit_text = codes "INSERT INTO audit (number, moment, client, op, kind, id, decided, rule, leaf, refusal) VALUES (?1, ?2, ?3, ?4, ?5, ?6, ?7, ?8, ?9, ?10)"

-- the number is the rowid, so its own column is NULL
abbrev pub audit_terms : List Term
audit_terms = col 0 0 ∷ lit Null ∷ col 0 1 ∷ col 0 2 ∷ col 0 3 ∷ col 0 4 ∷ col 0 5 ∷ col 0 6 ∷ col 0 7 ∷ col 0 8 ∷ col 0 9 ∷ []

pub inserts_audit : IsInsert insert_audit_text 4 audit_terms 11
unfolding understood everything
inserts_audit = record { command = refl; plain = (refl, refl) }

-- the rowid is one parameter or above it, and below another
abbrev pub between_tests : List Term
between_tests = op2 (by.Compare Ge Binary) (col 1 0) (col 0 0) ∷ op2 (by.Compare Lt Binary) (col 1 0) (col 0 1) ∷ []
