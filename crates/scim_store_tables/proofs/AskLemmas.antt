-- What the texts of the queries mean.
use Rattle.std.proofs.Common.{◌≡◌, List, [], ◌∷◌, codes, refl, ℕ}
use Rattle.sqlite.specs.Term.{col}
use Rattle.sqlite.specs.Query.{Query}
use Rattle.sqlite.specs.Listing.{understood}
use Rattle.sqlite_tied.specs.Compute.{everything}
use Rattle.scim_store_tables.specs.Asks.{IsAsk}
use Rattle.scim_store_tables.specs.Queries.{one_table, is_column, up, rows_query, keys_query}
use Rattle.scim_store_tables.specs.declared.queries.Table.TheVariants.{Setting, Resource, Taken, Member, Audit, Secret}
use Rattle.scim_store_tables.specs.declared.versions.Version.{Version}
use Rattle.scim_store_tables.specs.declared.versions.Version.TheVariants.{One, Two}
use Rattle.scim_store_tables.proofs.TextLemmas.{key_tests, resource_tests, between_tests}

-- ---- the rows of a table

abbrev pub resources_text : List ℕ
resources_text = codes "SELECT id, kind, document FROM resource ORDER BY id"

pub asks_settings : (v : Version) → IsAsk v (codes "SELECT name, number FROM setting") (rows_query Setting)
unfolding understood everything
asks_settings One = record { names = codes "name" ∷ codes "number" ∷ []; command = refl; plain = (refl, refl); unlisted = refl }
asks_settings Two = record { names = codes "name" ∷ codes "number" ∷ []; command = refl; plain = (refl, refl); unlisted = refl }

abbrev pub resources : Query
resources = one_table 2 [] (col 1 1 ∷ col 1 2 ∷ col 1 3 ∷ []) ((col 1 1, up) ∷ [])

pub asks_resources : IsAsk Two resources_text resources
unfolding understood everything
asks_resources = record { names = codes "id" ∷ codes "kind" ∷ codes "document" ∷ []; command = refl; plain = (refl, refl); unlisted = refl }

pub asks_all_resources : (v : Version) → IsAsk v (codes "SELECT id, kind, document FROM resource ORDER BY id, kind") (rows_query Resource)
unfolding understood everything
asks_all_resources One = record { names = codes "id" ∷ codes "kind" ∷ codes "document" ∷ []; command = refl; plain = (refl, refl); unlisted = refl }
asks_all_resources Two = record { names = codes "id" ∷ codes "kind" ∷ codes "document" ∷ []; command = refl; plain = (refl, refl); unlisted = refl }

pub asks_names : (v : Version) → IsAsk v (codes "SELECT id, attribute, folded FROM taken ORDER BY id, attribute, folded") (rows_query Taken)
unfolding understood everything
asks_names One = record { names = codes "id" ∷ codes "attribute" ∷ codes "folded" ∷ []; command = refl; plain = (refl, refl); unlisted = refl }
asks_names Two = record { names = codes "id" ∷ codes "attribute" ∷ codes "folded" ∷ []; command = refl; plain = (refl, refl); unlisted = refl }

pub asks_members : (v : Version) → IsAsk v (codes "SELECT group_id, value FROM member ORDER BY group_id, value") (rows_query Member)
unfolding understood everything
asks_members One = record { names = codes "group_id" ∷ codes "value" ∷ []; command = refl; plain = (refl, refl); unlisted = refl }
asks_members Two = record { names = codes "group_id" ∷ codes "value" ∷ []; command = refl; plain = (refl, refl); unlisted = refl }

pub asks_audit : (v : Version) → IsAsk v (codes "SELECT number, moment, client, op, kind, id, decided, rule, leaf, refusal FROM audit ORDER BY number") (rows_query Audit)
unfolding understood everything
asks_audit One = record {
  names = codes "number" ∷ codes "moment" ∷ codes "client" ∷ codes "op" ∷ codes "kind" ∷ codes "id" ∷ codes "decided" ∷ codes "rule" ∷ codes "leaf" ∷ codes "refusal" ∷ [];
  command = refl;
  plain = (refl, refl);
  unlisted = refl;
}
asks_audit Two = record {
  names = codes "number" ∷ codes "moment" ∷ codes "client" ∷ codes "op" ∷ codes "kind" ∷ codes "id" ∷ codes "decided" ∷ codes "rule" ∷ codes "leaf" ∷ codes "refusal" ∷ [];
  command = refl;
  plain = (refl, refl);
  unlisted = refl;
}

pub asks_secrets : (v : Version) → v ≡ Two → IsAsk v (codes "SELECT id, door_code FROM secret ORDER BY id, door_code") (rows_query Secret)
unfolding understood everything
asks_secrets One is = absurd cc
asks_secrets Two is = record { names = codes "id" ∷ codes "door_code" ∷ []; command = refl; plain = (refl, refl); unlisted = refl }

-- ---- the keys of a table

pub asks_setting_keys : (v : Version) → IsAsk v (codes "SELECT rowid FROM setting ORDER BY rowid") (keys_query Setting)
unfolding understood everything
asks_setting_keys One = record { names = codes "rowid" ∷ []; command = refl; plain = (refl, refl); unlisted = refl }
asks_setting_keys Two = record { names = codes "rowid" ∷ []; command = refl; plain = (refl, refl); unlisted = refl }

pub asks_resource_keys : (v : Version) → IsAsk v (codes "SELECT rowid FROM resource ORDER BY rowid") (keys_query Resource)
unfolding understood everything
asks_resource_keys One = record { names = codes "rowid" ∷ []; command = refl; plain = (refl, refl); unlisted = refl }
asks_resource_keys Two = record { names = codes "rowid" ∷ []; command = refl; plain = (refl, refl); unlisted = refl }

pub asks_name_keys : (v : Version) → IsAsk v (codes "SELECT rowid FROM taken ORDER BY rowid") (keys_query Taken)
unfolding understood everything
asks_name_keys One = record { names = codes "rowid" ∷ []; command = refl; plain = (refl, refl); unlisted = refl }
asks_name_keys Two = record { names = codes "rowid" ∷ []; command = refl; plain = (refl, refl); unlisted = refl }

pub asks_member_keys : (v : Version) → IsAsk v (codes "SELECT rowid FROM member ORDER BY rowid") (keys_query Member)
unfolding understood everything
asks_member_keys One = record { names = codes "rowid" ∷ []; command = refl; plain = (refl, refl); unlisted = refl }
asks_member_keys Two = record { names = codes "rowid" ∷ []; command = refl; plain = (refl, refl); unlisted = refl }

-- the column `number` of the audit is the key
pub asks_audit_keys : (v : Version) → IsAsk v (codes "SELECT rowid FROM audit ORDER BY rowid") (keys_query Audit)
unfolding understood everything
asks_audit_keys One = record { names = codes "number" ∷ []; command = refl; plain = (refl, refl); unlisted = refl }
asks_audit_keys Two = record { names = codes "number" ∷ []; command = refl; plain = (refl, refl); unlisted = refl }

pub asks_secret_keys : (v : Version) → v ≡ Two → IsAsk v (codes "SELECT rowid FROM secret ORDER BY rowid") (keys_query Secret)
unfolding understood everything
asks_secret_keys One is = absurd cc
asks_secret_keys Two is = record { names = codes "rowid" ∷ []; command = refl; plain = (refl, refl); unlisted = refl }

-- ---- by keys

abbrev pub document_text : List ℕ
document_text = codes "SELECT document FROM resource WHERE id = ?1 AND kind = ?2"

abbrev pub document : Query
document = one_table 2 resource_tests (col 1 3 ∷ []) []

pub asks_document : IsAsk Two document_text document
unfolding understood everything
asks_document = record { names = codes "document" ∷ []; command = refl; plain = (refl, refl); unlisted = refl }

abbrev pub owner_text : List ℕ
owner_text = codes "SELECT id FROM taken WHERE attribute = ?1 AND folded = ?2"

abbrev pub owner : Query
owner = one_table 4 key_tests (col 1 3 ∷ []) []

pub asks_owner : IsAsk Two owner_text owner
unfolding understood everything
asks_owner = record { names = codes "id" ∷ []; command = refl; plain = (refl, refl); unlisted = refl }

abbrev pub secret_text : List ℕ
secret_text = codes "SELECT door_code FROM secret WHERE id = ?1"

abbrev pub secret : Query
secret = one_table 9 (is_column 1 0 ∷ []) (col 1 2 ∷ []) []

pub asks_secret : IsAsk Two secret_text secret
unfolding understood everything
asks_secret = record { names = codes "door_code" ∷ []; command = refl; plain = (refl, refl); unlisted = refl }

abbrev pub groups_text : List ℕ
groups_text = codes "SELECT group_id FROM member WHERE value = ?1 ORDER BY group_id"

abbrev pub groups : Query
groups = one_table 6 (is_column 1 0 ∷ []) (col 1 2 ∷ []) ((col 1 2, up) ∷ [])

pub asks_groups : IsAsk Two groups_text groups
unfolding understood everything
asks_groups = record { names = codes "group_id" ∷ []; command = refl; plain = (refl, refl); unlisted = refl }

abbrev pub between_text : List ℕ
between_text = codes "SELECT number, moment, client, op, kind, id, decided, rule, leaf, refusal FROM audit WHERE number >= ?1 AND number < ?2 ORDER BY number"

abbrev pub between : Query
between = one_table 8 between_tests (col 1 0 ∷ col 1 2 ∷ col 1 3 ∷ col 1 4 ∷ col 1 5 ∷ col 1 6 ∷ col 1 7 ∷ col 1 8 ∷ col 1 9 ∷ col 1 10 ∷ []) ((col 1 0, up) ∷ [])

pub asks_between : IsAsk Two between_text between
unfolding understood everything
asks_between = record {
  names = codes "number" ∷ codes "moment" ∷ codes "client" ∷ codes "op" ∷ codes "kind" ∷ codes "id" ∷ codes "decided" ∷ codes "rule" ∷ codes "leaf" ∷ codes "refusal" ∷ [];
  command = refl;
  plain = (refl, refl);
  unlisted = refl;
}
