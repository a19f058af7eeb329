use Rattle.scim_store_tables.proofs.AskLemmas.{asks_setting_keys, asks_resource_keys, asks_name_keys, asks_member_keys, asks_audit_keys, asks_secret_keys}
use Rattle.scim_store_tables.proofs.queries.keys_query.Goals as goal

pub returns-in-Setting : goal.returns-in-Setting
returns-in-Setting c = rw c.in-Setting.is (λ v has. asks_setting_keys v)

pub returns-in-Resource : goal.returns-in-Resource
returns-in-Resource c = rw c.in-Resource.is (λ v has. asks_resource_keys v)

pub returns-in-Taken : goal.returns-in-Taken
returns-in-Taken c = rw c.in-Taken.is (λ v has. asks_name_keys v)

pub returns-in-Member : goal.returns-in-Member
returns-in-Member c = rw c.in-Member.is (λ v has. asks_member_keys v)

pub returns-in-Audit : goal.returns-in-Audit
returns-in-Audit c = rw c.in-Audit.is (λ v has. asks_audit_keys v)

pub returns-in-Secret : goal.returns-in-Secret
returns-in-Secret c = rw c.in-Secret.is asks_secret_keys
