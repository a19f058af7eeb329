-- What the reading of the files again changes.
use Rattle.std.specs.Prelude.{◌≡◌, ◌⊎◌, ℕ, List, Option, Some}
use Rattle.scim_token.specs.TokenFile.{Entry}
use Rattle.scim_token.specs.Tokens.{Knows}
use Rattle.scim_token.specs.declared.token_table.Tokens.{Tokens}
use Rattle.scim_hub.specs.declared.hubs.Hub.{Hub}
use Rattle.scim_hub.specs.HubSetting.{hub_base, hub_policy, hub_tokens, KeepsHubSetting}
use Rattle.scim_admin_text.specs.declared.replies.Status.TheVariants.{Ok, Conflict}
use Rattle.scim_admin.specs.declared.hosts.Setting.{Setting}
use Rattle.scim_admin.specs.declared.replies.Reply.{Reply}
use Rattle.scim_admin.specs.Replies.{Says}

-- Both tables of tokens have the entries of some token files.
pub record HasKnownTokens (s : Setting) : Type 0 where
  pub clients : (entries : List Entry) × Knows entries s.tokens
  pub admins : (entries : List Entry) × Knows entries s.admin_tokens

-- The hub has the policy and the clients' tokens of a setting that the host gave.
pub record IsReloaded {S H : Type 0} (Gives : H → Setting → Type 0) (hub : Hub S) : Type 0 where
  pub host : H
  pub setting : Setting
  pub given : Gives host setting
  pub policy : hub_policy hub ≡ setting.policy
  pub tokens : hub_tokens hub ≡ setting.tokens

-- The policy and the tokens of a hub are unchanged, or they are those of a setting that the host gave.
abbrev pub ChangesByReload : {S H : Type 0} → (H → Setting → Type 0) → Hub S → Hub S → Type 0
ChangesByReload Gives old new = KeepsHubSetting old new ⊎ (IsReloaded Gives new × (hub_base new ≡ hub_base old))

-- the reply is 200, and the hub and the administrators have a setting that the host gave; or it is 409, and they keep
-- theirs
abbrev pub TellsReload : {S H : Type 0} → (H → Setting → Type 0) → Hub S → Hub S → Option Tokens → Option Tokens → Reply → Type 0
TellsReload Gives old new before now reply =
    ((body : List ℕ) × Says Ok body reply × (is : IsReloaded Gives new) × (now ≡ Some is.setting.admin_tokens))
    ⊎ ((body : List ℕ) × Says Conflict body reply × KeepsHubSetting old new × (now ≡ before))
