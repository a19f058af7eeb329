-- What is kept over several steps.
use Rattle.std.proofs.Common.{◌≡◌, inl, inr, List, refl, ◌∙◌}
use Rattle.scim_shelf.specs.Shelves.{Round}
use Rattle.scim_shelf.specs.Stores.{Store}
use Rattle.scim_token.specs.TokenFile.{Entry}
use Rattle.scim_token.specs.Tokens.{Knows}
use Rattle.scim_hub.specs.declared.hubs.Hub.{Hub}
use Rattle.scim_hub.specs.HubSetting.{hub_shelf, hub_tokens, with_hub_shelf, with_hub_setting, KeepsHubSetting}
use Rattle.scim_admin.specs.declared.hosts.Setting.{Setting}
use Rattle.scim_admin.specs.Hubs.{KeepsState, KeepsHub, Reloads}
use Rattle.scim_admin.specs.Reloads.{ChangesByReload, HasKnownTokens}
use Rattle.scim_admin_streams.specs.Shelves.{KeepsShelf}

-- ---- a shelf

pub shelf_same : {S : Type 0} (Stands : S → Store → Type 0) (IsHonest : S → Type 0) (HasRound : S → Round → Type 0) (shelf : S) → KeepsShelf Stands IsHonest HasRound shelf shelf
shelf_same Stands IsHonest HasRound shelf = record { store = λ store was. was; round = λ round has. has; honest = λ is. is }

pub shelf_then : {S : Type 0} (Stands : S → Store → Type 0) (IsHonest : S → Type 0) (HasRound : S → Round → Type 0) (old mid new : S)
    → KeepsShelf Stands IsHonest HasRound old mid → KeepsShelf Stands IsHonest HasRound mid new → KeepsShelf Stands IsHonest HasRound old new
shelf_then Stands IsHonest HasRound old mid new first second = record { store = λ store was. second.store store (first.store store was); round = λ round has. second.round round (first.round round has); honest = λ is. first.honest (second.honest is) }

-- ---- the state of a hub

pub state_with_shelf : {S : Type 0} (Stands : S → Store → Type 0) (IsHonest : S → Type 0) (HasRound : S → Round → Type 0) (hub : Hub S) (shelf : S)
    → KeepsShelf Stands IsHonest HasRound (hub_shelf hub) shelf → KeepsState Stands IsHonest HasRound hub (with_hub_shelf hub shelf)
state_with_shelf Stands IsHonest HasRound hub shelf keeps = record {
  state = λ state is. record { store = (keeps.store state.store (is.store, is.is_store.keyed)).0; is_store = is.is_store; connections = is.connections };
  round = keeps.round;
  honest = keeps.honest;
}

pub state_same : {S : Type 0} (Stands : S → Store → Type 0) (IsHonest : S → Type 0) (HasRound : S → Round → Type 0) (hub : Hub S) → KeepsState Stands IsHonest HasRound hub hub
state_same Stands IsHonest HasRound hub = record { state = λ state is. is; round = λ round has. has; honest = λ is. is }

pub state_then : {S : Type 0} (Stands : S → Store → Type 0) (IsHonest : S → Type 0) (HasRound : S → Round → Type 0) (old mid new : Hub S)
    → KeepsState Stands IsHonest HasRound old mid → KeepsState Stands IsHonest HasRound mid new → KeepsState Stands IsHonest HasRound old new
state_then Stands IsHonest HasRound old mid new first second = record { state = λ state is. second.state state (first.state state is); round = λ round has. second.round round (first.round round has); honest = λ is. first.honest (second.honest is) }

-- ---- a hub

pub hub_with_shelf : {S : Type 0} (Stands : S → Store → Type 0) (IsHonest : S → Type 0) (HasRound : S → Round → Type 0) (hub : Hub S) (shelf : S)
    → KeepsShelf Stands IsHonest HasRound (hub_shelf hub) shelf → KeepsHub Stands IsHonest HasRound hub (with_hub_shelf hub shelf)
hub_with_shelf Stands IsHonest HasRound hub shelf keeps = record {
  state = state_with_shelf Stands IsHonest HasRound hub shelf keeps;
  setting = record { policy = refl; base = refl; tokens = refl };
}

pub hub_same : {S : Type 0} (Stands : S → Store → Type 0) (IsHonest : S → Type 0) (HasRound : S → Round → Type 0) (hub : Hub S) → KeepsHub Stands IsHonest HasRound hub hub
hub_same Stands IsHonest HasRound hub = record { state = state_same Stands IsHonest HasRound hub; setting = record { policy = refl; base = refl; tokens = refl } }

setting_then : {S : Type 0} (old mid new : Hub S) → KeepsHubSetting old mid → KeepsHubSetting mid new → KeepsHubSetting old new
setting_then old mid new first second = record { policy = second.policy ∙ first.policy; base = second.base ∙ first.base; tokens = second.tokens ∙ first.tokens }

pub hub_then : {S : Type 0} (Stands : S → Store → Type 0) (IsHonest : S → Type 0) (HasRound : S → Round → Type 0) (old mid new : Hub S)
    → KeepsHub Stands IsHonest HasRound old mid → KeepsHub Stands IsHonest HasRound mid new → KeepsHub Stands IsHonest HasRound old new
hub_then Stands IsHonest HasRound old mid new first second = record {
  state = state_then Stands IsHonest HasRound old mid new first.state second.state;
  setting = setting_then old mid new first.setting second.setting;
}

-- ---- a reload

known_same : {S : Type 0} (old new : Hub S) → hub_tokens new ≡ hub_tokens old → (entries : List Entry) → Knows entries (hub_tokens old) → (next : List Entry) × Knows next (hub_tokens new)
known_same old new same entries knows = (entries, rw same knows)

pub no_reload : {S H : Type 0} (Stands : S → Store → Type 0) (IsHonest : S → Type 0) (HasRound : S → Round → Type 0) (Gives : H → Setting → Type 0) (old new : Hub S)
    → KeepsHub Stands IsHonest HasRound old new → Reloads Stands IsHonest HasRound Gives old new
no_reload Stands IsHonest HasRound Gives old new keeps = record {
  state = keeps.state;
  base = keeps.setting.base;
  known = known_same old new keeps.setting.tokens;
  setting = inl keeps.setting;
}

-- a reload and then a step that keeps the hub
pub reload_then : {S H : Type 0} (Stands : S → Store → Type 0) (IsHonest : S → Type 0) (HasRound : S → Round → Type 0) (Gives : H → Setting → Type 0) (old mid new : Hub S)
    → Reloads Stands IsHonest HasRound Gives old mid → KeepsHub Stands IsHonest HasRound mid new → Reloads Stands IsHonest HasRound Gives old new
reload_then Stands IsHonest HasRound Gives old mid new first second = record {
  state = state_then Stands IsHonest HasRound old mid new first.state second.state;
  base = second.setting.base ∙ first.base;
  known = λ entries knows. let k = first.known entries knows in known_same mid new second.setting.tokens k.0 k.1;
  setting = later first.setting;
} where
  later : ChangesByReload Gives old mid → ChangesByReload Gives old new
  later (inl same) = inl (setting_then old mid new same second.setting)
  later (inr changed) =
      let is = changed.0 in
      inr (
        record { host = is.host; setting = is.setting; given = is.given; policy = second.setting.policy ∙ is.policy; tokens = second.setting.tokens ∙ is.tokens },
        second.setting.base ∙ changed.1,
      )

-- a step that keeps the hub and then a reload
pub then_reload : {S H : Type 0} (Stands : S → Store → Type 0) (IsHonest : S → Type 0) (HasRound : S → Round → Type 0) (Gives : H → Setting → Type 0) (old mid new : Hub S)
    → KeepsHub Stands IsHonest HasRound old mid → Reloads Stands IsHonest HasRound Gives mid new → Reloads Stands IsHonest HasRound Gives old new
then_reload Stands IsHonest HasRound Gives old mid new first second = record {
  state = state_then Stands IsHonest HasRound old mid new first.state second.state;
  base = second.base ∙ first.setting.base;
  known = λ entries knows. let k = known_same old mid first.setting.tokens entries knows in second.known k.0 k.1;
  setting = later second.setting;
} where
  later : ChangesByReload Gives mid new → ChangesByReload Gives old new
  later (inl same) = inl (setting_then old mid new first.setting same)
  later (inr changed) = inr (changed.0, changed.1 ∙ first.setting.base)

-- a setting that the host gave is put into force
pub put_into_force : {S H : Type 0} (Stands : S → Store → Type 0) (IsHonest : S → Type 0) (HasRound : S → Round → Type 0) (Gives : H → Setting → Type 0) (hub new : Hub S) (setting : Setting) (host : H)
    → new ≡ with_hub_setting hub setting.policy setting.tokens → HasKnownTokens setting → Gives host setting → Reloads Stands IsHonest HasRound Gives hub new
put_into_force Stands IsHonest HasRound Gives hub new setting host is known given = rw is (record {
  state = record { state = λ state was. record { store = was.store; is_store = was.is_store; connections = was.connections }; round = λ round has. has; honest = λ honest. honest };
  base = refl;
  known = λ entries knows. known.clients;
  setting = inr (record { host = host; setting = setting; given = given; policy = refl; tokens = refl }, refl);
})
