-- Converts values of the program's types to the types of the specification.
use Rattle.std.specs.Prelude.{◌≡◌, ℕ, List, map, Option, None, Result}
use Rattle.std.specs.Global.{Vec}
use denote.Ref.{Bor}
use Rattle.scim_text.specs.declared.memory.Failed.{Failed}
use Rattle.scim_text.specs.Failures.{IfFault}
use Rattle.scim_audit.specs.declared.refusals.Refusal.{Refusal}
use Rattle.scim_audit.specs.declared.refusals.Refusal.TheVariants.{MessageValue}
use Rattle.scim_exchange.specs.declared.attribute_lists.AttributeLists.{AttributeLists}
use Rattle.scim_exchange.specs.declared.searches.Settings.{Settings as SettingsInCode}
use Rattle.scim_exchange.specs.AttributeLists.{Lists}
use Rattle.scim_exchange.specs.Searches.{Settings}

-- the texts in a vector
abbrev pub texts_in : Vec (Bor (List ℕ)) → List (List ℕ)
texts_in v = map (λ text. text.now) v.items

-- the program's attribute lists, converted to the specification's type
abbrev pub lists_in : AttributeLists → Lists
lists_in lists = record { attributes = texts_in lists.attributes; excluded = texts_in lists.excluded }

-- the program's settings of a search, converted to the specification's type
abbrev pub settings_in : SettingsInCode → Settings
settings_in settings = record { lists = lists_in settings.lists; arrangement = settings.arrangement }

-- if the result is a refusal, it is `MessageValue`, and there is no expected value
abbrev pub IsWrong : {X Y : Type 0} → Option X → Result Y (Failed Refusal) → Type 0
IsWrong read result = IfFault result (λ refusal. (refusal ≡ MessageValue) × (read ≡ None))
