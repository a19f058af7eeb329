-- The values that the code reads from a policy file, converted to the types of the specification.
use Rattle.std.specs.Prelude.{◌≡◌, ℕ, List, map, Vec, option_map, Result, Ok, Err}
use Rattle.std.specs.declared.alloc.Global.{Global}
use Rattle.json.specs.Value.{value_view}
use denote.Ref.{Bor}
use Rattle.scim_text.specs.declared.memory.Failed.{Failed}
use Rattle.scim_text.specs.declared.memory.Failed.TheVariants.{Because, NoMemory}
use Rattle.scim_policy_file.specs.declared.policy_files.FileParts.{FileParts}
use Rattle.scim_policy_file.specs.declared.policy_files.WrittenRule.{WrittenRule}
use Rattle.scim_policy_file.specs.declared.faults.Cause.{Cause}
use Rattle.scim_policy_file.specs.File.{Parts, RuleTexts}

-- a function returned the specified result, with the value converted by the first argument, or failed with
-- `NoMemory`
abbrev pub Gives : {X Y : Type 0} → (X → Y) → Result X (Failed Cause) → Result Y Cause → Type 0
Gives words (Ok x) said = said ≡ Ok (words x)
Gives words (Err (Because cause)) said = said ≡ Err cause
Gives words (Err NoMemory) said = Unit {0}

-- the bytes of a borrowed text
abbrev pub text_at : Bor (List ℕ) → List ℕ
text_at t = t.now

-- the bytes of each of the borrowed texts
abbrev pub texts_view : Vec (Bor (List ℕ)) Global → List (List ℕ)
texts_view v = map text_at v.items

-- the written rule of the code, converted to the record of the specification
abbrev pub rule_view : WrittenRule → RuleTexts
rule_view w = record { allow = w.allow; clients = texts_view w.clients; ops = texts_view w.ops; types = texts_view w.types; target = option_map text_at w.target; paths = texts_view w.paths }

-- the version and the rules in the code, converted to the record of the specification
abbrev pub parts_view : FileParts → Parts
parts_view p = record { version = p.version.now; rules = map value_view p.rules.now }
