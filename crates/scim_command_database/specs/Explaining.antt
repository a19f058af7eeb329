-- The text that `explain` writes for a stored resource.
use Rattle.std.specs.Prelude.{ℕ, List, Option, None, Some}
use Rattle.scim_cell.specs.Content.{Content}
use Rattle.scim_policy.specs.Rules.{Rule}
use Rattle.scim_explain.specs.Tables.{table}
use Rattle.scim_explain_paths.specs.Paths.{path_text}
use Rattle.scim_filter_grammar.specs.declared.tree.Meant.{Meant}
use Rattle.scim_command.specs.declared.explain_options.ExplainOptions.{ExplainOptions}
use Rattle.scim_command.specs.declared.faults.DatabaseFault.TheVariants.{Unusable}
use Rattle.scim_command.specs.declared.faults.RunFault.{RunFault}
use Rattle.scim_command.specs.declared.faults.RunFault.TheVariants.{Absent, Database, Output, NoMemory}
use Rattle.scim_command_database.specs.declared.explaining.Question.{Question}

-- the question that options of `explain` ask
abbrev pub question_of : ExplainOptions → Question
question_of o = record { client = o.client; op = o.op; kind = o.kind; id = o.id; path = o.path }

-- the explanations of the decisions on the leaves that a path covers; or, without a path, the table of the decisions on
-- all leaves
abbrev pub told_at : Option Meant → List Rule → Question → Content → List ℕ
told_at (Some path) policy q c = path_text policy q.client.now q.op c path
told_at None policy q c = table policy q.client.now q.op c

-- the text that `explain` writes for the question and the resource
abbrev pub told : List Rule → Question → Content → List ℕ
told policy q c = told_at q.path policy q c

-- `explain` may return the fault: no such resource, an unusable database, a failed write, or `NoMemory`
abbrev pub IsExplainFault : RunFault → Type 0
IsExplainFault Absent = Unit {0}
IsExplainFault (Database Unusable) = Unit {0}
IsExplainFault Output = Unit {0}
IsExplainFault NoMemory = Unit {0}
IsExplainFault _ = ⊥
