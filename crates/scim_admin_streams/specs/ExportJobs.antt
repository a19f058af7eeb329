-- The text that an export in pieces has still to write.
use Rattle.std.specs.Prelude.{◌≡◌, ◌≤◌, ◌+◌, ◌-◌, ℕ, zero, suc, Bool, List, [], ◌++◌, length, drop, map, codes, if◌then◌else◌}
use Rattle.std.specs.List.{flat_map}
use Rattle.scim_cell.specs.Content.{Content}
use Rattle.scim_json.specs.Stored.{stored_text}
use Rattle.scim_command_database.specs.Exports.{users_and_groups, documents_text}
use Rattle.scim_admin_streams.specs.declared.export_jobs.ExportJob.{ExportJob}
use Rattle.scim_admin_streams.specs.declared.export_jobs.Named.{Named}

-- the kind and the id of a resource
abbrev pub name_of : Content → Named
name_of c = record { kind = c.kind; id = c.id }

-- the job exports these resources
abbrev pub Exports : List Content → ExportJob → Type 0
Exports cs job = job.names.items ≡ map name_of (users_and_groups cs)

-- the documents of resources that follow others, each behind a comma and a line feed
abbrev pub further_documents : List Content → List ℕ
further_documents cs = flat_map (λ c. codes ",\n" ++ stored_text c) cs

-- the users file of resources without the text of the first ones, of which there are so many
abbrev pub text_after : ℕ → List Content → List ℕ
text_after zero cs = documents_text cs
text_after (suc n) cs = further_documents (drop (suc n) cs) ++ codes "]\n"

-- the text that a job has still to write, over the resources that it exports
abbrev pub rest_of : ExportJob → List Content → List ℕ
rest_of job cs = if job.is_done then [] else text_after job.at (users_and_groups cs)

-- whether a job has written the whole file
abbrev pub is_done : ExportJob → Bool
is_done job = job.is_done

-- how many resources a job has still to write, and the end
abbrev pub parts_left : ExportJob → ℕ
parts_left job = if job.is_done then 0 else length job.names.items - job.at + 1

-- the new job has less to do
abbrev pub IsShorter : ExportJob → ExportJob → Type 0
IsShorter old new = parts_left new + 1 ≤ parts_left old

-- the new job exports the same resources
abbrev pub KeepsResources : ExportJob → ExportJob → Type 0
KeepsResources old new = (cs : List Content) → Exports cs old → Exports cs new

-- the text before a document that follows so many others
abbrev pub text_before : ℕ → List ℕ
text_before zero = codes "["
text_before (suc n) = codes ",\n"

-- the text after so many documents, if they are all
abbrev pub end_after : ℕ → List ℕ
end_after zero = codes "[]\n"
end_after (suc n) = codes "]\n"
