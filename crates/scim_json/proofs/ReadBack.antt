-- What is stored of a resource is read as that resource.
use Rattle.std.proofs.Common.{◌≡◌, ◌∙◌, Some, Ok, Err, refl, sym, ap}
use Rattle.serde_json.specs.Data.{Data}
use Rattle.scim_json.specs.PartData.{stored_data}
use Rattle.scim_json.specs.Laws.{StoredResourcesReadBack}
use Rattle.scim_json.proofs.Back.{documents_are_apart}
use Rattle.scim_json.proofs.Kept.{kept_reads_back}

-- values that are there are equal where the options are
some_one : (a b : Data) → Some a ≡ Some b → a ≡ b
some_one a b e = cc

pub stored_resources_read_back : StoredResourcesReadBack
stored_resources_read_back base c (Ok d) below document =
    let same : stored_data c ≡ stored_data d = some_one _ _ (sym (kept_reads_back c) ∙ document.1) in
    ap Ok (documents_are_apart base (stored_data c) d c (document.0, same) (below, refl))
stored_resources_read_back base c (Err damaged) below none = absurd (none c (below, kept_reads_back c))
