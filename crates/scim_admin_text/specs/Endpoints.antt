-- The endpoints of the administrator's port, their paths and methods.
use Rattle.std.specs.Prelude.{ℕ, List, [], ◌∷◌, Option, codes, find, bytes_eq}
use Rattle.scim_admin_text.specs.declared.endpoints.Endpoint.{Endpoint}
use Rattle.scim_admin_text.specs.declared.endpoints.Endpoint.TheVariants.{Health, Metrics, Audit, Explain, Export, Reload, Stop}

-- all endpoints
abbrev pub endpoints : List Endpoint
endpoints = Health ∷ Metrics ∷ Audit ∷ Explain ∷ Export ∷ Reload ∷ Stop ∷ []

-- the path of an endpoint
abbrev pub path_of : Endpoint → List ℕ
path_of Health = codes "/health"
path_of Metrics = codes "/metrics"
path_of Audit = codes "/audit"
path_of Explain = codes "/explain"
path_of Export = codes "/export"
path_of Reload = codes "/reload"
path_of Stop = codes "/stop"

-- the one method that an endpoint allows: `POST` if it changes the server, and `GET` otherwise
abbrev pub method_of : Endpoint → List ℕ
method_of Reload = codes "POST"
method_of Stop = codes "POST"
method_of _ = codes "GET"

-- the endpoint with this path, if there is one
abbrev pub endpoint_at : List ℕ → Option Endpoint
endpoint_at path = find (λ endpoint. bytes_eq (path_of endpoint) path) endpoints
