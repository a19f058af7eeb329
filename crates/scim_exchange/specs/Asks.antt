-- The operation that a routed request asks for, or its refusal (RFC 7644 sections 3.3 to 3.6).
use Rattle.std.specs.Prelude.{◌≡◌, ℕ, List, Option, option_copied, Result, Ok, Err, ⊤, if◌then◌else◌}
use Rattle.std.specs.Str.{is_utf8}
use Rattle.serde_json.specs.Read.{read}
use Rattle.scim_schema.specs.declared.Kind.{Kind}
use Rattle.scim_audit.specs.declared.refusals.Refusal.{Refusal}
use Rattle.scim_audit.specs.declared.refusals.Refusal.TheVariants.{Syntax, Path, MessageValue}
use Rattle.scim_body.specs.declared.drafts.UseFor.{UseFor}
use Rattle.scim_body.specs.declared.drafts.UseFor.TheVariants.{Creating, Replacing}
use Rattle.scim_body.specs.Drafts.{Draft}
use Rattle.scim_body.specs.Bodies.{Body, malformed, wrong, drafted, body_of}
use Rattle.scim_patch_steps.specs.Patch.{Patch}
use Rattle.scim_patch_steps.specs.Kept.{patch_of}
use Rattle.scim_patch_message.specs.declared.faults.PatchFault.{PatchFault}
use Rattle.scim_patch_message.specs.declared.faults.PatchFault.TheVariants as fault
use Rattle.scim_patch_message.specs.Messages.{patch_in}
use Rattle.scim_route.specs.declared.routes.Form.{Form}
use Rattle.scim_route.specs.declared.routes.Form.TheVariants as form
use Rattle.scim_route.specs.declared.routes.Route.{Route}
use Rattle.scim_route.specs.Parameters.{parameters_of}
use Rattle.scim_service.specs.declared.requests.Ask.{Ask}
use Rattle.scim_service.specs.declared.requests.Ask.TheVariants.{Get, Search, Create, Replace, Remove}
use Rattle.scim_service.specs.declared.requests.Ask.TheVariants as to
use Rattle.scim_exchange.specs.Refused.{◌>>=◌, Tells}
use Rattle.scim_exchange.specs.AttributeLists.{Lists, one_of, Wants}
use Rattle.scim_exchange.specs.Searches.{Sought, sought, sought_of, IsQuery}
use Rattle.scim_exchange.specs.QueryStrings.{lists_of, search_of}
use Rattle.scim_exchange.specs.SearchBodies.{search_of_body}

-- the operation that a request asks for: show a resource, search, create a resource from a draft, replace a
-- resource by a draft, patch a resource, or remove a resource
pub data Asked : Type 0 where
  showing : Lists → Asked
  searching : Sought → Asked
  creating : Draft → Lists → Asked
  replacing : Draft → Lists → Asked
  patching : Patch → Lists → Asked
  removing : Asked

-- the attribute lists of a query string, or the refusal `MessageValue` if both are given
abbrev pub lists_asked : Option (List ℕ) → Result Lists Refusal
lists_asked query = one_of (lists_of (parameters_of query))

-- the draft in a body; the refusal `Syntax` or `MessageValue` if the body isn't valid
abbrev pub as_draft : Body → Result Draft Refusal
as_draft malformed = Err Syntax
as_draft wrong = Err MessageValue
as_draft (drafted d) = Ok d

-- the draft in a JSON text, read for creating (RFC 7644 section 3.3) or replacing a resource (section 3.5.1)
unfoldable pub draft_in : UseFor → Kind → List ℕ → Result Draft Refusal
draft_in use_for kind text = as_draft (body_of kind use_for (read text))

-- the draft in a body, which must be UTF-8
unfoldable pub draft_asked : UseFor → Kind → List ℕ → Result Draft Refusal
draft_asked use_for kind body = if is_utf8 body then draft_in use_for kind body else Err Syntax

-- the patch, or the refusal for the fault if the patch couldn't be read
abbrev pub as_patch : Result Patch PatchFault → Result Patch Refusal
as_patch (Ok p) = Ok p
as_patch (Err fault.Syntax) = Err Syntax
as_patch (Err fault.Path) = Err Path
as_patch (Err fault.Value) = Err MessageValue

-- the patch in a JSON text (RFC 7644 section 3.5.2)
unfoldable pub patch_in_text : Kind → List ℕ → Result Patch Refusal
patch_in_text kind text = as_patch (patch_in kind (read text))

-- the patch in a body, which must be UTF-8
unfoldable pub patch_asked : Kind → List ℕ → Result Patch Refusal
patch_asked kind body = if is_utf8 body then patch_in_text kind body else Err Syntax

-- what a request of this form asks for: the query string contains the attribute lists, or the whole search
-- for a GET of a list; the body contains the draft, the patch, or the whole posted search
abbrev pub asked : Form → Kind → Option (List ℕ) → List ℕ → Result Asked Refusal
asked form.Get kind query body = lists_asked query >>= λ lists. Ok (showing lists)
asked form.ListGet kind query body = sought kind (search_of kind (parameters_of query)) >>= λ s. Ok (searching s)
asked form.SearchPost kind query body = sought_of kind (search_of_body kind body) >>= λ s. Ok (searching s)
asked form.Create kind query body = draft_asked Creating kind body >>= λ draft. lists_asked query >>= λ lists. Ok (creating draft lists)
asked form.Remove kind query body = lists_asked query >>= λ lists. Ok removing
asked form.Replace kind query body = draft_asked Replacing kind body >>= λ draft. lists_asked query >>= λ lists. Ok (replacing draft lists)
asked form.Patch kind query body = patch_asked kind body >>= λ patch. lists_asked query >>= λ lists. Ok (patching patch lists)

-- the program's `Ask` represents this operation
abbrev pub IsAsk : Kind → Asked → Ask → Type 0
IsAsk kind (showing lists) (Get wanted) = Wants kind lists wanted
IsAsk kind (searching s) (Search query) = IsQuery kind s query
IsAsk kind (creating draft lists) (Create d wanted) = (d ≡ draft) × Wants kind lists wanted
IsAsk kind (replacing draft lists) (Replace d wanted) = (d ≡ draft) × Wants kind lists wanted
IsAsk kind (patching patch lists) (to.Patch p wanted) = (patch_of p ≡ patch) × Wants kind lists wanted
IsAsk kind removing Remove = ⊤
IsAsk kind _ _ = ⊥

-- the result is what the route and the body ask for, or the refusal if they are invalid
abbrev pub Asks : Route → List ℕ → Result Ask Refusal → Type 0
Asks route body result = Tells (IsAsk route.kind) (asked route.form route.kind (option_copied route.query) body) result
