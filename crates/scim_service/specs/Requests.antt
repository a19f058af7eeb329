-- What holds for the requests that reach the service.
use Rattle.std.specs.Prelude.{◌≡◌, ◌≤◌, ⊤, ℕ, false, List, Result, Ok}
use Rattle.scim_text.specs.Moments.{last_moment}
use Rattle.scim_cell.specs.Content.{Content}
use Rattle.scim_cell.specs.Ids.{IsId}
use Rattle.scim_audit.specs.declared.refusals.Refusal.{Refusal}
use Rattle.scim_body.specs.Drafts.{IsDraft}
use Rattle.scim_patch_steps.specs.Patch.{IsPatch}
use Rattle.scim_patch_steps.specs.Kept.{patch_of}
use Rattle.scim_shelf.specs.Stores.{is_used}
use Rattle.scim_service.specs.declared.requests.Ask.{Ask}
use Rattle.scim_service.specs.declared.requests.Ask.TheVariants.{Create, Replace, Patch}
use Rattle.scim_service.specs.declared.requests.Turn.{Turn}

-- The draft or the patch of a request is one that the body readers return.
abbrev pub IsAsk : Result Ask Refusal → Type 0
IsAsk (Ok (Create draft wanted)) = IsDraft draft
IsAsk (Ok (Replace draft wanted)) = IsDraft draft
IsAsk (Ok (Patch patch wanted)) = IsPatch (patch_of patch)
IsAsk _ = ⊤

-- If the request creates a resource, the id for the new resource isn't in use.
abbrev pub FindsFree : List Content → List ℕ → Result Ask Refusal → Type 0
FindsFree cs id (Ok (Create draft wanted)) = is_used cs id ≡ false
FindsFree cs id _ = ⊤

-- A valid turn: its draft or patch is one that the body readers return, its id for a new resource is a valid
-- id, and its moment can be written as a timestamp.
pub record IsTurn (turn : Turn) : Type 0 where
  pub ask : IsAsk turn.request.ask
  pub id : IsId turn.fresh
  pub moment : turn.moment ≤ last_moment

-- If the turn creates a resource, the id for the new resource isn't in use.
abbrev pub IsFree : List Content → Turn → Type 0
IsFree cs turn = FindsFree cs turn.fresh turn.request.ask
