-- What is asked, once its parts are read.
use Rattle.std.proofs.Common.{◌≡◌, ap, ◌∙◌, ℕ, List}
use Rattle.std.specs.Prelude.{Option, Result, Ok}
use Rattle.scim_schema.specs.declared.Kind.{Kind}
use Rattle.scim_audit.specs.declared.refusals.Refusal.{Refusal}
use Rattle.scim_body.specs.declared.drafts.UseFor.TheVariants.{Creating, Replacing}
use Rattle.scim_body.specs.Drafts.{Draft}
use Rattle.scim_view.specs.declared.projection.Wanted.{Wanted}
use Rattle.scim_query.specs.declared.queries.Query.{Query}
use Rattle.scim_route.specs.declared.routes.Form.{Form}
use Rattle.scim_route.specs.declared.routes.Form.TheVariants as form
use Rattle.scim_route.specs.Parameters.{parameters_of}
use Rattle.scim_service.specs.declared.requests.Ask.TheVariants.{Get, Search, Create, Replace}
use Rattle.scim_service.specs.declared.requests.Ask.TheVariants as to
use Rattle.scim_patch_steps.specs.Patch.{Patch}
use Rattle.scim_patch_steps.specs.Kept.{Kept, patch_of}
use Rattle.scim_exchange.specs.Refused.{◌>>=◌}
use Rattle.scim_exchange.specs.AttributeLists.{Lists, Wants}
use Rattle.scim_exchange.specs.Searches.{Sought, sought, sought_of, IsQuery}
use Rattle.scim_exchange.specs.QueryStrings.{search_of}
use Rattle.scim_exchange.specs.SearchBodies.{search_of_body}
use Rattle.scim_exchange.specs.Asks.{Asked, showing, searching, creating, replacing, patching, lists_asked, draft_asked, patch_asked, asked, IsAsk}

-- lists that are wanted are what is asked to be shown
pub shows : (f : Form) (kind : Kind) (query : Option (List ℕ)) (body : List ℕ) (w : Wanted) → f ≡ form.Get
    → ((lists : Lists) × (lists_asked query ≡ Ok lists) × Wants kind lists w) → (x : Asked) × (asked f kind query body ≡ Ok x) × IsAsk kind x (Get w)
shows f kind query body w is r = (
  showing r.0,
  ap (λ (g : Form). asked g kind query body) is ∙ ap (λ (lists : Result Lists Refusal). lists >>= λ ls. Ok (showing ls)) r.1,
  r.2,
)

-- a query that is sought by a query string is what is asked to be found
pub lists : (f : Form) (kind : Kind) (query : Option (List ℕ)) (body : List ℕ) (q : Query) → f ≡ form.ListGet
    → ((s : Sought) × (sought kind (search_of kind (parameters_of query)) ≡ Ok s) × IsQuery kind s q) → (x : Asked) × (asked f kind query body ≡ Ok x) × IsAsk kind x (Search q)
lists f kind query body q is r = (
  searching r.0,
  ap (λ (g : Form). asked g kind query body) is ∙ ap (λ (found : Result Sought Refusal). found >>= λ s. Ok (searching s)) r.1,
  r.2,
)

-- and so is one that is sought by a body
pub searches : (f : Form) (kind : Kind) (query : Option (List ℕ)) (body : List ℕ) (q : Query) → f ≡ form.SearchPost
    → ((s : Sought) × (sought_of kind (search_of_body kind body) ≡ Ok s) × IsQuery kind s q) → (x : Asked) × (asked f kind query body ≡ Ok x) × IsAsk kind x (Search q)
searches f kind query body q is r = (
  searching r.0,
  ap (λ (g : Form). asked g kind query body) is ∙ ap (λ (found : Result Sought Refusal). found >>= λ s. Ok (searching s)) r.1,
  r.2,
)

-- a draft and what is wanted are what is asked to be made
pub makes : (kind : Kind) (query : Option (List ℕ)) (body : List ℕ) (d : Draft) (w : Wanted)
    → ((draft : Draft) × (draft_asked Creating kind body ≡ Ok draft) × (d ≡ draft)) → ((lists : Lists) × (lists_asked query ≡ Ok lists) × Wants kind lists w)
    → (x : Asked) × (asked form.Create kind query body ≡ Ok x) × IsAsk kind x (Create d w)
makes kind query body d w a b = (
  creating a.0 b.0,
  ap (λ (draft : Result Draft Refusal). draft >>= λ one. lists_asked query >>= λ ls. Ok (creating one ls)) a.1
      ∙ ap (λ (found : Result Lists Refusal). found >>= λ ls. Ok (creating a.0 ls)) b.1,
  (a.2, b.2),
)

-- and so they are what is asked to be put in the place of a resource
pub replaces : (kind : Kind) (query : Option (List ℕ)) (body : List ℕ) (d : Draft) (w : Wanted)
    → ((draft : Draft) × (draft_asked Replacing kind body ≡ Ok draft) × (d ≡ draft)) → ((lists : Lists) × (lists_asked query ≡ Ok lists) × Wants kind lists w)
    → (x : Asked) × (asked form.Replace kind query body ≡ Ok x) × IsAsk kind x (Replace d w)
replaces kind query body d w a b = (
  replacing a.0 b.0,
  ap (λ (draft : Result Draft Refusal). draft >>= λ one. lists_asked query >>= λ ls. Ok (replacing one ls)) a.1
      ∙ ap (λ (found : Result Lists Refusal). found >>= λ ls. Ok (replacing a.0 ls)) b.1,
  (a.2, b.2),
)

-- and a patch and what is wanted are what is asked to be made of one
pub changes : (kind : Kind) (query : Option (List ℕ)) (body : List ℕ) (p : Kept) (w : Wanted)
    → ((patch : Patch) × (patch_asked kind body ≡ Ok patch) × (patch_of p ≡ patch)) → ((lists : Lists) × (lists_asked query ≡ Ok lists) × Wants kind lists w)
    → (x : Asked) × (asked form.Patch kind query body ≡ Ok x) × IsAsk kind x (to.Patch p w)
changes kind query body p w a b = (
  patching a.0 b.0,
  ap (λ (patch : Result Patch Refusal). patch >>= λ one. lists_asked query >>= λ ls. Ok (patching one ls)) a.1
      ∙ ap (λ (found : Result Lists Refusal). found >>= λ ls. Ok (patching a.0 ls)) b.1,
  (a.2, b.2),
)
