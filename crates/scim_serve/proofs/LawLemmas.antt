-- A run through events and reloads, as runs of its parts.
use Rattle.std.proofs.Common.{◌∙◌, refl, ap, List, [], ◌∷◌}
use Rattle.std.specs.Prelude.{Result}
use Rattle.scim_hub.specs.declared.events.HubFault.{HubFault}
use Rattle.scim_hub.specs.Events.{HubOutput}
use Rattle.scim_serve.specs.Occurrences.{hears, reloads, heard, RunsWithoutReload, RunsInParts}

-- without a reload there is one run
pub runs_without_reload : RunsWithoutReload
runs_without_reload base policy policy_last entries entries_last state next [] results (none, same_policy, same_entries, same) unreloaded =
    ((none, same), same_policy, same_entries)
runs_without_reload base policy policy_last entries entries_last state next (hears event ∷ more) results (result, mid, rest, split, heard, runs) unreloaded =
    let later = runs_without_reload base policy policy_last entries entries_last mid next more rest runs unreloaded in
    ((result, mid, rest, split, heard, later.0), later.1, later.2)
runs_without_reload base policy policy_last entries entries_last state next (reloads policy_then entries_then ∷ more) results runs unreloaded =
    absurd (let u = unreloaded in cc)

-- a run up to the first reload, and the rest
pub runs_in_parts : RunsInParts
runs_in_parts base policy policy_then policy_last entries entries_then entries_last state next [] after results runs unreloaded =
    ([], results, state, refl, (refl, refl), runs)
runs_in_parts base policy policy_then policy_last entries entries_then entries_last state next (hears event ∷ more) after results (result, mid, rest, split, heard, runs) unreloaded =
    let later = runs_in_parts base policy policy_then policy_last entries entries_then entries_last mid next more after rest runs unreloaded in (
      result ∷ later.0,
      later.1,
      later.2,
      split ∙ ap (λ (rs : List (Result (List HubOutput) HubFault)). result ∷ rs) later.3,
      (result, mid, later.0, refl, heard, later.4),
      later.5,
    )
runs_in_parts base policy policy_then policy_last entries entries_then entries_last state next (reloads policy_first entries_first ∷ more) after results runs unreloaded =
    absurd (let u = unreloaded in cc)
