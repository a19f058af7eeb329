-- Which faults of a merge are told as faults of an item.
use Rattle.std.specs.Prelude.{◌≡◌, ℕ, ◌⊎◌}
use Rattle.std.proofs.Common.{refl, ap, inl, inr}
use Rattle.scim_json.specs.declared.faults.DamagedItem.{DamagedItem}
use Rattle.scim_shelf_merge.specs.declared.faults.Clash.{Clash}
use Rattle.scim_shelf_merge.specs.declared.faults.MergeFault.{MergeFault}
use Rattle.scim_shelf_merge.specs.declared.faults.MergeFault.TheVariants as merging
use Rattle.scim_command.specs.declared.faults.RunFault.{RunFault}
use Rattle.scim_command.specs.declared.faults.RunFault.TheVariants.{Users}
use Rattle.scim_command_database.specs.Merges.{of_merging}

abbrev item_of : RunFault → ℕ
item_of (Users n) = n
item_of _ = 0

pub of_item : (fault : MergeFault) (n : ℕ) → of_merging fault ≡ Users n
    → ((item : DamagedItem) × (fault ≡ merging.Users item) × (item.0 ≡ n)) ⊎ ((clash : Clash) × (fault ≡ merging.Clash n clash))
of_item (merging.Users item) n e = inl (item, refl, ap item_of e)
of_item (merging.Clash item clash) n e = inr (clash, ap (λ m. merging.Clash m clash) (ap item_of e))
of_item (merging.Shelf fault) n e = cc
of_item merging.NoRound n e = cc
of_item merging.NoMemory n e = cc
