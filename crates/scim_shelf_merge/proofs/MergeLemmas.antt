-- Merging a list of resources, from an index on.
use Rattle.std.proofs.Common.{◌≡◌, refl, sym, ◌∙◌, ap, ℕ, suc, ◌+◌, ◌<◌, List, ◌∷◌, get_or, length, drop, add-one, arith}
use Rattle.std.proofs.Math.Seq.{drop-cons, drop-length}
use Rattle.scim_cell.specs.Content.{Content}
use Rattle.scim_shelf.specs.Stores.{Store}
use Rattle.scim_shelf_merge.specs.declared.faults.Clash.{Clash}
use Rattle.scim_shelf_merge.specs.declared.merging.MergeCount.{MergeCount}
use Rattle.scim_shelf_merge.specs.declared.outcomes.Outcome.{Outcome}
use Rattle.scim_shelf_merge.specs.declared.outcomes.Outcome.TheVariants.{Created, Replaced, Unchanged, Clashes}
use Rattle.scim_shelf_merge.specs.Merging.{Merge, done, stopped, unless_clash, counted, merged, merged_one, outcome}

-- what becomes of the resources from an index on
abbrev pub rest : ℕ → List ℕ → List Content → ℕ → Store → MergeCount → Merge
rest now client cs i store count = merged now client (i + 1) (drop i cs) store count

-- the resources from an index on: the one there, and the later ones
split : (cs : List Content) (i : ℕ) (c : Content) → i < length cs → c ≡ get_or cs i c → drop i cs ≡ c ∷ drop (i + 1) cs
split cs i c low is = rw add-one (drop-cons cs i c low ∙ ap (λ (d : Content). d ∷ drop (suc i) cs) (sym is))

-- the merge goes on where the resource doesn't clash
unclashed : (item : ℕ) (found : Outcome) (later : Merge) → ((clash : Clash) → found ≡ Clashes clash → ⊥) → unless_clash item found later ≡ later
unclashed item Created later apart = refl
unclashed item Replaced later apart = refl
unclashed item Unchanged later apart = refl
unclashed item (Clashes clash) later apart = absurd (apart clash refl)

-- the count of one more resource that doesn't clash
pub counted_one : (found : Outcome) (count : MergeCount) → ((clash : Clash) → found ≡ Clashes clash → ⊥)
    → (counted found count).created + (counted found count).replaced + (counted found count).unchanged ≡ count.created + count.replaced + count.unchanged + 1
counted_one Created count apart = omega arith
counted_one Replaced count apart = omega arith
counted_one Unchanged count apart = omega arith
counted_one (Clashes clash) count apart = absurd (apart clash refl)

-- the step to the next resource
pub goes_on : (now : ℕ) (client : List ℕ) (cs : List Content) (i : ℕ) (c : Content) (found : Outcome) (store : Store) (count : MergeCount)
    → i < length cs → c ≡ get_or cs i c → found ≡ outcome store.resources c → ((clash : Clash) → found ≡ Clashes clash → ⊥)
    → rest now client cs i store count ≡ rest now client cs (i + 1) (merged_one now client c found store) (counted found count)
goes_on now client cs i c found store count low is told apart =
    ap (λ (ds : List Content). merged now client (i + 1) ds store count) (split cs i c low is)
    ∙ ap (λ (o : Outcome). unless_clash (i + 1) o (rest now client cs (i + 1) (merged_one now client c o store) (counted o count))) (sym told)
    ∙ unclashed (i + 1) found (rest now client cs (i + 1) (merged_one now client c found store) (counted found count)) apart

-- the merge stops at a resource that clashes
pub stops_at : (now : ℕ) (client : List ℕ) (cs : List Content) (i : ℕ) (c : Content) (clash : Clash) (store : Store) (count : MergeCount)
    → i < length cs → c ≡ get_or cs i c → Clashes clash ≡ outcome store.resources c
    → rest now client cs i store count ≡ stopped (i + 1) clash
stops_at now client cs i c clash store count low is told =
    ap (λ (ds : List Content). merged now client (i + 1) ds store count) (split cs i c low is)
    ∙ ap (λ (o : Outcome). unless_clash (i + 1) o (rest now client cs (i + 1) (merged_one now client c o store) (counted o count))) (sym told)

-- behind the last resource the merge is done
pub ends : (now : ℕ) (client : List ℕ) (cs : List Content) (store : Store) (count : MergeCount) → rest now client cs (length cs) store count ≡ done store count
ends now client cs store count = ap (λ (ds : List Content). merged now client (length cs + 1) ds store count) (drop-length cs)
