-- The outcome of applying a patch to a resource (RFC 7644 section 3.5.2).
use Rattle.std.specs.Prelude.{◌≡◌, ◌<◌, ℕ, ◌+◌, ◌*◌, Bool, true, false, not, ◌&&◌, ◌||◌, List, [], ◌∷◌, length, nat_le, Contains, All, AllPairs, Result, Ok, Err, if◌then◌else◌}
use Rattle.std.specs.List.{list_any, flat_map, sum_by}
use Rattle.scim_schema.specs.declared.Kind.{Kind}
use Rattle.scim_schema.specs.declared.Unit.{Unit as AttributeUnit}
use Rattle.scim_schema.specs.Characteristics.{is_multi_valued}
use Rattle.scim_schema.specs.Mutability.{is_secret}
use Rattle.scim_schema.specs.Units.{units}
use Rattle.scim_cell.specs.declared.rows.Field.{Field}
use Rattle.scim_cell.specs.Content.{Content}
use Rattle.scim_cell.specs.Place.{sub_attribute_number}
use Rattle.scim_cell.specs.Rows.{Row, rows, content, values, put_values, IsSoundField, AreValues}
use Rattle.scim_body.specs.Drafts.{MayBeGiven}
use Rattle.scim_patch_steps.specs.declared.steps.StepFault.{StepFault}
use Rattle.scim_patch_steps.specs.declared.steps.StepFault.TheVariants as fault
use Rattle.scim_patch_steps.specs.Changes.{StepChange, Keep, Append, Replace, Clear, AddToMatches, ReplaceMatches, AddAtMatches, SetAtMatches, SetEverywhere}
use Rattle.scim_patch_steps.specs.Steps.{is_required, after}
use Rattle.scim_patch_steps.specs.Work.{size_of, looks, given, set_blocks}
use Rattle.scim_patch_steps.specs.declared.work.TheConstants.{MOST_WORK, STEP}
use Rattle.scim_change.specs.Agreement.{are_same_values}
use Rattle.scim_change.specs.Replace.{modified_at}

-- one step of a patch: a change of a unit, or a remove without a path, which has no target
pub data Step : Type 0 where
  Pathless : Step
  Of : AttributeUnit → StepChange → Step

-- a patch: a kind and the steps in their order
pub record Patch : Type 0 where
  pub kind : Kind
  pub steps : List Step

-- ---- valid steps

-- the unit's attribute is multi-valued, and a client may give these fields for one of its values
pub record AreGivenFields (kind : Kind) (u : AttributeUnit) (fs : List Field) : Type 0 where
  pub many : is_multi_valued u.attribute ≡ true
  pub own : All (IsSoundField kind u) fs
  pub in_order : AllPairs (λ f g. sub_attribute_number f.leaf.sub_attribute < sub_attribute_number g.leaf.sub_attribute) fs
  pub may_be_given : All (MayBeGiven kind) fs

-- a client may give these values for the unit
pub record AreGivenValues (kind : Kind) (u : AttributeUnit) (vs : List Row) : Type 0 where
  pub own : AreValues kind u vs
  pub may_be_given : All (λ r. All (MayBeGiven kind) r.fields) vs

-- a change of a unit may be applied to a resource of the kind: a client may give the values in the change,
-- only a multi-valued attribute is changed value by value, and a required unit is replaced by exactly one
-- value
abbrev pub MayBeMade : Kind → AttributeUnit → StepChange → Type 0
MayBeMade kind u Keep = Unit {0}
MayBeMade kind u Clear = Unit {0}
MayBeMade kind u (Replace vs) = AreGivenValues kind u vs × (is_required kind u ≡ true → length vs ≡ 1)
MayBeMade kind u (Append vs) = (is_multi_valued u.attribute ≡ true) × AreGivenValues kind u vs
MayBeMade kind u (AddToMatches t fs) = AreGivenFields kind u fs
MayBeMade kind u (ReplaceMatches t fs) = AreGivenFields kind u fs
MayBeMade kind u (AddAtMatches t f) = AreGivenFields kind u (f ∷ [])
MayBeMade kind u (SetAtMatches t f) = AreGivenFields kind u (f ∷ [])
MayBeMade kind u (SetEverywhere f) = AreGivenFields kind u (f ∷ [])
MayBeMade kind u _ = is_multi_valued u.attribute ≡ true

-- a step is valid for the kind: the kind has the unit of the step, and the change may be applied to the unit
abbrev pub IsStep : Kind → Step → Type 0
IsStep kind Pathless = Unit {0}
IsStep kind (Of u change) = Contains (units kind) u × MayBeMade kind u change

-- all steps of the patch are valid for its kind
abbrev pub IsPatch : Patch → Type 0
IsPatch p = All (IsStep p.kind) p.steps

-- ---- the units of the steps, in their order

-- the unit of a step; none for a remove without a path
abbrev pub units_in : Step → List AttributeUnit
units_in Pathless = []
units_in (Of u change) = u ∷ []

-- the units of the patch's steps, in their order
abbrev pub touched : Patch → List AttributeUnit
touched p = flat_map units_in p.steps

-- ---- the work of the steps

-- the size of the values that a step may add to its unit, without the fields that it sets
abbrev pub given_in : Step → ℕ
given_in Pathless = 0
given_in (Of u change) = given change

-- the number of blocks in the texts that a step sets in values of its unit
abbrev pub set_in : Step → ℕ
set_in Pathless = 0
set_in (Of u change) = set_blocks change

-- the size that the values of a unit may have during a patch that gives values of this size and sets texts of
-- so many blocks: that of the values before and of those that are given, each with all that is set
abbrev pub size_during : ℕ → ℕ → List Row → ℕ
size_during size set vs = size_of vs + size + (length vs + size) * set

-- the values of a unit that count for the work of a patch: those of a writeOnly unit don't, since a patch that is
-- refused for its work would tell how long they are
unfoldable pub counted : Kind → List Row → AttributeUnit → List Row
counted kind rs u = if is_secret kind u then [] else values u rs

-- the work of a step in such a patch of rows: its looks at the values of its unit, and a fixed number for all
-- else that it does
abbrev pub step_work : Kind → ℕ → ℕ → List Row → Step → ℕ
step_work kind size set rs Pathless = 0
step_work kind size set rs (Of u change) = looks change * size_during size set (counted kind rs u) + STEP

-- the work of a patch on rows: that of all its steps
abbrev pub work : Patch → List Row → ℕ
work p rs = sum_by (step_work p.kind (sum_by given_in p.steps) (sum_by set_in p.steps) rs) p.steps

-- whether the work of a patch on rows is within the limit
abbrev pub is_within_limit : Patch → List Row → Bool
is_within_limit p rs = nat_le (work p rs) MOST_WORK

-- ---- the steps, one after another

-- the rows with the values of the unit replaced by the outcome of a step, or the fault of the step
abbrev pub with_outcome : AttributeUnit → List Row → Result (List Row) StepFault → Result (List Row) StepFault
with_outcome u rs (Ok vs) = Ok (put_values u vs rs)
with_outcome u rs (Err e) = Err e

-- the rows after a step, or the fault of the step
abbrev pub stepped : Kind → Step → List Row → Result (List Row) StepFault
stepped kind Pathless rs = Err fault.NoTarget
stepped kind (Of u change) rs = with_outcome u rs (after kind u change (values u rs))

-- the rows after the steps, or the fault of the first refused step
abbrev pub all_stepped : Kind → List Step → Result (List Row) StepFault → Result (List Row) StepFault
all_stepped kind [] found = found
all_stepped kind (s ∷ ss) (Err e) = Err e
all_stepped kind (s ∷ ss) (Ok rs) = all_stepped kind ss (stepped kind s rs)

-- the rows after all steps of the patch, or the fault of the first refused step; the fault `Value` if the work
-- of the patch is over the limit
abbrev pub patched : Patch → List Row → Result (List Row) StepFault
patched p rs = if is_within_limit p rs then all_stepped p.kind p.steps (Ok rs) else Err fault.Value

-- ---- whether the patch changes the resource

-- whether a change counts as writing to its unit; every change does, except Keep
abbrev pub writes : StepChange → Bool
writes Keep = false
writes _ = true

-- whether a step writes to a writeOnly unit, which no client may read (RFC 7643 section 2.2)
abbrev pub is_unseen_writing : Kind → Step → Bool
is_unseen_writing kind Pathless = false
is_unseen_writing kind (Of u change) = is_secret kind u && writes change

-- whether the rows before and the rows afterwards have different values of a unit that the patch names, or a
-- step of the patch writes to a writeOnly unit
abbrev pub changes : Patch → List Row → List Row → Bool
changes p before rs =
    list_any (is_unseen_writing p.kind) p.steps || list_any (λ u. not (are_same_values (values u before) (values u rs))) (touched p)

-- the resource with the rows after the patch and `meta.lastModified` set to the moment; the unchanged
-- resource if the patch changes nothing
abbrev pub finished : Patch → ℕ → Content → List Row → Content
finished p moment c rs = if changes p (rows c) rs then content c.kind c.id (modified_at moment rs) else c

-- the resource after the patch and whether the patch changed it, or the fault of a step
abbrev pub if_stepped : Patch → ℕ → Content → Result (List Row) StepFault → Result (Content × Bool) StepFault
if_stepped p moment c (Ok rs) = Ok (finished p moment c rs, changes p (rows c) rs)
if_stepped p moment c (Err e) = Err e

-- the resource after all steps of the patch and whether the patch changed it, or the fault of the first
-- refused step; the fault `Value` if the work of the patch is over the limit
unfoldable pub applied : Patch → ℕ → Content → Result (Content × Bool) StepFault
applied p moment c = if_stepped p moment c (patched p (rows c))
