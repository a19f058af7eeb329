-- The state of reading a head, and the results of its next byte.
use Rattle.std.specs.Prelude.{◌≡◌, ℕ, List, []}
use Rattle.scim_wire.specs.declared.head_parts.HeadPart.{HeadPart}
use Rattle.scim_wire.specs.declared.head_parts.HeadStep.{HeadStep}
use Rattle.scim_wire.specs.declared.head_parts.HeadStep.TheVariants as step
use Rattle.scim_wire.specs.Parts.{IsHeadText, IsOverlong, feeds}
use Rattle.scim_wire.specs.Streams.{IsOpening, OpensThen}

-- the part is the state of an unfinished head after these bytes
abbrev pub HoldsHead : HeadPart → List ℕ → Type 0
HoldsHead part bytes = IsOpening bytes part.bytes.items × (part.feeds ≡ feeds part.bytes.items)

-- the result of reading these bytes of a head: unfinished, finished with its text, or over a limit
abbrev pub StepsTo : List ℕ → HeadStep → Type 0
StepsTo bytes (step.More part) = HoldsHead part bytes
StepsTo bytes (step.Ended ended) = OpensThen (λ text. IsHeadText text × (text ≡ ended.items)) bytes []
StepsTo bytes step.Overlong = OpensThen IsOverlong bytes []
