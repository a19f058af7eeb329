-- The lines that `replay` writes for the results of events.
use Rattle.std.specs.Prelude.{ℕ, List, [], ◌∷◌, ◌++◌, codes, decimal, Result, Ok, Err}
use Rattle.std.specs.List.{flat_map}
use Rattle.hex.specs.Hex.{encode_lower}
use Rattle.scim_hub.specs.declared.events.HubFault.{HubFault}
use Rattle.scim_hub.specs.declared.events.HubFault.TheVariants.{AlreadyJoined, Unknown, Closed, NoMemory}
use Rattle.scim_hub.specs.Events.{HubOutput, writing, shutting, HubEvent}

-- the line for an output: `write` with the connection's number and the text in hex, or `close` with the
-- connection's number
abbrev pub deed_line : HubOutput → List ℕ
deed_line (writing n text) = codes "write " ++ decimal n ++ codes " " ++ encode_lower text ++ codes "\n"
deed_line (shutting n) = codes "close " ++ decimal n ++ codes "\n"

-- the words that describe the error of an event
abbrev pub fault_words : HubFault → List ℕ
fault_words AlreadyJoined = codes "already joined"
fault_words Unknown = codes "unknown"
fault_words Closed = codes "closed"
fault_words NoMemory = codes "out of memory"

-- the lines for the result of an event of connection n: a line for each output, or one line for the fault
abbrev pub result_lines : ℕ → Result (List HubOutput) HubFault → List ℕ
result_lines n (Ok hub_outputs) = flat_map deed_line hub_outputs
result_lines n (Err fault) = codes "fault " ++ decimal n ++ codes " " ++ fault_words fault ++ codes "\n"

-- the lines for the results of events, in order
abbrev pub results_text : List HubEvent → List (Result (List HubOutput) HubFault) → List ℕ
results_text (event ∷ events) (result ∷ results) = result_lines event.connection result ++ results_text events results
results_text _ _ = []
