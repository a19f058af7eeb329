-- The JSON of a list of parts (RFC 7644 section 3.4.2).
use Rattle.std.specs.Prelude.{ℕ, List, length, codes}
use Rattle.serde_json.specs.Data.{Data, number, unsigned, string, array, object, Members, no_items, item, no_members, member}
use Rattle.scim_cell.specs.Content.{Content}
use Rattle.scim_json.specs.PartData.{part_data, with_member, items_of, array_of}

-- the JSON of a number
abbrev pub count_data : ℕ → Data
count_data n = number (unsigned n)

-- the value of `schemas`: the URN of a list message
unfoldable pub list_schemas : Data
list_schemas = array (item (string (codes "urn:ietf:params:scim:api:messages:2.0:ListResponse")) no_items)

-- the members other than `Resources`: the number of parts in the list, `schemas`, the position of the first
-- part among all results, from 1, and the number of all results
abbrev pub counts : ℕ → ℕ → ℕ → Members
counts total start shown =
    member (codes "itemsPerPage") (count_data shown) (member (codes "schemas") list_schemas (member (codes "startIndex") (count_data start) (member (codes "totalResults") (count_data total) no_members)))

-- the JSON of a list: `Resources` with the parts, omitted if there are no parts, and the members of `counts`
unfoldable pub list_data : ℕ → ℕ → List Content → Data
list_data total start parts = object (with_member (codes "Resources") (array_of (items_of part_data parts)) (counts total start (length parts)))
