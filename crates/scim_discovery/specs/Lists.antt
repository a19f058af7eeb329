-- Lists of resource types or schemas, in the form of a reply to a search (RFC 7644 sections 3.4.2 and 4).
use Rattle.std.specs.Prelude.{ℕ, List, length, codes}
use Rattle.serde_json.specs.Data.{Data, number, unsigned, string, array, object, no_items, item, no_members, member}
use Rattle.serde_json.specs.View.{items_of}

-- a count as JSON
abbrev pub count_data : ℕ → Data
count_data n = number (unsigned n)

-- the list response with these resources, all on one page
unfoldable pub list_data : List Data → Data
list_data resources = object
    (member (codes "Resources") (array (items_of resources))
    (member (codes "itemsPerPage") (count_data (length resources))
    (member (codes "schemas") (array (item (string (codes "urn:ietf:params:scim:api:messages:2.0:ListResponse")) no_items))
    (member (codes "startIndex") (count_data 1)
    (member (codes "totalResults") (count_data (length resources)) no_members)))))
