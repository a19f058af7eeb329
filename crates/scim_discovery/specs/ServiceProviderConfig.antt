-- The server's features (RFC 7643 section 5).
use Rattle.std.specs.Prelude.{Bool, true, false, codes}
use Rattle.serde_json.specs.Data.{Data, boolean, number, unsigned, string, array, object, no_items, item, no_members, member}
use Rattle.scim_schema.specs.declared.limits.TheConstants.{MOST_SHOWN}

-- the description of bearer tokens (RFC 6750)
abbrev pub bearer_tokens : Data
bearer_tokens = object
    (member (codes "description") (string (codes "Bearer token"))
    (member (codes "name") (string (codes "OAuth Bearer Token"))
    (member (codes "type") (string (codes "oauthbearertoken")) no_members)))

-- the supported authentication schemes: only bearer tokens
abbrev pub authentication_schemes : Data
authentication_schemes = array (item bearer_tokens no_items)

-- the value of `schemas`: the list with the URN of the schema of service provider configurations
abbrev pub config_schemas : Data
config_schemas = array (item (string (codes "urn:ietf:params:scim:schemas:core:2.0:ServiceProviderConfig")) no_items)

-- a JSON object that says whether a feature is supported
abbrev pub supported : Bool → Data
supported b = object (member (codes "supported") (boolean b) no_members)

-- the description of bulk operations, which aren't supported (RFC 7644 section 3.7)
abbrev pub bulk : Data
bulk = object
    (member (codes "maxOperations") (number (unsigned 0))
    (member (codes "maxPayloadSize") (number (unsigned 0))
    (member (codes "supported") (boolean false) no_members)))

-- the description of filters: they are supported, and a page has at most 200 resources (RFC 7644 section
-- 3.4.2)
abbrev pub filter : Data
filter = object (member (codes "maxResults") (number (unsigned MOST_SHOWN)) (member (codes "supported") (boolean true) no_members))

-- the page about the server's features
unfoldable pub service_provider_config : Data
service_provider_config = object
    (member (codes "authenticationSchemes") authentication_schemes
    (member (codes "bulk") bulk
    (member (codes "changePassword") (supported false)
    (member (codes "etag") (supported false)
    (member (codes "filter") filter
    (member (codes "patch") (supported true)
    (member (codes "schemas") config_schemas
    (member (codes "sort") (supported true) no_members))))))))
