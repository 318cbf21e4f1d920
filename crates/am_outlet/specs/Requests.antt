-- The bytes of requests to webhooks (RFC 9112 section 3).
use Rattle.std.specs.Prelude.{ℕ, List, ◌++◌, length, codes, decimal}
use Rattle.am_url.specs.Urls.{Url}

-- the request line
abbrev pub request_line_of : List ℕ → List ℕ
request_line_of target = codes "POST " ++ target ++ codes " HTTP/1.1\r\n"

abbrev pub host_field_of : List ℕ → List ℕ
host_field_of host = codes "Host: " ++ host ++ codes "\r\n"

-- the fields for a body of this length, and the empty line after them
abbrev pub body_fields_of : ℕ → List ℕ
body_fields_of body_len =
    codes "Content-Type: application/json\r\nContent-Length: " ++ decimal body_len ++ codes "\r\nConnection: close\r\n\r\n"

-- the request that brings a body to the URL
unfoldable pub request : Url → List ℕ → List ℕ
request url body = request_line_of url.target ++ host_field_of url.host ++ body_fields_of (length body) ++ body
