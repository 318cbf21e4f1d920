-- The bytes of replies (RFC 9112 section 4).
use Rattle.std.specs.Prelude.{◌≡◌, ℕ, ◌&&◌, nat_le, nat_lt, List, [], ◌++◌, length, if◌then◌else◌, codes, decimal, unwrap_or}
use Rattle.http.specs.StatusCode.{reason_phrase}

-- the phrase of a status code (RFC 9110 section 15, and the codes of other documents that `http` names), or nothing
unfoldable pub phrase_of : ℕ → List ℕ
phrase_of status = if nat_le 100 status && nat_lt status 1000 then unwrap_or (reason_phrase status) [] else []

-- the phrases of the status codes that replies have
abbrev pub HasPhrases : (ℕ → List ℕ) → Type 0
HasPhrases phrase =
    (phrase 200 ≡ codes "OK")
    × (phrase 201 ≡ codes "Created")
    × (phrase 400 ≡ codes "Bad Request")
    × (phrase 401 ≡ codes "Unauthorized")
    × (phrase 404 ≡ codes "Not Found")
    × (phrase 405 ≡ codes "Method Not Allowed")
    × (phrase 411 ≡ codes "Length Required")
    × (phrase 413 ≡ codes "Payload Too Large")
    × (phrase 429 ≡ codes "Too Many Requests")
    × (phrase 431 ≡ codes "Request Header Fields Too Large")
    × (phrase 503 ≡ codes "Service Unavailable")

-- the status line
abbrev pub status_line_of : ℕ → List ℕ
status_line_of status = codes "HTTP/1.1 " ++ decimal status ++ codes " " ++ phrase_of status ++ codes "\r\n"

-- the fields for a body of this length, and the empty line after them
abbrev pub fields_of : ℕ → List ℕ
fields_of body_len =
    codes "Content-Type: application/json\r\nContent-Length: " ++ decimal body_len
    ++ codes "\r\nConnection: close\r\n\r\n"

-- a reply with its body
abbrev pub reply : ℕ → List ℕ → List ℕ
reply status body = status_line_of status ++ fields_of (length body) ++ body

-- the body of a refusal: an object with the code
abbrev pub refusal : List ℕ → List ℕ
refusal code = codes "{\"code\":\"" ++ code ++ codes "\"}"

-- the reply to the question whether the program is ready
abbrev pub ready_reply : List ℕ
ready_reply = reply 200 (codes "ready")
