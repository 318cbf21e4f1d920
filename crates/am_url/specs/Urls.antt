-- What a webhook's URL is, and what it says, on bytes.
use Rattle.std.specs.Prelude.{ℕ, Bool, not, ◌&&◌, ◌||◌, ◌==◌, nat_le, nat_lt, nat_eq, List, ◌∷◌, length, drop, Option, Some, None, if◌then◌else◌, codes}
use Rattle.std.specs.List.{list_all, starts_with, position_or_len, before_first, after_first}
use Rattle.std.specs.Char.{is_ascii_digit}
use Rattle.std.specs.Str.{bytes_eq}
use Rattle.std.specs.Str.Parse.{digits_value}

-- the URL as it is written, the host with its port as it is written, the port's number, and the target of a request
pub record Url : Type 0 where
  pub text : List ℕ
  pub host : List ℕ
  pub port : ℕ
  pub target : List ℕ

-- a decimal number within these bounds; zeros may stand in front
abbrev pub is_number : ℕ → ℕ → List ℕ → Bool
is_number least most digits =
    list_all is_ascii_digit digits && not (length digits == 0)
    && (nat_le least (digits_value 10 digits) && nat_le (digits_value 10 digits) most)

-- one of the bytes passes
abbrev pub has : (ℕ → Bool) → List ℕ → Bool
has test text = nat_lt (position_or_len test text) (length text)

abbrev pub is_dot : ℕ → Bool
is_dot byte = byte == 46

abbrev pub is_colon : ℕ → Bool
is_colon byte = byte == 58

abbrev pub is_slash : ℕ → Bool
is_slash byte = byte == 47

-- a number from 0 to 255
abbrev pub is_octet : List ℕ → Bool
is_octet digits = is_number 0 255 digits

-- four numbers from 0 to 255 with dots between
unfoldable pub is_address : List ℕ → Bool
is_address text =
    let behind = after_first is_dot text in
    let after = after_first is_dot behind in
    is_octet (before_first is_dot text)
    && (is_octet (before_first is_dot behind)
    && (is_octet (before_first is_dot after) && (has is_dot after && is_octet (after_first is_dot after))))

-- the machine itself, or an address
abbrev pub is_host : List ℕ → Bool
is_host text = bytes_eq text (codes "localhost") || is_address text

-- a host, and perhaps a port from 1 to 65535 behind a colon
unfoldable pub is_authority : List ℕ → Bool
is_authority text =
    if has is_colon text then is_host (before_first is_colon text) && is_number 1 65535 (after_first is_colon text)
    else is_host text

-- the port of an authority: the number behind its colon, 80 where there is no colon
unfoldable pub port_of : List ℕ → ℕ
port_of authority = if has is_colon authority then digits_value 10 (after_first is_colon authority) else 80

-- a visible ASCII byte other than #
abbrev pub is_in_path : ℕ → Bool
is_in_path byte = nat_le 33 byte && (nat_le byte 126 && not (byte == 35))

-- what stands behind the scheme: an authority, then nothing, or a slash and the rest of a path
abbrev pub url_behind : List ℕ → List ℕ → Option Url
url_behind text rest =
    let authority = before_first is_slash rest in
    let path = after_first is_slash rest in
    if is_authority authority && list_all is_in_path path
    then Some (record { text = text; host = authority; port = port_of authority; target = 47 ∷ path })
    else None

-- what a webhook's URL says; none where the text is no such URL
unfoldable pub url_of : List ℕ → Option Url
url_of text = if starts_with nat_eq text (codes "http://") then url_behind text (drop 7 text) else None
