-- The codes and the status codes of the front's refusals.
use Rattle.std.specs.Prelude.{ℕ, List, codes}
use Rattle.am_http.specs.declared.refusal.FrontRefusal.{FrontRefusal}
use Rattle.am_http.specs.declared.refusal.FrontRefusal.TheVariants.{LongHead, BadHead, BadLength, MissingLength, TransferCoding, LongBody, NoTenant, EmptyTenant, TenantTooLong, BadTenant, TenantTwice, ReservedTenant, NoSuchPath, WrongMethod}

-- the code of a refusal
abbrev pub code_of : FrontRefusal → List ℕ
code_of LongHead = codes "H4"
code_of BadHead = codes "H1"
code_of BadLength = codes "H1"
code_of MissingLength = codes "H2"
code_of TransferCoding = codes "H2"
code_of LongBody = codes "H3"
code_of NoTenant = codes "N0"
code_of EmptyTenant = codes "N1"
code_of TenantTooLong = codes "N2"
code_of BadTenant = codes "N3"
code_of TenantTwice = codes "N3"
code_of ReservedTenant = codes "N4"
code_of NoSuchPath = codes "H5"
code_of WrongMethod = codes "H6"

-- the status code of its reply
abbrev pub status_of : FrontRefusal → ℕ
status_of LongHead = 431
status_of BadHead = 400
status_of BadLength = 400
status_of MissingLength = 411
status_of TransferCoding = 411
status_of LongBody = 413
status_of NoTenant = 401
status_of EmptyTenant = 400
status_of TenantTooLong = 400
status_of BadTenant = 400
status_of TenantTwice = 400
status_of ReservedTenant = 400
status_of NoSuchPath = 404
status_of WrongMethod = 405
