-- What a server knows a call by, and what the gateway does.
use Rattle.am_admin.specs.declared.called.Called.{Called}
use Rattle.am_gateway.specs.declared.gateway.Try.{Try}
use Rattle.am_server.specs.declared.service.Notice.{Notice}

-- the notice as the gateway gave it: its call is known by the try alone
abbrev pub given_notice : Notice Called → Notice Try
given_notice notice = record { name = notice.name.attempted; url = notice.url; request = notice.request }
