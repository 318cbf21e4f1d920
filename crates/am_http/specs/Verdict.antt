-- What the bytes of a connection come to, whatever the pieces in which they came.
use Rattle.std.specs.Prelude.{ℕ, nat_lt, List, length, take, drop, Option, Some, None, Result, Ok, Err, if◌then◌else◌}
use Rattle.am_http.specs.declared.refusal.FrontRefusal.{FrontRefusal}
use Rattle.am_http.specs.declared.refusal.FrontRefusal.TheVariants.{LongHead}
use Rattle.am_http.specs.declared.request.Fed.{Fed}
use Rattle.am_http.specs.declared.request.Fed.TheVariants as fed
use Rattle.am_http.specs.HeadEnd.{head_len}
use Rattle.am_http.specs.Reading.{read_head}
use Rattle.am_http.specs.Checks.{Asked, Ready, Call, Wanted, judged}

-- what was asked for, with its body: the body of a question whether the program is ready says nothing
abbrev pub asked_with : Asked → List ℕ → Fed
asked_with Ready body = fed.Ready
asked_with (Call tenant method endpoint query) body =
    fed.Request (record { tenant = tenant; method = method; endpoint = endpoint; query = query; body = body })

-- the verdict after a head, where `rest` follows it: a head that passes waits for its body
abbrev pub after_head : Result Wanted FrontRefusal → List ℕ → Fed
after_head (Err refusal) rest = fed.Refused refusal
after_head (Ok w) rest =
    if nat_lt (length rest) w.body_len then fed.Waits else asked_with w.asked (take w.body_len rest)

-- the greatest length of a head, in bytes
abbrev pub longest_head : ℕ
longest_head = 16_384

-- the verdict where the head's length is known, or that it hasn't ended: a head has at most `longest_head` bytes
abbrev pub verdict_at : List ℕ → Option ℕ → Fed
verdict_at text None = if nat_lt longest_head (length text) then fed.Refused LongHead else fed.Waits
verdict_at text (Some n) =
    if nat_lt longest_head n then fed.Refused LongHead else after_head (judged (read_head (take n text))) (drop n text)

-- the verdict on the bytes of a connection
unfoldable pub verdict : List ℕ → Fed
verdict text = verdict_at text (head_len text)
