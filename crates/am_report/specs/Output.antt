-- What the program writes of what the world answers.
use Rattle.std.specs.Prelude.{ℕ, Bool, false, List, [], ◌∷◌, ◌++◌, ◌==◌, Option, None, Some, codes, decimal}
use Rattle.std.specs.List.{list_any}
use Rattle.std.specs.Str.Lossy.{utf8_lossy}
use Rattle.json.specs.Print.{quoted}
use Rattle.am_event.specs.declared.output.AttemptName.{AttemptName}
use Rattle.am_event.specs.declared.output.Output.{Output}
use Rattle.am_event.specs.declared.output.Output.TheVariants.{Reply, Notice, Send}
use Rattle.am_event.specs.declared.refused.Refused.{Refused}
use Rattle.am_event.specs.Codes.{code_of}

-- bytes as a JSON text, in which those that are no UTF-8 stand as U+FFFD
abbrev pub json_text : List ℕ → List ℕ
json_text bytes = quoted (utf8_lossy bytes)

-- the line of a reply: the connection's name, and its bytes
abbrev pub reply_line : List ℕ → List ℕ → List ℕ
reply_line name bytes = codes "reply " ++ (name ++ (32 ∷ (json_text bytes ++ 10 ∷ [])))

-- a try, as it is named: the tenant, the instance, the number of the attempt, and which try of it this is
abbrev pub try_name : AttemptName → ℕ → List ℕ
try_name attempt tries =
    attempt.tenant ++ (32 ∷ (decimal attempt.instance ++ (32 ∷ (decimal attempt.number ++ (32 ∷ decimal tries)))))

-- the line of a notice: the try that goes out, the URL, and the bytes of the request
abbrev pub notice_line : AttemptName → ℕ → List ℕ → List ℕ → List ℕ
notice_line attempt tries url bytes =
    codes "notice " ++ (try_name attempt tries ++ (32 ∷ (url ++ (32 ∷ (json_text bytes ++ 10 ∷ [])))))

-- the line of a refusal
abbrev pub refusal_line : Option Refused → List ℕ
refusal_line None = []
refusal_line (Some refused) = codes "refused " ++ (code_of refused ++ 10 ∷ [])

-- whether an output is a reply on this connection
abbrev pub is_reply_to : ℕ → Output → Bool
is_reply_to connection (Reply c bytes) = c == connection
is_reply_to connection (Notice attempt tries url bytes) = false
is_reply_to connection (Send message) = false

-- whether the outputs answer this connection
abbrev pub is_answered : ℕ → List Output → Bool
is_answered connection outputs = list_any (is_reply_to connection) outputs
