use Rattle.std.proofs.Common.{◌≡◌, true, false}
use Rattle.std.specs.Str.{is_utf8}
use Rattle.std.proofs.lemmas.Bool.{false_from_ne_true}
use Rattle.std.proofs.lemmas.Str.{is_utf8-from_IsUtf8, IsUtf8-from_is_utf8}
use Rattle.am_wire.specs.Fields.{text_at}
use Rattle.am_wire.proofs.reader.Reader.str.Goals as goal

pub returns-in-Ok-clause-read : goal.returns-in-Ok-clause-read
unfolding text_at
returns-in-Ok-clause-read c =
    let utf8 : is_utf8 c.in_ok-field.field.now ≡ true = is_utf8-from_IsUtf8 _ c.in-Ok.ensures.cases.1 in
    rw (c.in_ok-length.ensures.read, c.in_ok-field.ensures.read, utf8, c.in-Ok.ensures.cases.0)

pub returns-in-Err-clause-read : goal.returns-in-Err-clause-read
unfolding text_at
returns-in-Err-clause-read c =
    let no_utf8 : is_utf8 c.in_ok-field.field.now ≡ false =
    false_from_ne_true _ (λ yes'. c.in-Err.ensures.cases.0 (IsUtf8-from_is_utf8 _ yes')) in
    rw (c.in_ok-length.ensures.read, c.in_ok-field.ensures.read, no_utf8)
