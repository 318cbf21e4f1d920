use Rattle.std.proofs.Common.{◌≡◌, true, false}
use Rattle.std.specs.Str.{is_utf8}
use Rattle.std.proofs.lemmas.Bool.{false_from_ne_true}
use Rattle.std.proofs.lemmas.Str.{is_utf8-from_IsUtf8, IsUtf8-from_is_utf8}
use Rattle.am_match.proofs.taking.read_str.Goals as goal

pub returns-in-Ok : goal.returns-in-Ok
returns-in-Ok c =
    let utf8 : is_utf8 c.in_ok-text.text.now ≡ true = is_utf8-from_IsUtf8 _ c.in-Ok.ensures.cases.1 in
    rw (c.in_ok-length.ensures, c.in_ok-text.ensures, utf8, c.in-Ok.ensures.cases.0)

pub returns-in-Err : goal.returns-in-Err
returns-in-Err c =
    let no_utf8 : is_utf8 c.in_ok-text.text.now ≡ false =
    false_from_ne_true _ (λ yes'. c.in-Err.ensures.cases.0 (IsUtf8-from_is_utf8 _ yes')) in
    rw (c.in_ok-length.ensures, c.in_ok-text.ensures, no_utf8)
