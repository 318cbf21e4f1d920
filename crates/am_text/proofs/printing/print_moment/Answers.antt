use Rattle.std.proofs.Common.{◌≡◌, ◌∙◌, ap, sym, subst, ◌++◌, ◌∷◌, [], List, ℕ, refl, Some, Option, Bool, false, lit<}
use Rattle.std.specs.Prelude.{string_bytes}
use Rattle.jiff_fmt.specs.Text.{datetime_text}
use Rattle.am_text.specs.DateTime.{IsUtcText}
use Rattle.am_text.specs.Printing.{moment_text}
use Rattle.am_text.proofs.RoundTrip.{moment_text_is}
use Rattle.am_text.proofs.PrintingLemmas.{datetime_text-moment_text}
use Rattle.am_text.proofs.printing.print_moment.Goals as goal

-- what was printed, with the letter after it
text_is : (c : goal.After-from_string) → c.from_string.result ≡ moment_text c.args.moment
text_is c =
    let new = c.new.ensures in
    let set = c.precision-printer.ensures in
    let lower : c.precision-printer.result.lowercase ≡ false = ap (λ (o : Bool × ℕ × Option ℕ). o.0) set ∙ ap (λ (o : Bool × ℕ × Option ℕ). o.0) new in
    let letter : c.precision-printer.result.separator ≡ 84 = ap (λ (o : Bool × ℕ × Option ℕ). o.1) set ∙ ap (λ (o : Bool × ℕ × Option ℕ). o.1) new in
    let places : c.precision-printer.result.precision ≡ Some 3 = ap (λ (o : Bool × ℕ × Option ℕ). o.2) set in
    let plain = c.to_plain.ensures in
    let shown : c.datetime_text-printed.result.bytes ≡ datetime_text false 84 (Some 3) c.utc_clock.result = c.datetime_text-printed.ensures ∙ rw (lower, letter, places, plain) refl in
    c.from_string.ensures ∙ c.in_ok-push.ensures.bytes
    ∙ ap (λ (last : List ℕ). string_bytes c.push_str.new.self ++ last) (c.in_ok-push.ensures.ascii (lit< tt))
    ∙ ap (λ (bytes : List ℕ). bytes ++ 90 ∷ []) (c.in_ok-push_str.ensures.bytes ∙ ap (λ (bytes : List ℕ). bytes ++ c.as_str.result.now) c.in_ok-string.ensures.bytes ∙ c.as_str.ensures.value ∙ shown)
    ∙ datetime_text-moment_text c.utc_clock.result c.args.moment c.utc_clock.ensures.bound c.utc_clock.ensures.value

pub returns-clause-value : goal.returns-clause-value
returns-clause-value c = text_is c

pub returns-clause-spelled : goal.returns-clause-spelled
returns-clause-spelled c =
    subst (IsUtcText c.args.moment) (sym (text_is c)) (moment_text_is c.args.moment c.utc_clock.ensures.bound)
