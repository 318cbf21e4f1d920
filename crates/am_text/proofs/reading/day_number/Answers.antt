use Rattle.std.proofs.Common.{arith, ◌≡◌, ap, ◌∙◌, pos, to_z, of_z, w8, w16, w64}
use Rattle.jiff_core.specs.declared.civil.date.Date.{Date}
use Rattle.jiff_core.specs.Date.{IsYmd}
use Rattle.jiff_core.proofs.SignedLemmas.{signed_arith, signed_casts}
use Rattle.am_text.proofs.CalendarLemmas.{day_number-date}
use Rattle.am_text.proofs.reading.day_number.Goals as goal

pub returns-clause-value : goal.returns-clause-value
returns-clause-value c =
    let ymd : IsYmd (to_z w16 c.args.year) (to_z w8 c.args.month) (to_z w8 c.args.day) c.in-Ok.date = c.in-Ok.ensures.value in
    let same = c.to_plain.ensures in
    let year : c.in-Ok.date.year ≡ pos c.args.year = omega (arith, signed_casts) in
    let month : c.in-Ok.date.month ≡ c.args.month = omega (arith, signed_casts) in
    let day : c.in-Ok.date.day ≡ c.args.day = omega (arith, signed_casts) in
    day_number-date c.to_plain.result c.args.year c.args.month c.args.day (to_z w64 (of_z w64 c.from.result))
    (ap (λ (d : Date). d.year) same ∙ year)
    (ap (λ (d : Date). d.month) same ∙ month)
    (ap (λ (d : Date). d.day) same ∙ day)
    (omega (arith, signed_arith))
