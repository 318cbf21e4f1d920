use Rattle.std.proofs.Common.{◌∙◌, Bool, true, arith, nat_lt, length, ◌&&◌, ◌≡◌}
use Rattle.std.specs.Char.{is_ascii_digit}
use Rattle.std.specs.List.{list_all}
use Rattle.am_http.proofs.NumberLemmas.{same_numbers}
use Rattle.am_http.proofs.fields.is_same_number.Goals as goal

second : (a b : Bool) → (a && b) ≡ true → b ≡ true
second a b h = grind arith

pub returns : goal.returns
returns c =
    c.eq.ensures ∙ rw (c.significant.ensures, c.significant-2.ensures) (same_numbers c.args.a.now c.args.b.now
    (second (nat_lt 0 (length c.args.a.now)) (list_all is_ascii_digit c.args.a.now) c.requires.first)
    (second (nat_lt 0 (length c.args.b.now)) (list_all is_ascii_digit c.args.b.now) c.requires.second))
