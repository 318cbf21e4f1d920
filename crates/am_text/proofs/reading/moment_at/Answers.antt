use Rattle.std.proofs.Common.{arith, ◌≡◌, ◌<◌, ◌≢◌, refl, ap, sym, subst, ◌∙◌, negsuc, ℤ, to_z, of_z, w64, to_z-of_z}
use Rattle.std.specs.Int.{FitsUnsignedBits}
use Rattle.am_text.specs.Moment.{greatest_moment}
use Rattle.am_text.proofs.InstantLemmas.{moment_at-absent, moment_at-moment, moment_at-later, moment_at-earlier, unsigned_is, negative_is}
use Rattle.am_text.proofs.reading.moment_at.Goals as goal

pub returns-then-milliseconds-eq-ABSENT : goal.returns-then-milliseconds-eq-ABSENT
returns-then-milliseconds-eq-ABSENT c =
    let is : c.args.milliseconds ≡ negsuc 62_135_596_799_999 = sym (to_z-of_z c.ranges.milliseconds) ∙ ap (to_z w64) c.if-milliseconds-eq-ABSENT.true in
    rw (moment_at-absent c.args.milliseconds is) refl

pub returns-in_default : goal.returns-in_default
returns-in_default c =
    let apart : c.args.milliseconds ≢ negsuc 62_135_596_799_999 = λ e. c.if-milliseconds-eq-ABSENT.false (ap (of_z w64) e) in
    let unfit = subst (λ (z : ℤ). ¬ FitsUnsignedBits 64 z) (to_z-of_z c.ranges.milliseconds) c.in_default.ensures in
    rw (moment_at-earlier c.args.milliseconds apart (negative_is c.args.milliseconds c.ranges.milliseconds unfit)) refl

pub returns-in-Some : goal.returns-in-Some
returns-in-Some c =
    let read = c.in-Ok.ensures in
    let found = c.in-Some.ensures in
    let is = sym (to_z-of_z c.ranges.milliseconds) ∙ unsigned_is (to_z w64 (of_z w64 c.args.milliseconds)) c.in-Ok.milliseconds read.0 read.1 in
    rw (is, moment_at-moment c.in-Ok.milliseconds found.0, found.1) refl

pub returns-in-None : goal.returns-in-None
returns-in-None c =
    let read = c.in-Ok.ensures in
    let none = c.in-None.ensures in
    let is = sym (to_z-of_z c.ranges.milliseconds) ∙ unsigned_is (to_z w64 (of_z w64 c.args.milliseconds)) c.in-Ok.milliseconds read.0 read.1 in
    let past : greatest_moment < c.in-Ok.milliseconds = omega arith in
    rw (is, moment_at-later c.in-Ok.milliseconds past) refl
