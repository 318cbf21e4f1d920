use Rattle.std.proofs.Common.{[]}
use Rattle.am_http.specs.declared.request.Method.TheVariants.{Get, Post}
use Rattle.am_api.specs.Patterns.{patterns_of_silences}
use Rattle.am_api.specs.Refusing.{SilencesRefuse}
use Rattle.am_api.specs.Silences.{silences_decided}
use Rattle.am_api.proofs.Builds.{with_method}
use Rattle.std.proofs.Common.{subst, sym}
use Rattle.am_muting.specs.Failing.{AddsAmong}
use Rattle.am_api.proofs.Adding.{unasked_adds}
use Rattle.am_api.proofs.Accepting.{accepts_at}
use Rattle.am_api.proofs.silences.decide_silences.Goals as goal

pub returns-in-Get-clause-decides : goal.returns-in-Get-clause-decides
returns-in-Get-clause-decides c =
    with_method _ _ _ (λ m. SilencesRefuse m c.args.request.now c.args.limits c.args.cache.now c.list_silences.new.cache) (λ m. patterns_of_silences m c.args.request.now) (λ m. [])
    (λ m. silences_decided c.args.request.now m c.args.held.now c.args.limits c.args.moment c.args.maker c.args.words)
    c.args.request.now.method Get c.in-Get.is (rw c.as_str.ensures at c.list_silences.ensures.decides)

pub returns-in-Post-clause-decides : goal.returns-in-Post-clause-decides
returns-in-Post-clause-decides c =
    with_method _ _ _ (λ m. SilencesRefuse m c.args.request.now c.args.limits c.args.cache.now c.post_silence.new.cache) (λ m. patterns_of_silences m c.args.request.now) (λ m. [])
    (λ m. silences_decided c.args.request.now m c.args.held.now c.args.limits c.args.moment c.args.maker c.args.words)
    c.args.request.now.method Post c.in-Post.is (rw c.as_slice-body.ensures at c.post_silence.ensures.decides)

pub returns-in-Get-clause-adds : goal.returns-in-Get-clause-adds
returns-in-Get-clause-adds c =
    subst (λ m. AddsAmong (patterns_of_silences m c.args.request.now) c.args.cache.now.refused c.list_silences.new.cache.refused) (sym c.in-Get.is) (rw c.as_str.ensures at c.list_silences.ensures.adds)

pub returns-in-Post-clause-adds : goal.returns-in-Post-clause-adds
returns-in-Post-clause-adds c =
    subst (λ m. AddsAmong (patterns_of_silences m c.args.request.now) c.args.cache.now.refused c.post_silence.new.cache.refused) (sym c.in-Post.is) (rw c.as_slice-body.ensures at c.post_silence.ensures.adds)

pub returns-in-Delete-clause-adds : goal.returns-in-Delete-clause-adds
returns-in-Delete-clause-adds c =
    unasked_adds _ _

pub returns-in-Get-clause-built : goal.returns-in-Get-clause-built
returns-in-Get-clause-built c =
    accepts_at (λ m. patterns_of_silences m c.args.request.now) _ Get _ c.in-Get.is (rw c.as_str.ensures at c.list_silences.ensures.built)

pub returns-in-Post-clause-built : goal.returns-in-Post-clause-built
returns-in-Post-clause-built c =
    accepts_at (λ m. patterns_of_silences m c.args.request.now) _ Post _ c.in-Post.is
    (rw c.as_slice-body.ensures at c.post_silence.ensures.built)
