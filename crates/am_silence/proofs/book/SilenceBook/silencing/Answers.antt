use Rattle.std.proofs.Common.{◌∙◌, ◌+◌, ◌≤◌, ap, length, List, map, subst}
use Rattle.std.proofs.lemmas.Result.{IfOk-weaker, IfErr-weaker}
use Rattle.am_item.specs.Kinds.{silences_of}
use Rattle.am_match.specs.Asking.{IsFailureAmong}
use Rattle.am_match.specs.Matchers.{patterns_of}
use Rattle.am_table.proofs.NarrowLemmas.{memory_alone}
use Rattle.am_silence.specs.Held.{SilenceValue, active_among, held_silence, matchers_in, taking}
use Rattle.am_silence.proofs.HeldLemmas.{active_held, each_silencing}
use Rattle.am_silence.proofs.book.SilenceBook.silencing.Goals as goal

pub returns-clause-silencing : goal.returns-clause-silencing
returns-clause-silencing c =
    let active = c.in_ok-active.ensures ∙ active_held c.args.moment c.silences.result.now c.args.self.now (c.silences.ensures.items ∙ ap silences_of c.self.view_is) in
    IfOk-weaker c.silencing.result _ _
    (λ v is. is ∙ ap (λ (all : List SilenceValue). map (λ labels. taking all labels) (map (λ set'. set'.now) c.args.sets.now)) (ap (map held_silence) c.deref.ensures.value ∙ active)
    ∙ each_silencing c.args.moment c.args.self.now c.args.sets.now)
    c.silencing.ensures.taking

pub returns-clause-misses : goal.returns-clause-misses
returns-clause-misses c =
    let active = c.in_ok-active.ensures ∙ active_held c.args.moment c.silences.result.now c.args.self.now (c.silences.ensures.items ∙ ap silences_of c.self.view_is) in
    subst (λ (all : List SilenceValue). c.silencing.new.cache.misses ≤ c.args.cache.now.misses + length (patterns_of (matchers_in all)))
    (ap (map held_silence) c.deref.ensures.value ∙ active) c.silencing.ensures.misses

pub returns-clause-failure : goal.returns-clause-failure
returns-clause-failure c =
    let active = c.in_ok-active.ensures ∙ active_held c.args.moment c.silences.result.now c.args.self.now (c.silences.ensures.items ∙ ap silences_of c.self.view_is) in
    IfErr-weaker c.silencing.result _ _
    (λ failure among. subst (λ (all : List SilenceValue). IsFailureAmong (matchers_in all) c.args.cache.now c.silencing.new.cache failure) (ap (map held_silence) c.deref.ensures.value ∙ active) among)
    c.silencing.ensures.failure

pub returns-clause-meaning : goal.returns-clause-meaning
returns-clause-meaning c = λ patterns rightly.
    let active = c.in_ok-active.ensures ∙ active_held c.args.moment c.silences.result.now c.args.self.now (c.silences.ensures.items ∙ ap silences_of c.self.view_is) in
    IfErr-weaker c.silencing.result _ _
    (λ failure among. memory_alone (matchers_in (active_among c.args.moment c.args.self.now)) c.args.cache.now c.silencing.new.cache failure
    (subst (λ (all : List SilenceValue). IsFailureAmong (matchers_in all) c.args.cache.now c.silencing.new.cache failure) (ap (map held_silence) c.deref.ensures.value ∙ active) among)
    patterns rightly)
    c.silencing.ensures.failure
