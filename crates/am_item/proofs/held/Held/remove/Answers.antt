use Rattle.std.proofs.Common.{ap, refl, sym, ◌∙◌}
use Rattle.std.specs.List.{filter}
use Rattle.std.proofs.lemmas.Result.{on_err_weaker, on_ok_weaker}
use Rattle.am_item.proofs.Whole.{same_whole}
use Rattle.am_item.specs.Held.{items_in}
use Rattle.am_item.specs.declared.held.Held.TheInside.{Inside}
use Rattle.am_item.proofs.Removed.{lacks_key, removed_alert, removed_configuration, removed_entry, removed_silence}
use Rattle.am_item.proofs.held.Held.remove.Goals as goal

pub returns-in-Configuration-clause-removed : goal.returns-in-Configuration-clause-removed
returns-in-Configuration-clause-removed c =
    let h = c.self.inside in
    let n : Inside = record { configuration = c.remove_configuration.new.held; silences = h.silences; alerts = h.alerts; sent = h.sent } in
    removed_configuration h n c.remove_configuration.ensures refl refl refl
    ∙ ap (λ k. filter (lacks_key k) (items_in h)) (sym c.in-Configuration.is)
    ∙ ap (filter (lacks_key c.args.key.now)) c.self.view_is

pub returns-in-Silence-clause-removed : goal.returns-in-Silence-clause-removed
returns-in-Silence-clause-removed c =
    let h = c.self.inside in
    let n : Inside = record { configuration = h.configuration; silences = c.remove.new.self; alerts = h.alerts; sent = h.sent } in
    on_ok_weaker c.remove.result
    (λ gone.
    removed_silence h n c.in-Silence.id c.self.invariant refl gone refl refl
    ∙ ap (λ k. filter (lacks_key k) (items_in h)) (sym c.in-Silence.is)
    ∙ ap (filter (lacks_key c.args.key.now)) c.self.view_is)
    c.remove.ensures.entries

pub returns-in-Silence-clause-err : goal.returns-in-Silence-clause-err
returns-in-Silence-clause-err c =
    let h = c.self.inside in
    let n : Inside = record { configuration = h.configuration; silences = c.remove.new.self; alerts = h.alerts; sent = h.sent } in
    on_err_weaker c.remove.result (λ stay. same_whole h n refl stay refl refl ∙ c.self.view_is) c.remove.ensures.err

pub returns-in-Alert-clause-removed : goal.returns-in-Alert-clause-removed
returns-in-Alert-clause-removed c =
    let h = c.self.inside in
    let n : Inside = record { configuration = h.configuration; silences = h.silences; alerts = c.remove-in-Alert.new.self; sent = h.sent } in
    on_ok_weaker c.remove-in-Alert.result
    (λ gone.
    removed_alert h n c.in-Alert.labels c.self.invariant refl refl gone refl
    ∙ ap (λ k. filter (lacks_key k) (items_in h)) (sym c.in-Alert.is)
    ∙ ap (filter (lacks_key c.args.key.now)) c.self.view_is)
    c.remove-in-Alert.ensures.entries

pub returns-in-Alert-clause-err : goal.returns-in-Alert-clause-err
returns-in-Alert-clause-err c =
    let h = c.self.inside in
    let n : Inside = record { configuration = h.configuration; silences = h.silences; alerts = c.remove-in-Alert.new.self; sent = h.sent } in
    on_err_weaker c.remove-in-Alert.result (λ stay. same_whole h n refl refl stay refl ∙ c.self.view_is) c.remove-in-Alert.ensures.err

pub returns-in-SentEntry-clause-removed : goal.returns-in-SentEntry-clause-removed
returns-in-SentEntry-clause-removed c =
    let h = c.self.inside in
    let n : Inside = record { configuration = h.configuration; silences = h.silences; alerts = h.alerts; sent = c.remove-in-SentEntry.new.self } in
    on_ok_weaker c.remove-in-SentEntry.result
    (λ gone.
    removed_entry h n c.in-SentEntry.key c.self.invariant refl refl refl gone
    ∙ ap (λ k. filter (lacks_key k) (items_in h)) (sym c.in-SentEntry.is)
    ∙ ap (filter (lacks_key c.args.key.now)) c.self.view_is)
    c.remove-in-SentEntry.ensures.entries

pub returns-in-SentEntry-clause-err : goal.returns-in-SentEntry-clause-err
returns-in-SentEntry-clause-err c =
    let h = c.self.inside in
    let n : Inside = record { configuration = h.configuration; silences = h.silences; alerts = h.alerts; sent = c.remove-in-SentEntry.new.self } in
    on_err_weaker c.remove-in-SentEntry.result (λ stay. same_whole h n refl refl refl stay ∙ c.self.view_is) c.remove-in-SentEntry.ensures.err
