use Rattle.std.proofs.Common.{◌≡◌, IfOk, List, None, Option, Some, ap, refl, subst, sym, ◌∙◌}
use Rattle.am_item.specs.Shared.{item_of}
use Rattle.am_item.specs.Sorted.{get}
use Rattle.std.specs.Option.{option_map}
use Rattle.std.proofs.lemmas.Result.{on_err_weaker, on_ok_weaker}
use Rattle.am_labels.specs.Labels.{labels_cmp}
use Rattle.am_item.specs.Best.{item_at, joined}
use Rattle.am_item.specs.EntryKey.{entry_cmp}
use Rattle.am_item.specs.Held.{AreOrdered, alert_item, configuration_item, entry_item, items_in, silence_item}
use Rattle.am_item.specs.Key.{AlertKey, ConfigurationKey, Key, SentEntryKey, SilenceKey, key_of}
use Rattle.am_item.specs.Retirement.{put_over, retires_at, standing_of}
use Rattle.am_item.specs.declared.held.Held.TheInside.{Inside}
use Rattle.am_item.specs.declared.held.Standing.{Standing}
use Rattle.am_item.specs.declared.item.Item.{Item}
use Rattle.am_item.proofs.Whole.{at_held, at_whole, came_alert, came_configuration, came_entry, came_silence, ids_cmp, joined_whole, same_whole}
use Rattle.am_item.proofs.held.Held.put.Goals as goal

-- the item of its key among those held is that of its kind
found : (item : Item) (key : Key) (self : List Item) (h : Inside) → items_in h ≡ self → key_of item ≡ key → item_at (key_of item) self ≡ at_held key h
found item key self h view is = ap (item_at (key_of item)) (sym view) ∙ ap (λ k. item_at k (items_in h)) is ∙ at_whole key h

-- what stands of what is held of an item is what stands of the item
stood : {V : Type 0} (item : V → Item) (standing : V → Standing) → ((v : V) → standing v ≡ standing_of (item v)) → (o : Option V) → option_map standing o ≡ option_map standing_of (option_map item o)
stood item standing same None = refl
stood item standing same (Some v) = ap Some (same v)

pub returns-in-Configuration-clause-joined : goal.returns-in-Configuration-clause-joined
returns-in-Configuration-clause-joined c =
    let h = c.self.inside in
    let n : Inside = record { configuration = c.put_configuration.new.held; silences = h.silences; alerts = h.alerts; sent = h.sent } in
    let are : AreOrdered n = record { silences = c.self.invariant.silences; alerts = c.self.invariant.alerts; sent = c.self.invariant.sent } in
    let value = c.in-Configuration.kept in
    on_ok_weaker c.put_configuration.result
    (λ held.
    joined_whole h n (configuration_item value) c.self.invariant are (came_configuration h n value held refl refl refl)
    ∙ ap (joined (items_in h)) (ap item_of (sym c.in-Configuration.is) ∙ c.into_kept.ensures)
    ∙ ap (λ xs. joined xs c.args.item) c.self.view_is)
    c.put_configuration.ensures.held

pub returns-in-Silence-clause-joined : goal.returns-in-Silence-clause-joined
returns-in-Silence-clause-joined c =
    let h = c.self.inside in
    let n : Inside = record { configuration = h.configuration; silences = c.put.new.self; alerts = h.alerts; sent = h.sent } in
    let are : AreOrdered n = record { silences = c.put.ensures.ordered; alerts = c.self.invariant.alerts; sent = c.self.invariant.sent } in
    let kept = c.in-Silence.kept in
    on_ok_weaker c.put.result
    (λ gets.
    joined_whole h n (silence_item kept.0 kept.1) c.self.invariant are (came_silence h n kept.0 kept.1 refl gets refl refl)
    ∙ ap (joined (items_in h)) (ap item_of (sym c.in-Silence.is) ∙ c.into_kept.ensures)
    ∙ ap (λ xs. joined xs c.args.item) c.self.view_is)
    c.put.ensures.newest

pub returns-in-Silence-clause-err : goal.returns-in-Silence-clause-err
returns-in-Silence-clause-err c =
    let h = c.self.inside in
    let n : Inside = record { configuration = h.configuration; silences = c.put.new.self; alerts = h.alerts; sent = h.sent } in
    on_err_weaker c.put.result (λ stay. same_whole h n refl stay refl refl ∙ c.self.view_is) c.put.ensures.err

pub returns-in-Alert-clause-joined : goal.returns-in-Alert-clause-joined
returns-in-Alert-clause-joined c =
    let h = c.self.inside in
    let n : Inside = record { configuration = h.configuration; silences = h.silences; alerts = c.put-in-Alert.new.self; sent = h.sent } in
    let are : AreOrdered n = record { silences = c.self.invariant.silences; alerts = c.put-in-Alert.ensures.ordered; sent = c.self.invariant.sent } in
    let kept = c.in-Alert.kept in
    on_ok_weaker c.put-in-Alert.result
    (λ gets.
    joined_whole h n (alert_item kept.0 kept.1) c.self.invariant are (came_alert h n kept.0 kept.1 refl refl gets refl)
    ∙ ap (joined (items_in h)) (ap item_of (sym c.in-Alert.is) ∙ c.into_kept.ensures)
    ∙ ap (λ xs. joined xs c.args.item) c.self.view_is)
    c.put-in-Alert.ensures.newest

pub returns-in-Alert-clause-err : goal.returns-in-Alert-clause-err
returns-in-Alert-clause-err c =
    let h = c.self.inside in
    let n : Inside = record { configuration = h.configuration; silences = h.silences; alerts = c.put-in-Alert.new.self; sent = h.sent } in
    on_err_weaker c.put-in-Alert.result (λ stay. same_whole h n refl refl stay refl ∙ c.self.view_is) c.put-in-Alert.ensures.err

pub returns-in-SentEntry-clause-joined : goal.returns-in-SentEntry-clause-joined
returns-in-SentEntry-clause-joined c =
    let h = c.self.inside in
    let n : Inside = record { configuration = h.configuration; silences = h.silences; alerts = h.alerts; sent = c.put-in-SentEntry.new.self } in
    let are : AreOrdered n = record { silences = c.self.invariant.silences; alerts = c.self.invariant.alerts; sent = c.put-in-SentEntry.ensures.ordered } in
    let kept = c.in-SentEntry.kept in
    on_ok_weaker c.put-in-SentEntry.result
    (λ gets.
    joined_whole h n (entry_item kept.0 kept.1) c.self.invariant are (came_entry h n kept.0 kept.1 refl refl refl gets)
    ∙ ap (joined (items_in h)) (ap item_of (sym c.in-SentEntry.is) ∙ c.into_kept.ensures)
    ∙ ap (λ xs. joined xs c.args.item) c.self.view_is)
    c.put-in-SentEntry.ensures.newest

pub returns-in-SentEntry-clause-err : goal.returns-in-SentEntry-clause-err
returns-in-SentEntry-clause-err c =
    let h = c.self.inside in
    let n : Inside = record { configuration = h.configuration; silences = h.silences; alerts = h.alerts; sent = c.put-in-SentEntry.new.self } in
    on_err_weaker c.put-in-SentEntry.result (λ stay. same_whole h n refl refl refl stay ∙ c.self.view_is) c.put-in-SentEntry.ensures.err

pub returns-in-Configuration-clause-put : goal.returns-in-Configuration-clause-put
returns-in-Configuration-clause-put c =
    let is : c.args.item ≡ configuration_item c.in-Configuration.kept = sym c.into_kept.ensures ∙ ap item_of c.in-Configuration.is in
    subst (λ item. IfOk c.put_configuration.result (λ did. did ≡ put_over (option_map standing_of (item_at (key_of item) c.args.self.now)) item.stamp)) (sym is)
    (subst (λ o. IfOk c.put_configuration.result (λ did. did ≡ put_over o c.in-Configuration.kept.stamp))
    (stood configuration_item (λ v. standing_of (configuration_item v)) (λ v. refl) c.self.inside.configuration
    ∙ ap (option_map standing_of) (sym (found (configuration_item c.in-Configuration.kept) ConfigurationKey c.args.self.now c.self.inside c.self.view_is refl)))
    c.put_configuration.ensures.put)

pub returns-in-Silence-clause-put : goal.returns-in-Silence-clause-put
unfolding retires_at
returns-in-Silence-clause-put c =
    let kept = c.in-Silence.kept in
    let is : c.args.item ≡ silence_item kept.0 kept.1 = sym c.into_kept.ensures ∙ ap item_of c.in-Silence.is in
    subst (λ item. IfOk c.put.result (λ did. did ≡ put_over (option_map standing_of (item_at (key_of item) c.args.self.now)) item.stamp)) (sym is)
    (subst (λ o. IfOk c.put.result (λ did. did ≡ put_over o kept.1.stamp))
    (stood (silence_item kept.0) _ (λ v. refl) (get ids_cmp c.self.inside.silences kept.0)
    ∙ ap (option_map standing_of) (sym (found (silence_item kept.0 kept.1) (SilenceKey kept.0) c.args.self.now c.self.inside c.self.view_is refl)))
    c.put.ensures.put)

pub returns-in-Alert-clause-put : goal.returns-in-Alert-clause-put
unfolding retires_at
returns-in-Alert-clause-put c =
    let kept = c.in-Alert.kept in
    let is : c.args.item ≡ alert_item kept.0 kept.1 = sym c.into_kept.ensures ∙ ap item_of c.in-Alert.is in
    subst (λ item. IfOk c.put-in-Alert.result (λ did. did ≡ put_over (option_map standing_of (item_at (key_of item) c.args.self.now)) item.stamp)) (sym is)
    (subst (λ o. IfOk c.put-in-Alert.result (λ did. did ≡ put_over o kept.1.stamp))
    (stood (alert_item kept.0) _ (λ v. refl) (get labels_cmp c.self.inside.alerts kept.0)
    ∙ ap (option_map standing_of) (sym (found (alert_item kept.0 kept.1) (AlertKey kept.0) c.args.self.now c.self.inside c.self.view_is refl)))
    c.put-in-Alert.ensures.put)

pub returns-in-SentEntry-clause-put : goal.returns-in-SentEntry-clause-put
unfolding retires_at
returns-in-SentEntry-clause-put c =
    let kept = c.in-SentEntry.kept in
    let is : c.args.item ≡ entry_item kept.0 kept.1 = sym c.into_kept.ensures ∙ ap item_of c.in-SentEntry.is in
    subst (λ item. IfOk c.put-in-SentEntry.result (λ did. did ≡ put_over (option_map standing_of (item_at (key_of item) c.args.self.now)) item.stamp)) (sym is)
    (subst (λ o. IfOk c.put-in-SentEntry.result (λ did. did ≡ put_over o kept.1.stamp))
    (stood (entry_item kept.0) _ (λ v. refl) (get entry_cmp c.self.inside.sent kept.0)
    ∙ ap (option_map standing_of) (sym (found (entry_item kept.0 kept.1) (SentEntryKey kept.0) c.args.self.now c.self.inside c.self.view_is refl)))
    c.put-in-SentEntry.ensures.put)
