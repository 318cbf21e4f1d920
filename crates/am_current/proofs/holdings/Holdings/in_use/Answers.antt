use Rattle.std.proofs.Common.{IfNone, IfSome, ap, refl, rules, subst, ◌≡◌, ◌∙◌}
use Rattle.am_config.specs.Default.{default_configuration}
use Rattle.am_book.specs.Book.{items_of}
use Rattle.am_current.specs.Current.{configuration_in, read_for}
use Rattle.am_current.proofs.InUse.{in_use_found, in_use_read}
use Rattle.am_current.proofs.holdings.Holdings.in_use.Goals as goal

pub invariant_of-self : goal.invariant_of-self
invariant_of-self c = (
  in_use_read c.self.inside.parts.readings.read c.keep.new.self.read c.self.inside.parts.book c.args.tenant.now c.held.result.now
      c.self.invariant.0 c.held.ensures.items c.keep.ensures.right c.keep.ensures.others,
  c.keep.ensures.otherwise ∙ c.self.invariant.1,
)

pub returns-in_err-keep : goal.returns-in_err-keep
returns-in_err-keep c = ((refl, λ _. tt, c.self.view_is), record { stays = tt; held = search rules; rising = search rules; configuration = search rules })

pub invariant_of-self-2 : goal.invariant_of-self-2
invariant_of-self-2 c = (
  in_use_read c.self.inside.parts.readings.read c.keep.new.self.read c.self.inside.parts.book c.args.tenant.now c.held.result.now
      c.self.invariant.0 c.held.ensures.items c.keep.ensures.right c.keep.ensures.others,
  c.keep.ensures.otherwise ∙ c.self.invariant.1,
)

pub returns : goal.returns
returns c =
    let tenant = c.args.tenant.now in
    let found = read_for tenant c.keep.new.self.read in
    let held : items_of tenant c.self.inside.parts.book ≡ items_of tenant c.args.self.now = ap (items_of tenant) c.self.view_is in
    let own = subst (λ items. IfSome found (λ used. used ≡ configuration_in items)) (c.held.ensures.items ∙ held) c.keep.ensures.right in
    let unread = subst (λ items. IfNone found (configuration_in items ≡ default_configuration)) (c.held.ensures.items ∙ held) c.in_ok-keep.ensures.unread in
    let otherwise = c.keep.ensures.otherwise ∙ c.self.invariant.1 in
    let used = c.of.ensures.configuration ∙ in_use_found found c.keep.new.self.otherwise (items_of tenant c.args.self.now) own unread otherwise in
    ((refl, λ _. tt, c.self.view_is), record { stays = tt; held = c.of.ensures.held ∙ held; rising = c.of.ensures.rising; configuration = used })
